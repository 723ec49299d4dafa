-- `lines::begin` meets its contract: each arm is the definition's case. A submit frame's line is long enough for its arguments.
use mathlib.Core.Path.{sym, ◌∙◌}
use Rattle.frames.proofs.Frames.{submit-long}
use Rattle.lines.proofs.begin.Goals as goal

pub submit-requires : goal.submit-requires
submit-requires c = submit-long _ _ _ (sym c.read.ensures ∙ c.in-Submit.is)
