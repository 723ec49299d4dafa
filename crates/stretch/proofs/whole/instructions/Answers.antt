-- `stretch::whole::instructions` meets its contract: none where t is amid an instruction, the count is no section's, or step s is not in it.
use mathlib.Core.Path.{sym}
use Rattle.stretch.specs.Inner.Single.{none}
use Rattle.stretch.proofs.Counting.{turns-counted, no-turns}
use Rattle.stretch.proofs.whole.instructions.Goals as goal

pub returns-then-t-ne0-clause-turns : goal.returns-then-t-ne0-clause-turns
returns-then-t-ne0-clause-turns c = λ y. rw c.no_passes.ensures (turns-counted (sym (no-turns y)) (none _))
