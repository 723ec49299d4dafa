-- `asking::standing_of` meets its contract: where the question is answered, the image has the worker.
use mathlib.Core.Path.{sym, ◌∙◌}
use Rattle.asking.proofs.Asking.{asked-inside}
use Rattle.asking.proofs.standing_of.Goals as goal

pub stands-requires : goal.stands-requires
stands-requires c = let A = c.args in asked-inside A.e.mark A.e.own A.image.now A.d A.e.few (sym c.asked.ensures ∙ c.in_ok-asked.was)
