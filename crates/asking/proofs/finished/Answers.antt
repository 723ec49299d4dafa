-- `asking::finished` meets its contract: where the question is answered, the image has the worker.
use mathlib.Core.Path.{sym, ◌∙◌}
use Rattle.asking.proofs.Asking.{asked-inside}
use Rattle.asking.proofs.finished.Goals as goal

pub read_field-requires : goal.read_field-requires
read_field-requires c = let A = c.args in asked-inside A.e.mark A.e.own A.image.now A.d A.e.few (sym c.asked.ensures ∙ c.in-Ok.is)
