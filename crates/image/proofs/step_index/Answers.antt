-- `image::step_index` meets its contract: the definition's own sum, which fits since records are few and short.
use native.Mathlib.Omega.{arith}
use Rattle.image.specs.Image.{index_of}
use Rattle.image.proofs.Apart.{record-small}
use Rattle.image.proofs.step_index.Goals as goal

pub overflow_add-result-3 : goal.overflow_add-result-3
overflow_add-result-3 c = let A = c.args in omega (arith, record-small A.own A.d (omega arith) (omega arith))

pub returns : goal.returns
unfolding index_of
returns c = rw c.record_at.ensures
