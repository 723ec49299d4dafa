-- `image::field_index` meets its contract: the sum of what its two calls answer, which fits since records are few and
-- short.
use mathlib.Core.Path.{ap₂}
use Prim.Native.Nat.{◌+◌}
use native.Mathlib.Omega.{arith}
use Rattle.image.specs.Image.{index_of}
use Rattle.image.proofs.Places.{offset-lt}
use Rattle.image.proofs.Apart.{record-small}
use Rattle.image.proofs.field_index.Goals as goal

pub overflow_add-result : goal.overflow_add-result
overflow_add-result c = let A = c.args in omega (arith, record-small A.own A.d (omega arith) (omega arith), offset-lt A.f)

pub returns : goal.returns
unfolding index_of
returns c = ap₂ ◌+◌ c.record_at.ensures c.offset_of.ensures
