-- A logged store's four stores, in order. (Document 01, the logged store of 'Turns'.)
use Rattle.std.specs.Prelude.{ℕ, ◌-◌}
use Rattle.image.specs.declared.Field.TheVariants.{Pc}
use Rattle.image.specs.Place.{field}
use Rattle.image.specs.Image.{Image, index_of, at, put}
use Rattle.worklog.specs.Log.{spare_addr, spare_val, switched}

-- the image after the stores of v at index i for worker d at step s, with so many stores left before them: address, value, pc, target. What they store is
-- read before the first of them. n: own words in a record
module _ (n d s i v : ℕ) (m : Image) (left : ℕ) where
  abbrev pub with_address : Image
  with_address = put left m (index_of n (field (spare_addr n (at n m) d) d)) i

  abbrev pub with_value : Image
  with_value = put (left - 1) with_address (index_of n (field (spare_val n (at n m) d) d)) v

  abbrev pub with_pc : Image
  with_pc = put (left - 1 - 1) with_value (index_of n (field Pc d)) (switched n (at n m) d s)

  abbrev pub with_target : Image
  with_target = put (left - 1 - 1 - 1) with_pc i v
