-- The turns at a lock by themselves, as the code says them: an acquire's from the owner word on, a release's logged store, its last turn, and what is counted
-- where its lock is not the worker's.
use Rattle.std.specs.Prelude.{ℕ, ◌+◌, ◌-◌, cond, eqb}
use Rattle.mask.specs.Mask.{with, without}
use Rattle.image.specs.declared.Field.TheVariants.{Intent, Owned}
use Rattle.image.specs.Place.{lock, field}
use Rattle.image.specs.Image.{Image, index_of, at, put}
use Rattle.tally.specs.declared.Passes.{Passes}
use Rattle.tally.specs.Inner.Passes.{with_passed_free, with_passed_others}
use Rattle.stretch.specs.Inner.Logged.{with_target}

-- worker d at step s takes lock a: the owner word, then the owned mask in a logged store; n: own words in a record
module _ (n d s a : ℕ) (m : Image) (left : ℕ) where
  abbrev pub with_owner : Image
  with_owner = put left m (index_of n (lock a)) (d + 1)

  abbrev pub took_image : Image
  took_image = with_target n d s (index_of n (field Owned d)) (with (at n with_owner (field Owned d)) a) with_owner (left - 1)

  -- it gives it back: the owned mask without it, in a logged store
  abbrev pub disowned_image : Image
  disowned_image = with_target n d s (index_of n (field Owned d)) (without (at n m (field Owned d)) a) m left

-- the intent without it
abbrev pub unwanted_image : ℕ → ℕ → ℕ → Image → ℕ → Image
unwanted_image n d a m left = put left m (index_of n (field Intent d)) (without (at n m (field Intent d)) a)

-- one more release that passed, by the owner word found
abbrev pub found_passes : ℕ → Passes → Passes
found_passes word p = cond (eqb word 0) (with_passed_free p) (with_passed_others p)
