-- One record by itself: the first of one record that is not sound is that record, where it is not (`unsound-one`); and a record with no section is sound
-- where nothing is named and nothing owned (`empty-named`, `empty-free`).
use Prim.Native.Nat.{ℕ, zero, suc, ◌+◌, ◌-◌}
use mathlib.Core.Path.{◌≡◌, refl}
use mathlib.Core.Logic.{◌≢◌}
use mathlib.Core.Bool.{Bool, true, false, cond, ◌&&◌}
use mathlib.Core.List.{List, [], ◌∷◌}
use native.Mathlib.Omega.{arith}
use Rattle.std.proofs.Common.{Result, Ok, Err, is_ok}
use lib.Dec.{eqb}
use borrow.Author.Tests.{ne_eqb}
use Rattle.mask.proofs.Laws.{has-none}
use Rattle.image.specs.declared.Field.TheVariants.{Count, Pc, Owned}
use Rattle.image.specs.Place.{field, Memory}
use Rattle.owed.specs.Owed.{covers, owed}
use Rattle.soundness.specs.Sound.{section_ok, pc_ok, sound, unsound}
use Rattle.soundness.specs.declared.Refusal.{Refusal}
use Rattle.soundness.specs.Inner.Tests.{by_record, told}

pub unsound-one : (n : ℕ) (rd : Memory) (d : ℕ) (r : Result (List ℕ) Refusal)
    → told r ≡ by_record (unsound n rd (d + 1) d (d + 1 - d)) → is_ok r ≡ sound n rd d
unfolding unsound
unsound-one n rd d r h = let e : d + 1 - d ≡ 1 = omega arith in by (sound n rd d) r (rw e at h)
  where
    by : (b : Bool) (r : Result (List ℕ) Refusal) → told r ≡ by_record (cond b [] (d ∷ [])) → is_ok r ≡ b
    by true (Ok sets) g = refl
    by true (Err f) g = cc
    by false (Ok sets) g = cc
    by false (Err f) g = refl

-- no lock is in every set
covers-none : (big k : ℕ) → covers big 0 k ≡ true
unfolding covers
covers-none big zero = refl
covers-none big (suc k) = rw (has-none k, covers-none big k)

module _ (n : ℕ) (rd : Memory) (d : ℕ) (none : rd (field Count d) ≡ 0) where
  pub empty-named : rd (field Pc d) ≢ 0 → sound n rd d ≡ false
  unfolding sound section_ok
  empty-named h = rw (none, ne_eqb (rd (field Pc d)) 0 h)

  pub empty-free : rd (field Pc d) ≡ 0 → sound n rd d ≡ eqb (rd (field Owned d)) 0
  unfolding sound section_ok pc_ok owed
  empty-free z = rw (none, z, covers-none) (by (eqb (rd (field Owned d)) 0))
    where
      by : (b : Bool) → (b && true) ≡ b
      by true = refl
      by false = refl
