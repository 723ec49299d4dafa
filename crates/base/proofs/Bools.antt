-- Conjunctions and disjunctions of tests taken apart and put together, and what a range of numbers contains.
use Prim.Native.Nat.{ℕ}
use mathlib.Core.Path.{◌≡◌, refl}
use mathlib.Core.Bool.{Bool, true, false, ◌&&◌, ◌||◌, false≢true}
use mathlib.Core.Logic.{◌⊎◌, inl, inr}
use lib.Dec.{leb}
use native.Mathlib.Omega.{arith}
use Rattle.std.specs.Ordering.{is_le, nat_cmp}
use Rattle.std.proofs.lemmas.Bool.Decides.{nat_tests}

pub and_left : (a b : Bool) → (a && b) ≡ true → a ≡ true
and_left true b h = refl
and_left false b h = h

pub and_right : (a b : Bool) → (a && b) ≡ true → b ≡ true
and_right true b h = h
and_right false b h = absurd (false≢true h)

pub and_both : (a b : Bool) → a ≡ true → b ≡ true → (a && b) ≡ true
and_both true b g h = h
and_both false b g h = g

pub or-either : (a b : Bool) → (a || b) ≡ true → (a ≡ true) ⊎ (b ≡ true)
or-either true b h = inl refl
or-either false b h = inr h

-- a disjunction that fails, fails on both sides
pub or_left : (a b : Bool) → (a || b) ≡ false → a ≡ false
or_left true b h = h
or_left false b h = refl

pub or_right : (a b : Bool) → (a || b) ≡ false → b ≡ false
or_right true b h = absurd (false≢true (h-sym h))
  where
    h-sym : true ≡ false → false ≡ true
    h-sym e = cc
or_right false b h = h

-- ---- what `contains` answers at a closed range

private-upto : (a b : ℕ) → is_le (nat_cmp a b) ≡ leb a b
private-upto a b = grind (arith, nat_tests)

pub within : (a b x : ℕ) → (is_le (nat_cmp a x) && is_le (nat_cmp x b)) ≡ (leb a x && leb x b)
within a b x = rw (private-upto a x, private-upto x b)
