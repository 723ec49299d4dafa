-- Places alone: `same` is equality of places, and what a memory holds after one store. A single word is known by its
-- offset, so the ten of them are told apart as numbers are.
use Prim.Native.Nat.{ℕ, suc, zero, ◌<◌}
use mathlib.Core.Path.{◌≡◌, refl, ap, ap₂, ◌∙◌, sym}
use mathlib.Core.Bool.{true, false, false≢true, and-eq-true_iff}
use lib.Dec.{eqb}
use borrow.Author.Tests.{eqb-true, eq-eqb}
use native.Mathlib.Omega.{arith}
use Rattle.image.specs.declared.Field.{Field}
use Rattle.image.specs.declared.Field.TheVariants.{Count, Pc, Addr0, Val0, Addr1, Val1, Intent, Owned, Number, Finished}
use Rattle.image.specs.Place.{offset, Place, cell, lock, field, own, step, Memory}
use Rattle.image.specs.Inner.Same.{same_field, same, upd}

-- ---- single words by their offset

pub offset-lt : (f : Field) → offset f < 10
offset-lt Count = omega arith
offset-lt Pc = omega arith
offset-lt Addr0 = omega arith
offset-lt Val0 = omega arith
offset-lt Addr1 = omega arith
offset-lt Val1 = omega arith
offset-lt Intent = omega arith
offset-lt Owned = omega arith
offset-lt Number = omega arith
offset-lt Finished = omega arith

-- the single word with an offset
pub field_at : ℕ → Field
field_at zero = Count
field_at (suc zero) = Pc
field_at (suc (suc zero)) = Addr0
field_at (suc (suc (suc zero))) = Val0
field_at (suc (suc (suc (suc zero)))) = Addr1
field_at (suc (suc (suc (suc (suc zero))))) = Val1
field_at (suc (suc (suc (suc (suc (suc zero)))))) = Intent
field_at (suc (suc (suc (suc (suc (suc (suc zero))))))) = Owned
field_at (suc (suc (suc (suc (suc (suc (suc (suc zero)))))))) = Number
field_at (suc (suc (suc (suc (suc (suc (suc (suc (suc k))))))))) = Finished

pub field-offset : (f : Field) → field_at (offset f) ≡ f
unfolding field_at
field-offset Count = refl
field-offset Pc = refl
field-offset Addr0 = refl
field-offset Val0 = refl
field-offset Addr1 = refl
field-offset Val1 = refl
field-offset Intent = refl
field-offset Owned = refl
field-offset Number = refl
field-offset Finished = refl

same-field : (g f : Field) → same_field g f ≡ true → g ≡ f
same-field g f h = sym (field-offset g) ∙ (ap field_at (eqb-true _ _ h) ∙ field-offset f)

-- ---- equality of places

refl-eqb : (x : ℕ) → eqb x x ≡ true
refl-eqb x = eq-eqb x x refl

pub same_refl : (p : Place) → same p p ≡ true
same_refl (cell x) = refl-eqb x
same_refl (lock b) = refl-eqb b
same_refl (field f d) = simp refl-eqb
same_refl (own d i) = simp refl-eqb
same_refl (step d i) = simp refl-eqb

pub same_place : (q p : Place) → same q p ≡ true → q ≡ p
same_place (cell y) (cell x) h = ap cell (eqb-true y x h)
same_place (cell y) (lock b) h = absurd (false≢true h)
same_place (cell y) (field f d) h = absurd (false≢true h)
same_place (cell y) (own d i) h = absurd (false≢true h)
same_place (cell y) (step d i) h = absurd (false≢true h)
same_place (lock c) (cell x) h = absurd (false≢true h)
same_place (lock c) (lock b) h = ap lock (eqb-true c b h)
same_place (lock c) (field f d) h = absurd (false≢true h)
same_place (lock c) (own d i) h = absurd (false≢true h)
same_place (lock c) (step d i) h = absurd (false≢true h)
same_place (field g k) (cell x) h = absurd (false≢true h)
same_place (field g k) (lock b) h = absurd (false≢true h)
same_place (field g k) (field f d) h = let e = (and-eq-true_iff _ _).0 h in ap₂ field (same-field g f e.0) (eqb-true k d e.1)
same_place (field g k) (own d i) h = absurd (false≢true h)
same_place (field g k) (step d i) h = absurd (false≢true h)
same_place (own k j) (cell x) h = absurd (false≢true h)
same_place (own k j) (lock b) h = absurd (false≢true h)
same_place (own k j) (field f d) h = absurd (false≢true h)
same_place (own k j) (own d i) h = let e = (and-eq-true_iff _ _).0 h in ap₂ own (eqb-true k d e.0) (eqb-true j i e.1)
same_place (own k j) (step d i) h = absurd (false≢true h)
same_place (step k j) (cell x) h = absurd (false≢true h)
same_place (step k j) (lock b) h = absurd (false≢true h)
same_place (step k j) (field f d) h = absurd (false≢true h)
same_place (step k j) (own d i) h = absurd (false≢true h)
same_place (step k j) (step d i) h = let e = (and-eq-true_iff _ _).0 h in ap₂ step (eqb-true k d e.0) (eqb-true j i e.1)

-- ---- a memory after one store

pub upd_same : (rd : Memory) (p : Place) (v : ℕ) → upd rd p v p ≡ v
upd_same rd p v = rw (same_refl p)

pub upd_other : (rd : Memory) (p : Place) (v : ℕ) (q : Place) → same q p ≡ false → upd rd p v q ≡ rd q
upd_other rd p v q h = rw h
