-- What is in a union and in an intersection of two sets, and in the union of any number.
use Prim.Native.Nat.{ℕ, zero, suc, ◌/◌, ◌%◌, ◌^◌, ◌<◌, min, max}
use borrow.Author.Tests.{eqb-true, eqb-false, eq-eqb, ne_eqb}
use mathlib.Core.Path.{◌≡◌, refl, ap₂, ◌∙◌}
use mathlib.Core.Bool.{Bool, true, false, ◌&&◌, ◌||◌}
use native.Mathlib.Omega.{arith}
use native.Mathlib.Decide.{ℕ_discrete}
use lib.Dec.{eqb}
use lib.Bits.{bit_and, bit_or, and_step, or_step, and_shr, or_shr, or_lt}
use Rattle.mask.specs.Mask.{has, union}
use Rattle.mask.proofs.Laws.{has-none}

private-and : (x y : ℕ) (s t : Bool) → eqb (x % 2) 1 ≡ s → eqb (y % 2) 1 ≡ t → eqb (min (x % 2) (y % 2)) 1 ≡ (s && t)
private-and x y true true p q =
    let a : x % 2 ≡ 1 = eqb-true _ _ p in
    let b : y % 2 ≡ 1 = eqb-true _ _ q in
    eq-eqb (min (x % 2) (y % 2)) 1 (omega arith)
private-and x y true false p q =
    let a : x % 2 ≡ 1 = eqb-true _ _ p in
    let b : (y % 2 ≡ 1) → ⊥ = eqb-false _ _ q in
    ne_eqb (min (x % 2) (y % 2)) 1 (λ e. omega arith)
private-and x y false t p q =
    let a : (x % 2 ≡ 1) → ⊥ = eqb-false _ _ p in
    ne_eqb (min (x % 2) (y % 2)) 1 (λ e. omega arith)

private-or : (x y : ℕ) (s t : Bool) → eqb (x % 2) 1 ≡ s → eqb (y % 2) 1 ≡ t → eqb (max (x % 2) (y % 2)) 1 ≡ (s || t)
private-or x y true t p q = let a : x % 2 ≡ 1 = eqb-true _ _ p in eq-eqb (max (x % 2) (y % 2)) 1 (omega arith)
private-or x y false true p q = let b : y % 2 ≡ 1 = eqb-true _ _ q in eq-eqb (max (x % 2) (y % 2)) 1 (omega arith)
private-or x y false false p q =
    let a : (x % 2 ≡ 1) → ⊥ = eqb-false _ _ p in
    let b : (y % 2 ≡ 1) → ⊥ = eqb-false _ _ q in
    ne_eqb (max (x % 2) (y % 2)) 1 (λ e. omega arith)

or-true : (t : Bool) → (t || true) ≡ true
or-true true = refl
or-true false = refl

low_and : (x y : ℕ) → bit_and x y % 2 ≡ min (x % 2) (y % 2)
low_and x y = rw (and_step x y) (omega arith)

low_or : (x y : ℕ) → bit_or x y % 2 ≡ max (x % 2) (y % 2)
low_or x y = rw (or_step x y) (omega arith)

pub has-and : (s t b : ℕ) → has (bit_and s t) b ≡ (has s b && has t b)
unfolding has
has-and s t b = rw (and_shr s t b, low_and (s / 2 ^ b) (t / 2 ^ b)) (private-and (s / 2 ^ b) (t / 2 ^ b) _ _ refl refl)

pub has-or : (s t b : ℕ) → has (bit_or s t) b ≡ (has s b || has t b)
unfolding has
has-or s t b = rw (or_shr s t b, low_or (s / 2 ^ b) (t / 2 ^ b)) (private-or (s / 2 ^ b) (t / 2 ^ b) _ _ refl refl)

-- ---- the union of some sets

-- a lock of one of them is in it
pub union-has : (sets : ℕ → ℕ) (k d b : ℕ) → d < k → has (sets d) b ≡ true → has (union sets k) b ≡ true
unfolding union
union-has sets zero d b l h = absurd (omega arith)
union-has sets (suc k) d b l h = has-or (union sets k) (sets k) b ∙ by (λ m. union-has sets k d b m h) (ℕ_discrete d k)
  where
    by : (d < k → has (union sets k) b ≡ true) → Dec (d ≡ k) → (has (union sets k) b || has (sets k) b) ≡ true
    by more (yes e) = rw (← e, h) (or-true (has (union sets d) b))
    by more (no n) = rw (more (omega arith))

-- and a lock of none of them is not
pub union-lacks : (sets : ℕ → ℕ) (k b : ℕ) → ((d : ℕ) → d < k → has (sets d) b ≡ false) → has (union sets k) b ≡ false
unfolding union
union-lacks sets zero b h = has-none b
union-lacks sets (suc k) b h = has-or (union sets k) (sets k) b ∙ (rw (union-lacks sets k b (λ d l. h d (omega arith)), h k (omega arith)))

pub union-same : (sets also : ℕ → ℕ) (k : ℕ) → ((d : ℕ) → d < k → sets d ≡ also d) → union sets k ≡ union also k
unfolding union
union-same sets also zero h = refl
union-same sets also (suc k) h = ap₂ bit_or (union-same sets also k (λ d l. h d (omega arith))) (h k (omega arith))

pub union-small : (sets : ℕ → ℕ) (k : ℕ) → ((d : ℕ) → d < k → sets d < 2 ^ 64) → union sets k < 2 ^ 64
unfolding union
union-small sets zero h = omega arith
union-small sets (suc k) h = or_lt 64 _ _ (union-small sets k (λ d l. h d (omega arith))) (h k (omega arith))
