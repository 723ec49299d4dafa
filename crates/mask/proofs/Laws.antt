-- What is in a set after a lock is put in or taken out. By halving: bit suc b of m is bit b of m / 2, and putting bit
-- suc b into m, or taking it out, leaves m's lowest bit and does the same with bit b to the half.
use Prim.Native.Nat.{ℕ, zero, suc, ◌+◌, ◌-◌, ◌*◌, ◌/◌, ◌%◌, ◌^◌, ◌<◌, ◌≤◌, min}
use mathlib.Core.Path.{◌≡◌, refl, sym, ap, ◌∙◌}
use mathlib.Core.Bool.{Bool, true, false, cond}
use native.Mathlib.Omega.{arith}
use native.Mathlib.Nat.{mul-le-mul_right, pow-succ', div-div-eq-div-mul, div-eq_of_lt}
use lib.Dec.{eqb}
use lib.Pow.{pow_pos, shl_exact, split}
use lib.Bits.{bit_and, bit_or, and_step, and_zero_r, or_add_and}
use borrow.Author.Tests.{eqb-true, eqb-false}
use Rattle.mask.specs.Mask.{has, with, without}

-- ---- one bit as a number

-- what the machine computes for 1 << b
pub one_shl : (b : ℕ) → b < 64 → 1 * 2 ^ b % 18446744073709551616 ≡ 2 ^ b
one_shl b h = let e : 1 * 2 ^ b % 2 ^ 64 ≡ 1 * 2 ^ b = shl_exact {a = 1} 1 b 64 (omega arith) (omega arith) in omega arith

has-true : (m b : ℕ) → has m b ≡ true → m / 2 ^ b % 2 ≡ 1
unfolding has
has-true m b e = eqb-true _ _ e

-- a lock that is in can be taken off
has-le : (m b : ℕ) → has m b ≡ true → 2 ^ b ≤ m
has-le m b e =
    let d : m / 2 ^ b % 2 ≡ 1 = has-true m b e in
    let one : 1 ≤ m / 2 ^ b = omega arith in
    omega (arith, mul-le-mul_right (2 ^ b) one, split m b)

-- the empty set
pub has-none : (b : ℕ) → has 0 b ≡ false
unfolding has
has-none b = rw (div-eq_of_lt (pow_pos b))

-- ---- by halving

pub has-zero : (m : ℕ) → has m 0 ≡ eqb (m % 2) 1
unfolding has
has-zero m = let e : m / 1 ≡ m = omega arith in ap (λ (n : ℕ). eqb (n % 2) 1) e

pub has-suc : (m b : ℕ) → has m (suc b) ≡ has (m / 2) b
unfolding has
has-suc m b = ap (λ (n : ℕ). eqb (n % 2) 1) (ap (λ (n : ℕ). m / n) (pow-succ' 2 b) ∙ sym (div-div-eq-div-mul m 2 (2 ^ b)))

private-with : (t : Bool) (m x : ℕ) → (cond t m (m + 2 * x) / 2 ≡ cond t (m / 2) (m / 2 + x)) × (cond t m (m + 2 * x) % 2 ≡ m % 2)
private-with true m x = (refl, refl)
private-with false m x = (omega arith, omega arith)

private-without : (t : Bool) (m x : ℕ) → (t ≡ true → 2 * x ≤ m) → (cond t (m - 2 * x) m / 2 ≡ cond t (m / 2 - x) (m / 2)) × (cond t (m - 2 * x) m % 2 ≡ m % 2)
private-without true m x h = let l : 2 * x ≤ m = h refl in (omega arith, omega arith)
private-without false m x h = (refl, refl)

pub with-suc : (m b : ℕ) → (with m (suc b) / 2 ≡ with (m / 2) b) × (with m (suc b) % 2 ≡ m % 2)
unfolding with
with-suc m b = rw (pow-succ' 2 b, has-suc m b) (private-with (has (m / 2) b) m (2 ^ b))

pub without-suc : (m b : ℕ) → (without m (suc b) / 2 ≡ without (m / 2) b) × (without m (suc b) % 2 ≡ m % 2)
unfolding without
without-suc m b =
    rw (pow-succ' 2 b, has-suc m b)
    (private-without (has (m / 2) b) m (2 ^ b) (λ e. let l : 2 ^ b ≤ m / 2 = has-le (m / 2) b e in omega arith))

private-with-0 : (m : ℕ) (t : Bool) → eqb (m % 2) 1 ≡ t → (cond t m (m + 1) / 2 ≡ m / 2) × (cond t m (m + 1) % 2 ≡ 1)
private-with-0 m true e = let d : m % 2 ≡ 1 = eqb-true _ _ e in (refl, d)
private-with-0 m false e = let n : (m % 2 ≡ 1) → ⊥ = eqb-false _ _ e in (omega arith, omega arith)

pub with-zero : (m : ℕ) → (with m 0 / 2 ≡ m / 2) × (with m 0 % 2 ≡ 1)
unfolding with
with-zero m = rw (has-zero m) (private-with-0 m (eqb (m % 2) 1) refl)

private-without-0 : (m : ℕ) (t : Bool) → eqb (m % 2) 1 ≡ t → (cond t (m - 1) m / 2 ≡ m / 2) × (cond t (m - 1) m % 2 ≡ 0)
private-without-0 m true e = let d : m % 2 ≡ 1 = eqb-true _ _ e in (omega arith, omega arith)
private-without-0 m false e = let n : (m % 2 ≡ 1) → ⊥ = eqb-false _ _ e in (refl, omega arith)

pub without-zero : (m : ℕ) → (without m 0 / 2 ≡ m / 2) × (without m 0 % 2 ≡ 0)
unfolding without
without-zero m = rw (has-zero m) (private-without-0 m (eqb (m % 2) 1) refl)

-- ---- members after a lock is put in or taken out, at the same lock and at another

pub has-with : (m b : ℕ) → has (with m b) b ≡ true
has-with m zero = has-zero _ ∙ ap (λ (n : ℕ). eqb n 1) (with-zero m).1
has-with m (suc b) = has-suc _ b ∙ ap (λ (n : ℕ). has n b) (with-suc m b).0 ∙ has-with (m / 2) b

pub has-without : (m b : ℕ) → has (without m b) b ≡ false
has-without m zero = has-zero _ ∙ ap (λ (n : ℕ). eqb n 1) (without-zero m).1
has-without m (suc b) = has-suc _ b ∙ ap (λ (n : ℕ). has n b) (without-suc m b).0 ∙ has-without (m / 2) b

pub has-with-other : (m b c : ℕ) → (b ≡ c → ⊥) → has (with m b) c ≡ has m c
has-with-other m zero zero n = absurd (n refl)
has-with-other m zero (suc c) n = has-suc _ c ∙ ap (λ (x : ℕ). has x c) (with-zero m).0 ∙ sym (has-suc m c)
has-with-other m (suc b) zero n = has-zero _ ∙ ap (λ (x : ℕ). eqb x 1) (with-suc m b).1 ∙ sym (has-zero m)
has-with-other m (suc b) (suc c) n =
    has-suc _ c ∙ ap (λ (x : ℕ). has x c) (with-suc m b).0 ∙ has-with-other (m / 2) b c (λ e. n (ap suc e)) ∙ sym (has-suc m c)

pub has-without-other : (m b c : ℕ) → (b ≡ c → ⊥) → has (without m b) c ≡ has m c
has-without-other m zero zero n = absurd (n refl)
has-without-other m zero (suc c) n = has-suc _ c ∙ ap (λ (x : ℕ). has x c) (without-zero m).0 ∙ sym (has-suc m c)
has-without-other m (suc b) zero n = has-zero _ ∙ ap (λ (x : ℕ). eqb x 1) (without-suc m b).1 ∙ sym (has-zero m)
has-without-other m (suc b) (suc c) n =
    has-suc _ c ∙ ap (λ (x : ℕ). has x c) (without-suc m b).0 ∙ has-without-other (m / 2) b c (λ e. n (ap suc e)) ∙ sym (has-suc m c)

-- ---- what the machine computes, m | (1 << b) and m - (m & (1 << b))

private-even : (t : Bool) (x : ℕ) → cond t x 0 * 2 + 0 ≡ cond t (2 * x) 0
private-even true x = omega arith
private-even false x = refl

private-odd : (m : ℕ) (t : Bool) → eqb (m % 2) 1 ≡ t → 0 * 2 + m % 2 ≡ cond t 1 0
private-odd m true e = let n : m % 2 ≡ 1 = eqb-true _ _ e in omega arith
private-odd m false e = let n : (m % 2 ≡ 1) → ⊥ = eqb-false _ _ e in omega arith

-- m & (1 << b) is the bit, or nothing
pub and-bit : (m b : ℕ) → bit_and m (2 ^ b) ≡ cond (has m b) (2 ^ b) 0
and-bit m zero =
    let q : min (m % 2) 1 ≡ m % 2 = omega arith in
    rw (and_step m 1, and_zero_r (m / 2), q, has-zero m) (private-odd m (eqb (m % 2) 1) refl)
and-bit m (suc b) =
    let h : 2 * 2 ^ b / 2 ≡ 2 ^ b = omega arith in
    let z : 2 * 2 ^ b % 2 ≡ 0 = omega arith in
    let q : min (m % 2) 0 ≡ 0 = omega arith in
    rw (pow-succ' 2 b, and_step m (2 * 2 ^ b), h, z, q, and-bit (m / 2) b, has-suc m b) (private-even (has (m / 2) b) (2 ^ b))

private-or : (t : Bool) (m x y : ℕ) → y + cond t x 0 ≡ m + x → y ≡ cond t m (m + x)
private-or true m x y e = omega arith
private-or false m x y e = omega arith

pub or-bit : (m b : ℕ) → bit_or m (2 ^ b) ≡ with m b
unfolding with
or-bit m b = private-or (has m b) m (2 ^ b) (bit_or m (2 ^ b)) (rw (and-bit m b) at (or_add_and m (2 ^ b)))

private-off : (t : Bool) (m x : ℕ) → m - cond t x 0 ≡ cond t (m - x) m
private-off true m x = refl
private-off false m x = omega arith

pub off-bit : (m b : ℕ) → m - bit_and m (2 ^ b) ≡ without m b
unfolding without
off-bit m b = rw (and-bit m b) (private-off (has m b) m (2 ^ b))
