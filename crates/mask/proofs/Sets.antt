-- Sets as a whole: two words with the same members are equal; a set with no member is 0; a set without a lock that it lacks; a word with a lock
-- or without it is one; a lock above all of a set's members.
use Prim.Native.Nat.{ℕ, zero, suc, ◌*◌, ◌/◌, ◌%◌, ◌^◌, ◌<◌, ◌≤◌}
use mathlib.Core.Path.{◌≡◌, refl, sym, ◌∙◌}
use mathlib.Core.Bool.{Bool, true, false}
use native.Mathlib.Omega.{arith}
use native.Mathlib.Nat.{pow-succ', div-lt_iff_lt-mul, div-eq_of_lt, lt_of_lt_of_le, mod-lt}
use lib.Pow.{pow_mono, pow_pos, pow-lt}
use lib.Bits.{or_lt}
use lib.Dec.{eqb}
use borrow.Author.Tests.{eqb-true, eqb-false}
use Rattle.mask.specs.Mask.{has, with, without}
use Rattle.mask.proofs.Laws.{has-none, has-suc, has-zero, or-bit, off-bit}

private-digit : (m n : ℕ) → eqb (m % 2) 1 ≡ eqb (n % 2) 1 → m % 2 ≡ n % 2
private-digit m n e = by (eqb (n % 2) 1) refl
  where
    by : (t : Bool) → eqb (n % 2) 1 ≡ t → m % 2 ≡ n % 2
    by true h = let a : m % 2 ≡ 1 = eqb-true _ _ (e ∙ h) in let b : n % 2 ≡ 1 = eqb-true _ _ h in omega arith
    by false h =
        let a : (m % 2 ≡ 1) → ⊥ = eqb-false _ _ (e ∙ h) in
        let b : (n % 2 ≡ 1) → ⊥ = eqb-false _ _ h in
        let r : m % 2 < 2 = mod-lt m (omega arith) in
        let s : n % 2 < 2 = mod-lt n (omega arith) in
        omega arith

-- numbers of k bits with the same members are equal
pub same-members : (k m n : ℕ) → m < 2 ^ k → n < 2 ^ k → ((b : ℕ) → b < k → has m b ≡ has n b) → m ≡ n
same-members zero m n hm hn same = omega arith
same-members (suc k) m n hm hn same =
    let am : m < 2 * 2 ^ k = rw (← pow-succ' 2 k) hm in
    let an : n < 2 * 2 ^ k = rw (← pow-succ' 2 k) hn in
    let half : m / 2 ≡ n / 2 = same-members k (m / 2) (n / 2) (omega arith) (omega arith)
    (λ b l. sym (has-suc m b) ∙ (same (suc b) (omega arith) ∙ has-suc n b)) in
    let low : m % 2 ≡ n % 2 = private-digit m n (sym (has-zero m) ∙ (same 0 (omega arith) ∙ has-zero n)) in
    omega arith

-- two words with the same members are equal
pub ext : (m n : ℕ) → m < 2 ^ 64 → n < 2 ^ 64 → ((b : ℕ) → b < 64 → has m b ≡ has n b) → m ≡ n
ext m n hm hn same = same-members 64 m n hm hn same

-- a word with no member is empty
pub no-members : (m : ℕ) → m < 2 ^ 64 → ((b : ℕ) → b < 64 → has m b ≡ false) → m ≡ 0
no-members m h none = ext m 0 h (omega arith) (λ b l. none b l ∙ sym (has-none b))

pub without-stranger : (m b : ℕ) → has m b ≡ false → without m b ≡ m
unfolding without
without-stranger m b e = rw e

-- ---- a word stays one

pub with-small : (m b : ℕ) → m < 2 ^ 64 → b < 64 → with m b < 2 ^ 64
with-small m b h l = rw (← or-bit m b) (or_lt 64 m (2 ^ b) h (pow-lt l))

pub without-small : (m b : ℕ) → m < 2 ^ 64 → without m b < 2 ^ 64
without-small m b h = rw (← off-bit m b) (omega arith)

-- ---- a lock above all members

-- where nothing stands from lock a up, no lock from a up is in
pub above-none : (m a : ℕ) → m / 2 ^ a ≡ 0 → (c : ℕ) → a ≤ c → has m c ≡ false
unfolding has
above-none m a e c l =
    let p : 0 < 2 ^ a = pow_pos a in
    let b : m / 2 ^ a < 1 = omega arith in
    let h : m < 1 * 2 ^ a = (div-lt_iff_lt-mul p).0 b in
    let f : m < 2 ^ a = omega arith in
    let g : m < 2 ^ c = lt_of_lt_of_le f (pow_mono l) in
    rw (div-eq_of_lt g)
