-- The highest member of a set that is not empty is at 63 less its leading zeros (`highest`), and a lock is above all members where it is at least
-- 64 less them (`above-leading`).
use Prim.Native.Nat.{ℕ, suc, ◌+◌, ◌-◌, ◌*◌, ◌/◌, ◌^◌, ◌<◌, ◌≤◌}
use mathlib.Core.Path.{◌≡◌, sym, ◌∙◌}
use mathlib.Core.Bool.{true, false}
use native.Mathlib.Omega.{arith}
use native.Mathlib.Nat.{pow-succ', div-eq_of_lt, div-eq_of_lt-le, lt_of_lt_of_le, div-lt_iff_lt-mul}
use native.Mathlib.Decide.{dec_le}
use lib.Count.{count_leading_zeros, leading_length, leading_top}
use lib.Dec.{leb}
use lib.Pow.{pow_mono, pow_pos}
use borrow.Author.Tests.{ne_eqb, le-leb, lt-leb}
use Rattle.mask.specs.Mask.{has, above}

-- nothing stands from lock c up
pub none_above : (m c : ℕ) → m < 2 ^ c → has m c ≡ false
unfolding has
none_above m c h = rw (div-eq_of_lt h)

top-is : (m j : ℕ) → 2 ^ j ≤ m → m < 2 ^ suc j → has m j ≡ true
unfolding has
top-is m j l h =
    let u : m < (1 + 1) * 2 ^ j = rw (← pow-succ' 2 j) h in
    let e : m / 2 ^ j ≡ 1 = div-eq_of_lt-le (2 ^ j) (omega arith) u in
    rw e

pub highest :
    (m : ℕ) → 0 < m → m < 2 ^ 64 → (has m (63 - count_leading_zeros 64 m) ≡ true) × ((c : ℕ) → 63 - count_leading_zeros 64 m < c → has m c ≡ false)
highest m p h =
    let t = leading_top 64 m p h in
    let e : 63 - count_leading_zeros 64 m ≡ t.0 = omega (arith, t.1) in
    (rw e (top-is m t.0 t.2 t.3), λ c b. none_above m c (let k : suc t.0 ≤ c = omega (arith, e, b) in lt_of_lt_of_le t.3 (pow_mono k)))

-- nothing stands from lock a up, or something does
low-above : (m a : ℕ) → m < 2 ^ a → above m a ≡ true
low-above m a h = rw (div-eq_of_lt h)

high-above : (m a : ℕ) → 2 ^ a ≤ m → above m a ≡ false
high-above m a h =
    ne_eqb (m / 2 ^ a) 0
    (λ e. let p : 0 < 2 ^ a = pow_pos a in let l : m < 1 * 2 ^ a = (div-lt_iff_lt-mul p).0 (omega arith) in omega arith)

-- what the machine computes
pub above-leading : (m a : ℕ) → m < 2 ^ 64 → leb (64 - count_leading_zeros 64 m) a ≡ above m a
above-leading m a h = by (leading_length 64 m h)
  where
    by : (j : ℕ) × (count_leading_zeros 64 m + j ≡ 64) × (m < 2 ^ j) × (2 ^ j ≤ 2 * m + 1) → leb (64 - count_leading_zeros 64 m) a ≡ above m a
    by (j, s, u, v) = go (dec_le j a)
      where
        go : Dec (j ≤ a) → leb (64 - count_leading_zeros 64 m) a ≡ above m a
        go (yes l) = le-leb _ a (omega (arith, s, l)) ∙ sym (low-above m a (lt_of_lt_of_le u (pow_mono l)))
        go (no n) =
            let k : suc a ≤ j = omega arith in
            let w : 2 * 2 ^ a ≤ 2 ^ j = rw (← pow-succ' 2 a) (pow_mono k) in
            lt-leb _ a (omega (arith, s, k)) ∙ sym (high-above m a (omega (arith, w, v)))
