-- The lowest member of a set that is not empty is at its trailing zeros.
use Prim.Native.Nat.{ℕ, zero, suc, ◌/◌, ◌%◌, ◌^◌, ◌<◌}
use mathlib.Core.Path.{◌≡◌, refl, ap, ◌∙◌}
use mathlib.Core.Bool.{true, false}
use native.Mathlib.Omega.{arith}
use native.Mathlib.Nat.{mod-lt}
use native.Mathlib.Decide.{dec_lt}
use lib.Count.{count_trailing_zeros, under}
use lib.Dec.{eqb}
use Rattle.mask.specs.Mask.{has}
use Rattle.mask.proofs.Laws.{has-zero, has-suc}
use Rattle.mask.proofs.Sets.{no-members}

private-below : (m r t b : ℕ) → m % 2 ≡ r → b < under r t → ((c : ℕ) → c < t → has (m / 2) c ≡ false) → has m b ≡ false
private-below m zero t zero e h rest = has-zero m ∙ ap (λ (n : ℕ). eqb n 1) e
private-below m zero t (suc b) e h rest = has-suc m b ∙ rest b (omega arith)
private-below m (suc r) t b e h rest = absurd (omega arith)

-- no lock below them is in the set
pub low_below : (k m b : ℕ) → b < count_trailing_zeros k m → has m b ≡ false
unfolding count_trailing_zeros
low_below zero m b h = absurd (omega arith)
low_below (suc k) m b h = private-below m (m % 2) (count_trailing_zeros k (m / 2)) b refl h (low_below k (m / 2))

private-has : (k m r t : ℕ) → m % 2 ≡ r → under r t < suc k → (t < k → has (m / 2) t ≡ true) → has m (under r t) ≡ true
private-has k m zero t e h rest = has-suc m t ∙ rest (omega arith)
private-has k m (suc zero) t e h rest = has-zero m ∙ ap (λ (n : ℕ). eqb n 1) e
private-has k m (suc (suc r)) t e h rest = let l : m % 2 < 2 = mod-lt m (omega arith) in absurd (omega arith)

-- the lock at them is
pub low-has : (k m : ℕ) → count_trailing_zeros k m < k → has m (count_trailing_zeros k m) ≡ true
unfolding count_trailing_zeros
low-has zero m h = absurd (omega arith)
low-has (suc k) m h = private-has k m (m % 2) (count_trailing_zeros k (m / 2)) refl h (low-has k (m / 2))

-- and there is one, where the set is not empty
pub low-some : (m : ℕ) → m < 2 ^ 64 → (m ≡ 0 → ⊥) → count_trailing_zeros 64 m < 64
low-some m w h = by (dec_lt (count_trailing_zeros 64 m) 64)
  where
    by : Dec (count_trailing_zeros 64 m < 64) → count_trailing_zeros 64 m < 64
    by (yes l) = l
    by (no n) = absurd (h (no-members m w (λ b l. low_below 64 m b (omega arith))))
