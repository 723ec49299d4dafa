-- Numbers whose counts have not passed the largest: each is its count (`number-count`), and they add up to the counts (`total-counts`). A turn that is in the
-- count of precisely one of them adds one to all (`one_more`), a turn that is in none adds nothing (`none_more`).
use Prim.Native.Nat.{ℕ, zero, suc, ◌+◌, ◌<◌, ◌≤◌, min}
use mathlib.Core.Path.{◌≡◌, refl, ◌∙◌}
use mathlib.Core.Logic.{◌≢◌}
use mathlib.Core.List.{List, ◌∷◌}
use mathlib.Core.Bool.{Bool, true, false}
use native.Mathlib.Omega.{arith}
use borrow.Author.Tests.{eqb-true, eqb-false, ne_eqb}
use lib.Dec.{eqb}
use lib.ListN.{get_or}
use Rattle.lines.specs.Whole.{Took}
use Rattle.sums.specs.Sums.{count, top, numbers}
use Rattle.recorded.specs.Laws.{total}

-- ---- one number

private-below : (x m : ℕ) → x ≤ m → min x m ≡ x
private-below x m h = omega arith

module _ (P : ℕ → Took → Bool) (ts : List Took) where
  private-number : (n s i : ℕ) → i < n → get_or (numbers P ts s n) i 0 ≡ min (count (P (s + i)) ts) top
  unfolding numbers
  private-number zero s i h = absurd (omega arith)
  private-number (suc n) s zero h = let z : s + 0 ≡ s = omega arith in rw z
  private-number (suc n) s (suc i) h = let z : s + suc i ≡ s + 1 + i = omega arith in rw z (private-number n (s + 1) i (omega arith))

  pub number-count : (n s i : ℕ) → i < n → count (P (s + i)) ts ≤ top → get_or (numbers P ts s n) i 0 ≡ count (P (s + i)) ts
  number-count n s i h k = private-number n s i h ∙ private-below (count (P (s + i)) ts) top k

-- ---- all of them

-- the counts of k numbers from i on, added up
unfoldable pub counts : (ℕ → Took → Bool) → List Took → ℕ → ℕ → ℕ
counts P ts i zero = 0
counts P ts i (suc k) = count (P i) ts + counts P ts (i + 1) k

pub total-counts : (P : ℕ → Took → Bool) (ts : List Took) (n s : ℕ) → ((i : ℕ) → s ≤ i → i < s + n → count (P i) ts ≤ top)
    → total (numbers P ts s n) ≡ counts P ts s n
unfolding numbers counts
total-counts P ts zero s h = refl
total-counts P ts (suc n) s h =
    rw (private-below (count (P s) ts) top (h s (omega arith) (omega arith)), total-counts P ts n (s + 1) (λ i l m. h i (omega arith) (omega arith)))

module _ (P : ℕ → Took → Bool) (t : Took) (ts : List Took) where
  pub none_more : (n s : ℕ) → ((j : ℕ) → s ≤ j → P j t ≡ false) → counts P (t ∷ ts) s n ≡ counts P ts s n
  unfolding count counts
  none_more zero s h = refl
  none_more (suc n) s h = rw (h s (omega arith), none_more n (s + 1) (λ j l. h j (omega arith)))

  pub one_more : (n s i : ℕ) → s ≤ i → i < s + n → ((j : ℕ) → P j t ≡ eqb i j) → counts P (t ∷ ts) s n ≡ suc (counts P ts s n)
  unfolding count counts
  one_more zero s i l h e = absurd (omega arith)
  one_more (suc n) s i l h e = by (eqb i s) refl (λ g. one_more n (s + 1) i g (omega arith) e)
    where
      by : (b : Bool) → eqb i s ≡ b → (s + 1 ≤ i → counts P (t ∷ ts) (s + 1) n ≡ suc (counts P ts (s + 1) n))
          → counts P (t ∷ ts) s (suc n) ≡ suc (counts P ts s (suc n))
      by true q r =
          let z = eqb-true i s q in
          rw (e s, q, none_more n (s + 1) (λ j g. e j ∙ ne_eqb i j (λ x. omega arith))) (omega arith)
      by false q r = let z : i ≢ s = eqb-false i s q in rw (e s, q, r (omega arith)) (omega arith)
