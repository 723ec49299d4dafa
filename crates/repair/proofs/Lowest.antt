-- The stores of a set of locks are the store of its lowest lock and those of the set without it. So a loop that takes the lowest lock
-- out, and stores, makes the stores of the whole set.
use Prim.Native.Nat.{ℕ, zero, suc, ◌+◌, ◌-◌, ◌^◌, ◌<◌, ◌≤◌}
use mathlib.Core.Path.{◌≡◌, sym, ap, ◌∙◌}
use mathlib.Core.Bool.{true, false, true≢false}
use mathlib.Core.List.{[], ◌∷◌, ◌++◌}
use native.Mathlib.Omega.{arith}
use native.Mathlib.Decide.{ℕ_discrete}
use lib.Count.{count_trailing_zeros}
use lib.ListN.{length}
use Rattle.mask.specs.Mask.{has, without}
use Rattle.mask.proofs.Laws.{has-none, has-without, has-without-other}
use Rattle.mask.proofs.Lowest.{low_below, low-has, low-some}
use Rattle.image.specs.Place.{lock}
use Rattle.image.specs.Image.{Image, index_of, put, put_all}
use Rattle.image.proofs.Lists.{put_all-nil, put_all-cons}
use Rattle.repair.specs.Plan.{◌≔◌, rows}
use Rattle.repair.specs.Repair.{lock_slot}
use Rattle.repair.proofs.Rows.{rows_same, rows_none}

stores_same : (s t v k c : ℕ) → ((i : ℕ) → c ≤ i → has s i ≡ has t i) → rows (lock_slot s v) c k ≡ rows (lock_slot t v) c k
stores_same s t v k c h = rows_same (lock_slot s v) (lock_slot t v) k c c (λ i l. rw (h (c + i) (omega arith)))

stores-next : (s v b : ℕ) → has s b ≡ true → ((i : ℕ) → i < b → has s i ≡ false) → (k c : ℕ) → c ≤ b → b < c + k
    → rows (lock_slot s v) c k ≡ (lock b ≔ v) ∷ rows (lock_slot (without s b) v) c k
unfolding rows
stores-next s v b e h zero c l g = absurd (omega arith)
stores-next s v b e h (suc k) c l g = by (ℕ_discrete c b) (λ less. stores-next s v b e h k (c + 1) less (omega arith))
  where
    by : Dec (c ≡ b) → (c + 1 ≤ b → rows (lock_slot s v) (c + 1) k ≡ (lock b ≔ v) ∷ rows (lock_slot (without s b) v) (c + 1) k)
        → lock_slot s v c ++ rows (lock_slot s v) (c + 1) k ≡ (lock b ≔ v) ∷ (lock_slot (without s b) v c ++ rows (lock_slot (without s b) v) (c + 1) k)
    by (yes p) rest = rw (p, e, has-without s b, stores_same s (without s b) v k (b + 1) (λ i l. sym (has-without-other s b i (λ q. omega arith))))
    by (no p) rest = rw (has-without-other s b c (λ q. p (sym q)), h c (omega arith), rest (omega arith))

stores-none : (v k c : ℕ) → rows (lock_slot 0 v) c k ≡ []
stores-none v k c = rows_none (lock_slot 0 v) k c (λ i l. rw (has-none (c + i)))

module _ (s v : ℕ) (z : s ≡ 0) where
  pub image-none : (n left : ℕ) (m : Image) → put_all n left m (rows (lock_slot s v) 0 64) ≡ m
  image-none n left m = rw (z, stores-none v 64 0) (put_all-nil n left m)

  pub left-none : (left : ℕ) → left - length (rows (lock_slot s v) 0 64) ≡ left
  left-none left = rw (z, stores-none v 64 0) (omega arith)

module _ (s : ℕ) (w : s < 2 ^ 64) (h : s ≡ 0 → ⊥) where
  abbrev Low : ℕ
  Low = count_trailing_zeros 64 s

  pub locks-next : (v : ℕ) → rows (lock_slot s v) 0 64 ≡ (lock Low ≔ v) ∷ rows (lock_slot (without s Low) v) 0 64
  locks-next v = stores-next s v Low (low-has 64 s (low-some s w h)) (low_below 64 s) 64 0 (omega arith) (low-some s w h)

  private-fewer : without s Low ≤ s
  unfolding without
  private-fewer = rw (low-has 64 s (low-some s w h)) (omega arith)

  -- the set that is left is smaller
  pub less-without : without s Low < s
  less-without =
      let l = private-fewer in
      let n : (without s Low ≡ s) → ⊥ = λ q. true≢false (sym (low-has 64 s (low-some s w h)) ∙ (ap (λ (m : ℕ). has m Low) (sym q) ∙ has-without s Low)) in
      omega arith

  -- ---- one store of the loop

  pub image-lock : (v n left : ℕ) (m : Image)
      → put_all n (left - 1) (put left m (index_of n (lock Low)) v) (rows (lock_slot (without s Low) v) 0 64) ≡ put_all n left m (rows (lock_slot s v) 0 64)
  image-lock v n left m = rw (locks-next v) (sym (put_all-cons n left m (lock Low ≔ v) (rows (lock_slot (without s Low) v) 0 64)))

  pub left-lock : (v left : ℕ) → left - 1 - length (rows (lock_slot (without s Low) v) 0 64) ≡ left - length (rows (lock_slot s v) 0 64)
  left-lock v left = rw (locks-next v) (omega arith)
