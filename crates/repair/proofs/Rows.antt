-- Rows of stores: a range of rows is its first part and the rest, a range of empty rows is empty, and two ranges that agree row by
-- row are the same.
use Prim.Native.Nat.{ℕ, suc, zero, ◌+◌, ◌<◌}
use mathlib.Core.Path.{◌≡◌, refl, sym}
use mathlib.Core.List.{List, [], ◌++◌, append_assoc}
use native.Mathlib.Omega.{arith}
use Rattle.image.specs.Place.{Store}
use Rattle.repair.specs.Plan.{rows}

module _ (f : ℕ → List Store) where
  rows_split : (j k c : ℕ) → rows f c (j + k) ≡ rows f c j ++ rows f (c + j) k
  unfolding rows
  rows_split zero k c =
      let e : c + 0 ≡ c = omega arith in
      let z : 0 + k ≡ k = omega arith in
      rw (e, z)
  rows_split (suc j) k c =
      let e : c + suc j ≡ c + 1 + j = omega arith in
      let z : suc j + k ≡ suc (j + k) = omega arith in
      rw (e, z, rows_split j k (c + 1)) (sym (append_assoc (f c) (rows f (c + 1) j) (rows f (c + 1 + j) k)))

  -- the same at an index and a number that are known otherwise
  pub rows_at : (c j k c' t : ℕ) → t ≡ j + k → c' ≡ c + j → rows f c t ≡ rows f c j ++ rows f c' k
  rows_at c j k c' t e g = rw (e, g) (rows_split j k c)

  pub rows_same : (g : ℕ → List Store) (k c e : ℕ) → ((i : ℕ) → i < k → f (c + i) ≡ g (e + i)) → rows f c k ≡ rows g e k
  unfolding rows
  rows_same g zero c e h = refl
  rows_same g (suc k) c e h =
      let p : c + 0 ≡ c = omega arith in
      let q : e + 0 ≡ e = omega arith in
      let first : f c ≡ g e = rw (p, q) at (h 0 (omega arith)) in
      let next : (i : ℕ) → i < k → f (c + 1 + i) ≡ g (e + 1 + i) = λ i l.
      let a : c + 1 + i ≡ c + suc i = omega arith in
      let b : e + 1 + i ≡ e + suc i = omega arith in
      rw (a, b) (h (suc i) (omega arith)) in
      rw (first, rows_same g k (c + 1) (e + 1) next)

  pub rows_none : (k c : ℕ) → ((i : ℕ) → i < k → f (c + i) ≡ []) → rows f c k ≡ []
  unfolding rows
  rows_none zero c h = refl
  rows_none (suc k) c h =
      let e : c + 0 ≡ c = omega arith in
      rw (rw e at (h 0 (omega arith)))
      (rows_none k (c + 1) (λ i l. let g : c + 1 + i ≡ c + suc i = omega arith in rw g (h (suc i) (omega arith))))

  -- a range of which the first j rows are empty
  pub rows-part : (c j k c' t : ℕ) → t ≡ j + k → c' ≡ c + j → ((i : ℕ) → i < j → f (c + i) ≡ []) → rows f c t ≡ rows f c' k
  rows-part c j k c' t e g h = rw (rows_at c j k c' t e g, rows_none j c h)
