-- The cells as a list: its length, its words, and what a store leaves of it. The cells stand in words 8 to 519, so a
-- store at any other place, from word 520 up, leaves the list.
use Prim.Native.Nat.{ℕ, ◌+◌, ◌-◌, ◌<◌, ◌≤◌}
use mathlib.Core.Path.{◌≡◌, ap, ◌∙◌}
use mathlib.Core.Bool.{Bool, true, false, true≢false}
use native.Mathlib.Omega.{arith}
use lib.ListN.{length, get_or, take, drop, set, length-take, length-drop}
use lib.Seq.{get_or-take, get_or-drop, take-set-le, drop-set-add}
use borrow.Author.Tests.{lt-ltb}
use Rattle.image.specs.Place.{Place, cell, lock, field, own, step}
use Rattle.image.specs.Image.{Image, record_at, index_of, at, cells_of, put}
use Rattle.image.proofs.Apart.{length-ge}
use Rattle.image.proofs.Header.{Sized}
use Rattle.image.proofs.Stores.{put_keeps}

-- a word past the cells is none of them
pub cells-past : (m : Image) (i v : ℕ) → 520 ≤ i → cells_of (set m i v) ≡ cells_of m
unfolding cells_of
cells-past m i v h =
    let e : i ≡ 8 + (i - 8) = omega arith in
    rw e (ap (take 512) (drop-set-add 8 m (i - 8) v) ∙ take-set-le 512 (drop 8 m) (i - 8) v (omega arith))

abbrev pub is_cell : Place → Bool
is_cell (cell x) = true
is_cell (lock b) = false
is_cell (field f d) = false
is_cell (own d i) = false
is_cell (step d i) = false

module _ (n : ℕ) where
  pub cells-length : (D : ℕ) (m : Image) → Sized n D m → length (cells_of m) ≡ 512
  unfolding cells_of
  cells-length D m z = rw (length-take 512 (drop 8 m), length-drop 8 m, z.size) (omega (arith, length-ge n D))

  pub cells_at : (m : Image) (x : ℕ) → x < 512 → get_or (cells_of m) x 0 ≡ at n m (cell x)
  unfolding cells_of at index_of
  cells_at m x h = rw (lt-ltb x 512 h) (get_or-take 512 (drop 8 m) x 0 h ∙ get_or-drop 8 m x 0)

  -- ---- a store at a place that is no cell

  pub index-past : (p : Place) → is_cell p ≡ false → 520 ≤ index_of n p
  unfolding index_of record_at
  index-past (cell x) h = absurd (true≢false h)
  index-past (lock b) h = omega arith
  index-past (field f d) h = omega arith
  index-past (own d i) h = omega arith
  index-past (step d i) h = omega arith

  pub cells-other : (left : ℕ) (m : Image) (p : Place) (v : ℕ) → is_cell p ≡ false → cells_of (put left m (index_of n p) v) ≡ cells_of m
  cells-other left m p v h = put_keeps cells_of left m (index_of n p) v (cells-past m (index_of n p) v (index-past p h))
