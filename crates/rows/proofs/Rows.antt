-- Rows of stores in the words from an index up (`put_from`). A loop that makes them has the rest of the row before it: `words_step` says
-- that one store takes one off, `words-end` that nothing is left at the end.
use Prim.Native.Nat.{ℕ, suc, zero, ◌+◌, ◌-◌, ◌<◌, ◌≤◌}
use mathlib.Core.Path.{◌≡◌, refl}
use mathlib.Core.List.{List, ◌∷◌}
use native.Mathlib.Numerals.{add-one}
use native.Mathlib.Omega.{arith}
use lib.ListN.{length, get_or, drop, replicate, drop_of_length-le}
use lib.Seq.{drop-cons}
use Rattle.image.specs.Image.{Image, put}
use Rattle.rows.specs.Rows.{put_from}

-- the rest of a row of one value
pub drop-replicate : (i k v : ℕ) → drop i (replicate k v) ≡ replicate (k - i) v
drop-replicate zero k v = let e : k - 0 ≡ k = omega arith in rw e
drop-replicate (suc i) zero v = let e : 0 - suc i ≡ 0 = omega arith in rw e
drop-replicate (suc i) (suc k) v = let e : suc k - suc i ≡ k - i = omega arith in rw e (drop-replicate i k v)

-- in a row of zeros, and past its end, there is 0
pub replicate-zero : (k j : ℕ) → get_or {A = ℕ} (replicate k 0) j 0 ≡ 0
replicate-zero zero j = refl
replicate-zero (suc k) zero = refl
replicate-zero (suc k) (suc j) = replicate-zero k j

drop-next : (ws : List ℕ) (i : ℕ) → i < length ws → drop i ws ≡ get_or ws i 0 ∷ drop (i + 1) ws
drop-next ws i h = rw (add-one i) (drop-cons ws i 0 h)

module _ (ws : List ℕ) where
  pub words_step : (at i v left left' : ℕ) (m m' : Image) → i < length ws → v ≡ get_or ws i 0 → m' ≡ put left m (at + i) v → left' ≡ left - 1
      → put_from left' m' (at + (i + 1)) (drop (i + 1) ws) ≡ put_from left m (at + i) (drop i ws)
  unfolding put_from
  words_step at i v left left' m m' h value stored spent =
      let e : at + (i + 1) ≡ at + i + 1 = omega arith in
      rw (stored, spent, value, e, drop-next ws i h)

  pub words-end : (at i left : ℕ) (m : Image) → length ws ≤ i → put_from left m at (drop i ws) ≡ m
  unfolding put_from
  words-end at i left m h = rw (drop_of_length-le ws {i = i} h)
