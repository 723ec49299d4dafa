-- Rows of stores: the values of a list at the places of a row (`assigns`); where the places stand one after the other they are the words
-- from an index up (`row_words`).
use Prim.Native.Nat.{ℕ, suc, ◌+◌, ◌-◌, ◌<◌}
use mathlib.Core.Path.{◌≡◌, refl, ap}
use mathlib.Core.Bool.{true}
use mathlib.Core.List.{List, [], ◌∷◌, ◌++◌}
use native.Mathlib.Omega.{arith}
use lib.ListN.{length}
use Rattle.base.proofs.Bools.{and_both}
use Rattle.image.specs.Place.{Place, valid}
use Rattle.image.specs.Image.{Image, index_of, put, put_all}
use Rattle.image.proofs.Lists.{all_valid}
use Rattle.rows.specs.Rows.{put_from}
use Rattle.intake.specs.Submit.{assigns}

-- a row whose places stand one after the other is its words from the first one's index up
pub row_words : (n : ℕ) (f : ℕ → Place) → ((j : ℕ) → index_of n (f (j + 1)) ≡ index_of n (f j) + 1)
    → (i left : ℕ) (m : Image) (ws : List ℕ) → put_all n left m (assigns f i ws) ≡ put_from left m (index_of n (f i)) ws
unfolding put_all assigns put_from
row_words n f next i left m [] = refl
row_words n f next i left m (w ∷ ws) = rw (← next i) (row_words n f next (i + 1) (left - 1) (put left m (index_of n (f i)) w) ws)

pub assigns-length : (f : ℕ → Place) (i : ℕ) (ws : List ℕ) → length (assigns f i ws) ≡ length ws
unfolding assigns
assigns-length f i [] = refl
assigns-length f i (w ∷ ws) = ap suc (assigns-length f (i + 1) ws)

pub assigns-append : (f : ℕ → Place) (i : ℕ) (xs ys : List ℕ) → assigns f i (xs ++ ys) ≡ assigns f i xs ++ assigns f (i + length xs) ys
unfolding assigns
assigns-append f i [] ys = let e : i + 0 ≡ i = omega arith in rw e
assigns-append f i (x ∷ xs) ys =
    let e : i + suc (length xs) ≡ i + 1 + length xs = omega arith in
    rw (e, assigns-append f (i + 1) xs ys)

-- a row of places of the image
pub assigns-valid : (D n : ℕ) (f : ℕ → Place) (i : ℕ) (ws : List ℕ) → ((j : ℕ) → j < i + length ws → valid D n (f j) ≡ true)
    → all_valid D n (assigns f i ws) ≡ true
unfolding assigns
assigns-valid D n f i [] ok = refl
assigns-valid D n f i (w ∷ ws) ok = and_both _ _ (ok i (omega arith)) (assigns-valid D n f (i + 1) ws (λ j h. ok j (omega arith)))
