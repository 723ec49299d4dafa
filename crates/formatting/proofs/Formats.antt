-- Formatting: what its test says, its stores in the order in which the code makes them, and what a finished one leaves: an
-- image of D workers with a right header and 0 at every place.
use Prim.Native.Nat.{ℕ, suc, zero, ◌+◌, ◌-◌, ◌<◌, ◌≤◌}
use borrow.Author.Tests.{leb-true, eqb-true}
use mathlib.Core.Path.{◌≡◌, refl, ap, ◌∙◌}
use mathlib.Core.Bool.{Bool, true, false, cond, ◌&&◌, and-eq-true_iff}
use mathlib.Core.List.{List, [], ◌∷◌, ◌++◌, append-nil}
use native.Mathlib.Numerals.{add-one}
use native.Mathlib.Omega.{arith}
use lib.ListN.{length, get_or, set, take, replicate, length-replicate, drop_of_length-le}
use lib.Seq.{sets, sets-eq}
use lib.Dec.{leb, eqb}
use Rattle.image.specs.Place.{Place, valid}
use Rattle.image.specs.Image.{Image, length_of, index_of, workers, at, zeros, header_ok, put}
use Rattle.image.proofs.Apart.{length-ge, index-ge}
use Rattle.image.proofs.Header.{header-last}
use Rattle.image.proofs.Stores.{put-lots}
use Rattle.rows.specs.Rows.{put_from}
use Rattle.formatting.specs.Format.{formattable, form_tail, format_stores, formatted}
use Rattle.rows.proofs.Rows.{replicate-zero}

pub formattable-true : (n : ℕ) (m : Image) (D : ℕ) → formattable n m D ≡ true → (1 ≤ D) × (D ≤ 8) × (length m ≡ length_of n D)
unfolding formattable
formattable-true n m D h =
    let p = (and-eq-true_iff (leb 1 D && leb D 8) (eqb (length m) (length_of n D))).0 h in
    let q = (and-eq-true_iff (leb 1 D) (leb D 8)).0 p.0 in
    (leb-true _ _ q.0, leb-true _ _ q.1, eqb-true _ _ p.1)

-- the stores one by one: 0 in word 0, the number of workers in word 1, 0 in the others, the mark in word 0
pub format-stores : (mark n left : ℕ) (m : Image) (D : ℕ)
    → format_stores mark n left m D
    ≡ put (left - 1 - 1 - (length_of n D - 2)) (put_from (left - 1 - 1) (put (left - 1) (put left m 0 0) 1 D) 2 (replicate (length_of n D - 2) 0)) 0 mark
unfolding format_stores put_from
format-stores mark n left m D =
    let g = length-ge n D in
    let e : left - length_of n D ≡ left - 1 - 1 - (length_of n D - 2) = omega arith in
    rw e

-- ---- what a finished one leaves

-- with stores enough all values are stored
enough : (left : ℕ) (m : Image) (i : ℕ) (vs : List ℕ) → length vs ≤ left → put_from left m i vs ≡ sets m i vs
unfolding put_from
enough left m i [] h = refl
enough left m i (v ∷ vs) h = rw (put-lots left m i v (omega arith), add-one i) (enough (left - 1) (set m i v) (suc i) vs (omega arith))

tail-length : (n D : ℕ) → suc (length (form_tail n D)) ≡ length_of n D
tail-length n D = let g = length-ge n D in omega (arith, length-replicate {A = ℕ} (length_of n D - 2) 0)

private-whole : (mark n left : ℕ) (m : Image) (D : ℕ) → length_of n D < left → length m ≡ length_of n D → format_stores mark n left m D ≡ formatted mark n D
unfolding format_stores formatted
private-whole mark n left [] D h e = let g = length-ge n D in absurd (omega arith)
private-whole mark n left (x ∷ m) D h e =
    let t = tail-length n D in
    let z : length m ≤ length (form_tail n D) = omega arith in
    let o : 1 + length (form_tail n D) ≡ suc (length (form_tail n D)) = omega arith in
    rw (
      put-lots left (x ∷ m) 0 0 (omega arith),
      enough (left - 1) (0 ∷ m) 1 (form_tail n D) (omega arith),
      sets-eq (form_tail n D) (0 ∷ m) 1 (omega arith),
      o,
      put-lots (left - length_of n D) _ 0 mark (omega arith),
    )
    (ap (λ (r : List ℕ). mark ∷ (form_tail n D ++ r)) (drop_of_length-le m z) ∙ ap (λ (r : List ℕ). mark ∷ r) (append-nil (form_tail n D)))

pub format-enough : (mark n left : ℕ) (m : Image) (D : ℕ) → length_of n D < left → formattable n m D ≡ true → format_stores mark n left m D ≡ formatted mark n D
format-enough mark n left m D h f = private-whole mark n left m D h (formattable-true n m D f).2

module _ (mark n D : ℕ) where
  pub formatted-length : length (formatted mark n D) ≡ length_of n D
  unfolding formatted
  formatted-length = tail-length n D

zeros-replicate : (j k : ℕ) → zeros (take j (replicate k 0)) ≡ true
zeros-replicate zero k = refl
zeros-replicate (suc j) zero = refl
zeros-replicate (suc j) (suc k) = zeros-replicate j k

module _ (mark n D : ℕ) where
  pub formatted-header : 1 ≤ D → D ≤ 8 → header_ok mark n (formatted mark n D) ≡ true
  unfolding formatted workers
  formatted-header a b = header-last mark n (formatted mark n D) a b (formatted-length mark n D) refl ∙ zeros-replicate 6 (length_of n D - 2)

  word-zero : (i : ℕ) → 8 ≤ i → get_or (formatted mark n D) i 0 ≡ 0
  unfolding formatted
  word-zero zero h = absurd (omega arith)
  word-zero (suc zero) h = absurd (omega arith)
  word-zero (suc (suc i)) h = replicate-zero (length_of n D - 2) i

  -- 0 at every place
  pub formatted-at : (p : Place) → at n (formatted mark n D) p ≡ 0
  unfolding at
  formatted-at p = rw (word-zero (index_of n p) (index-ge n p)) (either (valid (workers (formatted mark n D)) n p))
    where
      either : (b : Bool) → cond {A = ℕ} b 0 0 ≡ 0
      either true = refl
      either false = refl
