-- The header test: what it says of an image (`Header`), that the image then has the length of its number of workers
-- (`Sized`), and that words 2 to 7 joined by `|`, as the code joins them, are 0 where each of them is: a word more at a
-- time, since a `|` is at least its left word.
use Prim.Native.Nat.{ℕ, suc, zero, ◌+◌, ◌<◌, ◌≤◌}
use mathlib.Core.Path.{◌≡◌, refl, ap, ◌∙◌, sym}
use mathlib.Core.Bool.{Bool, true, false, ◌&&◌, and-true, and_assoc, and-eq-true_iff}
use mathlib.Core.List.{List, [], ◌∷◌}
use native.Mathlib.Omega.{arith}
use lib.ListN.{length, get_or, take, drop}
use lib.Seq.{get_or-drop}
use lib.Dec.{leb, eqb}
use lib.Bits.{bit_or, or_zero_l, or_add_and, and_le_r}
use borrow.Author.Tests.{leb-true, le-leb, eqb-true, eq-eqb, ne_eqb}
use Rattle.image.specs.Image.{Image, workers, length_of, zeros, header_ok}
use Rattle.image.specs.Inner.Inside.{Inside}

-- an image of D workers, each with n own words
pub record Sized (n D : ℕ) (m : Image) : Type 0 where
  pub size : length m ≡ length_of n D
  pub has : workers m ≡ D

pub sized_inside : (n D : ℕ) (m : Image) (d : ℕ) → n ≤ 64 → Sized n D m → D ≤ 8 → d < D → Inside n m d
sized_inside n D m d small z few below = record { few = small; below = rw z.has below; most = rw z.has few; whole = rw z.has z.size }

-- what the test says
pub record Header (mark n : ℕ) (m : Image) : Type 0 where
  pub some : 1 ≤ workers m
  pub few : workers m ≤ 8
  pub size : length m ≡ length_of n (workers m)
  pub marked : get_or m 0 0 ≡ mark
  pub spare : zeros (take 6 (drop 2 m)) ≡ true

-- the five tests apart
private-parts : (a b c d e : Bool) → (a && b && c && d && e) ≡ true → (a ≡ true) × (b ≡ true) × (c ≡ true) × (d ≡ true) × (e ≡ true)
private-parts a b c d e h =
    let p = (and-eq-true_iff (a && b && c && d) e).0 h in
    let q = (and-eq-true_iff (a && b && c) d).0 p.0 in
    let r = (and-eq-true_iff (a && b) c).0 q.0 in
    let s = (and-eq-true_iff a b).0 r.0 in
    (s.0, s.1, r.1, q.1, p.1)

module _ (mark n : ℕ) (m : Image) where
  pub header-true : header_ok mark n m ≡ true → Header mark n m
  unfolding header_ok
  header-true h =
      let p = private-parts (leb 1 (workers m)) (leb (workers m) 8) (eqb (length m) (length_of n (workers m))) (eqb (get_or m 0 0) mark)
      (zeros (take 6 (drop 2 m))) h in
      record { some = leb-true _ _ p.0; few = leb-true _ _ p.1; size = eqb-true _ _ p.2; marked = eqb-true _ _ p.3; spare = p.4 }

  pub header-workers : header_ok mark n m ≡ true → (1 ≤ workers m) × (workers m ≤ 8)
  header-workers h = let e = header-true h in (e.some, e.few)

  pub header-sized : header_ok mark n m ≡ true → Sized n (workers m) m
  header-sized h = record { size = (header-true h).size; has = refl }

  -- the records of an image that passes can be read
  pub header-inside : (d : ℕ) → n ≤ 64 → header_ok mark n m ≡ true → d < workers m → Inside n m d
  header-inside d small h below = let e = header-true h in record { few = small; below = below; most = e.few; whole = e.size }

  -- the last test decides, once the others have passed
  pub header-last : 1 ≤ workers m → workers m ≤ 8 → length m ≡ length_of n (workers m) → get_or m 0 0 ≡ mark → header_ok mark n m ≡ zeros (take 6 (drop 2 m))
  unfolding header_ok
  header-last a b c d = rw (le-leb _ _ a, le-leb _ _ b, eq-eqb _ _ c, eq-eqb _ _ d)

  -- the same where the others are told joined
  pub header-by : (t : Bool) → t ≡ (leb 1 (workers m) && leb (workers m) 8 && eqb (length m) (length_of n (workers m)) && eqb (get_or m 0 0) mark)
      → header_ok mark n m ≡ (t && zeros (take 6 (drop 2 m)))
  unfolding header_ok
  header-by t e = rw e

  -- an image that is not as the test says fails it
  pub header-false : (Header mark n m → ⊥) → header_ok mark n m ≡ false
  header-false no_Header = by (header_ok mark n m) refl
    where
      by : (t : Bool) → header_ok mark n m ≡ t → header_ok mark n m ≡ false
      by true e = absurd (no_Header (header-true e))
      by false e = e

-- ---- words that are all zero

or-zero : (a b : ℕ) → eqb (bit_or a b) 0 ≡ (eqb a 0 && eqb b 0)
or-zero zero b = ap (λ (x : ℕ). eqb x 0) (or_zero_l b)
or-zero (suc a) b =
    let s = or_add_and (suc a) b in
    let l = and_le_r (suc a) b in
    rw (ne_eqb (suc a) 0 (λ e. omega arith)) (ne_eqb (bit_or (suc a) b) 0 (λ e. omega arith))

-- one word more
zeros-suc : (k : ℕ) (l : List ℕ) → zeros (take (suc k) l) ≡ (zeros (take k l) && eqb (get_or l k 0) 0)
zeros-suc zero [] = refl
zeros-suc zero (x ∷ xs) = and-true (eqb x 0)
zeros-suc (suc k) [] = refl
zeros-suc (suc k) (x ∷ xs) = ap (λ (t : Bool). eqb x 0 && t) (zeros-suc k xs) ∙ sym (and_assoc (eqb x 0) (zeros (take k xs)) (eqb (get_or xs k 0) 0))

-- words 2 to 2 + k, joined as the code joins them
abbrev pub joined : Image → ℕ → ℕ
joined m zero = get_or m 2 0
joined m (suc k) = bit_or (joined m k) (get_or m (2 + suc k) 0)

pub zeros-joined : (m : Image) (k : ℕ) → zeros (take (suc k) (drop 2 m)) ≡ eqb (joined m k) 0
zeros-joined m zero = zeros-suc 0 (drop 2 m) ∙ rw (get_or-drop 2 m 0 0)
zeros-joined m (suc k) = zeros-suc (suc k) (drop 2 m) ∙ rw (zeros-joined m k, get_or-drop 2 m (suc k) 0) (sym (or-zero (joined m k) (get_or m (2 + suc k) 0)))
