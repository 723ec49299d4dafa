-- Lists of stores that are rows: the stores for each number of a range, one number after the other. What every prefix of a row
-- keeps, where every prefix of each number's stores does (`KeptBy`); what the whole of a row leaves at a place (`Leaves`), leaves
-- there if it stands there already (`Sets`), or writes there (`Writes`). A prefix of two lists is one of the first, or the
-- first and a prefix of the second (`cut-append`).
use Prim.Native.Nat.{ℕ, suc, zero, ◌+◌, ◌<◌, ◌≤◌}
use mathlib.Core.Path.{◌≡◌, refl, ◌∙◌}
use mathlib.Core.Bool.{Bool, true, false, cond}
use mathlib.Core.List.{List, [], ◌∷◌, ◌++◌}
use native.Mathlib.Omega.{arith}
use native.Mathlib.Decide.{ℕ_discrete}
use lib.ListN.{length, take}
use lib.Seq.{take-length}
use Rattle.base.proofs.Bools.{and_left, and_right, and_both}
use Rattle.image.specs.Place.{Place, valid, Memory, Store}
use Rattle.image.specs.Inner.Same.{same, upd, upd_all}
use Rattle.image.proofs.Places.{upd_same, upd_other}
use Rattle.image.proofs.Lists.{all_valid, upd_all-nil}
use Rattle.repair.specs.Plan.{rows}

pub upd_all-append : (rd : Memory) (ss ts : List Store) → upd_all rd (ss ++ ts) ≡ upd_all (upd_all rd ss) ts
unfolding upd_all
upd_all-append rd [] ts = refl
upd_all-append rd (s ∷ ss) ts = upd_all-append (upd rd s.place s.value) ss ts

pub upd_all-one : (rd : Memory) (s : Store) → upd_all rd (s ∷ []) ≡ upd rd s.place s.value
unfolding upd_all
upd_all-one rd s = refl

-- a prefix of two lists, one after the other
pub cut-append : (Q : List Store → Type 0) (k : ℕ) (xs ys : List Store) → ((j : ℕ) → Q (take j xs)) → ((j : ℕ) → Q (xs ++ take j ys)) → Q (take k (xs ++ ys))
cut-append Q zero xs ys a b = a 0
cut-append Q (suc k) [] ys a b = b (suc k)
cut-append Q (suc k) (x ∷ xs) ys a b = cut-append (λ l. Q (x ∷ l)) k xs ys (λ j. a (suc j)) (λ j. b j)

-- ---- what every prefix keeps

abbrev pub KeptBy : (Memory → Type 0) → List Store → Type 0
KeptBy P ss = (rd : Memory) → P rd → (k : ℕ) → P (upd_all rd (take k ss))

module _ (P : Memory → Type 0) where
  pub keeps-whole : (ss : List Store) → KeptBy P ss → (rd : Memory) → P rd → P (upd_all rd ss)
  keeps-whole ss h rd p = rw (take-length ss) at (h rd p (length ss))

  pub keeps-nil : KeptBy P []
  keeps-nil rd p zero = rw (upd_all-nil rd) p
  keeps-nil rd p (suc k) = rw (upd_all-nil rd) p

  pub keeps-one : (s : Store) → ((rd : Memory) → P rd → P (upd rd s.place s.value)) → KeptBy P (s ∷ [])
  keeps-one s h rd p zero = rw (upd_all-nil rd) p
  keeps-one s h rd p (suc zero) = rw (upd_all-one rd s) (h rd p)
  keeps-one s h rd p (suc (suc k)) = rw (upd_all-one rd s) (h rd p)

  -- one store, from a memory of which it is known
  pub prefix-one : (s : Store) (rd : Memory) → P rd → P (upd_all rd (s ∷ [])) → (k : ℕ) → P (upd_all rd (take k (s ∷ [])))
  prefix-one s rd p q zero = rw (upd_all-nil rd) p
  prefix-one s rd p q (suc zero) = q
  prefix-one s rd p q (suc (suc k)) = q

  -- a list after another; the second may start from what holds once the first is done
  pub prefix-append : (xs ys : List Store) (rd : Memory) → ((j : ℕ) → P (upd_all rd (take j xs))) → ((j : ℕ) → P (upd_all (upd_all rd xs) (take j ys)))
      → (k : ℕ)
      → P (upd_all rd (take k (xs ++ ys)))
  prefix-append xs ys rd a b k = cut-append (λ l. P (upd_all rd l)) k xs ys a (λ j. rw (upd_all-append rd xs (take j ys)) (b j))

  pub keeps-append : (xs ys : List Store) → KeptBy P xs → KeptBy P ys → KeptBy P (xs ++ ys)
  keeps-append xs ys a b rd p = prefix-append xs ys rd (a rd p) (b (upd_all rd xs) (keeps-whole xs a rd p))

  pub keeps-cond : (t : Bool) (s : Store) → (t ≡ true → (rd : Memory) → P rd → P (upd rd s.place s.value)) → KeptBy P (cond t (s ∷ []) [])
  keeps-cond true s h = keeps-one s (h refl)
  keeps-cond false s h = keeps-nil

  pub keeps-rows : (f : ℕ → List Store) (i k : ℕ) → ((j : ℕ) → i ≤ j → j < i + k → KeptBy P (f j)) → KeptBy P (rows f i k)
  unfolding rows
  keeps-rows f i zero h = keeps-nil
  keeps-rows f i (suc k) h =
      keeps-append (f i) (rows f (i + 1) k) (h i (omega arith) (omega arith)) (keeps-rows f (i + 1) k (λ j l m. h j (omega arith) (omega arith)))

-- ---- what stands at a place after all of them

abbrev pub Leaves : Place → List Store → Type 0
Leaves q ss = (rd : Memory) → upd_all rd ss q ≡ rd q

abbrev pub Sets : Place → ℕ → List Store → Type 0
Sets q v ss = (rd : Memory) → rd q ≡ v → upd_all rd ss q ≡ v

abbrev pub Writes : Place → ℕ → List Store → Type 0
Writes q v ss = (rd : Memory) → upd_all rd ss q ≡ v

module _ (q : Place) where
  pub leaves-append : (xs ys : List Store) → Leaves q xs → Leaves q ys → Leaves q (xs ++ ys)
  leaves-append xs ys a b rd = rw (upd_all-append rd xs ys) (b (upd_all rd xs) ∙ a rd)

  pub leaves-one : (s : Store) → same q s.place ≡ false → Leaves q (s ∷ [])
  leaves-one s h rd = rw (upd_all-one rd s) (upd_other rd s.place s.value q h)

  pub leaves-cond : (t : Bool) (s : Store) → same q s.place ≡ false → Leaves q (cond t (s ∷ []) [])
  unfolding upd_all
  leaves-cond true s h = leaves-one s h
  leaves-cond false s h = λ rd. refl

  pub leaves-rows : (f : ℕ → List Store) (i k : ℕ) → ((j : ℕ) → Leaves q (f j)) → Leaves q (rows f i k)
  unfolding rows upd_all
  leaves-rows f i zero h = λ rd. refl
  leaves-rows f i (suc k) h = leaves-append (f i) (rows f (i + 1) k) (h i) (leaves-rows f (i + 1) k h)

  module _ (v : ℕ) where
    pub sets_rows : (f : ℕ → List Store) (i k : ℕ) → ((j : ℕ) → i ≤ j → j < i + k → Sets q v (f j)) → Sets q v (rows f i k)
    unfolding rows upd_all
    sets_rows f i zero h rd e = e
    sets_rows f i (suc k) h rd e =
        rw (upd_all-append rd (f i) (rows f (i + 1) k))
        (sets_rows f (i + 1) k (λ j l m. h j (omega arith) (omega arith)) (upd_all rd (f i)) (h i (omega arith) (omega arith) rd e))

    -- a number of the range writes it, and no other writes anything else
    pub writes-rows : (f : ℕ → List Store) (i k : ℕ) → ((j : ℕ) → i ≤ j → j < i + k → Sets q v (f j)) → (c : ℕ) → i ≤ c → c < i + k → Writes q v (f c)
        → Writes q v (rows f i k)
    unfolding rows
    writes-rows f i zero h c l m w rd = absurd (omega arith)
    writes-rows f i (suc k) h c l m w rd = by (λ a b. writes-rows f (i + 1) k (λ j l m. h j (omega arith) (omega arith)) c a b w) (ℕ_discrete i c)
      where
        by : (i + 1 ≤ c → c < i + 1 + k → Writes q v (rows f (i + 1) k)) → Dec (i ≡ c) → upd_all rd (f i ++ rows f (i + 1) k) q ≡ v
        by more (yes e) =
            rw (upd_all-append rd (f i) (rows f (i + 1) k))
            (sets_rows f (i + 1) k (λ j l m. h j (omega arith) (omega arith)) (upd_all rd (f i)) (rw e (w rd)))
        by more (no e) = rw (upd_all-append rd (f i) (rows f (i + 1) k)) (more (omega arith) (omega arith) (upd_all rd (f i)))

    pub sets-one : (s : Store) → (same q s.place ≡ true → s.value ≡ v) → Sets q v (s ∷ [])
    sets-one s h rd e = rw (upd_all-one rd s) (by (same q s.place) refl)
      where
        by : (t : Bool) → same q s.place ≡ t → cond t s.value (rd q) ≡ v
        by true i = h i
        by false i = e

    pub sets-cond : (t : Bool) (s : Store) → (t ≡ true → same q s.place ≡ true → s.value ≡ v) → Sets q v (cond t (s ∷ []) [])
    unfolding upd_all
    sets-cond true s h = sets-one s (h refl)
    sets-cond false s h = λ rd e. e

-- a store writes its value at its place
pub writes-cond : (t : Bool) (s : Store) → t ≡ true → Writes s.place s.value (cond t (s ∷ []) [])
writes-cond true s h rd = rw (upd_all-one rd s) (upd_same rd s.place s.value)
writes-cond false s h rd = absurd (let z : ◌≡◌ {A = ℕ} 0 1 = cc in omega arith)

-- ---- valid places

module _ (D n : ℕ) where
  pub valid-append : (xs ys : List Store) → all_valid D n xs ≡ true → all_valid D n ys ≡ true → all_valid D n (xs ++ ys) ≡ true
  valid-append [] ys a b = b
  valid-append (s ∷ ss) ys a b =
      and_both (valid D n s.place) (all_valid D n (ss ++ ys)) (and_left (valid D n s.place) (all_valid D n ss) a)
      (valid-append ss ys (and_right (valid D n s.place) (all_valid D n ss) a) b)

  pub valid-cond : (t : Bool) (s : Store) → valid D n s.place ≡ true → all_valid D n (cond t (s ∷ []) []) ≡ true
  valid-cond true s h = and_both (valid D n s.place) true h refl
  valid-cond false s h = refl

  pub valid-rows : (f : ℕ → List Store) (i k : ℕ) → ((j : ℕ) → i ≤ j → j < i + k → all_valid D n (f j) ≡ true) → all_valid D n (rows f i k) ≡ true
  unfolding rows
  valid-rows f i zero h = refl
  valid-rows f i (suc k) h =
      valid-append (f i) (rows f (i + 1) k) (h i (omega arith) (omega arith)) (valid-rows f (i + 1) k (λ j l m. h j (omega arith) (omega arith)))
