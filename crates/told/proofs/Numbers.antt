-- Lists of numbers that rise, and what a worker's record says of the numbers that it has begun (`RecordedAt`): with the pc 0 the
-- finished number is the last of them; else the record's number is, and finished is that one or the one before. Then what each store
-- of a pc, a number or a finished number makes of it.
use Prim.Native.Nat.{ℕ, ◌<◌, ◌≤◌}
use mathlib.Core.Path.{◌≡◌, refl, sym, ap, ◌∙◌}
use mathlib.Core.Logic.{◌≢◌, ◌⊎◌, inl, inr}
use mathlib.Core.Bool.{Bool, true, false, ◌||◌, false≢true}
use mathlib.Core.List.{List, [], ◌∷◌, ◌++◌, map}
use lib.Dec.{eqb, ltb}
use borrow.Author.Tests.{ltb-true, lt-ltb, eqb-true, eq-eqb}
use native.Mathlib.Omega.{arith}
use Rattle.base.proofs.Bools.{and_left, and_right, and_both}
use Rattle.claims.specs.Reference.{Given}
use Rattle.claims.specs.Claims.{of_worker}
use Rattle.told.specs.Once.{numbers_of, rising, last_or, among, Among}
use Rattle.claims.proofs.Feeding.{of-append, of-snoc-same, of-snoc-other}

-- ---- rising lists

pub last_snoc : (k : ℕ) (xs : List ℕ) (x : ℕ) → last_or k (xs ++ (x ∷ [])) ≡ x
last_snoc k [] x = refl
last_snoc k (y ∷ ys) x = last_snoc y ys x

rising_snoc : (k : ℕ) (xs : List ℕ) (x : ℕ) → rising k xs ≡ true → last_or k xs < x → rising k (xs ++ (x ∷ [])) ≡ true
rising_snoc k [] x h l = and_both (ltb k x) true (lt-ltb k x l) refl
rising_snoc k (y ∷ ys) x h l =
    and_both (ltb k y) (rising y (ys ++ (x ∷ []))) (and_left (ltb k y) (rising y ys) h) (rising_snoc y ys x (and_right (ltb k y) (rising y ys) h) l)

pub rising-front : (k : ℕ) (xs ys : List ℕ) → rising k (xs ++ ys) ≡ true → rising k xs ≡ true
rising-front k [] ys h = refl
rising-front k (x ∷ xs) ys h =
    and_both (ltb k x) (rising x xs) (and_left (ltb k x) (rising x (xs ++ ys)) h) (rising-front x xs ys (and_right (ltb k x) (rising x (xs ++ ys)) h))

pub rising-last : (k : ℕ) (xs : List ℕ) (x : ℕ) → rising k (xs ++ (x ∷ [])) ≡ true → last_or k xs < x
rising-last k [] x h = ltb-true k x (and_left (ltb k x) true h)
rising-last k (y ∷ ys) x h = rising-last y ys x (and_right (ltb k y) (rising y (ys ++ (x ∷ []))) h)

last-above : (k : ℕ) (xs : List ℕ) → rising k xs ≡ true → k ≤ last_or k xs
last-above k [] h = omega arith
last-above k (x ∷ xs) h =
    let a = ltb-true k x (and_left (ltb k x) (rising x xs) h) in
    let b = last-above x xs (and_right (ltb k x) (rising x xs) h) in
    omega arith

-- each of them is above k, and none above the last
pub among-bounds : (k : ℕ) (xs : List ℕ) (j : ℕ) → rising k xs ≡ true → among j xs ≡ true → (k < j) × (j ≤ last_or k xs)
among-bounds k [] j h a = absurd (false≢true a)
among-bounds k (x ∷ xs) j h a = by (among-bounds x xs j) (eqb x j) refl
  where
    step : k < x
    step = ltb-true k x (and_left (ltb k x) (rising x xs) h)

    rest : rising x xs ≡ true
    rest = and_right (ltb k x) (rising x xs) h

    by : (rising x xs ≡ true → among j xs ≡ true → (x < j) × (j ≤ last_or x xs)) → (b : Bool) → eqb x j ≡ b → (k < j) × (j ≤ last_or x xs)
    by more true e = let p = eqb-true x j e in let q = last-above x xs rest in let s = step in (omega arith, omega arith)
    by more false e = let p = more rest (rw e at a) in let s = step in (omega (arith, p.0), p.1)

pub among-snoc : (xs : List ℕ) (x j : ℕ) → among j (xs ++ (x ∷ [])) ≡ true → (among j xs ≡ true) ⊎ (x ≡ j)
among-snoc [] x j a = by (eqb x j) refl
  where
    by : (b : Bool) → eqb x j ≡ b → (among j [] ≡ true) ⊎ (x ≡ j)
    by true e = inr (eqb-true x j e)
    by false e = absurd (false≢true (rw e at a))
among-snoc (y ∷ ys) x j a = by (among-snoc ys x j) (eqb y j) refl
  where
    by : (among j (ys ++ (x ∷ [])) ≡ true → (among j ys ≡ true) ⊎ (x ≡ j)) → (b : Bool) → eqb y j ≡ b → ((b || among j ys) ≡ true) ⊎ (x ≡ j)
    by more true e = inl refl
    by more false e = more (rw e at a)

pub among-behind : (k : ℕ) (xs ys : List ℕ) → among k (xs ++ (k ∷ ys)) ≡ true
among-behind k [] ys = rw (eq-eqb k k refl)
among-behind k (x ∷ xs) ys = by (eqb x k) (among-behind k xs ys)
  where
    by : (b : Bool) → among k (xs ++ (k ∷ ys)) ≡ true → (b || among k (xs ++ (k ∷ ys))) ≡ true
    by true h = refl
    by false h = h

pub among-front : (k : ℕ) (xs ys : List ℕ) → among k xs ≡ true → among k (xs ++ ys) ≡ true
among-front k [] ys h = absurd (false≢true h)
among-front k (x ∷ xs) ys h = by (among-front k xs ys) (eqb x k) refl
  where
    by : (among k xs ≡ true → among k (xs ++ ys) ≡ true) → (b : Bool) → eqb x k ≡ b → (b || among k (xs ++ ys)) ≡ true
    by more true e = refl
    by more false e = more (rw e at h)

-- ---- numbers of a worker's sections

map-append : (xs ys : List Given) → map (λ (g : Given). g.number) (xs ++ ys) ≡ map (λ (g : Given). g.number) xs ++ map (λ (g : Given). g.number) ys
map-append [] ys = refl
map-append (x ∷ xs) ys = ap (λ (l : List ℕ). x.number ∷ l) (map-append xs ys)

pub numbers-append : (d : ℕ) (gs hs : List Given) → numbers_of d (gs ++ hs) ≡ numbers_of d gs ++ numbers_of d hs
numbers-append d gs hs = rw (of-append d gs hs) (map-append (of_worker d gs) (of_worker d hs))

pub numbers-same : (d : ℕ) (gs : List Given) (g : Given) → g.worker ≡ d → numbers_of d (gs ++ (g ∷ [])) ≡ numbers_of d gs ++ (g.number ∷ [])
numbers-same d gs g e = rw (of-snoc-same d gs g e) (map-append (of_worker d gs) (g ∷ []))

pub numbers-other : (d : ℕ) (gs : List Given) (g : Given) → g.worker ≢ d → numbers_of d (gs ++ (g ∷ [])) ≡ numbers_of d gs
numbers-other d gs g e = rw (of-snoc-other d gs g e)

pub among-number : (d : ℕ) (g : Given) (gs : List Given) → g.worker ≡ d → Among g gs → among g.number (numbers_of d gs) ≡ true
among-number d g gs i (before, behind, e) =
    rw (e, numbers-append d before (g ∷ behind), eq-eqb g.worker d i) (among-behind g.number (numbers_of d before) (numbers_of d behind))

-- ---- what a record says

-- f: the finished number at the start; bs: the numbers begun since
pub record RecordedAt (f : ℕ) (bs : List ℕ) (pc number finished : ℕ) : Type 0 where
  pub rises : rising f bs ≡ true
  pub rests : pc ≡ 0 → finished ≡ last_or f bs
  pub works : pc ≢ 0 → (before : List ℕ) × (bs ≡ before ++ (number ∷ [])) × ((finished ≡ last_or f before) ⊎ (finished ≡ number))

module _ (f : ℕ) (bs : List ℕ) (pc number finished : ℕ) (r : RecordedAt f bs pc number finished) where
  -- the section whose number the record has is begun
  pub recorded-begins : (v : ℕ) → pc ≡ 0 → v ≢ 0 → finished < number → RecordedAt f (bs ++ (number ∷ [])) v number finished
  recorded-begins v p z l =
      let e = r.rests p in
      record {
        rises = rising_snoc f bs number r.rises (omega arith);
        rests = λ q. absurd (z q);
        works = λ q. (bs, refl, inl e);
      }

  -- its pc moves on
  pub recorded-moves : (v : ℕ) → pc ≢ 0 → v ≢ 0 → RecordedAt f bs v number finished
  recorded-moves v p z = record { rises = r.rises; rests = λ q. absurd (z q); works = λ q. r.works p }

  -- its finish has stored finished
  pub recorded-finishes : pc ≢ 0 → RecordedAt f bs pc number number
  recorded-finishes p = record { rises = r.rises; rests = λ q. absurd (p q); works = λ q. let w = r.works p in (w.0, w.1, inr refl) }

  -- and sets the pc to 0
  pub recorded-ends : pc ≢ 0 → finished ≡ number → RecordedAt f bs 0 number finished
  recorded-ends p e =
      let w = r.works p in
      record { rises = r.rises; rests = λ q. e ∙ (sym (last_snoc f w.0 number) ∙ ap (last_or f) (sym w.1)); works = λ q. absurd (q refl) }

  -- another number is stored where nothing is begun
  pub recorded-numbered : (k : ℕ) → pc ≡ 0 → RecordedAt f bs pc k finished
  recorded-numbered k p = record { rises = r.rises; rests = r.rests; works = λ q. absurd (q p) }
