-- What a section needs from a step on, by one step: the turns of its instruction and what the steps need that it leads to (`unrolled`), which is
-- at most six turns a step (`needs-most`). The definition makes a list from the end; by induction on it, the list has at each place what
-- the step there needs (`ahead-at`), and it reads no word but those of the section.
use Prim.Native.Nat.{ℕ, zero, suc, ◌+◌, ◌*◌, ◌-◌, ◌<◌, ◌≤◌, min, max}
use mathlib.Core.Path.{◌≡◌, refl, sym, ap, ◌∙◌}
use mathlib.Core.Bool.{Bool, true, false, cond}
use mathlib.Core.List.{List}
use mathlib.Core.Logic.{◌⊎◌, inl, inr}
use native.Mathlib.Omega.{arith}
use lib.ListN.{get_or}
use lib.Dec.{ltb}
use borrow.Author.Tests.{ltb-true, ltb-false}
use Rattle.code.specs.declared.Op.{Op}
use Rattle.code.specs.declared.Op.TheVariants.{Acquire, Release, Assign, Jump, Finish, Unknown}
use Rattle.code.specs.Table.{turns_of}
use Rattle.code.specs.Op.{op_of}
use Rattle.code.specs.Form.{in_place}
use Rattle.code.proofs.Ranges.{turns-most}
use Rattle.base.proofs.Bools.{and_left}
use Rattle.section.specs.Check.{Code}
use Rattle.needs.specs.From.{lesser, larger, onward, ahead, needs_by}

-- ---- which of two ways counts

-- it is one of them
pub lesser-one : (x y : ℕ) → (lesser x y ≡ x) ⊎ (lesser x y ≡ y)
lesser-one x y = by (ltb x y)
  where
    by : (b : Bool) → (cond b x y ≡ x) ⊎ (cond b x y ≡ y)
    by true = inl refl
    by false = inr refl

pub larger-one : (x y : ℕ) → (larger x y ≡ x) ⊎ (larger x y ≡ y)
larger-one x y = by (ltb x y)
  where
    by : (b : Bool) → (cond b y x ≡ x) ⊎ (cond b y x ≡ y)
    by true = inr refl
    by false = inl refl

-- not above either, or not below
pub lesser-least : (x y : ℕ) → (lesser x y ≤ x) × (lesser x y ≤ y)
lesser-least x y = by (ltb x y) refl
  where
    by : (b : Bool) → ltb x y ≡ b → (cond b x y ≤ x) × (cond b x y ≤ y)
    by true e = let h = ltb-true x y e in (omega arith, omega arith)
    by false e = let h = ltb-false x y e in (omega arith, omega arith)

pub larger-most : (x y : ℕ) → (x ≤ larger x y) × (y ≤ larger x y)
larger-most x y = by (ltb x y) refl
  where
    by : (b : Bool) → ltb x y ≡ b → (x ≤ cond b y x) × (y ≤ cond b y x)
    by true e = let h = ltb-true x y e in (omega arith, omega arith)
    by false e = let h = ltb-false x y e in (omega arith, omega arith)

-- they are the library's
pub lesser-min : (x y : ℕ) → min x y ≡ lesser x y
lesser-min x y = by (ltb x y) refl
  where
    by : (b : Bool) → ltb x y ≡ b → min x y ≡ cond b x y
    by true e = let h = ltb-true x y e in omega arith
    by false e = let h = ltb-false x y e in omega arith

pub larger-max : (x y : ℕ) → max x y ≡ larger x y
larger-max x y = by (ltb x y) refl
  where
    by : (b : Bool) → ltb x y ≡ b → max x y ≡ cond b y x
    by true e = let h = ltb-true x y e in omega arith
    by false e = let h = ltb-false x y e in omega arith

-- ---- a section of n steps, and either of the two

-- the turns of the steps behind step i, where its instruction is x and f those from each step on
abbrev pub behind : (ℕ → ℕ → ℕ) → (ℕ → ℕ) → ℕ → Op → ℕ
behind pick f i (Acquire a) = f (suc i)
behind pick f i (Release a) = f (suc i)
behind pick f i (Assign a e) = f (suc i)
behind pick f i (Jump a b) = pick (f (suc i)) (f b)
behind pick f i Finish = f (suc i)
behind pick f i Unknown = f (suc i)

module _ (pick : ℕ → ℕ → ℕ) (n : ℕ) (code : Code) where
  -- behind the last step nothing is needed
  pub needs-end : (i : ℕ) → n ≤ i → needs_by pick n code i ≡ 0
  unfolding needs_by ahead
  needs-end i h = let e : n - i ≡ 0 = omega arith in rw e

  private-first : (k : ℕ) → suc k ≤ n → get_or (ahead pick n code (suc k)) 0 0 ≡ needs_by pick n code (n - suc k + 0)
  unfolding needs_by
  private-first k h = let e : n - (n - suc k + 0) ≡ suc k = omega arith in rw e

  private-step : (i : ℕ) → i < n → needs_by pick n code i ≡ turns_of (code i) + onward pick i (op_of (code i)) (ahead pick n code (n - suc i))
  unfolding needs_by ahead
  private-step i l =
      let e : n - i ≡ suc (n - suc i) = omega arith in
      let f : n - suc (n - suc i) ≡ i = omega arith in
      rw (e, f)

  -- of the list for the last k steps, place j is for step n - k + j
  pub ahead-at : (k j : ℕ) → k ≤ n → get_or (ahead pick n code k) j 0 ≡ needs_by pick n code (n - k + j)
  unfolding ahead
  ahead-at zero j h = sym (needs-end (n - 0 + j) (omega arith))
  ahead-at (suc k) zero h = private-first k h
  ahead-at (suc k) (suc j) h =
      let e : n - suc k + suc j ≡ n - k + j = omega arith in
      rw e (ahead-at k j (omega arith))

  private-onward : (i k : ℕ) (x : Op) → i + suc k ≡ n → in_place n i x ≡ true → onward pick i x (ahead pick n code k) ≡ behind pick (needs_by pick n code) i x
  private-onward i k x q p =
      let first : get_or (ahead pick n code k) 0 0 ≡ needs_by pick n code (suc i) =
      let e : n - k + 0 ≡ suc i = omega arith in
      ahead-at k 0 (omega arith) ∙ ap (needs_by pick n code) e
      in
      by x first p
    where
      by : (y : Op) → get_or (ahead pick n code k) 0 0 ≡ needs_by pick n code (suc i) → in_place n i y ≡ true
          → onward pick i y (ahead pick n code k) ≡ behind pick (needs_by pick n code) i y
      by (Acquire a) f p = f
      by (Release a) f p = f
      by (Assign a e) f p = f
      by (Jump a b) f p =
          let l : i < b = ltb-true i b (and_left (ltb i b) (ltb b n) p) in
          let e : n - k + (b - suc i) ≡ b = omega arith in
          let g : get_or (ahead pick n code k) (b - suc i) 0 ≡ needs_by pick n code b = ahead-at k (b - suc i) (omega arith) ∙ ap (needs_by pick n code) e in
          rw (f, g)
      by Finish f p = f
      by Unknown f p = f

  -- the turns of its instruction, and what is behind it
  pub unrolled : (i : ℕ) → i < n → in_place n i (op_of (code i)) ≡ true
      → needs_by pick n code i ≡ turns_of (code i) + behind pick (needs_by pick n code) i (op_of (code i))
  unrolled i l p = private-step i l ∙ ap (λ (s : ℕ). turns_of (code i) + s) (private-onward i (n - suc i) (op_of (code i)) (omega arith) p)

  -- ---- at most six turns a step

  module _ (least : (x y m : ℕ) → x ≤ m → y ≤ m → pick x y ≤ m) where
    private-behind : (i m : ℕ) (x : Op) (l : List ℕ) → ((j : ℕ) → get_or l j 0 ≤ m) → onward pick i x l ≤ m
    private-behind i m (Acquire a) l h = h 0
    private-behind i m (Release a) l h = h 0
    private-behind i m (Assign a e) l h = h 0
    private-behind i m (Jump a b) l h = least _ _ m (h 0) (h (b - suc i))
    private-behind i m Finish l h = h 0
    private-behind i m Unknown l h = h 0

    ahead-most : (k j : ℕ) → get_or (ahead pick n code k) j 0 ≤ 6 * k
    unfolding ahead
    ahead-most zero j = omega arith
    ahead-most (suc k) zero =
        let i = n - suc k in
        let t = turns-most (code i) in
        let b = private-behind i (6 * k) (op_of (code i)) (ahead pick n code k) (ahead-most k) in
        omega (arith, t, b)
    ahead-most (suc k) (suc j) = let h = ahead-most k j in omega (arith, h)

    pub needs-most : (i : ℕ) → needs_by pick n code i ≤ 6 * (n - i)
    unfolding needs_by
    needs-most i = ahead-most (n - i) 0

pub fewest-most : (n : ℕ) (code : Code) (i : ℕ) → needs_by lesser n code i ≤ 6 * (n - i)
fewest-most n code i = needs-most lesser n code (λ x y m p q. let h = (lesser-least x y).0 in omega (arith, h)) i

pub most-most : (n : ℕ) (code : Code) (i : ℕ) → needs_by larger n code i ≤ 6 * (n - i)
most-most n code i = needs-most larger n code (λ x y m p q. by x y m p q (larger-one x y)) i
  where
    by : (x y m : ℕ) → x ≤ m → y ≤ m → (larger x y ≡ x) ⊎ (larger x y ≡ y) → larger x y ≤ m
    by x y m p q (inl e) = rw e p
    by x y m p q (inr e) = rw e q

-- ---- no word past the section is read

private-same : (pick : ℕ → ℕ → ℕ) (n : ℕ) (code code' : Code) → ((j : ℕ) → j < n → code j ≡ code' j) → (k : ℕ) → k ≤ n
    → ahead pick n code k ≡ ahead pick n code' k
unfolding ahead
private-same pick n code code' s zero h = refl
private-same pick n code code' s (suc k) h = rw (s (n - suc k) (omega arith), private-same pick n code code' s k (omega arith))

pub needs-cong : (pick : ℕ → ℕ → ℕ) (n : ℕ) (code code' : Code) → ((j : ℕ) → j < n → code j ≡ code' j) → (i : ℕ)
    → needs_by pick n code i ≡ needs_by pick n code' i
unfolding needs_by
needs-cong pick n code code' s i = ap (λ (l : List ℕ). get_or l 0 0) (private-same pick n code code' s (n - i) (omega arith))
