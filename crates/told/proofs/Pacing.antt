-- How a worker's passage, read off the events, stands to its paths on the reference machine and to its record. `Anchored`: its sections that are over
-- took just the turns that their paths say, and the path of the one under way ends at the step that the pc names; this a cut leaves. `Paced`: the turns
-- made so far are those of that path and of what the cursor has behind it; so it is while the cursors are known. One lemma for each kind of stride.
use Prim.Native.Nat.{ℕ, suc, ◌+◌, ◌%◌, ◌^◌, ◌<◌}
use mathlib.Core.Path.{◌≡◌, refl, sym, ap, ◌∙◌}
use mathlib.Core.Logic.{◌≢◌}
use mathlib.Core.Bool.{Bool, true, false, cond, ◌||◌}
use mathlib.Core.List.{List, [], ◌∷◌, ◌++◌}
use native.Mathlib.Omega.{arith}
use lib.ListN.{length, get_or}
use lib.Dec.{eqb}
use borrow.Author.Tests.{eq-eqb, ne_eqb}
use Rattle.code.specs.declared.Op.TheVariants.{Finish}
use Rattle.code.specs.Table.{turns_of}
use Rattle.code.specs.Op.{op_of}
use Rattle.section.specs.Check.{Code, code_of}
use Rattle.working.specs.Cursor.{Cursor, idle, on}
use Rattle.needs.specs.Path.{turns_along}
use Rattle.claims.specs.Reference.{Given}
use Rattle.claims.specs.Calls.{nothing}
use Rattle.claims.proofs.Submitting.{on-not-idle}
use Rattle.told.specs.Once.{among}
use Rattle.told.specs.Paths.{Paths}
use Rattle.told.specs.Turns.{Start, first, resumed, Span, span, Now, nowhere, fresh, going, closing, Passage, passage, turned}
use Rattle.told.specs.Turns.{after_step, needed, All}
use Rattle.told.proofs.Resuming.{same_step}
use Rattle.told.proofs.Strides.{is_logged}
use Rattle.told.proofs.WalkTurn.{along-append, all_append}

-- ---- paths

-- where the turns are counted from a step, it is on the path, and its instruction is one that is logged
abbrev pub StartsOn : Code → Start → List ℕ → Type 0
StartsOn code first u = Unit {0}
StartsOn code (resumed r) u = (among r u ≡ true) × (is_logged (op_of (code r)) ≡ true)

among-front : (r : ℕ) (xs ys : List ℕ) → among r xs ≡ true → among r (xs ++ ys) ≡ true
among-front r [] ys h = let z : ◌≡◌ {A = ℕ} 0 1 = cc in absurd (omega arith)
among-front r (x ∷ xs) ys h = by (eqb x r) h (among-front r xs ys)
  where
    by : (b : Bool) → (b || among r xs) ≡ true → (among r xs ≡ true → among r (xs ++ ys) ≡ true) → (b || among r (xs ++ ys)) ≡ true
    by true e f = refl
    by false e f = f e

among-last : (s : ℕ) (xs : List ℕ) → among s (xs ++ (s ∷ [])) ≡ true
among-last s [] = rw (eq-eqb s s refl)
among-last s (x ∷ xs) = by (eqb x s) (among-last s xs)
  where
    by : (b : Bool) → among s (xs ++ (s ∷ [])) ≡ true → (b || among s (xs ++ (s ∷ []))) ≡ true
    by true e = refl
    by false e = e

pub starts_more : (code : Code) (b : Start) (u more : List ℕ) → StartsOn code b u → StartsOn code b (u ++ more)
starts_more code first u more h = tt
starts_more code (resumed r) u more (h, l) = (among-front r u more h, l)

pub starts-last : (code : Code) (s : ℕ) (u : List ℕ) → is_logged (op_of (code s)) ≡ true → StartsOn code (resumed s) (u ++ (s ∷ []))
starts-last code s u l = (among-last s u, l)

-- a path that goes on behind a step of it
pub after_more : (r : ℕ) (xs ys : List ℕ) → among r xs ≡ true → after_step r (xs ++ ys) ≡ after_step r xs ++ ys
after_more r [] ys h = let z : ◌≡◌ {A = ℕ} 0 1 = cc in absurd (omega arith)
after_more r (x ∷ xs) ys h = by (eqb x r) h (after_more r xs ys)
  where
    by :
        (b : Bool) → (b || among r xs) ≡ true → (among r xs ≡ true → after_step r (xs ++ ys) ≡ after_step r xs ++ ys)
        → cond b (xs ++ ys) (after_step r (xs ++ ys)) ≡ cond b xs (after_step r xs) ++ ys
    by true e f = refl
    by false e f = f e

-- nothing is behind the last step
pub after_last : (s : ℕ) (xs : List ℕ) → All (λ i. i < s) xs → after_step s (xs ++ (s ∷ [])) ≡ []
after_last s [] h = rw (eq-eqb s s refl)
after_last s (x ∷ xs) (l, h) = rw (ne_eqb x s (λ e. omega arith)) (after_last s xs h)

pub needed-more : (code : Code) (b : Start) (u more : List ℕ) → StartsOn code b u → needed code b (u ++ more) ≡ needed code b u + turns_along code more
needed-more code first u more h = along-append code u more
needed-more code (resumed r) u more (h, l) = rw (after_more r u more h, along-append code (after_step r u) more) (omega arith)

-- ---- a worker's passage and its paths

-- span x is what the paths P say, of sections begun
abbrev pub Accords : Paths → List Given → Span → Type 0
Accords P mine x =
    (x.which < length mine)
    × (get_or mine x.which nothing ≡ x.section)
    × (x.which < length P.ended)
    × (x.turns ≡ needed (code_of x.section.code) x.start (get_or P.ended x.which []))
    × StartsOn (code_of x.section.code) x.start (get_or P.ended x.which [])

-- pc, count and code: of the worker's record; P: its paths; mine: its sections begun
module _ (pc count : ℕ) (code : Code) (P : Paths) (mine : List Given) where
  pub record Off (ends : ℕ) : Type 0 where
    pub none : pc ≡ 0
    pub under : P.under ≡ []
    pub size : length mine ≡ ends

  pub record Going (g : Given) (b : Start) (s ends : ℕ) : Type 0 where
    pub named : pc % 2 ^ 63 ≡ suc s
    pub coded : (i : ℕ) → i < count → get_or g.code i 0 ≡ code i
    pub before : List ℕ
    pub under : P.under ≡ before ++ (s ∷ [])
    pub rising : All (λ i. i < s) before
    pub logs : is_logged (op_of (get_or g.code s 0)) ≡ true
    pub starts : StartsOn (code_of g.code) b P.under
    pub size : length mine ≡ suc ends
    pub which : get_or mine ends nothing ≡ g

  abbrev pub At : ℕ → Now → Type 0
  At e nowhere = Off e
  At e (fresh g t) = Off e
  At e (going g b s t) = Going g b s e
  At e (closing k g b t) = Off e × Accords P mine (span k g b (suc t))

  pub record Anchored (c : Passage) : Type 0 where
    pub ends : c.ends ≡ length P.ended
    pub at : At c.ends c.now
    pub spans : All (Accords P mine) c.spans

  -- the turns of the section under way, by the cursor and the jumps made since the pc was stored; last: the section last taken
  abbrev pub Paced : ℕ → Given → Cursor → Now → Type 0
  Paced j last c nowhere = c ≡ idle
  Paced j last c (fresh g t) = (c ≡ on 0 t) × (last ≡ g)
  Paced j last c (going g b s t) =
      (i : ℕ) × (u : ℕ) × (c ≡ on i u) × (t + cond (eqb i s) (turns_of (code s)) 0 ≡ needed (code_of g.code) b P.under + j + u)
  Paced j last c (closing k g b t) = (i : ℕ) × (c ≡ on i 2) × (op_of (code i) ≡ Finish)

-- ---- strides within a step

module _ (pc count : ℕ) (code : Code) (P : Paths) (mine : List Given) (j : ℕ) (last : Given) where
  -- any turn leaves the anchor
  pub turned-anchored :
      (e : ℕ) (x : Now) (xs : List Span) → Anchored pc count code P mine (passage e x xs) → Anchored pc count code P mine (turned (passage e x xs) x)
  turned-anchored e nowhere xs a = a
  turned-anchored e (fresh g t) xs a = record { ends = a.ends; at = a.at; spans = a.spans }
  turned-anchored e (going g b s t) xs a = record { ends = a.ends; at = a.at; spans = a.spans }
  turned-anchored e (closing k g b t) xs a =
      record { ends = a.ends; at = a.at.0; spans = all_append (Accords P mine) xs (span k g b (suc t) ∷ []) a.spans (a.at.1, tt) }

  -- one more turn of the same step
  pub within-paced :
      (e : ℕ) (x : Now) (xs : List Span) (i t : ℕ) → (op_of (code i) ≡ Finish → t ≢ 2) → Paced pc count code P mine j last (on i t) x
      → Paced pc count code P mine j last (on i (t + 1)) (turned (passage e x xs) x).now
  within-paced e nowhere xs i t more q = absurd (on-not-idle i t q)
  within-paced e (fresh g u) xs i t more (q, m) = let (f, h) = same_step q in (rw (f, h) (ap (on 0) (omega arith)), m)
  within-paced e (going g b s u) xs i t more (k, v, q, h) =
      let (f, w) = same_step q in
      (i, t + 1, refl, rw f (omega arith))
  within-paced e (closing k g b u) xs i t more (m, q, o) = let (f, h) = same_step q in absurd (more (rw f o) h)

  -- the last turn of the step that the pc names
  pub closes-paced :
      (e : ℕ) (x : Now) (xs : List Span) (s t : ℕ) → pc % 2 ^ 63 ≡ suc s → t + 1 ≡ turns_of (code s) → j ≡ 0 → Anchored pc count code P mine (passage e x xs)
      → Paced pc count code P mine j last (on s t) x → Paced pc count code P mine j last (on (s + 1) 0) (turned (passage e x xs) x).now
  closes-paced e nowhere xs s t n f z a q = absurd (on-not-idle s t q)
  closes-paced e (fresh g u) xs s t n f z a q = let o = a.at.none in absurd (omega arith)
  closes-paced e (going g b r u) xs s t n f z a (k, v, q, h) =
      let m = a.at.named in
      let same : s ≡ r = omega arith in
      let (i, w) = same_step q in
      let here : u + turns_of (code s) ≡ needed (code_of g.code) b P.under + j + v =
      rw (eq-eqb k r (sym i ∙ same), ← same) at h in
      (s + 1, 0, refl, rw (ne_eqb (s + 1) r (λ y. omega arith)) (omega arith))
  closes-paced e (closing k g b u) xs s t n f z a q = let o = a.at.0.none in absurd (omega arith)
