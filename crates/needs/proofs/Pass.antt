-- What the pass from the end stands on: a section that passes the check may be passed over; a step's turns and what counts of the two steps that it
-- leads to, looked up, are what it needs (`summed`); and an array that is filled from the end.
use Rattle.std.proofs.Common.{Ok, Err}
use Prim.Native.Nat.{ℕ, zero, suc, ◌+◌, ◌<◌, ◌≤◌, min, max}
use mathlib.Core.Path.{◌≡◌, refl, sym, ap, ◌∙◌}
use mathlib.Core.Bool.{Bool, true, false, cond, false≢true}
use mathlib.Core.List.{List}
use native.Mathlib.Omega.{arith}
use native.Mathlib.Decide.{ℕ_discrete}
use lib.ListN.{length, get_or, set, replicate}
use lib.Seq.{get_or-set_same, get_or-set_other}
use lib.Dec.{ltb}
use borrow.Author.Tests.{ltb-true, lt-ltb, le-ltb}
use Rattle.base.proofs.Bools.{and_left, and_right}
use Rattle.code.specs.declared.Op.{Op}
use Rattle.code.specs.declared.Op.TheVariants.{Acquire, Release, Assign, Jump, Finish, Unknown}
use Rattle.code.specs.Table.{turns_of}
use Rattle.code.specs.Op.{op_of}
use Rattle.code.specs.Form.{in_range, in_place, well_formed}
use Rattle.section.specs.declared.Fault.{Fault}
use Rattle.section.specs.declared.Fault.TheVariants.{Malformed}
use Rattle.section.specs.Check.{Code, code_of, check}
use Rattle.section.proofs.Facts.{check-parts}
use Rattle.needs.specs.declared.Span.{Span}
use Rattle.needs.specs.From.{lesser, larger, needs_by, fewest, most, span, needs_of}
use Rattle.needs.specs.Inner.Pass.{other_step, Passable}
use Rattle.needs.proofs.Unrolled.{behind, unrolled, needs-end, lesser-min, larger-max}

-- ---- a section that passes the check

pub passed-placed : (own n : ℕ) (code : Code) → check own n code ≡ Ok tt → (i : ℕ) → i < n → in_place n i (op_of (code i)) ≡ true
unfolding well_formed
passed-placed own n code p i l = and_right (in_range own (code i)) (in_place n i (op_of (code i))) ((check-parts own n code p).2 i l)

pub passed-passable : (own : ℕ) (words : List ℕ) (from : ℕ) → check own (length words) (code_of words) ≡ Ok tt → from ≤ length words → Passable words from
passed-passable own words from p l =
    record { few = (check-parts own (length words) (code_of words) p).1; placed = passed-placed own (length words) (code_of words) p; inside = l }

-- ---- by the check's answer

module _ (own n : ℕ) (code : Code) (i : ℕ) where
  pub needs-refused : {f : Fault} → check own n code ≡ Err f → Err f ≡ needs_of own n code i
  unfolding needs_of
  needs-refused e = rw e

  module _ (p : check own n code ≡ Ok tt) where
    pub needs-past : n ≤ i → Err (Malformed i) ≡ needs_of own n code i
    unfolding needs_of
    needs-past h = rw (p, le-ltb i n h)

    pub needs-given : {s : Span} → i < n → s ≡ span n code i → Ok s ≡ needs_of own n code i
    unfolding needs_of
    needs-given h e = rw (p, lt-ltb i n h, e)

-- ---- one step

-- the steps that it leads to are behind it, and the end at most
pub other-inside : (n i : ℕ) (x : Op) → i < n → in_place n i x ≡ true → (i < other_step (suc i) x) × (other_step (suc i) x ≤ n)
other-inside n i (Acquire a) l p = (omega arith, l)
other-inside n i (Release a) l p = (omega arith, l)
other-inside n i (Assign a e) l p = (omega arith, l)
other-inside n i (Jump a b) l p =
    let h = ltb-true i b (and_left (ltb i b) (ltb b n) p) in
    let g = ltb-true b n (and_right (ltb i b) (ltb b n) p) in
    (h, omega arith)
other-inside n i Finish l p = (omega arith, l)
other-inside n i Unknown l p = (omega arith, l)

-- the step i at which the code is, with its word w, the step behind it and the other, as it has worked them out
pub record Reached (n : ℕ) (code : Code) (i next w other : ℕ) (x : Op) : Type 0 where
  pub below : i < n
  pub placed : in_place n i (op_of (code i)) ≡ true
  pub after : next ≡ suc i
  pub word : w ≡ code i
  pub op : x ≡ op_of w
  pub leads : other ≡ other_step next x

module _ (n : ℕ) (code : Code) (i next w other : ℕ) (x : Op) (r : Reached n code i next w other x) where
  private-other : other ≡ other_step (suc i) (op_of (code i))
  private-other = r.leads ∙ (ap (λ (y : Op). other_step next y) (r.op ∙ ap op_of r.word) ∙ ap (λ (k : ℕ). other_step k (op_of (code i))) r.after)

  pub reached-other : (next ≤ other) × (other ≤ n)
  reached-other =
      let h = other-inside n i (op_of (code i)) r.below r.placed in
      let e = private-other in
      let a = r.after in
      (omega (arith, h.0, e, a), omega (arith, h.1, e))

module _ (pick : ℕ → ℕ → ℕ) (same : (x : ℕ) → pick x x ≡ x) where
  private-looked : (f : ℕ → ℕ) (i : ℕ) (x : Op) → pick (f (suc i)) (f (other_step (suc i) x)) ≡ behind pick f i x
  private-looked f i (Acquire a) = same (f (suc i))
  private-looked f i (Release a) = same (f (suc i))
  private-looked f i (Assign a e) = same (f (suc i))
  private-looked f i (Jump a b) = refl
  private-looked f i Finish = same (f (suc i))
  private-looked f i Unknown = same (f (suc i))

  -- the step's turns and what counts of the two that are looked up
  pub summed :
      (n : ℕ) (code : Code) (i next w other : ℕ) (x : Op) → Reached n code i next w other x
      → (g : ℕ → ℕ) → ((j : ℕ) → next ≤ j → g j ≡ needs_by pick n code j) → (t v : ℕ) → t ≡ turns_of w → v ≡ pick (g next) (g other)
      → t + v ≡ needs_by pick n code i
  summed n code i next w other x r g known t v turns counts =
      let inside = reached-other n code i next w other x r in
      let a : g next ≡ needs_by pick n code (suc i) = known next (omega arith) ∙ ap (needs_by pick n code) r.after in
      let b : g other ≡ needs_by pick n code (other_step (suc i) (op_of (code i))) =
      known other inside.0 ∙ ap (needs_by pick n code) (private-other n code i next w other x r)
      in
      rw (unrolled pick n code i r.below r.placed, counts, a, b, turns, r.word, private-looked (needs_by pick n code) i (op_of (code i)))

private-same : (b : Bool) (x : ℕ) → cond b x x ≡ x
private-same true x = refl
private-same false x = refl

pub lesser-same : (x : ℕ) → lesser x x ≡ x
lesser-same x = private-same (ltb x x) x

pub larger-same : (x : ℕ) → larger x x ≡ x
larger-same x = private-same (ltb x x) x

-- of spans that are looked up
abbrev pub none : Span
none = record { fewest = 0; most = 0 }

module _
    (n : ℕ) (code : Code) (i next w other : ℕ) (x : Op) (r : Reached n code i next w other x)
    (l : List Span) (known : (j : ℕ) → next ≤ j → get_or l j none ≡ span n code j) (t : ℕ) (turns : t ≡ turns_of w) where
  pub summed-fewest : (v : ℕ) → v ≡ min (get_or l next none).fewest (get_or l other none).fewest → t + v ≡ fewest n code i
  summed-fewest v e =
      summed lesser lesser-same n code i next w other x r (λ j. (get_or l j none).fewest) (λ j h. ap (λ (s : Span). s.fewest) (known j h)) t v turns
      (e ∙ lesser-min (get_or l next none).fewest (get_or l other none).fewest)

  pub summed-most : (v : ℕ) → v ≡ max (get_or l next none).most (get_or l other none).most → t + v ≡ most n code i
  summed-most v e =
      summed larger larger-same n code i next w other x r (λ j. (get_or l j none).most) (λ j h. ap (λ (s : Span). s.most) (known j h)) t v turns
      (e ∙ larger-max (get_or l next none).most (get_or l other none).most)

-- ---- an array that is filled from the end

pub same_at : {A : Type 0} (n j : ℕ) (a : A) → get_or (replicate n a) j a ≡ a
same_at zero j a = refl
same_at (suc n) zero a = refl
same_at (suc n) (suc j) a = same_at n j a

-- behind the last step there is nothing
pub span-end : (n : ℕ) (code : Code) (i : ℕ) → n ≤ i → span n code i ≡ none
span-end n code i h = rw (needs-end lesser n code i h, needs-end larger n code i h)

pub filled-back :
    {A : Type 0} (l : List A) (i next : ℕ) (v d : A) (f : ℕ → A) → i < length l → next ≡ suc i → ((j : ℕ) → next ≤ j → get_or l j d ≡ f j)
    → v ≡ f i → (j : ℕ) → i ≤ j → get_or (set l i v) j d ≡ f j
filled-back l i next v d f h after above e j g = by (ℕ_discrete j i)
  where
    by : Dec (j ≡ i) → get_or (set l i v) j d ≡ f j
    by (yes p) = rw p (get_or-set_same l i v d h ∙ e)
    by (no p) = get_or-set_other l i j v d p ∙ above j (omega arith)
