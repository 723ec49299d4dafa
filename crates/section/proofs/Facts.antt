-- The check, both ways: a section passes if and only if it is valid. First what a pass says of each step; then, for a section
-- that passes, each part of validity from the tests of the steps, and for a valid section each test of a step, by cases on
-- its instruction. Further: the check reads only the section's own words, and what a valid section holds.
use Prim.Native.Nat.{ℕ, zero, suc, ◌+◌, ◌-◌, ◌/◌, ◌^◌, ◌<◌, ◌≤◌}
use Rattle.std.proofs.Common.{Ok, Err}
use mathlib.Core.Path.{◌≡◌, refl, sym, ap, subst, ◌∙◌}
use mathlib.Core.Bool.{Bool, true, false, cond, ◌&&◌, not, false≢true, and-eq-true_iff}
use native.Mathlib.Omega.{arith}
use lib.Dec.{leb, ltb, eqb}
use borrow.Author.Tests.{leb-true, eqb-true, eqb-false, le-leb, lt-ltb, eq-eqb, ne_eqb}
use Rattle.mask.specs.Mask.{has}
use Rattle.mask.proofs.Sets.{above-none}
use Rattle.code.specs.declared.Expr.{Expr}
use Rattle.code.specs.declared.Op.{Op}
use Rattle.code.specs.declared.Op.TheVariants.{Acquire, Release, Assign, Jump, Finish, Unknown}
use Rattle.section.specs.declared.Fault.TheVariants.{Length, Malformed}
use Rattle.code.specs.Op.{op_of, is_finish}
use Rattle.rules.specs.Rules.{covered, covered_in, begins, goes_on, bracketed, ordered, guarded}
use Rattle.section.specs.Check.{Verdict, Code, held_before, level, or_else, first_of, form_of, in_turn, use_of, check, passes}
use Rattle.code.specs.Form.{in_range, in_place, well_formed}
use Rattle.section.specs.Valid.{Valid}
use Rattle.code.proofs.Ranges.{known}
use Rattle.section.proofs.Steps.{place-jump, place-last, begins-acquire, holds-nothing, bracketed-later, form-cong, use-cong}
use Rattle.section.proofs.First.{or-pass, or-cong, first-all, all_first, first_cong}

-- ---- one step

private-form : (b : Bool) (i : ℕ) → passes (cond b (Ok tt) (Err (Malformed i))) ≡ true → b ≡ true
private-form true i e = refl
private-form false i e = e

pub form-pass : (own n : ℕ) (code : Code) (i : ℕ) → form_of own n code i ≡ Ok tt → well_formed own n i (code i) ≡ true
unfolding form_of
form-pass own n code i e = private-form (well_formed own n i (code i)) i (ap passes e)

pub pass-form : (own n : ℕ) (code : Code) (i : ℕ) → well_formed own n i (code i) ≡ true → form_of own n code i ≡ Ok tt
unfolding form_of
pass-form own n code i e = rw e

private-use : (i : ℕ) (p q r s : Bool) → in_turn i p q r s ≡ Ok tt → (p ≡ true) × (q ≡ true) × (r ≡ true) × (s ≡ true)
private-use i true true true true e = (refl, refl, refl, refl)
private-use i true true true false e = (refl, refl, refl, (cc))
private-use i true true false s e = (refl, refl, (cc), (cc))
private-use i true false r s e = (refl, (cc), (cc), (cc))
private-use i false q r s e = ((cc), (cc), (cc), (cc))

private-used : (i : ℕ) (p q r s : Bool) → p ≡ true → q ≡ true → r ≡ true → s ≡ true → in_turn i p q r s ≡ Ok tt
private-used i p q r s a b c d = rw (a, b, c, d)

pub use-pass : (code : Code) (i : ℕ) → use_of code i ≡ Ok tt
    → (bracketed i (held_before code i) (op_of (code i)) ≡ true) × (ordered (held_before code i) (op_of (code i)) ≡ true) ×
    (guarded (held_before code i) (op_of (code i)) ≡ true) × (level code (held_before code i) (op_of (code i)) ≡ true)
unfolding use_of
use-pass code i e =
    let h = held_before code i in
    let x = op_of (code i) in
    private-use i (bracketed i h x) (ordered h x) (guarded h x) (level code h x) e

pub pass-use : (code : Code) (i : ℕ) → bracketed i (held_before code i) (op_of (code i)) ≡ true → ordered (held_before code i) (op_of (code i)) ≡ true
    → guarded (held_before code i) (op_of (code i)) ≡ true → level code (held_before code i) (op_of (code i)) ≡ true → use_of code i ≡ Ok tt
unfolding use_of
pass-use code i a b c d =
    let h = held_before code i in
    let x = op_of (code i) in
    private-used i (bracketed i h x) (ordered h x) (guarded h x) (level code h x) a b c d

-- ---- all steps

private-length : (b : Bool) (v : Verdict) → cond b v (Err Length) ≡ Ok tt → (b ≡ true) × (v ≡ Ok tt)
private-length true v e = (refl, e)
private-length false v e = ((cc), (cc))

pub check-parts : (own n : ℕ) (code : Code) → check own n code ≡ Ok tt
    → (3 ≤ n) × (n ≤ 64) × ((i : ℕ) → i < n → well_formed own n i (code i) ≡ true) × ((i : ℕ) → i < n → use_of code i ≡ Ok tt)
unfolding check
check-parts own n code e =
    let forms = first_of (form_of own n code) 0 n in
    let uses = first_of (use_of code) 0 n in
    let (b, v) = private-length (leb 3 n && leb n 64) (or_else forms uses) e in
    let (l, m) = (and-eq-true_iff (leb 3 n) (leb n 64)).0 b in
    let (f, u) = or-pass forms uses v in (
      leb-true 3 n l,
      leb-true n 64 m,
      λ i h. form-pass own n code i (first-all (form_of own n code) 0 n f i (omega arith) (omega arith)),
      λ i h. first-all (use_of code) 0 n u i (omega arith) (omega arith),
    )

pub parts-check : (own n : ℕ) (code : Code) → 3 ≤ n → n ≤ 64 → ((i : ℕ) → i < n → well_formed own n i (code i) ≡ true)
    → ((i : ℕ) → i < n → use_of code i ≡ Ok tt) → check own n code ≡ Ok tt
unfolding check
parts-check own n code l m f u =
    let forms : first_of (form_of own n code) 0 n ≡ Ok tt = all_first (form_of own n code) 0 n (λ i a b. pass-form own n code i (f i (omega arith))) in
    let uses : first_of (use_of code) 0 n ≡ Ok tt = all_first (use_of code) 0 n (λ i a b. u i (omega arith)) in
    rw (le-leb 3 n l, le-leb n 64 m, forms, uses)

-- ---- a section that passes is valid

module _ (own n : ℕ) (code : Code) (p : check own n code ≡ Ok tt) where
  step_range : (i : ℕ) → i < n → in_range own (code i) ≡ true
  unfolding well_formed
  step_range i l = ((and-eq-true_iff (in_range own (code i)) (in_place n i (op_of (code i)))).0 ((check-parts own n code p).2 i l)).0

  step-place : (i : ℕ) (x : Op) → i < n → op_of (code i) ≡ x → in_place n i x ≡ true
  unfolding well_formed
  step-place i x l o =
      subst (λ (y : Op). in_place n i y ≡ true) o
      ((and-eq-true_iff (in_range own (code i)) (in_place n i (op_of (code i)))).0 ((check-parts own n code p).2 i l)).1

  step-uses : (i : ℕ) (x : Op) → i < n → op_of (code i) ≡ x
      → (bracketed i (held_before code i) x ≡ true) × (ordered (held_before code i) x ≡ true) × (guarded (held_before code i) x ≡ true) ×
      (level code (held_before code i) x ≡ true)
  step-uses i x l o =
      let h = held_before code i in
      let u = use-pass code i ((check-parts own n code p).3 i l) in (
        subst (λ (y : Op). bracketed i h y ≡ true) o u.0,
        subst (λ (y : Op). ordered h y ≡ true) o u.1,
        subst (λ (y : Op). guarded h y ≡ true) o u.2,
        subst (λ (y : Op). level code h y ≡ true) o u.3,
      )

  step-goes-on : (i : ℕ) (x : Op) → i < n → 0 < i → op_of (code i) ≡ x → goes_on (held_before code i) x ≡ true
  step-goes-on i x l b o = sym (bracketed-later i (held_before code i) x b) ∙ (step-uses i x l o).0

  private-last : op_of (code (n - 1)) ≡ Finish
  private-last =
      let l : 3 ≤ n = (check-parts own n code p).0 in
      place-last n (n - 1) (op_of (code (n - 1))) (step-place (n - 1) (op_of (code (n - 1))) (omega arith) refl) (omega arith)

  private-free : held_before code (n - 1) ≡ 0
  private-free =
      let l : 3 ≤ n = (check-parts own n code p).0 in
      eqb-true (held_before code (n - 1)) 0 (step-goes-on (n - 1) Finish (omega arith) (omega arith) private-last)

  private-only : (i : ℕ) → i < n → op_of (code i) ≡ Finish → i + 1 ≡ n
  private-only i l o = eqb-true (i + 1) n (step-place i Finish l o)

  private-holding : (i : ℕ) → 0 < i → i + 1 < n → held_before code i ≡ 0 → ⊥
  private-holding i b l q =
      let x = op_of (code i) in
      let o : op_of (code i) ≡ Finish = holds-nothing (held_before code i) x (step-goes-on i x (omega arith) b refl) q in
      let e : i + 1 ≡ n = private-only i (omega arith) o in
      omega arith

  private-target : (i a : ℕ) (e : Expr) → i < n → op_of (code i) ≡ Assign a e
      → (covered (held_before code i) a ≡ true) × (covered_in (held_before code i) e ≡ true)
  private-target i a e l o =
      let h = held_before code i in
      (and-eq-true_iff (covered h a) (covered_in h e)).0 (step-uses i (Assign a e) l o).2

  private-jumps : (i a b : ℕ) → i < n → op_of (code i) ≡ Jump a b → (i < b) × (b < n) × (held_before code b ≡ held_before code i)
  private-jumps i a b l o =
      let j = place-jump n i a b (step-place i (Jump a b) l o) in
      (j.0, j.1, eqb-true (held_before code b) (held_before code i) (step-uses i (Jump a b) l o).3)

pub passed-valid : (own n : ℕ) (code : Code) → check own n code ≡ Ok tt → Valid own n code
passed-valid own n code p =
    let l : 3 ≤ n = (check-parts own n code p).0 in
    record {
      least = l;
      most = (check-parts own n code p).1;
      ranges = step_range own n code p;
      first = begins-acquire (op_of (code 0)) (step-uses own n code p 0 (op_of (code 0)) (omega arith) refl).0;
      last = private-last own n code p;
      only-last = private-only own n code p;
      ends-free = private-free own n code p;
      holding = private-holding own n code p;
      acquires = λ i a h o. eqb-true (held_before code i / 2 ^ a) 0 (step-uses own n code p i (Acquire a) h o).1;
      releases = λ i a h o. (step-uses own n code p i (Release a) h o).1;
      targets = λ i a e h o. (private-target own n code p i a e h o).0;
      operands = λ i a e h o. (private-target own n code p i a e h o).1;
      tests = λ i a b h o. (step-uses own n code p i (Jump a b) h o).2;
      jumps = private-jumps own n code p;
    }

-- ---- a valid section passes

module _ (own n : ℕ) (code : Code) (v : Valid own n code) where
  valid-inner : (i : ℕ) (x : Op) → i < n → op_of (code i) ≡ x → is_finish x ≡ false → i + 1 < n
  valid-inner i x l o f = by (eqb (i + 1) n) refl
    where
      by : (b : Bool) → eqb (i + 1) n ≡ b → i + 1 < n
      by true e =
          let q : i ≡ n - 1 = omega (arith, eqb-true (i + 1) n e) in
          let z : op_of (code i) ≡ Finish = rw q v.last in
          absurd (false≢true (sym f ∙ ap is_finish (sym o ∙ z)))
      by false e = let q : (i + 1 ≡ n) → ⊥ = eqb-false (i + 1) n e in omega arith

  valid-place : (i : ℕ) (x : Op) → i < n → op_of (code i) ≡ x → in_place n i x ≡ true
  valid-place i (Acquire a) l o = lt-ltb (i + 1) n (valid-inner i (Acquire a) l o refl)
  valid-place i (Release a) l o = lt-ltb (i + 1) n (valid-inner i (Release a) l o refl)
  valid-place i (Assign a e) l o = lt-ltb (i + 1) n (valid-inner i (Assign a e) l o refl)
  valid-place i (Jump a b) l o = let j = v.jumps i a b l o in (and-eq-true_iff (ltb i b) (ltb b n)).1 (lt-ltb i b j.0, lt-ltb b n j.1)
  valid-place i Finish l o = eq-eqb (i + 1) n (v.only-last i l o)
  valid-place i Unknown l o = absurd (known own (code i) (v.ranges i l) o)

  private-holds : (i : ℕ) (x : Op) → i < n → 0 < i → op_of (code i) ≡ x → is_finish x ≡ false → not (eqb (held_before code i) 0) ≡ true
  private-holds i x l b o f = ap not (ne_eqb (held_before code i) 0 (v.holding i b (valid-inner i x l o f)))

  valid-goes-on : (i : ℕ) (x : Op) → i < n → 0 < i → op_of (code i) ≡ x → goes_on (held_before code i) x ≡ true
  valid-goes-on i (Acquire a) l b o = private-holds i (Acquire a) l b o refl
  valid-goes-on i (Release a) l b o = private-holds i (Release a) l b o refl
  valid-goes-on i (Assign a e) l b o = private-holds i (Assign a e) l b o refl
  valid-goes-on i (Jump a c) l b o = private-holds i (Jump a c) l b o refl
  valid-goes-on i Finish l b o =
      let q : i ≡ n - 1 = omega (arith, v.only-last i l o) in
      eq-eqb (held_before code i) 0 (rw q v.ends-free)
  valid-goes-on i Unknown l b o = absurd (known own (code i) (v.ranges i l) o)

  valid-bracketed : (i : ℕ) → i < n → bracketed i (held_before code i) (op_of (code i)) ≡ true
  valid-bracketed zero l = ap begins v.first.1
  valid-bracketed (suc i) l =
      let h = held_before code (suc i) in
      let x = op_of (code (suc i)) in
      bracketed-later (suc i) h x (omega arith) ∙ valid-goes-on (suc i) x l (omega arith) refl

  valid-ordered : (i : ℕ) (x : Op) → i < n → op_of (code i) ≡ x → ordered (held_before code i) x ≡ true
  valid-ordered i (Acquire a) l o = eq-eqb (held_before code i / 2 ^ a) 0 (v.acquires i a l o)
  valid-ordered i (Release a) l o = v.releases i a l o
  valid-ordered i (Assign a e) l o = refl
  valid-ordered i (Jump a b) l o = refl
  valid-ordered i Finish l o = refl
  valid-ordered i Unknown l o = refl

  valid-guarded : (i : ℕ) (x : Op) → i < n → op_of (code i) ≡ x → guarded (held_before code i) x ≡ true
  valid-guarded i (Acquire a) l o = refl
  valid-guarded i (Release a) l o = refl
  valid-guarded i (Assign a e) l o =
      let h = held_before code i in
      (and-eq-true_iff (covered h a) (covered_in h e)).1 (v.targets i a e l o, v.operands i a e l o)
  valid-guarded i (Jump a b) l o = v.tests i a b l o
  valid-guarded i Finish l o = refl
  valid-guarded i Unknown l o = refl

  valid-level : (i : ℕ) (x : Op) → i < n → op_of (code i) ≡ x → level code (held_before code i) x ≡ true
  valid-level i (Acquire a) l o = refl
  valid-level i (Release a) l o = refl
  valid-level i (Assign a e) l o = refl
  valid-level i (Jump a b) l o = eq-eqb (held_before code b) (held_before code i) (v.jumps i a b l o).2
  valid-level i Finish l o = refl
  valid-level i Unknown l o = refl

  valid-form : (i : ℕ) → i < n → well_formed own n i (code i) ≡ true
  unfolding well_formed
  valid-form i l =
      let x = op_of (code i) in
      (and-eq-true_iff (in_range own (code i)) (in_place n i x)).1 (v.ranges i l, valid-place i x l refl)

  valid-use : (i : ℕ) → i < n → use_of code i ≡ Ok tt
  valid-use i l =
      let x = op_of (code i) in
      pass-use code i (valid-bracketed i l) (valid-ordered i x l refl) (valid-guarded i x l refl) (valid-level i x l refl)

pub valid-passed : (own n : ℕ) (code : Code) → Valid own n code → check own n code ≡ Ok tt
valid-passed own n code v = parts-check own n code v.least v.most (valid-form own n code v) (valid-use own n code v)

-- ---- the check reads no word past the section

pub check-cong : (own n : ℕ) (code code' : Code) → ((j : ℕ) → j < n → code j ≡ code' j) → check own n code ≡ check own n code'
unfolding check
check-cong own n code code' s =
    let forms : first_of (form_of own n code) 0 n ≡ first_of (form_of own n code') 0 n = first_cong (form_of own n code) (form_of own n code') 0 n
    (λ i a b. form-cong own n i code code' (s i (omega arith))) in
    let step : first_of (form_of own n code) 0 n ≡ Ok tt → (i : ℕ) → i < n → use_of code i ≡ use_of code' i =
    λ f i l. use-cong own n i code code' s l (form-pass own n code i (first-all (form_of own n code) 0 n f i (omega arith) (omega arith)))
    in
    let uses : first_of (form_of own n code) 0 n ≡ Ok tt → first_of (use_of code) 0 n ≡ first_of (use_of code') 0 n =
    λ f. first_cong (use_of code) (use_of code') 0 n (λ i a b. step f i (omega arith))
    in
    let both = or-cong (first_of (form_of own n code) 0 n) (first_of (use_of code) 0 n) (first_of (use_of code') 0 n) uses in
    ap
    (λ (u : Verdict). cond (leb 3 n && leb n 64) u (Err Length))
    (both ∙ ap (λ (u : Verdict). or_else u (first_of (use_of code') 0 n)) forms)

-- ---- what a valid section holds

-- an acquire finds nothing held from its lock up
pub acquire-above : (own n : ℕ) (code : Code) (i a : ℕ) → Valid own n code → i < n → op_of (code i) ≡ Acquire a → (c : ℕ) → a ≤ c
    → has (held_before code i) c ≡ false
acquire-above own n code i a v l o c h = above-none (held_before code i) a (v.acquires i a l o) c h

pub acquire-free : (own n : ℕ) (code : Code) (i a : ℕ) → Valid own n code → i < n → op_of (code i) ≡ Acquire a → has (held_before code i) a ≡ false
acquire-free own n code i a v l o = acquire-above own n code i a v l o a (omega arith)
