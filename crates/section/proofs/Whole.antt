-- The whole check by its stages: the pass over the steps, which is the number of steps and then the first step that fails cause 5; and the
-- first that fails causes 6 to 9.
use Prim.Native.Nat.{ℕ, ◌<◌, ◌≤◌}
use Rattle.std.proofs.Common.{Ok, Err}
use mathlib.Core.Path.{◌≡◌, refl, sym, ap, ◌∙◌}
use mathlib.Core.Bool.{Bool, true, false, cond}
use mathlib.Core.List.{List}
use lib.ListN.{length, get_or}
use lib.Dec.{leb}
use borrow.Author.Tests.{leb-true}
use native.Mathlib.Omega.{arith}
use Rattle.section.specs.declared.Fault.TheVariants.{Length}
use Rattle.section.specs.Check.{Verdict, Code, code_of, held_before, or_else, first_of, form_of, use_of, check, passes}
use Rattle.section.specs.Sets.{length_ok, sets_answer}
use Rattle.section.specs.Inner.Pass.{answer_by, Judgeable}
use Rattle.base.proofs.Bools.{and_right}
use Rattle.section.proofs.First.{or_left, or-refused, first-all}
use Rattle.section.proofs.Facts.{form-pass}
use Rattle.section.proofs.Passing.{refused-not, formed-lock, formed-lands}

-- ---- cause 4

pub length_most : (n : ℕ) → length_ok n ≡ true → n ≤ 64
length_most n h = leb-true n 64 (and_right (leb 3 n) (leb n 64) h)

private-behind : (b : Bool) (u v : Verdict) → cond b (or_else u v) (Err Length) ≡ or_else (cond b u (Err Length)) v
private-behind true u v = refl
private-behind false u v = refl

private-bounds : (b : Bool) (u : Verdict) → cond b u (Err Length) ≡ Ok tt → (b ≡ true) × (u ≡ Ok tt)
private-bounds true u e = (refl, e)
private-bounds false u e = ((cc), (cc))

-- ---- the pass

module _ (own n : ℕ) (code : Code) where
  pub sets-length : length_ok n ≡ false → Err Length ≡ sets_answer own n code
  unfolding sets_answer
  sets-length h = rw h

  pub sets-within : length_ok n ≡ true → first_of (form_of own n code) 0 n ≡ sets_answer own n code
  unfolding sets_answer
  sets-within h = rw h

  -- where it is not refused, there are at most 64 steps, and none fails cause 5
  pub sets-passed : Ok tt ≡ sets_answer own n code → (n ≤ 64) × (first_of (form_of own n code) 0 n ≡ Ok tt)
  unfolding sets_answer
  sets-passed e =
      let (b, f) = private-bounds (length_ok n) (first_of (form_of own n code) 0 n) (sym e) in
      (length_most n b, f)

  -- ---- the check

  -- it is the pass and, behind it, causes 6 to 9
  pub check-behind : check own n code ≡ or_else (sets_answer own n code) (first_of (use_of code) 0 n)
  unfolding check sets_answer
  check-behind = private-behind (length_ok n) (first_of (form_of own n code) 0 n) (first_of (use_of code) 0 n)

  -- a refused pass decides
  pub check-refused : {v : Verdict} → v ≡ sets_answer own n code → passes v ≡ false → v ≡ check own n code
  check-refused {v} e h = sym (check-behind ∙ (ap (λ (u : Verdict). or_else u (first_of (use_of code) 0 n)) (sym e) ∙ or-refused v _ (refused-not v h)))

  -- where it is not refused, the others do
  pub check-uses : Ok tt ≡ sets_answer own n code → first_of (use_of code) 0 n ≡ check own n code
  check-uses e = sym (check-behind ∙ or_left (sets_answer own n code) _ (sym e))

  -- ---- either of them

  pub either-refused : (whole : Bool) {v : Verdict} → v ≡ sets_answer own n code → passes v ≡ false → v ≡ answer_by whole own n code
  either-refused true e h = check-refused e h
  either-refused false e h = e

  pub either-pass : {whole : Bool} → whole ≡ false → Ok tt ≡ sets_answer own n code → Ok tt ≡ answer_by whole own n code
  either-pass w e = rw w e

  pub either-uses : {whole : Bool} → whole ≡ true → Ok tt ≡ sets_answer own n code → first_of (use_of code) 0 n ≡ answer_by whole own n code
  either-uses w e = rw w (check-uses e)

-- where the pass is not refused and its held sets are at hand, every step can be judged
pub judgeable :
    (own : ℕ) (ws held : List ℕ) → 64 ≤ length held → Ok tt ≡ sets_answer own (length ws) (code_of ws)
    → ((j : ℕ) → j < length ws → get_or held j 0 ≡ held_before (code_of ws) j) → (i : ℕ) → i < length ws → Judgeable ws held i
judgeable own ws held e p s i g =
    let (l, h) = sets-passed own (length ws) (code_of ws) p in
    let f = form-pass own (length ws) (code_of ws) i (first-all (form_of own (length ws) (code_of ws)) 0 (length ws) h i (omega arith) (omega arith)) in
    record {
      step = g;
      room = omega arith;
      locked = formed-lock own (length ws) i (code_of ws i) f;
      landed = formed-lands own (length ws) i (code_of ws i) f;
      sets = s;
    }
