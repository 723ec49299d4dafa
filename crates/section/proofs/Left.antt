-- What is left in an array of held sets: one step after the other, and by the answer of a check.
use Prim.Native.Nat.{ℕ, zero, suc, ◌+◌, ◌<◌, ◌≤◌}
use Rattle.std.proofs.Common.{Ok, Err}
use mathlib.Core.Path.{◌≡◌, refl, sym, ap, ◌∙◌}
use mathlib.Core.Bool.{Bool, true, false}
use mathlib.Core.List.{List}
use native.Mathlib.Omega.{arith}
use native.Mathlib.Decide.{ℕ_discrete, dec_lt}
use lib.ListN.{length, get_or, set}
use lib.Seq.{get_or-set_same, get_or-set_other}
use borrow.Author.Tests.{lt-ltb, le-ltb}
use Rattle.code.specs.Op.{op_of}
use Rattle.rules.specs.Rules.{bracketed, ordered, guarded}
use Rattle.section.specs.Check.{Verdict, Code, held_before, level, or_else, first_of, in_turn, use_of, check, passes}
use Rattle.section.specs.Inner.Pass.{reached, held_to, held_left}
use Rattle.section.proofs.Passing.{passed_is}

-- ---- step by step

module _ (code before : Code) (j : ℕ) where
  -- a step that is passed has its held set
  pub held_to_lem : (k : ℕ) → j < k → held_to k code before j ≡ held_before code j
  held_to_lem k h = rw (lt-ltb j k h)

  -- past them all is as it was
  pub held-past-to : (k : ℕ) → k ≤ j → held_to k code before j ≡ before j
  held-past-to k h = rw (le-ltb j k h)

-- one more step
pub set_next :
    (code before : Code) (l : List ℕ) (i v : ℕ) → i < length l → v ≡ held_before code i → ((j : ℕ) → get_or l j 0 ≡ held_to i code before j)
    → (j : ℕ) → get_or (set l i v) j 0 ≡ held_to (i + 1) code before j
set_next code before l i v h e below j = by (ℕ_discrete j i) (dec_lt j i)
  where
    by : Dec (j ≡ i) → Dec (j < i) → get_or (set l i v) j 0 ≡ held_to (i + 1) code before j
    by (yes p) _ = rw p (get_or-set_same l i v 0 h ∙ (e ∙ sym (held_to_lem code before i (i + 1) (omega arith))))
    by (no p) (yes q) = get_or-set_other l i j v 0 p ∙ (below j ∙ (held_to_lem code before j i q ∙ sym (held_to_lem code before j (i + 1) (omega arith))))
    by (no p) (no q) =
        get_or-set_other l i j v 0 p ∙ (below j ∙ (held-past-to code before j i (omega arith) ∙ sym (held-past-to code before j (i + 1) (omega arith))))

-- ---- by the answer

private-judged : (n i : ℕ) (p q r s : Bool) → reached n (in_turn i p q r s) ≡ n
private-judged n i false q r s = refl
private-judged n i true false r s = refl
private-judged n i true true false s = refl
private-judged n i true true true false = refl
private-judged n i true true true true = refl

private-or : (n : ℕ) (v u : Verdict) → reached n v ≡ n → reached n u ≡ n → reached n (or_else v u) ≡ n
private-or n (Ok t) u g h = h
private-or n (Err f) u g h = g

private-use : (n : ℕ) (code : Code) (i : ℕ) → reached n (use_of code i) ≡ n
unfolding use_of
private-use n code i =
    let h = held_before code i in
    let x = op_of (code i) in
    private-judged n i (bracketed i h x) (ordered h x) (guarded h x) (level code h x)

-- where a step fails causes 6 to 9, or none fails any, all are passed
pub uses-reach : (n : ℕ) (code : Code) (i k : ℕ) → reached n (first_of (use_of code) i k) ≡ n
unfolding first_of
uses-reach n code i zero = refl
uses-reach n code i (suc k) = private-or n (use_of code i) (first_of (use_of code) (i + 1) k) (private-use n code i) (uses-reach n code (i + 1) k)

module _ (own n : ℕ) (code before : Code) (j : ℕ) where
  pub left_by : {k : ℕ} → k ≡ reached n (check own n code) → held_to k code before j ≡ held_left own n code before j
  unfolding held_left
  left_by e = ap (λ (k : ℕ). held_to k code before j) e

  -- a section that passes has the held set before each of its steps
  pub left_passed : passes (check own n code) ≡ true → j < n → held_left own n code before j ≡ held_before code j
  left_passed p h = sym (left_by (ap (reached n) (sym (passed_is (check own n code) p)))) ∙ held_to_lem code before j n h
