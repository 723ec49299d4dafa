-- What the pass over the steps answers and leaves, by how far it has come; and what the pass by itself leaves, which clears the words from the
-- count up, or where it is refused all of them.
use Prim.Native.Nat.{ℕ, ◌+◌, ◌<◌, ◌≤◌}
use Rattle.std.proofs.Common.{Ok, Err}
use mathlib.Core.Path.{◌≡◌, refl, sym, ap, subst, ◌∙◌}
use mathlib.Core.Bool.{Bool, true, false, cond}
use mathlib.Core.List.{List}
use native.Mathlib.Omega.{arith}
use native.Mathlib.Decide.{dec_lt}
use lib.ListN.{length, get_or, replicate, get_or-eq_default}
use borrow.Rule.Slice.PartMut.{put_mid}
use borrow.Author.Rules.{rules}
use Rattle.std.proofs.lemmas.Grind.{common_steps}
use Rattle.std.proofs.lemmas.List.{places}
use lib.Dec.{ltb}
use borrow.Author.Tests.{lt-ltb, le-ltb}
use Rattle.section.specs.declared.Fault.{Fault}
use Rattle.section.specs.Check.{Verdict, Code, code_of, first_of, form_of, use_of, passes}
use Rattle.section.specs.Sets.{length_ok, sets_answer, held_of, sets_leave}
use Rattle.section.specs.Inner.Pass.{reached, held_to, Judgeable, answer_by, Checked}
use Rattle.section.proofs.Left.{held_to_lem, uses-reach}
use Rattle.section.proofs.Passing.{passed_is}
use Rattle.section.proofs.Whole.{sets-within, sets-passed, either-refused, either-pass, either-uses, judgeable}

-- ---- the check behind it

module _ (own : ℕ) {ws before : List ℕ} {v : Verdict} {held : List ℕ}
    (h : length_ok (length ws) ≡ true)
    (p : Checked (first_of (form_of own (length ws) (code_of ws)) 0 (length ws)) ws before v held) where
  filled-answer : v ≡ sets_answer own (length ws) (code_of ws)
  filled-answer = p.first ∙ sets-within own (length ws) (code_of ws) h

  -- what is refused is refused
  pub filled-refused : (whole : Bool) {x : Fault} → v ≡ Err x → Checked (answer_by whole own (length ws) (code_of ws)) ws before (Err x) held
  filled-refused whole e =
      subst (λ (u : Verdict). Checked (answer_by whole own (length ws) (code_of ws)) ws before u held) e
      (record { first = either-refused own (length ws) (code_of ws) whole filled-answer (ap passes e); sets = p.sets })

  -- else each step has its held set
  filled-to : v ≡ Ok tt → (j : ℕ) → get_or held j 0 ≡ held_to (length ws) (code_of ws) (code_of before) j
  filled-to e j = p.sets j ∙ ap (λ (u : Verdict). held_to (reached (length ws) u) (code_of ws) (code_of before) j) e

  pub filled-judgeable : v ≡ Ok tt → 64 ≤ length held → (i : ℕ) → i < length ws → Judgeable ws held i
  filled-judgeable e r =
      judgeable own ws held r (sym e ∙ filled-answer) (λ j l. filled-to e j ∙ held_to_lem (code_of ws) (code_of before) j (length ws) l)

  pub filled-pass : {whole : Bool} → v ≡ Ok tt → whole ≡ false → Checked (answer_by whole own (length ws) (code_of ws)) ws before (Ok tt) held
  filled-pass e w = record { first = either-pass own (length ws) (code_of ws) w (sym e ∙ filled-answer); sets = filled-to e }

  pub filled-uses :
      {whole : Bool} {u : Verdict} → v ≡ Ok tt → whole ≡ true → u ≡ first_of (use_of (code_of ws)) 0 (length ws)
      → Checked (answer_by whole own (length ws) (code_of ws)) ws before u held
  filled-uses e w q =
      let came = ap (reached (length ws)) q ∙ uses-reach (length ws) (code_of ws) 0 (length ws) in
      record {
        first = q ∙ either-uses own (length ws) (code_of ws) w (sym e ∙ filled-answer);
        sets = λ j. filled-to e j ∙ ap (λ (k : ℕ). held_to k (code_of ws) (code_of before) j) (sym came);
      }

-- ---- by itself

-- word j of an array whose words from place k up are cleared
abbrev pub below : ℕ → Code → ℕ → ℕ
below k before j = cond (ltb j k) (before j) 0

pub cleared : (l : List ℕ) (k m j : ℕ) → k + m ≡ length l → get_or (put_mid k m l (replicate m 0)) j 0 ≡ below k (code_of l) j
cleared l k m j h = by (dec_lt j k) (dec_lt j (length l))
  where
    by : Dec (j < k) → Dec (j < length l) → get_or (put_mid k m l (replicate m 0)) j 0 ≡ below k (code_of l) j
    by (yes q) _ = rw (lt-ltb j k q) (search (rules, places))
    by (no q) (yes r) = rw (le-ltb j k (omega arith)) (search (rules, places))
    by (no q) (no r) = rw (le-ltb j k (omega arith)) (get_or-eq_default (put_mid k m l (replicate m 0)) 0 {n = j} (omega (arith, whole)))
      where
        whole : length (put_mid k m l (replicate m 0)) ≡ length l
        whole = grind (arith, common_steps)

-- the words that are not: as many as there are steps, and where the pass is refused none
abbrev pub kept_of : ℕ → Verdict → ℕ
kept_of n v = cond (passes v) n 0

pub kept_by : (n : ℕ) {k : ℕ} (v : Verdict) (b : Bool) → passes v ≡ b → k ≡ cond b n 0 → k ≡ kept_of n v
kept_by n v b e h = rw e h

module _ (own : ℕ) (ws before : List ℕ) (v : Verdict) (held : List ℕ) (p : Checked (sets_answer own (length ws) (code_of ws)) ws before v held) where
  pub kept_few : kept_of (length ws) v ≤ 64
  kept_few = by (passes v) refl
    where
      by : (b : Bool) → passes v ≡ b → kept_of (length ws) v ≤ 64
      by true e = rw e (sets-passed own (length ws) (code_of ws) (sym (passed_is v e) ∙ p.first)).0
      by false e = rw e (omega arith)

  -- and the others cleared, all are as the pass by itself leaves them
  pub sets-cleared : (j : ℕ) → below (kept_of (length ws) v) (code_of held) j ≡ sets_leave own (length ws) (code_of ws) j
  unfolding sets_leave
  sets-cleared j = rw (← p.first) (by (passes v) refl (dec_lt j (length ws)))
    where
      by : (b : Bool) → passes v ≡ b → Dec (j < length ws)
          → below (kept_of (length ws) v) (code_of held) j ≡ cond (passes v) (held_of (length ws) (code_of ws) j) 0
      by false e _ = rw (e, le-ltb j 0 (omega arith))
      by true e (yes q) =
          let came = ap (λ (u : Verdict). held_to (reached (length ws) u) (code_of ws) (code_of before) j) (passed_is v e) in
          rw (e, lt-ltb j (length ws) q) (p.sets j ∙ (came ∙ held_to_lem (code_of ws) (code_of before) j (length ws) q))
      by true e (no q) = rw (e, le-ltb j (length ws) (omega arith))
