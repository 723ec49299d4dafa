-- A submit is two operations: its tests before the check, which are the first four of its definition, and the check. By the cases of those four.
use Prim.Native.Nat.{ℕ}
use mathlib.Core.Path.{◌≡◌, refl, ap, sym, ◌∙◌}
use mathlib.Core.Bool.{Bool, true, false, cond, true≢false, false≢true}
use mathlib.Core.List.{List}
use lib.Dec.{ltb}
use Rattle.std.specs.Prelude.{Ok, Err}
use Rattle.image.specs.declared.Field.TheVariants.{Finished}
use Rattle.image.specs.Place.{field}
use Rattle.image.specs.Image.{at, workers, header_ok}
use Rattle.section.specs.Check.{Verdict, cause_of, step_of}
use Rattle.working.specs.declared.Refusal.TheVariants.{Worker, Busy, Number as NumberRefused, Image as ImageRefused}
use Rattle.working.specs.World.{World}
use Rattle.intake.specs.Submit.{Submitted, verdict_answer, is_taken, free, submit_answer}
use Rattle.intake.specs.Codes.{submit_code, submit_detail}
use Rattle.intake.specs.Split.{before_check, where_taken, verdict_of, SubmitsSplit}
use Rattle.intake.proofs.Submission.{verdict-taken, leaves-refused}

-- four tests and then an answer: the tests by themselves, and where none fails the answer
tests-first :
    (a b c e : Bool) (x : Submitted)
    → cond a (cond b (cond c (cond e x (Err NumberRefused)) (Err Busy)) (Err Worker)) (Err ImageRefused)
    ≡ where_taken (cond a (cond b (cond c (cond e (Ok tt) (Err NumberRefused)) (Err Busy)) (Err Worker)) (Err ImageRefused)) x
tests-first true true true true x = refl
tests-first true true true false x = refl
tests-first true true false e x = refl
tests-first true false c e x = refl
tests-first false b c e x = refl

-- the check's numbers are the answer's
pub verdict-cause : (v : Verdict) → submit_code (verdict_answer v) ≡ cause_of v
verdict-cause (Ok tt) = refl
verdict-cause (Err f) = refl

verdict-step : (v : Verdict) → submit_detail (verdict_answer v) ≡ step_of v
verdict-step (Ok tt) = refl
verdict-step (Err f) = refl

-- refused is refused, whatever comes behind; taken is what comes behind
refused-first : (a x : Submitted) → is_taken a ≡ false → where_taken a x ≡ a
refused-first (Ok tt) x h = absurd (true≢false h)
refused-first (Err r) x h = refl

taken-first : (a x : Submitted) → is_taken a ≡ true → where_taken a x ≡ x
taken-first (Ok tt) x h = refl
taken-first (Err r) x h = absurd (false≢true h)

refused-behind : (a x : Submitted) → is_taken x ≡ false → is_taken (where_taken a x) ≡ false
refused-behind (Ok tt) x h = h
refused-behind (Err r) x h = refl

module _ (mark n : ℕ) where
  pub submit_divides :
      (w : World) (d k : ℕ) (ws : List ℕ) → submit_answer mark n w d k ws ≡ where_taken (before_check mark n w d k) (verdict_answer (verdict_of n ws))
  unfolding submit_answer before_check
  submit_divides w d k ws =
      tests-first (header_ok mark n w.image) (ltb d (workers w.image)) (free n w d) (ltb (at n w.image (field Finished d)) k)
      (verdict_answer (verdict_of n ws))

  -- where they refuse, and where they do not
  pub answers-before :
      (w : World) (d k : ℕ) (ws : List ℕ) → is_taken (before_check mark n w d k) ≡ false → submit_answer mark n w d k ws ≡ before_check mark n w d k
  answers-before w d k ws h = submit_divides w d k ws ∙ refused-first (before_check mark n w d k) (verdict_answer (verdict_of n ws)) h

  pub answers-behind :
      (w : World) (d k : ℕ) (ws : List ℕ) → is_taken (before_check mark n w d k) ≡ true → submit_answer mark n w d k ws ≡ verdict_answer (verdict_of n ws)
  answers-behind w d k ws h = submit_divides w d k ws ∙ taken-first (before_check mark n w d k) (verdict_answer (verdict_of n ws)) h

  pub submits-split : SubmitsSplit mark n
  unfolding SubmitsSplit
  submits-split w d k args ws =
      let v = verdict_of n ws in
      record {
        divides = submit_divides w d k ws;
        before = λ h vs. answers-before w d k ws h ∙ sym (answers-before w d k vs h);
        cause = λ h. ap submit_code (answers-behind w d k ws h) ∙ verdict-cause v;
        step = λ h. ap submit_detail (answers-behind w d k ws h) ∙ verdict-step v;
        kept = λ h.
            leaves-refused n w d k args ws (submit_answer mark n w d k ws)
            (ap is_taken (submit_divides w d k ws) ∙ refused-behind (before_check mark n w d k) (verdict_answer v) (verdict-taken v ∙ h));
      }
