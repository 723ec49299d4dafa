-- What the check says of a section while its worker is busy is what a submit answers when it is idle, whatever was called and cut in between.
-- (Document 02, 6/14: the verdict before the desk is free.)
use Rattle.std.specs.Prelude.{ℕ, ◌≡◌, false, cond, List, ltb, Err}
use Rattle.image.specs.Image.{Image, workers}
use Rattle.working.specs.declared.Refusal.TheVariants.{Worker, Busy, Number}
use Rattle.working.specs.Cursor.{is_idle, cursor_at}
use Rattle.intake.specs.Submit.{Submitted, verdict_answer, submit_answer}
use Rattle.intake.specs.Split.{verdict_of}
use Rattle.claims.specs.Calls.{Traced, ends_cut}
use Rattle.claims.specs.Claims.{Always, after}
use Rattle.told.specs.Once.{finished_of}

-- mark: word 0 of an image; n: own words in a record
module _ (mark n : ℕ) where
  -- from an image m to a world w: there is no such worker, it is not idle, the number is not above its finished one, or what the check says
  abbrev pub answered : Image → Traced → ℕ → ℕ → List ℕ → Submitted
  answered m w d k ws =
      cond (ltb d (workers m))
      (cond (is_idle (cursor_at w.world.cursors d))
      (cond (ltb (finished_of mark n w d) k) (verdict_answer (verdict_of n ws)) (Err Number))
      (Err Busy))
      (Err Worker)

  -- so a submit answers after any list of calls and cuts whose last call is not cut
  unfoldable pub VerdictsHold : Type 0
  VerdictsHold =
      Always mark n (λ m xs.
      ends_cut false xs ≡ false
      → (d k : ℕ) (ws : List ℕ) → submit_answer mark n (after mark n m xs).world d k ws ≡ answered m (after mark n m xs) d k ws)
