-- A submit in two operations (document 02, 6/14): the check of a section alone, which asks for no image and stores nothing (`check` in
-- section/specs/Check.antt), and the load, which tests causes 10, 1, 2, 3 and then does that very check. The load is `submit_answer` and
-- `submit_leaves`, which were there before the two were told apart.
use Rattle.std.specs.Prelude.{ℕ, ◌≡◌, true, false, cond, List, length, ltb, Ok, Err}
use Rattle.image.specs.declared.Field.TheVariants.{Finished}
use Rattle.image.specs.Place.{field}
use Rattle.image.specs.Image.{at, workers, header_ok}
use Rattle.section.specs.Check.{Verdict, code_of, check, passes, cause_of, step_of}
use Rattle.working.specs.declared.Refusal.TheVariants.{Worker, Busy, Number as NumberRefused, Image as ImageRefused}
use Rattle.working.specs.World.{World}
use Rattle.intake.specs.Submit.{Submitted, verdict_answer, is_taken, free, submit_answer, submit_leaves}
use Rattle.intake.specs.Codes.{submit_code, submit_detail}

-- causes 10, 1, 2, 3 by themselves: taken, as far as they go. They ask for no section
unfoldable pub before_check : ℕ → ℕ → World → ℕ → ℕ → Submitted
before_check mark n w d k =
    cond (header_ok mark n w.image)
    (cond (ltb d (workers w.image))
    (cond (free n w d) (cond (ltb (at n w.image (field Finished d)) k) (Ok tt) (Err NumberRefused)) (Err Busy))
    (Err Worker))
    (Err ImageRefused)

-- what the check alone says of the words of a section; n: own words in a record
abbrev pub verdict_of : ℕ → List ℕ → Verdict
verdict_of n ws = check n (length ws) (code_of ws)

-- an answer, where it is taken the next
abbrev pub where_taken : Submitted → Submitted → Submitted
where_taken (Ok u) a = a
where_taken (Err r) a = Err r

-- mark: word 0 of an image
module _ (mark n : ℕ) where
  pub record Split (w : World) (d k : ℕ) (args ws : List ℕ) : Type 0 where
    -- a submit answers by those causes, and behind them what the check says
    pub divides : submit_answer mark n w d k ws ≡ where_taken (before_check mark n w d k) (verdict_answer (verdict_of n ws))
    -- refused by them, it answers the same to every section
    pub before : is_taken (before_check mark n w d k) ≡ false → (vs : List ℕ) → submit_answer mark n w d k ws ≡ submit_answer mark n w d k vs
    -- behind them its number and step are the check's
    pub cause : is_taken (before_check mark n w d k) ≡ true → submit_code (submit_answer mark n w d k ws) ≡ cause_of (verdict_of n ws)
    pub step : is_taken (before_check mark n w d k) ≡ true → submit_detail (submit_answer mark n w d k ws) ≡ step_of (verdict_of n ws)
    -- what does not pass the check is stored nowhere
    pub kept : passes (verdict_of n ws) ≡ false → submit_leaves n w d k args ws (submit_answer mark n w d k ws) ≡ w

  -- in any world
  unfoldable pub SubmitsSplit : Type 0
  SubmitsSplit = (w : World) (d k : ℕ) (args ws : List ℕ) → Split w d k args ws
