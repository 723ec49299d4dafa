-- The number and the value of each case of the answer: 0 for taken; for a refusal document 01's cause, with the step that goes
-- with it, and 0 where there is none.
use Rattle.std.specs.Prelude.{ℕ, Ok, Err}
use Rattle.working.specs.Refusal.{cause_of, value_of}
use Rattle.intake.specs.Submit.{Submitted}

abbrev pub submit_code : Submitted → ℕ
submit_code (Ok u) = 0
submit_code (Err r) = cause_of r

abbrev pub submit_detail : Submitted → ℕ
submit_detail (Ok u) = 0
submit_detail (Err r) = value_of r
