-- The number of each case of the answer: 0 for done, for a refusal document 01's cause.
use Rattle.std.specs.Prelude.{ℕ, Ok, Err}
use Rattle.working.specs.Refusal.{cause_of}
use Rattle.formatting.specs.Format.{Formatted}

abbrev pub format_code : Formatted → ℕ
format_code (Ok u) = 0
format_code (Err r) = cause_of r
