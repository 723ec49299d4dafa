-- The number and the value of each case of an answer: 0 for done, for a refusal document 01's cause, with the worker or the lock that
-- goes with it. A value that is not named is 0.
use Rattle.std.specs.Prelude.{ℕ, Ok, Err}
use Rattle.soundness.specs.declared.Refusal.{Refusal}
use Rattle.soundness.specs.declared.Refusal.TheVariants.{Image, Record, Lock}
use Rattle.soundness.specs.Answer.{Answer}

abbrev pub cause_of : Refusal → ℕ
cause_of Image = 10
cause_of (Record d) = 12
cause_of (Lock b) = 13

abbrev pub value_of : Refusal → ℕ
value_of Image = 0
value_of (Record d) = d
value_of (Lock b) = b

abbrev pub recover_code : Answer → ℕ
recover_code (Ok u) = 0
recover_code (Err r) = cause_of r

abbrev pub recover_detail : Answer → ℕ
recover_detail (Ok u) = 0
recover_detail (Err r) = value_of r
