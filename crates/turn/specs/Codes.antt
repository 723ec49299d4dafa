-- The number and the value of each case of a turn's answer: for a refusal document 01's cause, with the worker that goes with it; for the others a
-- number of ours, with the index of the store, why it passed, or the lock waited for. A value that is not named is 0.
use Rattle.std.specs.Prelude.{ℕ}
use Rattle.working.specs.Refusal.{cause_of, value_of}
use Rattle.worklog.specs.declared.Passing.{Passing}
use Rattle.worklog.specs.declared.Passing.TheVariants.{Jump, AlreadyFree, Others}
use Rattle.turn.specs.declared.Answer.{Answer}
use Rattle.turn.specs.declared.Answer.TheVariants.{Stored, Passed, Waiting, Idle, Refused}

-- ours are from 32 up, and the papers' causes below (proofs/Apart.antt): those of document 02 go on to 19
abbrev pub stored_no : ℕ
stored_no = 32

abbrev pub passed_no : ℕ
passed_no = 33

abbrev pub waiting_no : ℕ
waiting_no = 34

abbrev pub idle_no : ℕ
idle_no = 35

abbrev pub turn_code : Answer → ℕ
turn_code (Stored i) = stored_no
turn_code (Passed why) = passed_no
turn_code (Waiting b) = waiting_no
turn_code Idle = idle_no
turn_code (Refused r) = cause_of r

-- why a turn passed: nothing is reported of a jump
abbrev pub passing_of : Passing → ℕ
passing_of Jump = 0
passing_of AlreadyFree = 1
passing_of Others = 2

-- the index of the store, why it passed, or the lock waited for
abbrev pub turn_detail : Answer → ℕ
turn_detail (Stored i) = i
turn_detail (Passed why) = passing_of why
turn_detail (Waiting b) = b
turn_detail Idle = 0
turn_detail (Refused r) = value_of r
