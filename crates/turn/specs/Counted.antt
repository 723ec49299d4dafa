-- What a turn adds to the tally of a run, by its answer.
use Rattle.tally.specs.declared.Tally.{Tally}
use Rattle.tally.specs.Tally.{with_stored, with_jump, with_already_free, with_others, with_waiting}
use Rattle.worklog.specs.declared.Passing.TheVariants.{Jump, AlreadyFree, Others}
use Rattle.turn.specs.declared.Answer.{Answer}
use Rattle.turn.specs.declared.Answer.TheVariants.{Stored, Passed, Waiting, Idle, Refused}

-- a turn of an idle worker is none, and a refused one is not counted
abbrev pub counted : Answer → Tally → Tally
counted (Stored i) t = with_stored t
counted (Passed Jump) t = with_jump t
counted (Passed AlreadyFree) t = with_already_free t
counted (Passed Others) t = with_others t
counted (Waiting b) t = with_waiting t
counted Idle t = t
counted (Refused r) t = t
