-- What is printed for an answer. (Document 01: each store of a turn or recovery; a refusal. Document 02, 1/14: what
-- a release found.)
use Rattle.std.specs.Prelude.{ℕ, Some, None, Result, Ok, Err, get_or}
use Rattle.image.specs.Image.{Image}
use Rattle.intake.specs.Submit.{Submitted}
use Rattle.worklog.specs.declared.Passing.{Passing}
use Rattle.worklog.specs.declared.Passing.TheVariants.{Jump, AlreadyFree, Others}
use Rattle.turn.specs.declared.Answer.{Answer}
use Rattle.turn.specs.declared.Answer.TheVariants.{Stored, Passed, Waiting, Idle, Refused as TurnRefused}
use Rattle.working.specs.Refusal.{cause_of}
use Rattle.soundness.specs.Answer.{Answer as Recovery}
use Rattle.soundness.specs.Codes.{cause_of as recovery_cause}
use Rattle.repair.specs.Repair.{Slot}
use Rattle.frames.specs.Print.{Printed, line, refusal, report}

-- of what is made nothing more, else why it is refused, by its number
abbrev pub answer_prints : {E : Type 0} → (E → ℕ) → Result Unit E → Printed
answer_prints cause (Ok x) = None
answer_prints cause (Err r) = refusal (cause r)

-- a submit's own stores are not printed
abbrev pub submit_prints : Submitted → Printed
submit_prints a = answer_prints cause_of a

-- a turn that passed: what a release found; of a jump nothing is printed
abbrev pub pass_prints : Passing → Printed
pass_prints Jump = None
pass_prints AlreadyFree = report 0
pass_prints Others = report 1

-- a turn's store, with the word that then stands in the image
abbrev pub turn_prints : Image → Answer → Printed
turn_prints m (Stored i) = line i (get_or m i 0)
turn_prints m (Passed why) = pass_prints why
turn_prints m (Waiting b) = None
turn_prints m Idle = None
turn_prints m (TurnRefused r) = refusal (cause_of r)

abbrev pub recover_prints : Recovery → Printed
recover_prints a = answer_prints recovery_cause a

abbrev pub slot_prints : Slot → Printed
slot_prints None = None
slot_prints (Some w) = line w.at w.value
