-- One line played on an image and cursors: what is printed, what is left to do, and what the image then is. A line is begun
-- (`begin`), and gone on with (`go_on`) while turns are to be made or stores to be printed. With it the turns that were made, for the sums of a day.
use Rattle.std.specs.Prelude.{ℕ, zero, suc, ◌+◌, ◌-◌, List, Bool, true, false, None, Ok, Err, cond, ltb, eqb}
use Rattle.image.specs.Image.{Image}
use Rattle.working.specs.declared.Cursors.{Cursors}
use Rattle.turn.specs.declared.Answer.{Answer}
use Rattle.turn.specs.declared.Answer.TheVariants.{Stored, Passed, Waiting, Idle, Refused as TurnRefused}
use Rattle.edition.specs.Edition.{mark, own_words}
use Rattle.plan.specs.Turn.{Outcome}
use Rattle.working.specs.World.{World, world}
use Rattle.turn.specs.Call.{outcome, answer_of, leaves}
use Rattle.run.specs.Round.{next_worker, next_outcome}
use Rattle.intake.specs.Submit.{Submitted, submit_answer, submit_leaves}
use Rattle.repair.specs.declared.Repair.{Repair}
use Rattle.soundness.specs.Answer.{Answer as Recovery}
use Rattle.repair.specs.Repair.{no_repair, slot_at, slot_of}
use Rattle.recovery.specs.Recovery.{Recovered, recovery}
use Rattle.recovery.specs.Recover.{answer_of as recovery_answer, cursors_of, recovery_leaves}
use Rattle.recovery.specs.Repairs.{repair_by}
use Rattle.frames.specs.declared.Frame.{Frame}
use Rattle.frames.specs.declared.Frame.TheVariants.{Submit, Turns, Recover, Rounds, Malformed}
use Rattle.lines.specs.declared.Job.{Job}
use Rattle.lines.specs.declared.Job.TheVariants.{Turns as TurnsLeft, Rounds as RoundsLeft, Stores, Next, Stop}
use Rattle.lines.specs.declared.Made.{Made}
use Rattle.lines.specs.declared.Played.{Played}
use Rattle.frames.specs.Line.{frame_of, arguments_of, steps_part, words_of}
use Rattle.frames.specs.Print.{Printed, malformed, refusal}
use Rattle.lines.specs.Answers.{submit_prints, turn_prints, recover_prints, slot_prints}

-- an image with where the playing of a line on it stands
pub record Stage : Type 0 where
  pub image : Image
  pub played : Played

abbrev pub stage : Image → Played → Stage
stage m p = record { image = m; played = p }

abbrev pub made : ℕ → Answer → ℕ → Made
made d a k = record { worker = d; answer = a; times = k }

abbrev pub no_turn : Made
no_turn = made 0 Idle 0

abbrev pub played : Cursors → Printed → Job → Repair → Made → Played
played c p j r t = record { cursors = c; printed = p; job = j; repair = r; made = t }

-- no line is cut: a call is given all the stores there are
abbrev pub uncut : Image → Cursors → World
uncut m c = world m c 18446744073709551615

-- ---- 01

abbrev pub submitted : World → Submitted → Stage
submitted w a = stage w.image (played w.cursors (submit_prints a) Next no_repair no_turn)

abbrev pub submit_stage : Image → Cursors → List ℕ → ℕ → ℕ → Stage
submit_stage m c l d k =
    let a = submit_answer mark own_words (uncut m c) d k (words_of (steps_part l)) in
    submitted (submit_leaves own_words (uncut m c) d k (arguments_of l) (words_of (steps_part l)) a) a

-- ---- 02

-- after a turn with this answer the next one may do more; a refused one ends the line, and after one that waits or is idle
-- all that follow would be the same
abbrev pub goes_on : Answer → Bool
goes_on (Stored i) = true
goes_on (Passed why) = true
goes_on (Waiting b) = false
goes_on Idle = false
goes_on (TurnRefused r) = false

-- so many turns of worker d, by the first one's answer: it alone, or all of them at once, where all would answer the same
abbrev pub turns_made : Answer → ℕ → ℕ → Made
turns_made (Stored i) d k = made d (Stored i) 1
turns_made (Passed why) d k = made d (Passed why) 1
turns_made (Waiting b) d k = made d (Waiting b) k
turns_made Idle d k = made d Idle k
turns_made (TurnRefused r) d k = made d (TurnRefused r) 0

abbrev pub turned : World → Answer → ℕ → ℕ → Repair → Stage
turned w a d k r =
    stage w.image (played w.cursors (turn_prints w.image a) (cond (goes_on a) (TurnsLeft d k) Next) r (turns_made a d (suc k)))

-- what a turn with this outcome leaves, with k more to make
abbrev pub turned_by : Image → Cursors → ℕ → ℕ → Repair → Outcome → Stage
turned_by m c d k r o = turned (leaves own_words (uncut m c) d o) (answer_of own_words o) d k r

-- the first of so many turns of worker d
unfoldable pub turn_stage : Image → Played → ℕ → ℕ → Stage
turn_stage m p d zero = stage m (played p.cursors None Next p.repair no_turn)
turn_stage m p d (suc k) = turned_by m p.cursors d k p.repair (outcome mark own_words (uncut m p.cursors) d)

-- ---- 03

abbrev pub print_job : Recovery → Job
print_job (Ok x) = Stores 0
print_job (Err r) = Next

abbrev pub recovered : Image → Recovered → Stage
recovered m g =
    stage (recovery_leaves own_words 18446744073709551615 m g)
    (played (cursors_of g) (recover_prints (recovery_answer g)) (print_job (recovery_answer g)) (repair_by own_words m g) no_turn)

-- the store of a slot is printed; a repair has 592 slots
unfoldable pub slot_stage : Image → Played → ℕ → Stage
slot_stage m p i =
    cond (ltb i 592) (stage m (played p.cursors (slot_prints (slot_of own_words (slot_at p.repair i))) (Stores (i + 1)) p.repair no_turn))
    (stage m (played p.cursors None Next p.repair no_turn))

-- ---- 04

-- a turn with this answer is one of an open worker
abbrev pub makes : Answer → Bool
makes (Stored i) = true
makes (Passed why) = true
makes (Waiting b) = true
makes Idle = false
makes (TurnRefused r) = false

-- what is left after a turn of a round with this answer, made by worker d, the first open one from a worker on: the workers above it; where none was open,
-- the next round, or nothing where none is open at all; a refused turn ends the line
abbrev pub round_job : Answer → ℕ → ℕ → ℕ → Job
round_job (Stored i) from d r = RoundsLeft (d + 1) r
round_job (Passed why) from d r = RoundsLeft (d + 1) r
round_job (Waiting b) from d r = RoundsLeft (d + 1) r
round_job Idle from d r = cond (eqb from 0) Next (RoundsLeft 0 (r - 1))
round_job (TurnRefused e) from d r = Next

abbrev pub round_made : Answer → ℕ → Made
round_made a d = made d a (cond (makes a) 1 0)

abbrev pub lapped : World → Answer → ℕ → ℕ → ℕ → Repair → Stage
lapped w a from d r q = stage w.image (played w.cursors (turn_prints w.image a) (round_job a from d r) q (round_made a d))

-- what a turn of a round with this outcome leaves
abbrev pub lapped_by : Image → Cursors → ℕ → ℕ → ℕ → Repair → Outcome → Stage
lapped_by m c from d r q o = lapped (leaves own_words (uncut m c) d o) (answer_of own_words o) from d r q

-- the next turn of so many rounds, from a worker on
unfoldable pub round_stage : Image → Played → ℕ → ℕ → Stage
round_stage m p from zero = stage m (played p.cursors None Next p.repair no_turn)
round_stage m p from (suc r) =
    let w = uncut m p.cursors in
    lapped_by m p.cursors from (next_worker mark own_words w from) (suc r) p.repair (next_outcome mark own_words w from)

-- ---- a line

abbrev pub begin_frame : Image → Cursors → List ℕ → Frame → Stage
begin_frame m c l (Submit d k) = submit_stage m c l d k
begin_frame m c l (Turns d k) = stage m (played c None (TurnsLeft d k) no_repair no_turn)
begin_frame m c l Recover = recovered m (recovery mark own_words m)
begin_frame m c l (Rounds r) = stage m (played c None (RoundsLeft 0 r) no_repair no_turn)
begin_frame m c l Malformed = stage m (played c (refusal malformed) Stop no_repair no_turn)

abbrev pub begin : Image → Cursors → List ℕ → Stage
begin m c l = begin_frame m c l (frame_of l)

abbrev pub go_on_job : Image → Played → Job → Stage
go_on_job m p (TurnsLeft d k) = turn_stage m p d k
go_on_job m p (RoundsLeft d r) = round_stage m p d r
go_on_job m p (Stores i) = slot_stage m p i
go_on_job m p Next = stage m (played p.cursors None Next p.repair no_turn)
go_on_job m p Stop = stage m (played p.cursors None Stop p.repair no_turn)

abbrev pub go_on : Stage → Stage
go_on s = go_on_job s.image s.played s.played.job

-- whether a line is to be gone on with
abbrev pub is_going : Job → Bool
is_going (TurnsLeft d k) = true
is_going (RoundsLeft d r) = true
is_going (Stores i) = true
is_going Next = false
is_going Stop = false
