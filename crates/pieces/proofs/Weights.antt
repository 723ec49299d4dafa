-- Each piece leaves fewer pieces than there were (`piece-less`): a turn, one of the line's turns; a turn of a round or its end, one of the ten that each of the
-- line's rounds has; a printed store, one of the repair's slots; a new line has 65,535 turns or rounds at most, four digits' worth, and takes a byte of input.
use Prim.Native.Nat.{ℕ, zero, suc, ◌+◌, ◌-◌, ◌*◌, ◌<◌, ◌≤◌}
use mathlib.Core.Path.{◌≡◌, refl, sym, ap}
use mathlib.Core.Bool.{Bool, true, false, cond, ◌&&◌}
use mathlib.Core.List.{List}
use native.Mathlib.Omega.{arith}
use borrow.Author.Tests.{ltb-true}
use lib.ListN.{length}
use lib.Dec.{ltb, leb, eqb}
use Rattle.std.proofs.Common.{Some, None, Ok, Err}
use Rattle.image.specs.Image.{Image}
use Rattle.working.specs.declared.Cursors.{Cursors}
use Rattle.turn.specs.Call.{outcome, answer_of}
use Rattle.turn.specs.declared.Answer.{Answer as TurnAnswer}
use Rattle.turn.specs.declared.Answer.TheVariants.{Stored, Passed, Waiting, Idle, Refused as TurnRefused}
use Rattle.run.specs.Round.{next_worker, next_outcome}
use Rattle.run.proofs.Next.{next-above}
use Rattle.soundness.specs.Answer.{Answer}
use Rattle.recovery.specs.Recovery.{recovery}
use Rattle.recovery.specs.Recover.{answer_of as recovery_answer}
use Rattle.edition.specs.Edition.{mark, own_words}
use Rattle.frames.specs.declared.Frame.{Frame}
use Rattle.frames.specs.declared.Frame.TheVariants.{Submit, Turns as TurnsFrame, Recover, Rounds as RoundsFrame, Malformed}
use Rattle.frames.specs.Line.{Opening, first_of, frame_of}
use Rattle.frames.proofs.Frames.{times_in, times-most}
use Rattle.lines.specs.declared.Job.{Job}
use Rattle.lines.specs.declared.Job.TheVariants.{Turns, Rounds, Stores, Next, Stop}
use Rattle.lines.specs.declared.Played.{Played}
use Rattle.lines.specs.Play.{Stage, uncut, goes_on, makes, turn_stage, round_job, round_stage, slot_stage, print_job, begin_frame, go_on, go_on_job}
use Rattle.buffers.specs.Input.{line_of}
use Rattle.stages.specs.Begun.{format_stage, fresh, ended, opened, line_on}
use Rattle.pieces.specs.Pieces.{Point, ready_for, ready, piece_for, piece, job_pieces, pieces_left}
use Rattle.lines.proofs.Few.{next-few}
use Rattle.buffers.proofs.Lines.{rest-less}

-- ---- a line begun

print-most : (a : Answer) → job_pieces (print_job a) ≤ 655360
print-most (Ok tt) = omega arith
print-most (Err r) = omega arith

begin-most : (m : Image) (c : Cursors) (l : List ℕ) (f : Frame) → times_in f ≤ 65535 → job_pieces (begin_frame m c l f).played.job ≤ 655360
begin-most m c l (Submit d k) h = omega arith
begin-most m c l (TurnsFrame d k) h = omega arith
begin-most m c l Recover h = print-most (recovery_answer (recovery mark own_words m))
begin-most m c l (RoundsFrame r) h = omega arith
begin-most m c l Malformed h = omega arith

open-most : (o : Opening) → job_pieces (opened o).played.job ≤ 655360
unfolding format_stage fresh ended
open-most None = omega arith
open-most (Some D) = by (leb 1 D && leb D 8) refl
  where
    by : (t : Bool) → (leb 1 D && leb D 8) ≡ t → job_pieces (opened (Some D)).played.job ≤ 655360
    by true e = rw e (omega arith)
    by false e = rw e (omega arith)

line-most : (s : Stage) (l : List ℕ) → job_pieces (line_on s l).played.job ≤ 655360
unfolding line_on
line-most s l = by (eqb (length s.image) 0) refl
  where
    by : (t : Bool) → eqb (length s.image) 0 ≡ t → job_pieces (line_on s l).played.job ≤ 655360
    by true e = rw e (open-most (first_of l))
    by false e = rw e (begin-most s.image s.played.cursors l (frame_of l) (times-most l))

-- ---- a line gone on with

turns-less : (t : Bool) (d k : ℕ) → job_pieces (cond t (Turns d k) Next) < suc k + 1
turns-less true d k = omega arith
turns-less false d k = omega arith

turn-less : (m : Image) (p : Played) (d k : ℕ) → job_pieces (turn_stage m p d k).played.job < k + 1
unfolding turn_stage
turn-less m p d zero = omega arith
turn-less m p d (suc k) = turns-less (goes_on (answer_of own_words (outcome mark own_words (uncut m p.cursors) d))) d k

-- a turn of a round, by its answer, made by worker e, the first open one from d on: below the eighth where it is made
round-job-less : (a : TurnAnswer) (d e r : ℕ) → d ≤ e → (makes a ≡ true → e < 8) → job_pieces (round_job a d e (suc r)) < 10 * suc r + (9 - d) + 1
round-job-less (Stored i) d e r h f = omega (arith, f refl)
round-job-less (Passed why) d e r h f = omega (arith, f refl)
round-job-less (Waiting b) d e r h f = omega (arith, f refl)
round-job-less Idle d e r h f = by (eqb d 0)
  where
    by : (t : Bool) → job_pieces (cond t Next (Rounds 0 (suc r - 1))) < 10 * suc r + (9 - d) + 1
    by true = omega arith
    by false = omega arith
round-job-less (TurnRefused x) d e r h f = omega arith

round-less : (m : Image) (p : Played) (d r : ℕ) → job_pieces (round_stage m p d r).played.job < 10 * r + (9 - d) + 1
unfolding round_stage
round-less m p d zero = omega arith
round-less m p d (suc r) =
    let w = uncut m p.cursors in
    round-job-less (answer_of own_words (next_outcome mark own_words w d)) d (next_worker mark own_words w d) r (next-above mark own_words w d)
    (next-few mark own_words w d)

slot-less : (m : Image) (p : Played) (i : ℕ) → job_pieces (slot_stage m p i).played.job < 592 - i + 1
unfolding slot_stage
slot-less m p i = by (ltb i 592) refl
  where
    by : (t : Bool) → ltb i 592 ≡ t → job_pieces (slot_stage m p i).played.job < 592 - i + 1
    by true e = rw e (omega (arith, ltb-true i 592 e))
    by false e = rw e (omega arith)

-- ---- a piece

module _ (more : Bool) (q : Point) where
  private-on : (j : Job) → q.stage.played.job ≡ j → (go_on_job q.stage.image q.stage.played j).played.job ≡ (go_on q.stage).played.job
  private-on j e = ap (λ (i : Job). (go_on_job q.stage.image q.stage.played i).played.job) (sym e)

  private-less : (j : Job) → q.stage.played.job ≡ j → ready_for more q.input j ≡ true
      → pieces_left (piece_for more q j) < 655361 * length q.input + job_pieces j
  private-less (Turns w k) e r =
      omega (arith, turn-less q.stage.image q.stage.played w k, ap job_pieces (private-on (Turns w k) e))
  private-less (Rounds d r) e o =
      omega (arith, round-less q.stage.image q.stage.played d r, ap job_pieces (private-on (Rounds d r) e))
  private-less (Stores i) e r =
      omega (arith, slot-less q.stage.image q.stage.played i, ap job_pieces (private-on (Stores i) e))
  private-less Next e r =
      rw r (omega (arith, rest-less more q.input r, line-most q.stage (line_of q.input)))
  private-less Stop e r = cc

  pub piece-less : ready more q ≡ true → pieces_left (piece more q) < pieces_left q
  piece-less r = private-less q.stage.played.job refl r

  private-none : (j : Job) → ready_for more q.input j ≡ false → piece_for more q j ≡ q
  private-none (Turns w k) r = cc
  private-none (Rounds d k) r = cc
  private-none (Stores i) r = cc
  private-none Next r = rw r
  private-none Stop r = refl

  -- where there is none to be made, nothing changes
  pub piece-none : ready more q ≡ false → piece more q ≡ q
  piece-none r = private-none q.stage.played.job r
