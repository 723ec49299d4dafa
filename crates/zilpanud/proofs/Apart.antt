-- Causes and other answers lie apart: whatever the call, a refusal returns a number below 32, and an answer other than 0 and the causes one of 32 or
-- more. Turns have such answers (`turning-apart`) and runs whose rounds are spent (`running-apart`); every other call returns 0 or a cause.
use Prim.Native.Nat.{ℕ, ◌<◌}
use mathlib.Core.Path.{◌≡◌}
use mathlib.Core.Bool.{Bool, true, false, cond, not, ◌&&◌}
use mathlib.Core.List.{List, [], ◌∷◌}
use native.Mathlib.Omega.{arith}
use lib.ListN.{length}
use lib.Dec.{eqb, leb, ltb}
use Rattle.std.specs.Prelude.{Some, None, Ok, Err}
use Rattle.image.specs.Image.{Image, workers, header_ok}
use Rattle.section.specs.Check.{Verdict, cause_of as check_cause}
use Rattle.working.specs.declared.Cursors.{Cursors}
use Rattle.working.specs.Cursor.{all_idle}
use Rattle.working.specs.World.{World}
use Rattle.formatting.specs.Format.{Formatted}
use Rattle.formatting.specs.Codes.{format_code}
use Rattle.intake.specs.Submit.{Submitted}
use Rattle.intake.specs.Codes.{submit_code}
use Rattle.asking.specs.Asking.{ask_code as asked}
use Rattle.turn.specs.Call.{is_refused}
use Rattle.turn.specs.Codes.{turn_code}
use Rattle.turn.proofs.Apart.{fault-below, cause-below, turn-apart}
use Rattle.run.specs.Codes.{end_code}
use Rattle.run.proofs.Apart.{is_spent, end-apart}
use Rattle.soundness.specs.declared.Refusal.TheVariants.{Image as NotAnImage, Record, Lock}
use Rattle.soundness.specs.Answer.{Answer as Recovery}
use Rattle.soundness.specs.Codes.{recover_code}
use Rattle.needs.specs.declared.Refusal.TheVariants.{Image as LeftImage, Worker, Record as LeftRecord}
use Rattle.needs.specs.Path.{Along}
use Rattle.needs.specs.From.{Needed}
use Rattle.needs.specs.Left.{Left}
use Rattle.needs.specs.Codes.{along_code, needed_code, left_code}
use Rattle.edition.specs.Edition.{mark, own_words}
use Rattle.buffers.specs.Input.{lines_of}
use Rattle.frames.specs.declared.Frame.{Frame}
use Rattle.frames.specs.declared.Frame.TheVariants.{Submit, Turns, Recover, Rounds, Malformed}
use Rattle.frames.specs.Line.{Opening, first_of, frame_of}
use Rattle.stages.specs.Lines.{Line, line_whole, first_whole, whole_line, Reading, lines_whole}
use Rattle.sums.specs.Day.{day_reading}
use Rattle.zilpanud.specs.Lent.{turning, running}
use Rattle.zilpanud.specs.Ask.{ask_code}

-- ---- turns and runs

pub turning-apart : (w : World) (d : ℕ) → is_refused (turning w d) ≡ ltb (turn_code (turning w d)) 32
turning-apart w d = turn-apart (turning w d)

pub running-apart : (w : World) (rounds : ℕ) → is_spent (running w rounds).end ≡ not (ltb (end_code (running w rounds).end) 32)
running-apart w rounds = end-apart (running w rounds).end

-- ---- calls that are done or refused

-- the check, and the pass over the held sets
pub verdict-below : (v : Verdict) → check_cause v < 32
verdict-below (Ok u) = omega arith
verdict-below (Err f) = fault-below f

pub format-below : (a : Formatted) → format_code a < 32
format-below (Ok u) = omega arith
format-below (Err r) = cause-below r

pub submit-below : (a : Submitted) → submit_code a < 32
submit-below (Ok u) = omega arith
submit-below (Err r) = cause-below r

pub recover-below : (a : Recovery) → recover_code a < 32
recover-below (Ok u) = omega arith
recover-below (Err NotAnImage) = omega arith
recover-below (Err (Record d)) = omega arith
recover-below (Err (Lock b)) = omega arith

-- ---- questions

pub path-below : (a : Along) → along_code a < 32
path-below (Ok t) = omega arith
path-below (Err f) = fault-below f

pub needs-below : (a : Needed) → needed_code a < 32
needs-below (Ok s) = omega arith
needs-below (Err f) = fault-below f

pub left_below : (a : Left) → left_code a < 32
left_below (Ok s) = omega arith
left_below (Err LeftImage) = omega arith
left_below (Err Worker) = omega arith
left_below (Err LeftRecord) = omega arith

pub ask-below : (m : Image) (d : ℕ) → ask_code m d < 32
unfolding asked
ask-below m d = by (header_ok mark own_words m) (ltb d (workers m))
  where
    by : (a b : Bool) → cond a (cond b 0 1) 10 < 32
    by true true = omega arith
    by true false = omega arith
    by false b = omega arith

-- ---- a recorded day

private-line : (b : Bool) (x y : Line) → x.ends < 32 → y.ends < 32 → (cond b x y).ends < 32
private-line true x y g h = g
private-line false x y g h = h

private-reading : (b : Bool) (x y : Reading) → x.ends < 32 → y.ends < 32 → (cond b x y).ends < 32
private-reading true x y g h = g
private-reading false x y g h = h

private-first : (o : Opening) → (first_whole o).ends < 32
private-first None = omega arith
private-first (Some D) = private-line (leb 1 D && leb D 8) _ _ (omega arith) (omega arith)

private-later : (m : Image) (c : Cursors) (l : List ℕ) (f : Frame) → (line_whole m c l f).ends < 32
private-later m c l (Submit d k) = omega arith
private-later m c l (Turns d k) = omega arith
private-later m c l Recover = omega arith
private-later m c l (Rounds r) = omega arith
private-later m c l Malformed = omega arith

private-whole : (m : Image) (c : Cursors) (l : List ℕ) → (whole_line m c l).ends < 32
unfolding whole_line
private-whole m c l = private-line (eqb (length m) 0) _ _ (private-first (first_of l)) (private-later m c l (frame_of l))

private-lines : (ls : List (List ℕ)) (m : Image) (c : Cursors) → (lines_whole ls m c).ends < 32
unfolding lines_whole
private-lines [] m c = omega arith
private-lines (l ∷ ls) m c =
    let x = whole_line m c l in
    private-reading (eqb x.ends 0) _ _ (private-lines ls x.output.image x.output.cursors) (private-whole m c l)

pub day-below : (bytes : List ℕ) → (day_reading bytes).ends < 32
day-below bytes = private-lines (lines_of bytes) [] all_idle
