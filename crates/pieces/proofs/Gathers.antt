-- A line gone on with to its end (`gathers`): more pieces allowed than are left change nothing (`gathers-on`, `gathers-rests`), and what a line does in
-- all, begun and gone on with, is what documents 01 and 02 say of it whole (`line-whole`).
use Prim.Native.Nat.{ℕ, zero, suc, ◌+◌, ◌-◌, ◌*◌, ◌≤◌}
use mathlib.Core.Path.{◌≡◌, refl, sym, ap, ◌∙◌}
use mathlib.Core.Bool.{Bool, true, false, ◌&&◌, not}
use mathlib.Core.List.{List, [], append-nil}
use native.Mathlib.Omega.{arith}
use lib.ListN.{length}
use lib.Dec.{eqb, leb}
use Rattle.std.proofs.Common.{Some, None}
use Rattle.image.specs.Image.{Image}
use Rattle.working.specs.declared.Cursors.{Cursors}
use Rattle.repair.specs.declared.Repair.{Repair}
use Rattle.repair.specs.Repair.{no_repair}
use Rattle.recovery.specs.Recovery.{Recovered, accepted, rejected, recovery}
use Rattle.recovery.specs.Recover.{stores_of}
use Rattle.recovery.specs.Repairs.{repair_by}
use Rattle.edition.specs.Edition.{mark, own_words}
use Rattle.frames.specs.declared.Frame.{Frame}
use Rattle.frames.specs.declared.Frame.TheVariants.{Submit, Turns as TurnsFrame, Recover, Rounds as RoundsFrame, Malformed}
use Rattle.frames.specs.Line.{Opening, first_of, frame_of}
use Rattle.frames.specs.Print.{Printed}
use Rattle.lines.specs.declared.Job.{Job}
use Rattle.lines.specs.declared.Job.TheVariants.{Turns, Rounds, Stores, Next, Stop}
use Rattle.lines.specs.declared.Made.{Made}
use Rattle.lines.specs.Play.{Stage, stage, played, no_turn, recovered, begin_frame, is_going, go_on}
use Rattle.lines.specs.Whole.{Output, output, shown, onto, turns_in, pieces, stores_line}
use Rattle.lines.proofs.Whole.{next-rests, turns-whole, recovery-whole}
use Rattle.lines.proofs.WholeRounds.{rounds-whole}
use Rattle.stages.specs.Begun.{fresh, ended, format_stage, opened, line_on}
use Rattle.stages.specs.Lines.{Line, line_whole, first_whole, whole_line}
use Rattle.pieces.specs.Pieces.{job_pieces, ends_of}
use Rattle.pieces.proofs.Runs.{on-less}
use Rattle.pieces.proofs.Stopping.{is_stop}

abbrev pub gathers : Stage → Output
gathers s = pieces (job_pieces s.played.job) s

-- ---- as many pieces as are left

stop-rests : (f : ℕ) (m : Image) (c : Cursors) (x : Printed) (r : Repair) (t : Made) → pieces f (stage m (played c x Stop r t)) ≡ output [] [] m c
unfolding pieces
stop-rests zero m c x r t = refl
stop-rests (suc f) m c x r t = ap (onto None []) (stop-rests f m c None r no_turn)

module _ (s : Stage) where
  abbrev Left : Output
  Left = output [] [] s.image s.played.cursors

  private-job : (f : ℕ) (j : Job) → s.played.job ≡ j
      → pieces f s ≡ pieces f (stage s.image (played s.played.cursors s.played.printed j s.played.repair s.played.made))
  private-job f j e =
      ap (λ (i : Job). pieces f (stage s.image (played s.played.cursors s.played.printed i s.played.repair s.played.made))) e

  private-rests : (f : ℕ) (j : Job) → s.played.job ≡ j → is_going j ≡ false → pieces f s ≡ Left
  private-rests f (Turns d k) e o = cc
  private-rests f (Rounds d r) e o = cc
  private-rests f (Stores i) e o = cc
  private-rests f Next e o = private-job f Next e ∙ next-rests f s.image s.played.cursors _ _ _
  private-rests f Stop e o = private-job f Stop e ∙ stop-rests f s.image s.played.cursors _ _ _

  -- with nothing to be gone on with, nothing more is done
  rests-all : (f : ℕ) → is_going s.played.job ≡ false → pieces f s ≡ Left
  rests-all f o = private-rests f s.played.job refl o

  pub gathers-rests : is_going s.played.job ≡ false → gathers s ≡ Left
  gathers-rests o = rests-all (job_pieces s.played.job) o

some_left : (j : Job) → job_pieces j ≤ 0 → is_going j ≡ false
some_left (Turns d k) h = absurd (omega arith)
some_left (Rounds d r) h = absurd (omega arith)
some_left (Stores i) h = absurd (omega arith)
some_left Next h = refl
some_left Stop h = refl

settled : (f g : ℕ) (s : Stage) → job_pieces s.played.job ≤ f → job_pieces s.played.job ≤ g → pieces f s ≡ pieces g s
unfolding pieces
settled zero g s h k = let o = some_left s.played.job h in rests-all s zero o ∙ sym (rests-all s g o)
settled (suc f) zero s h k = let o = some_left s.played.job k in rests-all s (suc f) o ∙ sym (rests-all s zero o)
settled (suc f) (suc g) s h k = by (is_going s.played.job) refl (λ e. settled f g (go_on s) (omega (arith, on-less s e)) (omega (arith, on-less s e)))
  where
    by : (t : Bool) → is_going s.played.job ≡ t → (is_going s.played.job ≡ true → pieces f (go_on s) ≡ pieces g (go_on s))
        → pieces (suc f) s ≡ pieces (suc g) s
    by true e same = ap (onto (go_on s).played.printed (turns_in (go_on s).played.made)) (same e)
    by false e same = rests-all s (suc f) e ∙ sym (rests-all s (suc g) e)

-- one piece, and the rest
pub gathers-on : (s : Stage) → is_going s.played.job ≡ true
    → gathers s ≡ onto (go_on s).played.printed (turns_in (go_on s).played.made) (gathers (go_on s))
unfolding pieces
gathers-on s e =
    let less = on-less s e in
    let k : job_pieces s.played.job ≡ suc (job_pieces s.played.job - 1) = omega (arith, less) in
    ap (λ (f : ℕ). pieces f s) k
    ∙ ap (onto (go_on s).played.printed (turns_in (go_on s).played.made))
    (settled (job_pieces s.played.job - 1) (job_pieces (go_on s).played.job) (go_on s) (omega (arith, less)) (omega arith))

-- ---- a line, begun and gone on with

-- what is printed when it is begun, and then the rest; and whether, and why, no line follows
pub record Wholly (b : Stage) (x : Line) : Type 0 where
  pub output : onto b.played.printed [] (gathers b) ≡ x.output
  pub ends : ends_of b.played ≡ x.ends
  pub stops : is_stop b.played.job ≡ not (eqb x.ends 0)

-- a line that is over when it is begun
over-whole : (m : Image) (c : Cursors) (x : Printed) → onto x [] (output [] [] m c) ≡ output (shown x) [] m c
over-whole m c x = ap (λ (ps : List Printed). output ps [] m c) (append-nil (shown x))

recover-whole : (m : Image) (g : Recovered) → recovery mark own_words m ≡ g → (c : Cursors) (l : List ℕ) → Wholly (recovered m g) (line_whole m c l Recover)
unfolding pieces
recover-whole m (accepted ss cs) e c l =
    let b = recovered m (accepted ss cs) in record {
      output =
          ap (λ (g : Recovered). pieces 593 (stage b.image (played b.played.cursors None (Stores 0) (repair_by own_words m g) no_turn))) (sym e)
          ∙ recovery-whole 593 m b.image b.played.cursors None no_turn (omega arith)
          ∙ ap (λ (g : Recovered). output (stores_line (stores_of g)) [] b.image b.played.cursors) e
          ∙ rw e;
      ends = refl;
      stops = refl;
    }
recover-whole m (rejected r) e c l =
    record { output = rw e; ends = refl; stops = refl }

frame-whole : (m : Image) (c : Cursors) (l : List ℕ) (f : Frame) → Wholly (begin_frame m c l f) (line_whole m c l f)
unfolding pieces
frame-whole m c l (Submit d k) =
    let b = begin_frame m c l (Submit d k) in
    record { output = over-whole b.image b.played.cursors b.played.printed; ends = refl; stops = refl }
frame-whole m c l (TurnsFrame d k) = record { output = turns-whole k (k + 1) m c d None no_repair no_turn (omega arith); ends = refl; stops = refl }
frame-whole m c l Recover = recover-whole m (recovery mark own_words m) refl c l
frame-whole m c l (RoundsFrame r) =
    record { output = rounds-whole r (10 * r + 9 + 1) m c None no_repair no_turn (omega arith); ends = refl; stops = refl }
frame-whole m c l Malformed = record { output = refl; ends = refl; stops = refl }

first-whole : (o : Opening) → Wholly (opened o) (first_whole o)
unfolding format_stage fresh ended pieces
first-whole None = record { output = refl; ends = refl; stops = refl }
first-whole (Some D) = by (leb 1 D && leb D 8) refl
  where
    by : (t : Bool) → (leb 1 D && leb D 8) ≡ t → Wholly (opened (Some D)) (first_whole (Some D))
    by true e = rw e record { output = refl; ends = refl; stops = refl }
    by false e = rw e record { output = refl; ends = refl; stops = refl }

pub line-whole : (s : Stage) (l : List ℕ) → Wholly (line_on s l) (whole_line s.image s.played.cursors l)
unfolding line_on whole_line
line-whole s l = by (eqb (length s.image) 0) refl
  where
    by : (t : Bool) → eqb (length s.image) 0 ≡ t → Wholly (line_on s l) (whole_line s.image s.played.cursors l)
    by true e = rw e (first-whole (first_of l))
    by false e = rw e (frame-whole s.image s.played.cursors l (frame_of l))
