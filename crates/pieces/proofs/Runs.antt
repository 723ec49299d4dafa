-- A line gone on with, turn by turn or store by store (`RunsOn`): at its start, and after one more.
use Prim.Native.Nat.{ℕ, ◌-◌, ◌<◌, ◌≤◌}
use mathlib.Core.Path.{◌≡◌, refl, sym, ap, ◌∙◌}
use mathlib.Core.Bool.{Bool, true}
use mathlib.Core.List.{List, []}
use native.Mathlib.Omega.{arith}
use lib.ListN.{length, take, drop}
use Rattle.lines.specs.declared.Job.{Job}
use Rattle.lines.specs.declared.Played.{Played}
use Rattle.lines.specs.declared.Job.TheVariants.{Turns, Rounds, Stores, Next, Stop}
use Rattle.lines.specs.Play.{Stage, stage, is_going, go_on}
use Rattle.stages.specs.declared.Day.{Day}
use Rattle.pieces.specs.declared.Run.{Run}
use Rattle.buffers.specs.Output.{bytes_of}
use Rattle.pieces.specs.Pieces.{Point, point, ready_for, ready, piece_for, piece, after, whole, job_pieces, pieces_left}
use Rattle.buffers.specs.Output.{Puts}
use Rattle.pieces.specs.Pieced.{point_of, RunsOn}
use Rattle.stages.specs.Buffer.{Buffered}
use Rattle.stages.proofs.Buffers.{same-buffered, buffered-then, behind-later}
use Rattle.pieces.proofs.Weights.{piece-less}
use Rattle.pieces.proofs.Advances.{loop-next}

-- ---- the piece of a line that is to be gone on with

private-ready : (more : Bool) (l : List ℕ) (j : Job) → is_going j ≡ true → ready_for more l j ≡ true
private-ready more l (Turns w k) e = refl
private-ready more l (Rounds d r) e = refl
private-ready more l (Stores i) e = refl
private-ready more l Next e = cc
private-ready more l Stop e = cc

private-piece : (more : Bool) (q : Point) (j : Job) → is_going j ≡ true → piece_for more q j ≡ point q.input (go_on q.stage)
private-piece more q (Turns w k) e = refl
private-piece more q (Rounds d r) e = refl
private-piece more q (Stores i) e = refl
private-piece more q Next e = cc
private-piece more q Stop e = cc

module _ (s : Stage) (e : is_going s.played.job ≡ true) where
  pub on-ready : (more : Bool) (l : List ℕ) → ready more (point l s) ≡ true
  on-ready more l = private-ready more l s.played.job e

  pub on-piece : (more : Bool) (l : List ℕ) → piece more (point l s) ≡ point l (go_on s)
  on-piece more l = private-piece more (point l s) s.played.job e

  pub on-less : job_pieces (go_on s).played.job < job_pieces s.played.job
  on-less = omega (arith, ap pieces_left (on-piece true []), piece-less true (point [] s) (on-ready true []))

-- ---- the loop

abbrev pub day_at : ℕ → Played → Day
day_at n p = record { words = n; played = p }

abbrev pub run_at : ℕ → Played → ℕ → Run
run_at n p used = record { day = day_at n p; used = used }

pub runs-start : (m o : List ℕ) (at : ℕ) (d : Day) → d.words ≤ length m → at ≤ length o → RunsOn m m o o at d (record { day = d; used = at })
runs-start m o at d h r = record {
  so = λ more l. refl;
  keeps = same-buffered m d.words h;
  from = omega arith;
  room = r;
  behind = refl;
  pieces = omega arith;
}

-- m and o are the buffers at the start, k and u now; then e is the image's buffer and v the output's
module _ (m k o u : List ℕ) (at : ℕ) (d : Day) (r : Run) (g : RunsOn m k o u at d r) (e : List ℕ) (s : Day) (going : is_going r.day.played.job ≡ true)
    (on : stage (take s.words e) s.played ≡ go_on (stage (take r.day.words k) r.day.played)) where
  abbrev private-stage : Stage
  private-stage = stage (take r.day.words k) r.day.played

  pub run-less : job_pieces s.played.job < job_pieces r.day.played.job
  run-less = omega (arith, on-less private-stage going, ap (λ (x : Stage). job_pieces x.played.job) on)

  pub runs-next : Buffered k e r.day.words s.words → (v : List ℕ) (to : ℕ) → 22 ≤ length u - r.used
      → Puts u v r.used to (bytes_of s.played.printed) → length v ≡ length u → RunsOn m e o v at d (record { day = s; used = to })
  runs-next b v to room t x = record {
    so = λ more l.
        let q = point l private-stage in
        let y : point_of l e s ≡ piece more q = ap (point l) on ∙ sym (on-piece private-stage going more l) in
        let z : bytes_of s.played.printed ≡ bytes_of (piece more q).stage.played.printed = ap (λ (w : Point). bytes_of w.stage.played.printed) y in
        ap (λ (w : Point). after (take to v) (whole more (length v - to) w)) y
        ∙ loop-next more q u r.used _ (g.so more l) v to (rw z at t) x room (on-ready private-stage going more l);
    keeps = buffered-then m k e d.words r.day.words s.words g.keeps b;
    from = omega (arith, g.from, t.used);
    room = t.room;
    behind = t.behind ∙ behind-later u o r.used to (omega (arith, t.used)) g.behind;
    pieces = omega (arith, g.pieces, run-less);
  }
