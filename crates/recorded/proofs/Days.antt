-- A day is a list of calls (`days-are-lists`), by induction over its lines, each beside its calls (`frame-played`), from any world that is ready: its header
-- is right, so that it has an image and every line is a later one (`later-line`). So demand 3 holds of it, and a recovery behind any lines is accepted
-- (`recoveries-accepted`).
use Prim.Native.Nat.{ℕ, ◌≤◌}
use mathlib.Core.Path.{◌≡◌, ap, sym, subst, ◌∙◌}
use mathlib.Core.Bool.{true, cond}
use mathlib.Core.List.{List, [], ◌∷◌, ◌++◌, append_assoc}
use native.Mathlib.Omega.{arith}
use borrow.Author.Tests.{ne_eqb, le-leb}
use lib.ListN.{length}
use Rattle.image.specs.Image.{Image, header_ok, workers}
use Rattle.image.proofs.Apart.{length-ge}
use Rattle.image.proofs.Header.{header-true}
use Rattle.working.specs.declared.Cursors.{Cursors}
use Rattle.formatting.specs.Format.{formatted}
use Rattle.formatting.proofs.Formats.{formatted-header}
use Rattle.edition.specs.Edition.{mark, own_words}
use Rattle.recovery.specs.Recovery.{recovery}
use Rattle.recovery.specs.Recover.{answer_of}
use Rattle.frames.specs.declared.Frame.{Frame}
use Rattle.frames.specs.declared.Frame.TheVariants.{Submit, Turns, Recover, Rounds, Malformed}
use Rattle.frames.specs.Line.{frame_of}
use Rattle.frames.proofs.Frames.{times_in, times-most}
use Rattle.claims.specs.Calls.{Traced, play, from}
use Rattle.claims.specs.Claims.{FormattedRests, DurableAlways}
use Rattle.claims.proofs.Moves.{play-append}
use Rattle.told.proofs.Demands.{formatting-rests, sections-kept}
use Rattle.lines.specs.Whole.{Took, Output}
use Rattle.stages.specs.Lines.{line_whole, whole_line, behind, followed, lines_whole}
use Rattle.recorded.specs.Moves.{frame_moves, is_malformed, moves_of}
use Rattle.recorded.specs.Recorded.{played, listed, DaysOpen, DaysAreLists, RecoveriesAccepted}
use Rattle.recorded.proofs.Told.{told_none}
use Rattle.recorded.proofs.Turning.{Good, Ends, ends-here, turns-played}
use Rattle.recorded.proofs.Rounds.{runs-played}
use Rattle.recorded.proofs.Others.{recovery-played, submit-played}
use Rattle.recorded.proofs.Machine.{moves-machine, moves-legal, moves-uncut}

-- ---- a line

-- where the header is right
pub later-line : (m : Image) (c : Cursors) (l : List ℕ) → header_ok mark own_words m ≡ true → whole_line m c l ≡ line_whole m c l (frame_of l)
unfolding whole_line
later-line m c l h =
    let s = (header-true mark own_words m h).size in
    let b = length-ge own_words (workers m) in
    rw (ne_eqb (length m) 0 (λ e. omega arith))

-- one output behind the other, the second by what the first leaves
ends-behind : (ts : List Took) (o : Output) (more : Image → Cursors → Output) (v x : Traced) → Ends ts o v
    → Ends (ts ++ o.turns) (more v.world.image v.world.cursors) x → Ends ts (behind o (more o.image o.cursors)) x
ends-behind ts o more v x e f =
    let y = subst (λ (m : Image). Ends (ts ++ o.turns) (more m v.world.cursors) x) e.image f in
    let z = subst (λ (c : Cursors). Ends (ts ++ o.turns) (more o.image c) x) e.cursors y in
    record { image = z.image; cursors = z.cursors; good = rw append_assoc at z.good }

-- what the lines behind a line are to do
abbrev Goes : List (List ℕ) → Type 0
Goes ls =
    (w : Traced) (ts : List Took) → Good ts w
    → Ends ts (lines_whole ls w.world.image w.world.cursors).output (play mark own_words (moves_of ls) w)

module _ (w : Traced) (ts : List Took) (g : Good ts w) where
  pub frame-played : (l : List ℕ) (f : Frame) → times_in f ≤ 65535
      → Ends ts (line_whole w.world.image w.world.cursors l f).output (play mark own_words (frame_moves l f) w)
  unfolding play
  frame-played l (Submit d k) h = submit-played w ts l d k g
  frame-played l (Turns d k) h = turns-played d k w ts g
  frame-played l Recover h = recovery-played w ts g
  frame-played l (Rounds r) h = runs-played r h w ts g
  frame-played l Malformed h = ends-here ts _ w g

  -- a line that goes on, and those behind it
  on-played : (l : List ℕ) (ls : List (List ℕ)) (f : Frame) → times_in f ≤ 65535 → Goes ls
      → Ends ts (behind (line_whole w.world.image w.world.cursors l f).output
      (lines_whole ls (line_whole w.world.image w.world.cursors l f).output.image (line_whole w.world.image w.world.cursors l f).output.cursors
      ).output) (play mark own_words (frame_moves l f ++ moves_of ls) w)
  on-played l ls f h more =
      let o = (line_whole w.world.image w.world.cursors l f).output in
      let v = play mark own_words (frame_moves l f) w in
      let e = frame-played l f h in
      subst (λ (x : Traced). Ends ts (behind o (lines_whole ls o.image o.cursors).output) x)
      (sym (play-append mark own_words (frame_moves l f) (moves_of ls) w))
      (ends-behind ts o (λ m c. (lines_whole ls m c).output) v (play mark own_words (moves_of ls) v) e (more v (ts ++ o.turns) e.good))

  -- a line, and those behind it
  line-played : (l : List ℕ) (ls : List (List ℕ)) (f : Frame) → times_in f ≤ 65535 → Goes ls
      → Ends ts (followed (line_whole w.world.image w.world.cursors l f) (lines_whole ls)).output
      (play mark own_words (cond (is_malformed f) [] (frame_moves l f ++ moves_of ls)) w)
  line-played l ls (Submit d k) h more = on-played l ls (Submit d k) h more
  line-played l ls (Turns d k) h more = on-played l ls (Turns d k) h more
  line-played l ls Recover h more = on-played l ls Recover h more
  line-played l ls (Rounds r) h more = on-played l ls (Rounds r) h more
  line-played l ls Malformed h more = frame-played l Malformed h

-- ---- all lines

lines-played : (ls : List (List ℕ)) → Goes ls
unfolding lines_whole moves_of play
lines-played [] w ts g = ends-here ts [] w g
lines-played (l ∷ ls) w ts g =
    rw (later-line w.world.image w.world.cursors l g.header) (line-played w ts g l ls (frame_of l) (times-most l) (lines-played ls))

day-played : (D : ℕ) → 1 ≤ D → D ≤ 8 → (ls : List (List ℕ)) → Ends [] (played D ls) (listed D ls)
day-played D some few ls =
    lines-played ls (from (formatted mark own_words D)) [] (record { header = formatted-header mark own_words D some few; told = told_none })

pub days-are-lists : DaysAreLists
unfolding DaysAreLists
days-are-lists D some few ls =
    let e = day-played D some few ls in
    record {
      callable = moves-machine ls;
      legal = moves-legal ls;
      uncut = moves-uncut ls;
      image = e.image;
      cursors = e.cursors;
      waits-on = λ b. e.good.told.on b;
      waits-of = λ d. e.good.told.of d;
      moves-of = λ d. e.good.told.moves d;
    }

-- ---- a recovery behind them

pub recoveries-accepted : RecoveriesAccepted
unfolding RecoveriesAccepted DaysAreLists FormattedRests DurableAlways
recoveries-accepted D some few ls =
    let day = days-are-lists D some few ls in
    let a = (sections-kept (formatted mark own_words D) (formatting-rests D some few) (moves_of ls) day.callable day.legal).accepts in
    ap (λ (m : Image). answer_of (recovery mark own_words m)) (sym day.image) ∙ ap answer_of a.2

-- ---- the first line

pub days-open : DaysOpen
unfolding DaysOpen lines_whole whole_line
days-open bytes l ls D e f some few = rw (e, f, le-leb 1 D some, le-leb D 8 few)
