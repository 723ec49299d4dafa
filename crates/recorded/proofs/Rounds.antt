-- A run beside its line (`runs-played`). The run is lent its stores once, and each of its turns makes one at most (`turn-left`), so that eight for each round
-- suffice: a round leaves a turn its store, and the rounds behind it theirs (`round-played`, `rounds-played`). The line passes idle workers by; the run makes
-- their turns, which do nothing (`rests`).
use Prim.Native.Nat.{ℕ, zero, suc, ◌+◌, ◌*◌, ◌≤◌}
use mathlib.Core.Path.{◌≡◌, refl}
use mathlib.Core.Bool.{Bool, true, false, cond}
use mathlib.Core.List.{List, [], ◌∷◌}
use native.Mathlib.Omega.{arith}
use Rattle.image.specs.Image.{Image, workers}
use Rattle.image.proofs.Header.{header-workers}
use Rattle.working.specs.declared.Cursors.{Cursors}
use Rattle.working.specs.Cursor.{is_idle, cursor_at}
use Rattle.edition.specs.Edition.{mark, own_words}
use Rattle.plan.specs.Turn.{Outcome, stored, passed, waiting, resting, refused}
use Rattle.turn.specs.Call.{outcome_at}
use Rattle.turn.proofs.Turns.{rests}
use Rattle.run.specs.Run.{any_open}
use Rattle.claims.specs.Calls.{Traced, turn_by, turned_at, refuses, round, rounds, ran_by, runs, whole, call, move, play}
use Rattle.lines.specs.Play.{uncut}
use Rattle.lines.specs.Whole.{Took, Output, output, turn_then, round_line, rounds_over, rounds_line}
use Rattle.recorded.proofs.Turning.{Good, Ends, ends-here, turn-then, all-lent, good-lent}

-- ---- a turn of a round

turn-left : (w : Traced) (d : ℕ) (o : Outcome) → w.world.left ≤ (turn_by mark own_words w d o).world.left + 1
turn-left w d (stored p v c) = omega arith
turn-left w d (passed why c) = omega arith
turn-left w d (waiting b) = omega arith
turn-left w d resting = omega arith
turn-left w d (refused r) = omega arith

pub turned_left : (w : Traced) (d : ℕ) → w.world.left ≤ (turned_at mark own_words w d).world.left + 1
unfolding turned_at
turned_left w d = turn-left w d (outcome_at own_words w.world d)

-- a run's rest does what a line's rest does, in any world with so many stores left
abbrev Goes : ℕ → (Image → Cursors → Output) → (Traced → Traced) → Type 0
Goes need more rest = (w : Traced) (ts : List Took) → need ≤ w.world.left → Good ts w → Ends ts (more w.world.image w.world.cursors) (rest w)

module _ (need : ℕ) (more : Image → Cursors → Output) (rest : Traced → Traced) where
  -- the turns of k workers from d on
  round-played : Goes need more rest → (k d : ℕ) → Goes (need + k) (round_line more k d) (λ w. round mark own_words rest w d k)
  unfolding round_line round turned_at outcome_at
  round-played goes zero d w ts l g = goes w ts (omega arith) g
  round-played goes (suc k) d w ts l g = by (is_idle (cursor_at w.world.cursors d)) refl (round-played goes k (d + 1))
    where
      by : (b : Bool) → is_idle (cursor_at w.world.cursors d) ≡ b
          → Goes (need + k) (round_line more k (d + 1)) (λ v. round mark own_words rest v (d + 1) k)
          → Ends ts (cond b (round_line more k (d + 1) w.world.image w.world.cursors)
          (turn_then (round_line more k (d + 1)) w.world.image w.world.cursors d (outcome_at own_words (uncut w.world.image w.world.cursors) d)))
          (cond (refuses mark own_words (outcome_at own_words w.world d)) w (round mark own_words rest (turned_at mark own_words w d) (d + 1) k))
      by true e more-goes = rw (rests own_words w.world d e) (more-goes w ts (omega arith) g)
      by false e more-goes =
          turn-then w d (omega arith) ts (round_line more k (d + 1)) w (round mark own_words rest (turned_at mark own_words w d) (d + 1) k)
          (outcome_at own_words w.world d) g
          (λ r ps. ends-here ts ps w g)
          (λ us h. more-goes (turned_at mark own_words w d) us (omega (arith, turned_left w d)) h)

-- ---- the rounds of a run

rounds-played : (D : ℕ) → D ≤ 8 → (r : ℕ) → Goes (8 * r) (rounds_over r D) (rounds mark own_words r D)
unfolding rounds_over rounds
rounds-played D few zero w ts l g = ends-here ts [] w g
rounds-played D few (suc r) w ts l g =
    by (any_open D 0 w.world.cursors)
    (round-played (8 * r) (rounds_over r D) (rounds mark own_words r D) (rounds-played D few r) D 0 w ts (omega arith) g)
  where
    by : (b : Bool)
        → Ends ts (round_line (rounds_over r D) D 0 w.world.image w.world.cursors) (round mark own_words (rounds mark own_words r D) w 0 D)
        → Ends ts (cond b (round_line (rounds_over r D) D 0 w.world.image w.world.cursors) (output [] [] w.world.image w.world.cursors))
        (cond b (round mark own_words (rounds mark own_words r D) w 0 D) w)
    by true e = e
    by false e = ends-here ts [] w g

-- the run of a line
pub runs-played : (r : ℕ) → r ≤ 65535 → (w : Traced) (ts : List Took) → Good ts w
    → Ends ts (rounds_line r w.world.image w.world.cursors) (play mark own_words (whole (runs r) ∷ []) w)
unfolding play move call ran_by rounds_line rounds_over
runs-played zero l w ts g =
    rw g.header (rounds-played (workers w.world.image) (header-workers mark own_words w.world.image g.header).1 0 (all-lent w) ts (omega arith)
    (good-lent ts w g))
runs-played (suc r) l w ts g =
    rw g.header (rounds-played (workers w.world.image) (header-workers mark own_words w.world.image g.header).1 (suc r) (all-lent w) ts
    (omega arith) (good-lent ts w g))
