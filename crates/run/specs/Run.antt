-- A run: rounds over the workers, each open worker one turn a round, until all are idle, the rounds are spent, or a turn is
-- refused.
use Rattle.std.specs.Prelude.{ℕ, zero, suc, ◌+◌, Bool, true, false, cond}
use Rattle.image.specs.Image.{workers, header_ok}
use Rattle.tally.specs.declared.Tally.{Tally}
use Rattle.tally.specs.Tally.{none}
use Rattle.working.specs.declared.Cursors.{Cursors}
use Rattle.working.specs.declared.Refusal.{Refusal}
use Rattle.working.specs.declared.Refusal.TheVariants.{Image as ImageRefused}
use Rattle.run.specs.declared.End.{End}
use Rattle.run.specs.declared.End.TheVariants.{AllIdle, Spent, Halted}
use Rattle.working.specs.Cursor.{is_idle, cursor_at}
use Rattle.plan.specs.Turn.{Outcome, stored, passed, waiting, resting, refused}
use Rattle.working.specs.World.{World}
use Rattle.turn.specs.Call.{answer_of, leaves, outcome_at}
use Rattle.turn.specs.Counted.{counted}

-- one of k workers from d on is open, that is, not idle
unfoldable pub any_open : ℕ → ℕ → Cursors → Bool
any_open zero d c = false
any_open (suc k) d c = cond (is_idle (cursor_at c d)) (any_open k (d + 1) c) true

-- the workers up to the last open one, of k
unfoldable pub open_to : ℕ → Cursors → ℕ
open_to zero c = 0
open_to (suc k) c = cond (is_idle (cursor_at c k)) (open_to k c) (suc k)

-- a world with the tally of the run so far
pub record Counting : Type 0 where
  pub world : World
  pub tally : Tally

abbrev pub counting : World → Tally → Counting
counting w t = record { world = w; tally = t }

-- how a run ends, and what it leaves
pub record Course : Type 0 where
  pub end : End
  pub after : Counting

abbrev pub ran : End → Counting → Course
ran e s = record { end = e; after = s }

-- a round's end: through all workers, or halted by a refusal
pub data Sweep : Type 0 where
  through : Counting → Sweep
  halted : Refusal → Counting → Sweep

module _ (n : ℕ) where
  -- worker d's turn, counted
  unfoldable pub turned : Counting → ℕ → Counting
  turned s d = counting (leaves n s.world d (outcome_at n s.world d)) (counted (answer_of n (outcome_at n s.world d)) s.tally)

  -- after a turn with this outcome: halted where it was refused
  abbrev pub swept : Outcome → Counting → Sweep → Sweep
  swept (stored p v c) s more = more
  swept (passed why c) s more = more
  swept (waiting b) s more = more
  swept resting s more = more
  swept (refused r) s more = halted r s

  -- a turn of each of k workers from d on
  unfoldable pub sweep : ℕ → ℕ → Counting → Sweep
  sweep zero d s = through s
  sweep (suc k) d s = swept (outcome_at n s.world d) s (sweep k (d + 1) (turned s d))

  unfoldable pub after_sweep : (Counting → Course) → Sweep → Course
  after_sweep more (through s) = more s
  after_sweep more (halted r s) = ran (Halted r) s

  -- so many rounds of D workers
  unfoldable pub rounds_of : ℕ → ℕ → Counting → Course
  rounds_of zero D s = cond (any_open D 0 s.world.cursors) (ran Spent s) (ran AllIdle s)
  rounds_of (suc r) D s = cond (any_open D 0 s.world.cursors) (after_sweep (rounds_of r D) (sweep D 0 s)) (ran AllIdle s)

-- a run: cause 10, then the rounds; the tally starts at 0
unfoldable pub run_of : ℕ → ℕ → World → ℕ → Course
run_of mark n w rounds =
    cond (header_ok mark n w.image) (rounds_of n rounds (workers w.image) (counting w none)) (ran (Halted ImageRefused) (counting w none))
