-- The turns of a round one by one: the next is that of the first open worker from some worker on. (Document 02, 7/14: a line of rounds prints each.)
use Rattle.std.specs.Prelude.{ℕ, zero, suc, ◌+◌, ◌-◌, cond, ltb}
use Rattle.image.specs.Image.{workers, header_ok}
use Rattle.working.specs.declared.Cursors.{Cursors}
use Rattle.working.specs.declared.Refusal.TheVariants.{Image as ImageRefused}
use Rattle.working.specs.Cursor.{is_idle, cursor_at}
use Rattle.working.specs.World.{World}
use Rattle.plan.specs.Turn.{Outcome, resting, refused}
use Rattle.turn.specs.Call.{outcome_at}

-- the first open one of k workers from d on; the one behind them where there is none
unfoldable pub next_open : ℕ → ℕ → Cursors → ℕ
next_open zero d c = d
next_open (suc k) d c = cond (is_idle (cursor_at c d)) (next_open k (d + 1) c) d

-- the same of the workers of an image
abbrev pub next_in : World → ℕ → ℕ
next_in w d = next_open (workers w.image - d) d w.cursors

-- mark: word 0 of an image; n: own words in a record
module _ (mark n : ℕ) where
  unfoldable pub next_worker : World → ℕ → ℕ
  next_worker w d = cond (header_ok mark n w.image) (next_in w d) d

  -- what its turn does: cause 10; nothing where the round has no more; cause 11 as in any turn
  unfoldable pub next_outcome : World → ℕ → Outcome
  next_outcome w d =
      cond (header_ok mark n w.image) (cond (ltb (next_in w d) (workers w.image)) (outcome_at n w (next_in w d)) resting) (refused ImageRefused)
