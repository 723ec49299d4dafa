-- The call of a turn: what it answers, and what it leaves of the world.
use Rattle.std.specs.Prelude.{ℕ, ◌-◌, Bool, true, false, cond, ltb, eqb}
use Rattle.mask.specs.Mask.{with, without}
use Rattle.image.specs.Place.{Place, cell, lock, field, own, step}
use Rattle.image.specs.Image.{index_of, at, workers, header_ok, put}
use Rattle.working.specs.declared.Refusal.TheVariants.{Worker, Image as ImageRefused}
use Rattle.working.specs.Cursor.{cursor_at, holding, placed}
use Rattle.working.specs.World.{World, world}
use Rattle.plan.specs.Turn.{Outcome, stored, passed, waiting, resting, refused, turn_at}
use Rattle.turn.specs.declared.Answer.{Answer}
use Rattle.turn.specs.declared.Answer.TheVariants.{Stored, Passed, Waiting, Idle, Refused}

-- what document 01 says of a turn: its answer, and what it leaves
abbrev pub answer_of : ℕ → Outcome → Answer
answer_of n (stored p v c) = Stored (index_of n p)
answer_of n (passed why c) = Passed why
answer_of n (waiting b) = Waiting b
answer_of n resting = Idle
answer_of n (refused r) = Refused r

-- the locks held after a turn's store of v at a place: an acquire's store in a lock's owner word, which is not 0, sets the lock's bit, a
-- release's, which is 0, clears it, and no other store touches the mask
abbrev pub held_by : Place → ℕ → ℕ → ℕ
held_by (cell x) v h = h
held_by (lock b) v h = cond (eqb v 0) (without h b) (with h b)
held_by (field f d) v h = h
held_by (own d i) v h = h
held_by (step d i) v h = h

abbrev pub leaves : ℕ → World → ℕ → Outcome → World
leaves n w d (stored p v c) =
    world (put w.left w.image (index_of n p) v) (holding (held_by p v w.cursors.held) (placed w.cursors d c)) (w.left - 1)
leaves n w d (passed why c) = world w.image (placed w.cursors d c) w.left
leaves n w d (waiting b) = w
leaves n w d resting = w
leaves n w d (refused r) = w

-- what worker d's turn does in a world whose header is right
unfoldable pub outcome_at : ℕ → World → ℕ → Outcome
outcome_at n w d = turn_at n (at n w.image) d (cursor_at w.cursors d)

-- and in any world: causes 10, 1, 11
unfoldable pub outcome : ℕ → ℕ → World → ℕ → Outcome
outcome mark n w d = cond (header_ok mark n w.image) (cond (ltb d (workers w.image)) (outcome_at n w d) (refused Worker)) (refused ImageRefused)

abbrev pub is_refused : Answer → Bool
is_refused (Stored i) = false
is_refused (Passed why) = false
is_refused (Waiting b) = false
is_refused Idle = false
is_refused (Refused r) = true
