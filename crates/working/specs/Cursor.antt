-- The working record: where the workers stand, and the locks held. (Document 01: working places, kept in one working record; document 02, 2/14:
-- a mask beside them.)
use Rattle.std.specs.Prelude.{ℕ, Bool, true, false, cond, List, get_or, set, replicate, eqb}
use Rattle.std.specs.Int.Count.{ones}
use Rattle.working.specs.declared.Cursors.{Cursors}

-- a worker is idle, or on a turn of a step; both count from 0
pub data Cursor : Type 0 where
  idle : Cursor
  on : ℕ → ℕ → Cursor

abbrev pub is_idle : Cursor → Bool
is_idle idle = true
is_idle (on s t) = false

-- how the record says it: turn 255 is idle, at any step; it is written with step 0
abbrev pub step_no : Cursor → ℕ
step_no idle = 0
step_no (on s t) = s

abbrev pub turn_no : Cursor → ℕ
turn_no idle = 255
turn_no (on s t) = t

-- worker d's cursor; idle where the record has no such worker
unfoldable pub cursor_at : Cursors → ℕ → Cursor
cursor_at c d = cond (eqb (get_or c.turn d 255) 255) idle (on (get_or c.step d 0) (get_or c.turn d 255))

-- the record of its parts: a step and a turn for each worker, and the mask of the locks held
abbrev pub cursors : List ℕ → List ℕ → ℕ → Cursors
cursors step turn held = record { step = step; turn = turn; held = held }

-- the record with these numbers for worker d
unfoldable pub set_at : Cursors → ℕ → ℕ → ℕ → Cursors
set_at c d s t = record { step = set c.step d s; turn = set c.turn d t; held = c.held }

-- the record with these locks held
abbrev pub holding : ℕ → Cursors → Cursors
holding h c = record { step = c.step; turn = c.turn; held = h }

-- the record with worker d at a cursor
abbrev pub placed : Cursors → ℕ → Cursor → Cursors
placed c d x = set_at c d (step_no x) (turn_no x)

unfoldable pub all_idle : Cursors
all_idle = record { step = replicate 8 0; turn = replicate 8 255; held = 0 }

-- how many locks are held (document 02: how many bays)
abbrev pub locks_held : Cursors → ℕ
locks_held c = ones c.held
