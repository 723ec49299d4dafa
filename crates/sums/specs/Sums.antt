-- The sums of a list of turns: for each lock the turns that answered waiting on it, for each worker those of its turns that waited and those that did not,
-- that is, that stored or passed. Turns of an idle worker are in none. Each number stops at the largest by itself. (Document 02, 7/14.)
use Rattle.std.specs.Prelude.{ℕ, zero, suc, ◌+◌, min, Bool, true, false, cond, ◌&&◌, List, [], ◌∷◌, ◌==◌}
use Rattle.turn.specs.declared.Answer.{Answer}
use Rattle.turn.specs.declared.Answer.TheVariants.{Stored, Passed, Waiting, Idle, Refused}
use Rattle.lines.specs.Whole.{Took}
use Rattle.sums.specs.declared.Sums.{Sums}

-- ---- which number a turn is in

abbrev pub waits_at : ℕ → Answer → Bool
waits_at b (Stored i) = false
waits_at b (Passed why) = false
waits_at b (Waiting a) = a == b
waits_at b Idle = false
waits_at b (Refused r) = false

abbrev pub waits : Answer → Bool
waits (Stored i) = false
waits (Passed why) = false
waits (Waiting a) = true
waits Idle = false
waits (Refused r) = false

abbrev pub moves : Answer → Bool
moves (Stored i) = true
moves (Passed why) = true
moves (Waiting a) = false
moves Idle = false
moves (Refused r) = false

-- a wait on lock b
abbrev pub wait_on : ℕ → Took → Bool
wait_on b t = waits_at b t.answer

-- a wait of worker d
abbrev pub wait_of : ℕ → Took → Bool
wait_of d t = t.worker == d && waits t.answer

-- a turn of worker d that did not wait
abbrev pub move_of : ℕ → Took → Bool
move_of d t = t.worker == d && moves t.answer

-- ---- the numbers

-- how many turns are such
unfoldable pub count : (Took → Bool) → List Took → ℕ
count P [] = 0
count P (t ∷ ts) = cond (P t) (suc (count P ts)) (count P ts)

-- the largest
abbrev pub top : ℕ
top = 18446744073709551615

-- k numbers from i on
unfoldable pub numbers : (ℕ → Took → Bool) → List Took → ℕ → ℕ → List ℕ
numbers P ts i zero = []
numbers P ts i (suc k) = min (count (P i) ts) top ∷ numbers P ts (i + 1) k

abbrev pub sums : List ℕ → List ℕ → List ℕ → Sums
sums l w m = record { locks = l; waited = w; moved = m }

unfoldable pub sums_of : List Took → Sums
sums_of ts = sums (numbers wait_on ts 0 64) (numbers wait_of ts 0 8) (numbers move_of ts 0 8)
