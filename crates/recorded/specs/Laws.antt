-- What holds of the sums of every day: each turn of an open worker is in precisely one of the worker's two sums, and the sums of the locks add up to the
-- workers' waits, while no count has passed the largest.
use Rattle.std.specs.Prelude.{ℕ, ◌+◌, ◌<◌, ◌≤◌, ◌≡◌, List, [], ◌∷◌, Bool, true, ◌&&◌, not, eqb, leb, get_or}
use Rattle.turn.specs.Call.{is_refused}
use Rattle.lines.specs.Play.{makes}
use Rattle.lines.specs.Whole.{Took}
use Rattle.sums.specs.Sums.{wait_on, wait_of, move_of, count, top}
use Rattle.sums.specs.Day.{day_turns, day_sums}

-- a turn of worker d, which was open
abbrev pub open_of : ℕ → Took → Bool
open_of d t = eqb t.worker d && makes t.answer

-- it waited, or it did not
unfoldable pub InOne : Type 0
InOne = (d : ℕ) (t : Took) → open_of d t ≡ true → wait_of d t ≡ not (move_of d t)

-- so the two sums of a worker add up to its turns; the turns of open workers are those of the eight, and no refused turn is among those of a day
pub record TurnsSummed (bytes : List ℕ) : Type 0 where
  pub each :
      (d : ℕ) → d < 8 → count (wait_of d) (day_turns bytes) ≤ top → count (move_of d) (day_turns bytes) ≤ top
      → get_or (day_sums bytes).waited d 0 + get_or (day_sums bytes).moved d 0 ≡ count (open_of d) (day_turns bytes)
  pub none-past : count (λ t. makes t.answer && leb 8 t.worker) (day_turns bytes) ≡ 0
  pub none-refused : count (λ t. is_refused t.answer) (day_turns bytes) ≡ 0

unfoldable pub EveryTurnSummed : Type 0
EveryTurnSummed = (bytes : List ℕ) → TurnsSummed bytes

abbrev pub total : List ℕ → ℕ
total [] = 0
total (x ∷ xs) = x + total xs

unfoldable pub WaitsAddUp : Type 0
WaitsAddUp =
    (bytes : List ℕ)
    → ((b : ℕ) → b < 64 → count (wait_on b) (day_turns bytes) ≤ top)
    → ((d : ℕ) → d < 8 → count (wait_of d) (day_turns bytes) ≤ top)
    → total (day_sums bytes).locks ≡ total (day_sums bytes).waited
