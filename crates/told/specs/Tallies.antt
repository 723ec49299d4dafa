-- The tally of a run is the sum over its turns, each counted by its answer.
use Rattle.std.specs.Prelude.{ℕ, ◌≡◌, List, [], ◌∷◌}
use Rattle.tally.specs.declared.Tally.{Tally}
use Rattle.tally.specs.Tally.{none}
use Rattle.turn.specs.Call.{answer_of, outcome_at}
use Rattle.turn.specs.Counted.{counted}
use Rattle.run.specs.Run.{run_of}
use Rattle.claims.specs.Calls.{Traced, runs}
use Rattle.told.specs.Moments.{Moment, in_call}

-- mark: word 0 of an image; n: own words in a record
module _ (mark n : ℕ) where
  -- a tally with these turns counted
  unfoldable pub tallied : Tally → List Moment → Tally
  tallied t [] = t
  tallied t (x ∷ xs) = tallied (counted (answer_of n (outcome_at n x.now.world x.worker)) t) xs

  -- in any world
  unfoldable pub RunsTallied : Type 0
  RunsTallied = (r : ℕ) (w : Traced) → (run_of mark n w.world r).after.tally ≡ tallied none (in_call mark n (runs r) w)
