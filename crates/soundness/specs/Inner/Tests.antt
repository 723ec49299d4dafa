-- The answer of the tests.
use Rattle.std.specs.Prelude.{ℕ, Bool, true, false, List, [], ◌∷◌, Result, Ok, Err}
use Rattle.soundness.specs.declared.Refusal.{Refusal}
use Rattle.soundness.specs.declared.Refusal.TheVariants.{Record, Lock}
use Rattle.soundness.specs.Answer.{Answer}

abbrev pub is_done : Answer → Bool
is_done (Ok u) = true
is_done (Err r) = false

-- by the first record that is not sound
abbrev pub by_record : List ℕ → Answer
by_record [] = Ok tt
by_record (d ∷ ds) = Err (Record d)

-- by the first lock that is wrong
abbrev pub by_lock : List ℕ → Answer
by_lock [] = Ok tt
by_lock (b ∷ bs) = Err (Lock b)

-- an answer, with the sets that go with one that is no refusal
abbrev pub found : Answer → List ℕ → Result (List ℕ) Refusal
found (Ok u) sets = Ok sets
found (Err r) sets = Err r

-- and without them
abbrev pub told : Result (List ℕ) Refusal → Answer
told (Ok sets) = Ok tt
told (Err r) = Err r
