-- Turns counted at once, as the code does it.
use Rattle.std.specs.Prelude.{ℕ, ◌+◌, min, List, slice_index, slice_set}
use Rattle.turn.specs.declared.Answer.{Answer}
use Rattle.turn.specs.declared.Answer.TheVariants.{Stored, Passed, Waiting, Idle, Refused}
use Rattle.lines.specs.declared.Made.{Made}
use Rattle.sums.specs.declared.Sums.{Sums}
use Rattle.sums.specs.Sums.{sums, top}

-- so many more at an index
unfoldable pub raised : List ℕ → ℕ → ℕ → List ℕ
raised xs i k = slice_set xs i (min (slice_index xs i + k) top)

-- k turns of worker d with this answer
abbrev pub counted_by : ℕ → ℕ → Answer → Sums → Sums
counted_by d k (Stored i) s = sums s.locks s.waited (raised s.moved d k)
counted_by d k (Passed why) s = sums s.locks s.waited (raised s.moved d k)
counted_by d k (Waiting b) s = sums (raised s.locks b k) (raised s.waited d k) s.moved
counted_by d k Idle s = s
counted_by d k (Refused r) s = s

abbrev pub counted : Made → Sums → Sums
counted t s = counted_by t.worker t.times t.answer s
