-- The lowest lock that two sets have.
use Rattle.std.specs.Prelude.{ℕ, suc, zero, ◌+◌, cond, List, get_or, leb}
use Rattle.owed.specs.Owed.{claimants}

-- the sets of a list
abbrev pub sets_in : List ℕ → ℕ → ℕ
sets_in l d = get_or l d 0

-- the lowest lock, of k from b on, that two of the first n sets have; b + k where there is none
unfoldable pub shared_from : (ℕ → ℕ) → ℕ → ℕ → ℕ → ℕ
shared_from sets n b zero = b
shared_from sets n b (suc k) = cond (leb (claimants sets b n) 1) (shared_from sets n (b + 1) k) b
