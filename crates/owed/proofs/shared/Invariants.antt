-- `owed::shared` meets its contract. The loop's invariant: `once` has the locks that one of the sets up to this one has, and
-- `twice` those that two of them have. The lowest of the latter is at its trailing zeros.
use Prim.Native.Nat.{ℕ}
use mathlib.Core.Path.{◌≡◌}
use lib.Dec.{ltb}
use Rattle.mask.specs.Mask.{has}
use Rattle.owed.specs.Owed.{claimants}
use Rattle.owed.specs.Inner.Shared.{sets_in}
use Rattle.owed.proofs.shared.Given as goal

abbrev pub invariant-loop-set : goal.invariant-loop-set
invariant-loop-set l = ((b : ℕ) → has l.once b ≡ ltb 0 (claimants (sets_in l.sets) b l.set-index))
    × ((b : ℕ) → has l.twice b ≡ ltb 1 (claimants (sets_in l.sets) b l.set-index))
