-- `owed::union` meets its contract. The loop's invariant: `all` is the union of the sets up to this one.
use mathlib.Core.Path.{◌≡◌}
use Rattle.mask.specs.Mask.{union}
use Rattle.owed.specs.Inner.Shared.{sets_in}
use Rattle.owed.proofs.union.Given as goal

abbrev pub invariant-loop-set : goal.invariant-loop-set
invariant-loop-set l = l.all ≡ union (sets_in l.sets) l.set-index
