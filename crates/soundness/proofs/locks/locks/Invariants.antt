-- `soundness::locks::locks` meets its contract. The loop's invariant: the lowest lock from b on that is wrong is the lowest of
-- all. Below the first lock that two workers are owed only the owner words can be wrong.
use Prim.Native.Nat.{◌-◌}
use mathlib.Core.Path.{◌≡◌}
use Rattle.image.specs.Image.{at, workers}
use Rattle.soundness.specs.Inner.Tests.{by_lock}
use Rattle.soundness.specs.Sound.{bad_lock}
use Rattle.soundness.proofs.locks.locks.Given as goal

abbrev pub invariant-loop-b : goal.invariant-loop-b
invariant-loop-b l =
    by_lock (bad_lock l.own (at l.own l.image) (workers l.image) l.b (64 - l.b)) ≡ by_lock (bad_lock l.own (at l.own l.image) (workers l.image) 0 64)
