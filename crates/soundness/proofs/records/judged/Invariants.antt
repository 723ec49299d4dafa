-- `soundness::records::judged` meets its contract. The loop's invariant: the first worker from d on whose record is not sound
-- is the first of all that are asked, and where these begin with worker 0 the array has the owed sets of the first d workers.
use Prim.Native.Nat.{◌-◌}
use mathlib.Core.Path.{◌≡◌}
use Rattle.image.specs.Image.{at}
use Rattle.soundness.specs.Sound.{eight, unsound, owed_at}
use Rattle.soundness.proofs.records.judged.Given as goal

abbrev pub invariant-loop-d : goal.invariant-loop-d
invariant-loop-d l = (unsound l.own (at l.own l.image) l.end l.d (l.end - l.d) ≡ unsound l.own (at l.own l.image) l.end l.first (l.end - l.first))
    × (l.first ≡ 0 → l.sets ≡ eight (owed_at l.own (at l.own l.image) l.d))
