-- `resuming::resumed_all` meets its contract. The loop's invariant: the two arrays are the definition's for an image of the first d workers.
use mathlib.Core.Path.{◌≡◌}
use Rattle.image.specs.Image.{at}
use Rattle.working.specs.Cursor.{step_no, turn_no}
use Rattle.soundness.specs.Sound.{eight}
use Rattle.resuming.specs.Resumed.{resumed_at}
use Rattle.resuming.proofs.resumed_all.Given as goal

abbrev pub invariant-loop-d : goal.invariant-loop-d
invariant-loop-d l = (l.step ≡ eight (λ k. step_no (resumed_at l.own (at l.own l.image) l.d k)))
    × (l.turn ≡ eight (λ k. turn_no (resumed_at l.own (at l.own l.image) l.d k)))
