-- What the loops of `run::rounds_of` keep: what Laps says of a round and of the rounds.
use Prim.Native.Nat.{◌-◌}
use mathlib.Core.Path.{◌≡◌}
use lib.ListN.{length}
use Rattle.tally.specs.Tally.{none}
use Rattle.working.specs.Cursor.{holding}
use Rattle.working.specs.World.{world}
use Rattle.run.specs.Run.{open_to, counting}
use Rattle.run.proofs.Laps.{Lap, Laps}
use Rattle.run.proofs.rounds_of.Given as goal

-- the round is as before the loop, and where one worker alone was open nothing has changed
abbrev pub invariant-loop-d : goal.invariant-loop-d
invariant-loop-d l =
    let i = l.initial in
    let was = counting (world i.image (holding i.held i.c) i.left) i.tally in
    let now = counting (world l.image (holding l.held l.c) l.left) l.tally in
    record {
      shape : length l.image ≡ length i.image;
      lap : Lap l.own l.n i.to i.round was now l.next l.d;
      round : l.round ≡ i.round;
      still : l.below ≡ 0 → now ≡ was;
    }

abbrev pub invariant-rounds : goal.invariant-rounds
invariant-rounds l =
    let i = l.initial in
    let was = counting (world i.image (holding i.held i.c) i.left) none in
    let now = counting (world l.image (holding l.held l.c) l.left) l.tally in
    record {
      shape : length l.image ≡ length i.image;
      laps : Laps l.own l.n l.rounds was now l.round l.to;
      alone : l.below ≡ 0 → open_to (l.to - 1) (holding l.held l.c) ≡ 0;
    }

abbrev pub decreases-rounds : goal.decreases-rounds
decreases-rounds l = l.rounds - l.round
