-- `repair::stock::freed` meets its contract. The loop's invariant: the set is the union of the first d intents.
use mathlib.Core.Path.{◌≡◌}
use Rattle.image.specs.Image.{at}
use Rattle.repair.specs.Repair.{freed_by}
use Rattle.repair.proofs.stock.freed.Given as goal

abbrev pub invariant-loop-d : goal.invariant-loop-d
invariant-loop-d l = l.set ≡ freed_by (at l.own l.image) l.d
