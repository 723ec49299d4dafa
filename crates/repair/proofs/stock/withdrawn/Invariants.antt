-- `repair::stock::withdrawn` meets its contract. The loop's invariant: the set is that of the withdrawn among the
-- first d workers.
use mathlib.Core.Path.{◌≡◌}
use Rattle.image.specs.Image.{at}
use Rattle.repair.specs.Repair.{withdrawn_by}
use Rattle.repair.proofs.stock.withdrawn.Given as goal

abbrev pub invariant-loop-d : goal.invariant-loop-d
invariant-loop-d l = l.set ≡ withdrawn_by (at l.own l.image) l.d
