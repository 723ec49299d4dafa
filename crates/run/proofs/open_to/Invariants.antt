-- `run::open_to` meets its contract. The loop's invariant: the workers from k on are idle, so that the last open
-- one of all is the last open one below k.
use mathlib.Core.Path.{◌≡◌}
use Rattle.working.specs.declared.Cursors.{Cursors}
use Rattle.run.specs.Run.{open_to}
use Rattle.run.proofs.open_to.Given as goal

abbrev pub invariant-loop-k : goal.invariant-loop-k
invariant-loop-k l = (r : Cursors) → r.turn ≡ l.turn → open_to l.k r ≡ open_to l.n r
