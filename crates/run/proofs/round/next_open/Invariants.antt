-- The loop of `round::next_open`: the workers from d up to k are idle, so that the first open one is the first from k on.
use Prim.Native.Nat.{◌-◌, ◌≤◌, max}
use mathlib.Core.Path.{◌≡◌}
use Rattle.run.specs.Round.{next_open}
use Rattle.run.proofs.round.next_open.Given as goal

abbrev pub invariant-loop-k : goal.invariant-loop-k
invariant-loop-k l = record { most : l.k ≤ max l.d l.n; same : next_open (l.n - l.k) l.k l.c ≡ next_open (l.n - l.d) l.d l.c }
