-- `run::open_to` meets its contract.
use Prim.Native.Nat.{◌+◌, ◌-◌, ◌<◌}
use borrow.Author.Rules.{rules}
use mathlib.Core.Path.{◌≡◌, sym, ◌∙◌}
use native.Mathlib.Omega.{arith}
use lib.ListN.{length}
use Rattle.working.proofs.Placed.{idle-turn, open_turn}
use Rattle.run.proofs.Idling.{to-zero, to-here, to_below}
use Rattle.run.proofs.open_to.Goals as goal

pub returns-then-turn-k : goal.returns-then-turn-k
returns-then-turn-k c =
    let L = c.loop-k in
    let p : length c.args.turn ≡ 8 = search rules in
    let l : L.k - 1 < length c.args.turn = omega arith in
    let q : L.k - 1 + 1 ≡ L.k = omega arith in
    λ r e. sym (to-here r (L.k - 1) (open_turn r (L.k - 1) (rw e l) (rw e c.if-turn-k.true))) ∙ rw q (L.invariant r e)

pub loop-k-preserved : goal.loop-k-preserved
loop-k-preserved c =
    let L = c.loop-k in
    let p : length c.args.turn ≡ 8 = search rules in
    let l : L.k - 1 < length c.args.turn = omega arith in
    let q : L.k - 1 + 1 ≡ L.k = omega arith in
    λ r e. sym (to_below r (L.k - 1) (idle-turn r (L.k - 1) (rw e l) (rw e c.if-turn-k.false))) ∙ rw q (L.invariant r e)

pub returns : goal.returns
returns c =
    let q : c.loop-k.k ≡ 0 = omega arith in
    λ r e. sym (to-zero r) ∙ rw q at (c.loop-k.invariant r e)
