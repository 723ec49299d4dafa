-- `stretch::whole::instructions_of` meets its contract: its loop keeps `Walking`, and goes on by the next instruction.
use native.Mathlib.Omega.{arith}
use Rattle.stretch.proofs.Walking.{walk-starts, walk-counted, walk-again}
use Rattle.stretch.proofs.whole.instructions_of.Goals as goal

pub loop-turn-init : goal.loop-turn-init
loop-turn-init c = rw c.no_passes-passes.ensures (walk-starts _ _ _ _ _ _ _ _ c.requires.0 c.requires.1)

pub instruction-requires : goal.instruction-requires
instruction-requires c =
    let l = c.loop-turn.invariant in
    let first = c.loop-turn-test.true in
    (walk-counted _ _ _ _ _ _ _ _ c.requires.0 l first, l.next first, omega (arith, l.few, c.if-rest-ge-MOST_TURNS.true, c.ranges.rounds))

pub loop-turn-preserved : goal.loop-turn-preserved
loop-turn-preserved c =
    let x = c.in-Some.ensures in
    walk-again _ _ _ _ _ _ _ _ c.requires.0 c.loop-turn.invariant c.loop-turn-test.true x.0 (omega (arith, x.0.most, c.if-rest-ge-MOST_TURNS.true)) x.1
