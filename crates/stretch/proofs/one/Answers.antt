-- `stretch::one` meets its contract: the turn of the callee, as so many turns in sequence.
use Prim.Native.Nat.{◌-◌}
use native.Mathlib.Omega.{arith}
use Rattle.stretch.proofs.Alone.{made_one}
use Rattle.stretch.proofs.one.Goals as goal

pub returns-clause-stretch : goal.returns-clause-stretch
returns-clause-stretch c =
    let A = c.args in
    let r = c.turn_on-acted in
    let made = made_one A.own A.d A.s A.t A.image.now A.left.now c.requires.1 _ _ r.result.did _ _ r.ensures.acts (A.rounds - 1) A.held A.tally in
    rw (c.counted.ensures A.own, c.waits.ensures, c.held_after.ensures, c.more-waits.ensures) (record { some = omega arith; made = made })
