-- `resuming::goes_on` meets its contract: idle where the pc is 0, else at the step that it names, at the turn of the named instruction's
-- target store.
use borrow.Author.Tests.{eq-eqb, ne_eqb}
use native.Mathlib.Omega.{arith}
use Rattle.image.specs.Image.{at}
use Rattle.owed.specs.Owed.{named_step, named_op}
use Rattle.resuming.specs.Resumed.{resumed}
use Rattle.soundness.proofs.Legible.{pc-low}
use Rattle.resuming.proofs.goes_on.Goals as goal

pub returns-then-pc-eq0 : goal.returns-then-pc-eq0
unfolding resumed
returns-then-pc-eq0 c =
    let z = eq-eqb c.read_field-pc.result 0 c.if-pc-eq0.true in
    record { step = rw (← c.read_field-pc.ensures, z); turn = rw (← c.read_field-pc.ensures, z) }

pub overflow_cast-step : goal.overflow_cast-step
overflow_cast-step c =
    let A = c.args in
    let f = c.read_field-pc in
    let p = pc-low A.own (at A.own A.image.now) A.d f.result f.ensures c.requires.1 c.if-pc-eq0.false in
    omega arith

pub read_step-requires : goal.read_step-requires
read_step-requires c =
    let A = c.args in
    let f = c.read_field-pc in
    let p = pc-low A.own (at A.own A.image.now) A.d f.result f.ensures c.requires.1 c.if-pc-eq0.false in
    (c.requires.0, omega arith)

pub returns-clause-step : goal.returns-clause-step
unfolding named_step resumed
returns-clause-step c = rw (← c.read_field-pc.ensures, ne_eqb c.read_field-pc.result 0 c.if-pc-eq0.false)

pub returns-clause-turn : goal.returns-clause-turn
unfolding named_step named_op resumed
returns-clause-turn c =
    rw (
      ← c.read_field-pc.ensures,
      ne_eqb c.read_field-pc.result 0 c.if-pc-eq0.false,
      ← c.read_step.ensures,
      ← c.op_of-x.ensures,
    )
    c.target_turn.ensures
