-- `resuming::resumed_all` meets its contract. The locks held are the union of the sets given.
use Prim.Native.Nat.{◌<◌}
use mathlib.Core.Path.{◌≡◌, ◌∙◌}
use native.Mathlib.Omega.{arith}
use Rattle.image.specs.Image.{at, workers}
use Rattle.working.specs.Cursor.{step_no, turn_no}
use Rattle.resuming.specs.Resumed.{resumed_all}
use Rattle.resuming.proofs.Places.{places-next}
use Rattle.soundness.proofs.Sets.{owed-first, union-are}
use Rattle.resuming.proofs.resumed_all.Goals as goal

pub loop-d-preserved : goal.loop-d-preserved
loop-d-preserved c =
    let A = c.args in
    let L = c.loop-d in
    let rd = at A.own A.image.now in
    let g : L.d < 8 = omega (arith, c.loop-d-test.true, c.workers-n.ensures, c.requires.0.most) in (
      places-next A.own rd L.d step_no L.step _ g L.invariant.0 c.goes_on-r.ensures.step,
      places-next A.own rd L.d turn_no L.turn _ g L.invariant.1 c.goes_on-r.ensures.turn,
    )

pub returns : goal.returns
unfolding resumed_all
returns c =
    let A = c.args in
    let L = c.loop-d in
    let rd = at A.own A.image.now in
    let D = workers A.image.now in
    let w = c.workers-n.ensures in
    let all : L.d ≡ D = omega (arith, c.loop-d-test.false) in
    let held = c.union.ensures ∙ union-are A.own rd D _ (owed-first A.own rd D A.sets _ c.requires.1 w c.requires.0.most) in
    rw (rw all at L.invariant.0, rw all at L.invariant.1, held)
