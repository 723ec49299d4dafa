-- `repair::stock::freed` meets its contract.
use mathlib.Core.Path.{◌≡◌, refl}
use native.Mathlib.Omega.{arith}
use Rattle.image.specs.Image.{at, workers}
use Rattle.repair.specs.Repair.{freed_by}
use Rattle.repair.proofs.Sets.{freed-next}
use Rattle.soundness.proofs.Legible.{inside}
use Rattle.repair.proofs.stock.freed.Goals as goal

pub loop-d-init : goal.loop-d-init
unfolding freed_by
loop-d-init c = refl

pub read_field-set-requires : goal.read_field-set-requires
read_field-set-requires c = inside c.args.own c.args.image.now c.loop-d.d c.requires (rw (← c.workers-n.ensures) c.loop-d-test.true)

pub loop-d-preserved : goal.loop-d-preserved
loop-d-preserved c =
    let A = c.args in
    let L = c.loop-d in
    rw (freed-next (at A.own A.image.now) L.d, ← L.invariant, ← c.read_field-set.ensures)

pub returns : goal.returns
returns c =
    let L = c.loop-d in
    let e : workers c.args.image.now ≡ L.d = omega (arith, c.workers-n.ensures) in
    rw e L.invariant
