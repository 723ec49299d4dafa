-- `repair::stock::withdrawn` meets its contract.
use mathlib.Core.Path.{◌≡◌, refl, ◌∙◌}
use native.Mathlib.Omega.{arith}
use Rattle.image.specs.Image.{at, workers}
use Rattle.repair.specs.Repair.{withdrawn_by}
use Rattle.repair.proofs.Sets.{withdrawn-next}
use Rattle.soundness.proofs.Legible.{inside}
use Rattle.repair.proofs.stock.withdrawn.Goals.{then-unbegun, else-unbegun}
use Rattle.repair.proofs.stock.withdrawn.Goals as goal

pub loop-d-init : goal.loop-d-init
unfolding withdrawn_by
loop-d-init c = refl

pub unbegun-requires : goal.unbegun-requires
unbegun-requires c = inside c.args.own c.args.image.now c.loop-d.d c.requires (rw (← c.workers-n.ensures) c.loop-d-test.true)

pub loop-d-preserved : goal.loop-d-preserved
loop-d-preserved c =
    let L = c.loop-d in
    let next = withdrawn-next (at c.args.own c.args.image.now) L.d in
    elim c.if-unbegun.branch [
      | then-unbegun w ↦ rw (next, ← c.unbegun.ensures, w.if-unbegun.true, ← L.invariant) (w.set-is ∙ w.with-set.ensures)
      | else-unbegun w ↦ rw (next, ← c.unbegun.ensures, w.if-unbegun.false, ← L.invariant) w.set-is
    ]

pub returns : goal.returns
returns c =
    let L = c.loop-d in
    let e : workers c.args.image.now ≡ L.d = omega (arith, c.workers-n.ensures) in
    rw e L.invariant
