-- `repair::storing::store_workers` meets its contract.
use Prim.Native.Nat.{◌-◌}
use mathlib.Core.Path.{◌≡◌, sym, ◌∙◌}
use native.Mathlib.Omega.{arith}
use Rattle.image.proofs.Lists.{put_all-nil}
use Rattle.repair.proofs.Slots.{rows_end, image-step, left-step-slot}
use Rattle.repair.proofs.storing.store_workers.Goals as goal

pub loop-d-preserved : goal.loop-d-preserved
loop-d-preserved g c =
    let L = c.loop-d in
    let h = c.loop-d-test.true in
    let s = c.store_slot in (
      s.auto.image ∙ L.invariant.0,
      λ n f gives.
          let t = gives L.d c.slot.result h c.slot.ensures in
          let v = L.invariant.1 n f gives in (
            image-step f 8 L.d n h c.slot.result t.0 t.1 L.left _ s.ensures.left L.image _ s.ensures.image ∙ v.0,
            left-step-slot f 8 L.d n h c.slot.result t.0 t.1 L.left _ s.ensures.left ∙ v.1,
          ),
    )

pub returns : goal.returns
returns g c =
    λ n f gives.
    let L = c.loop-d in
    let v = L.invariant.1 n f gives in
    let e = rows_end f 8 L.d c.loop-d-test.false in
    let z : L.left - 0 ≡ L.left = omega arith in (sym (put_all-nil n L.left L.image) ∙ rw e at v.0, sym z ∙ rw e at v.1)
