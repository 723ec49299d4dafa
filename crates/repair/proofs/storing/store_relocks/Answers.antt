-- `repair::storing::store_relocks` meets its contract.
use Prim.Native.Nat.{◌-◌}
use mathlib.Core.Path.{◌≡◌, sym, ◌∙◌}
use native.Mathlib.Omega.{arith}
use Rattle.image.proofs.Lists.{put_all-nil}
use Rattle.repair.proofs.Slots.{relocks-end, image-relock, left-relock}
use Rattle.repair.proofs.storing.store_relocks.Goals as goal

pub loop-d-preserved : goal.loop-d-preserved
loop-d-preserved c =
    let r = c.args.r in
    let L = c.loop-d in
    let h = c.loop-d-test.true in
    let s = c.store_locks in (
      s.auto.image ∙ L.invariant.0,
      λ n. image-relock r n L.d h L.left _ s.ensures.left L.image _ (s.ensures.image n) ∙ L.invariant.1 n,
      left-relock r 0 L.d h L.left _ s.ensures.left ∙ L.invariant.2,
    )

pub returns : goal.returns
returns c =
    let L = c.loop-d in
    let r = c.args.r in
    let e = relocks-end r L.d c.loop-d-test.false in
    let z : L.left - 0 ≡ L.left = omega arith in
    record {
      image = λ n. sym (put_all-nil n L.left L.image) ∙ rw e at (L.invariant.1 n);
      left = sym z ∙ rw e at L.invariant.2;
    }
