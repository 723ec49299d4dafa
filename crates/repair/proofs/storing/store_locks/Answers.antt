-- `repair::storing::store_locks` meets its contract. The loop's invariant: what the locks that are left leave of the image
-- and the stores left, as they are now, is what all of the set leave of the first ones.
use mathlib.Core.Path.{sym, ◌∙◌}
use native.Mathlib.Omega.{arith}
use Rattle.mask.proofs.Lowest.{low-some}
use Rattle.repair.proofs.Lowest.{less-without, image-none, left-none, image-lock, left-lock}
use Rattle.repair.proofs.storing.store_locks.Goals as goal

pub overflow_cast-b : goal.overflow_cast-b
overflow_cast-b c = let l = low-some c.loop-rest.rest c.loop-rest.invariant.0 c.loop-rest-test.true in omega arith

pub lock_index-requires : goal.lock_index-requires
lock_index-requires c = low-some c.loop-rest.rest c.loop-rest.invariant.0 c.loop-rest-test.true

pub without-rest-requires : goal.without-rest-requires
without-rest-requires c =
    let L = c.loop-rest in
    low-some L.rest L.invariant.0 c.loop-rest-test.true

pub loop-rest-smaller : goal.loop-rest-smaller
loop-rest-smaller c =
    let L = c.loop-rest in
    rw c.without-rest.ensures (less-without L.rest L.invariant.0 c.loop-rest-test.true)

pub loop-rest-preserved : goal.loop-rest-preserved
loop-rest-preserved c =
    let A = c.args in
    let L = c.loop-rest in
    let h = c.loop-rest-test.true in
    let s = c.store in
    let i = c.lock_index in
    let l = less-without L.rest L.invariant.0 h in (
      rw c.without-rest.ensures (omega arith),
      s.auto.image ∙ L.invariant.1,
      λ n.
          rw (c.without-rest.ensures, s.ensures.image, s.ensures.left, i.ensures n)
          (image-lock L.rest L.invariant.0 h A.value n L.k L.image ∙ L.invariant.2 n),
      rw (c.without-rest.ensures, s.ensures.left) (left-lock L.rest L.invariant.0 h A.value L.k ∙ L.invariant.3),
    )

pub returns : goal.returns
returns c =
    let L = c.loop-rest in
    let A = c.args in
    let z = c.loop-rest-test.false in
    record {
      image = λ n. sym (image-none L.rest A.value z n L.k L.image) ∙ L.invariant.2 n;
      left = sym (left-none L.rest A.value z L.k) ∙ L.invariant.3;
    }
