-- `formatting::store_all` meets its contract: its stores are the definition's, one by one.
use native.Mathlib.Omega.{arith}
use Rattle.image.proofs.Apart.{length-ge}
use Rattle.formatting.proofs.Formats.{formattable-true, format-stores}
use Rattle.formatting.proofs.store_all.Goals as goal

pub overflow_sub-n : goal.overflow_sub-n
overflow_sub-n c =
    let A = c.args in
    omega (arith, c.words-n.ensures, (formattable-true A.e.own A.image.now A.workers c.requires).2, length-ge A.e.own A.workers)

pub clear-requires : goal.clear-requires
clear-requires c =
    let A = c.args in
    let z = (formattable-true A.e.own A.image.now A.workers c.requires).2 in
    omega (arith, c.words-n.ensures, z, length-ge A.e.own A.workers, c.store-2.auto.image, c.store.auto.image)

pub returns : goal.returns
returns c =
    let A = c.args in
    let z = (formattable-true A.e.own A.image.now A.workers c.requires).2 in
    let g = length-ge A.e.own A.workers in
    record {
      image = rw (
        format-stores A.e.mark A.e.own A.left.now A.image.now A.workers,
        ← z,
        ← c.words-n.ensures,
        ← c.store.ensures.left,
        ← c.store.ensures.image,
        ← c.store-2.ensures.left,
        ← c.store-2.ensures.image,
        ← c.clear.ensures.left,
        ← c.clear.ensures.image,
      )
          c.store-3.ensures.image;
      left = omega (arith, c.words-n.ensures, c.store.ensures.left, c.store-2.ensures.left, c.clear.ensures.left, c.store-3.ensures.left);
    }
