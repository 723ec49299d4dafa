-- `day::advance` meets its contract. The loop's invariant is `Going` of proofs/Going.antt; the pieces left fall with each turn of it.
use Rattle.std.proofs.Common.{arith}
use Rattle.day.proofs.Going.{going-starts, going-over, going-none, going_less, going_next, going-runs}
use Rattle.day.proofs.advance.Goals as goal

pub loop-out-init : goal.loop-out-init
loop-out-init c =
    let A = c.args in
    going-starts A.image.now A.input.now A.out.now A.more A.d c.requires.words

pub make-requires : goal.make-requires
make-requires c =
    let L = c.loop-out in
    (L.invariant.inside, record { words = L.invariant.keeps.words; largest = omega (arith, L.invariant.words, c.requires.largest) })

pub returns-in_default : goal.returns-in_default
returns-in_default c =
    let A = c.args in
    let L = c.loop-out in
    let P = c.make in
    going-none A.image.now A.input.now A.out.now A.more A.d L.image L.out L.s L.invariant P.new.image c.in_default.ensures c.loop-out-test.true

pub loop-out-smaller : goal.loop-out-smaller
loop-out-smaller c =
    let A = c.args in
    let L = c.loop-out in
    let P = c.make in
    omega (
      arith,
      c.run_on-r.ensures.pieces,
      going_less A.image.now A.input.now A.out.now A.more A.d L.image L.out L.s L.invariant P.new.image c.in-Some.p (rw c.in-Some.is at P.ensures),
    )

pub loop-out-preserved : goal.loop-out-preserved
loop-out-preserved c =
    let A = c.args in
    let L = c.loop-out in
    let P = c.make in
    let R = c.run_on-r in
    let T = c.print-used in
    going-runs A.image.now P.new.image R.new.image A.input.now A.out.now T.new.out R.new.out A.more A.d _ R.result
    (going_next A.image.now A.input.now A.out.now A.more A.d L.image L.out L.s L.invariant P.new.image c.in-Some.p (rw c.in-Some.is at P.ensures)
    T.new.out T.result c.loop-out-test.true T.ensures P.auto.image T.auto.out)
    R.ensures R.auto.image R.auto.out

pub returns : goal.returns
returns c =
    let A = c.args in
    let L = c.loop-out in
    going-over A.image.now A.input.now A.out.now A.more A.d L.image L.out L.s L.invariant (omega (arith, c.loop-out-test.false))
