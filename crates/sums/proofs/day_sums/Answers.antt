-- `sums::day_sums` meets its contract: each line takes one of those left, and at the end none is.
use Rattle.std.proofs.Common.{◌≡◌, true, ◌&&◌, eqb, ltb, length, sym, refl, ◌∙◌, arith, ltb-true, eqb-true}
use Rattle.base.proofs.Bools.{and_left, and_right}
use Rattle.pieces.specs.Pieces.{ends_of}
use Rattle.sums.specs.Sums.{sums_of, count, numbers}
use Rattle.sums.proofs.Days.{stands-start, stands-over}
use Rattle.sums.proofs.day_sums.Goals as goal

pub loop-image-init : goal.loop-image-init
unfolding sums_of numbers count
loop-image-init c = (refl, rw c.start-s.ensures (stands-start _ _ _ (omega arith) refl))

pub next-s-requires : goal.next-s-requires
next-s-requires c =
    let L = c.loop-image in
    let n = length c.args.bytes.now in
    let a = eqb (ends_of L.s.day.played) 0 in
    let b = ltb L.s.from n in
    let m : (a && b) ≡ true = sym c.goes_on.ensures ∙ c.loop-image-test.true in
    (eqb-true (ends_of L.s.day.played) 0 (and_left a b m), ltb-true L.s.from n (and_right a b m), L.invariant.1)

pub loop-image-smaller : goal.loop-image-smaller
loop-image-smaller c =
    let N = c.next-s in
    omega (arith, N.ensures.further, N.ensures.stands.inside)

pub loop-image-preserved : goal.loop-image-preserved
loop-image-preserved c = (c.next-s.auto.image ∙ c.loop-image.invariant.0, c.next-s.ensures.stands)

pub returns : goal.returns
returns c =
    let L = c.loop-image in
    let o = stands-over _ _ L.s _ L.invariant.1 (sym c.goes_on.ensures ∙ c.loop-image-test.false) in
    record { sums = o.0; ends = c.ends.ensures ∙ o.1; lines = o.2 }
