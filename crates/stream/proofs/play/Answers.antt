-- `stream::play` meets its contract. The loop's invariant: the buffers have their lengths, the stream stays within them, and the day is under way.
use Rattle.std.proofs.Common.{◌≤◌, refl, ap, arith, rules}
use Rattle.edition.specs.Edition.{largest}
use Rattle.stages.specs.declared.Day.{Day}
use Rattle.stream.proofs.Underway.{starts, goes-on, prints-read, prints}
use Rattle.stream.proofs.play.Goals as goal

pub loop-init : goal.loop-init
loop-init g c =
    let h : c.dawn.result.words ≤ largest = omega (arith, ap (λ (d : Day). d.words) c.dawn.ensures) in
    record {
      image = search rules;
      buf = search rules;
      out = search rules;
      within = search rules;
      underway = starts _ _ _ _ _ _ c.dawn.ensures refl refl refl refl;
    }

pub loop-preserved : goal.loop-preserved
loop-preserved g c =
    let L = c.loop in
    let S = c.step-s in
    let E = S.ensures in
    record {
      image = search rules;
      buf = search rules;
      out = search rules;
      within = E.within;
      underway = goes-on _ _ _ _ _ _ L.image _ L.buf _ L.out _ L.s S.result _ _ c.if-s.false L.invariant.within
          L.invariant.underway E.stepped E.read E.written E.told (E.ended (omega arith)) E.over;
    }

pub returns-then-s-2-clause-printed : goal.returns-then-s-2-clause-printed
returns-then-s-2-clause-printed g c = prints _ _ _ _ _ _ _ _ c.loop.invariant.underway c.if-s-2.true

pub returns-then-s-2-clause-first : goal.returns-then-s-2-clause-first
returns-then-s-2-clause-first g c =
    let day = c.loop.invariant.underway in (day.bytes, day.read, prints-read _ _ _ _ _ _ _ _ day c.if-s-2.true)
