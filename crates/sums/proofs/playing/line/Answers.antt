-- `sums::playing::line` meets its contract: one piece more, and the line at its end.
use Rattle.std.proofs.Common.{◌≡◌, true, false, sym, ◌∙◌}
use Rattle.lines.specs.Play.{is_going}
use Rattle.sums.proofs.Lines.{goes-start, goes-less, goes_on, line-played}
use Rattle.sums.proofs.playing.line.Goals as goal

pub loop-image-init : goal.loop-image-init
loop-image-init c = let L = c.line-s in goes-start L.new.image L.result _ L.ensures.buffer.words

pub loop-image-smaller : goal.loop-image-smaller
loop-image-smaller c =
    let L = c.loop-image in
    let N = c.on-s in
    let j : is_going L.s.played.job ≡ true = sym c.is_going.ensures ∙ c.loop-image-test.true in
    goes-less _ L.image _ L.s _ _ L.invariant j N.new.image N.result N.ensures.stage

pub loop-image-preserved : goal.loop-image-preserved
loop-image-preserved c =
    let L = c.loop-image in
    let N = c.on-s in
    let j : is_going L.s.played.job ≡ true = sym c.is_going.ensures ∙ c.loop-image-test.true in
    goes_on _ L.image _ L.s _ _ L.invariant j N.new.image N.result N.ensures.stage _ c.count.ensures N.ensures.buffer

pub returns : goal.returns
returns c =
    let L = c.loop-image in
    let B = c.line-s in
    let j : is_going L.s.played.job ≡ false = sym c.is_going.ensures ∙ c.loop-image-test.false in
    line-played _ L.image B.result L.s _ _ L.invariant j _ _ _ B.ensures.stage B.ensures.buffer
