-- `stages::line` meets its contract: the first line by `first`, the others on the image's words.
use borrow.Author.Tests.{ne_eqb}
use native.Mathlib.Omega.{arith}
use mathlib.Core.Path.{◌≡◌, sym}
use lib.Seq.{length-take-le}
use Rattle.stages.specs.Begun.{line_on}
use Rattle.stages.proofs.Buffers.{front-words, front-buffered}
use Rattle.stages.proofs.line.Goals as goal

pub returns-then-d-eq0 : goal.returns-then-d-eq0
unfolding line_on
returns-then-d-eq0 c =
    let F = c.first in
    let A = c.args in
    let e : A.d.words ≡ 0 = c.if-d-eq0.true in
    record { stage = rw e F.ensures.stage; buffer = rw e F.ensures.buffer }

pub slice_bounds-begin-end-2 : goal.slice_bounds-begin-end-2
slice_bounds-begin-end-2 c = sym (length-take-le _ _ c.requires.words)

pub returns : goal.returns
unfolding line_on
returns c =
    let G = c.begin-played in
    let m = c.args.image.now in
    let n = c.args.d.words in
    let h = c.requires.words in
    record {
      stage = rw (front-words m G.new.image n h G.auto.image, length-take-le n m h, ne_eqb n 0 c.if-d-eq0.false) G.ensures;
      buffer = front-buffered m G.new.image n h G.auto.image n (omega arith);
    }
