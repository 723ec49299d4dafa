-- `stages::on` meets its contract: the image's words are replaced in its buffer.
use native.Mathlib.Omega.{arith}
use mathlib.Core.Path.{sym}
use lib.Seq.{length-take-le}
use Rattle.stages.proofs.Buffers.{front-words, front-buffered}
use Rattle.stages.proofs.on.Goals as goal

pub slice_bounds-go_on-end-2 : goal.slice_bounds-go_on-end-2
slice_bounds-go_on-end-2 c = sym (length-take-le _ _ c.requires)

pub returns : goal.returns
returns c =
    let G = c.go_on-played in
    let m = c.args.image.now in
    let n = c.args.d.words in
    record {
      stage = rw (front-words m G.new.image n c.requires G.auto.image) G.ensures;
      buffer = front-buffered m G.new.image n c.requires G.auto.image n (omega arith);
    }
