-- `stream::play` meets its contract. The loop's invariant: the buffers have their lengths, the stream stays within them, and the day is under way.
use Rattle.std.proofs.Common.{◌≡◌, length}
use Rattle.edition.specs.Edition.{largest}
use Rattle.stream.specs.InBuffers.{InBuffers}
use Rattle.stream.proofs.Underway.{Underway}
use Rattle.stream.proofs.play.Given as goal

abbrev pub invariant-loop : goal.invariant-loop
invariant-loop g l =
    record {
      image : length l.image ≡ largest;
      buf : length l.buf ≡ 65536;
      out : length l.out ≡ 65536;
      within : InBuffers l.image l.buf l.s;
      underway : Underway (g.R.Read.remaining l.initial.input) (g.R.Read.remaining l.input) (g.W.Write.contents l.initial.output)
          (g.W.Write.contents l.output) l.image l.buf l.s l.failures.any;
    }
