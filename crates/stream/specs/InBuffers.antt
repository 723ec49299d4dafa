-- Where the parts of a stream's buffers lie.
use Rattle.std.specs.Prelude.{ℕ, ◌≤◌, List, length}
use Rattle.stages.specs.Buffer.{Holds}
use Rattle.stream.specs.declared.Stream.{Stream}

-- the image lies in its buffer, and the input not taken yet in its own
pub record InBuffers (image buf : List ℕ) (s : Stream) : Type 0 where
  pub rising : s.from ≤ s.to
  pub held : s.to ≤ length buf
  pub holds : Holds image s.day
