-- What the core does to its buffers: the image is the first words of its buffer, the input left is behind the bytes taken, and the
-- bytes put out are the first of the output's buffer. What is behind stays.
use Rattle.std.specs.Prelude.{ℕ, ◌≤◌, ◌≡◌, List, length, drop}
use Rattle.buffers.specs.Output.{Puts}
use Rattle.stages.specs.declared.Day.{Day}
use Rattle.stages.specs.Buffer.{Buffered}
use Rattle.pieces.specs.Pieces.{Progress}
use Rattle.pieces.specs.Pieced.{point_of}
use Rattle.day.specs.declared.Stretch.{Stretch}

-- a is what the definition gives
pub record Advanced (m k input o u : List ℕ) (d : Day) (r : Stretch) (a : Progress) : Type 0 where
  pub point : point_of (drop r.taken input) k r.day ≡ a.point
  pub taken : r.taken ≤ length input
  pub keeps : Buffered m k d.words r.day.words
  pub out : Puts o u 0 r.used a.out
