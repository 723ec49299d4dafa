-- What a piece does to the buffers: the image is the first words of its buffer, the input left is behind the bytes taken, and the bytes put
-- out are behind those used of the output's buffer. What is behind stays.
use Rattle.std.specs.Prelude.{ℕ, ◌-◌, ◌≤◌, ◌≡◌, List, Bool, Option, is_some, unwrap_or, length, take, drop}
use Rattle.lines.specs.Play.{stage}
use Rattle.stages.specs.declared.Day.{Day}
use Rattle.stages.specs.Buffer.{Buffered}
use Rattle.pieces.specs.declared.Piece.{Piece}
use Rattle.pieces.specs.declared.Run.{Run}
use Rattle.pieces.specs.Pieces.{Point, point, after, whole, job_pieces}

-- where a day stands: `m` is the image's buffer, `l` the input left
abbrev pub point_of : List ℕ → List ℕ → Day → Point
point_of l m d = point l (stage (take d.words m) d.played)

-- the piece that was made; where none was, the day stands where it stood, and its input goes on where it did
abbrev pub left_by : Option Piece → Day → ℕ → Piece
left_by r d from = unwrap_or r (record { day = d; from = from })

-- one piece, or none where there is none to be made; q is where the day then stands
pub record Pieced (m k input : List ℕ) (d : Day) (at : ℕ) (r : Option Piece) (ok : Bool) (q : Point) : Type 0 where
  pub made : is_some r ≡ ok
  pub point : point_of (drop (left_by r d at).from input) k (left_by r d at).day ≡ q
  pub from : (left_by r d at).from ≤ length input
  pub keeps : Buffered m k d.words (left_by r d at).day.words

-- a line gone on with: on any input, what comes out in all is the same as from before, and no more pieces are left than there were
pub record RunsOn (m k o u : List ℕ) (at : ℕ) (d : Day) (r : Run) : Type 0 where
  pub so : (more : Bool) (l : List ℕ) → after (take r.used u) (whole more (length u - r.used) (point_of l k r.day))
      ≡ after (take at o) (whole more (length o - at) (point_of l m d))
  pub keeps : Buffered m k d.words r.day.words
  pub from : at ≤ r.used
  pub room : r.used ≤ length u
  pub behind : drop r.used u ≡ drop r.used o
  pub pieces : job_pieces r.day.played.job ≤ job_pieces d.played.job
