-- What the code of a day's reading keeps, line by line.
use Rattle.std.specs.Prelude.{◌≡◌, ℕ, ◌+◌, ◌≤◌, ◌≢◌, List, ◌++◌, length, take, drop}
use Rattle.buffers.specs.Input.{lines_of}
use Rattle.lines.specs.Whole.{Took}
use Rattle.stages.specs.declared.Day.{Day}
use Rattle.stages.specs.Buffer.{Holds, Buffered}
use Rattle.stages.specs.Lines.{Line, Reading, lines_whole}
use Rattle.pieces.specs.Pieces.{ends_of}
use Rattle.sums.specs.declared.playing.Stand.{Stand}
use Rattle.sums.specs.declared.Sums.{Sums}
use Rattle.sums.specs.Sums.{sums_of}
use Rattle.sums.specs.Day.{day_reading}

-- a line was played, on the image's buffer, which was m and is k, and x were the sums and are y; l is what the definition says of it
pub record LinePlayed (m k : List ℕ) (d r : Day) (x y : Sums) (l : Line) : Type 0 where
  pub image : take r.words k ≡ l.output.image
  pub cursors : r.played.cursors ≡ l.output.cursors
  pub ends : ends_of r.played ≡ l.ends
  pub keeps : Buffered m k d.words r.words
  pub counts : (ts : List Took) → x ≡ sums_of ts → y ≡ sums_of (ts ++ l.output.turns)

-- what is left to be read: behind these turns and so many lines, this reading is the whole
pub record Rest (whole : Reading) (ts : List Took) (lines : ℕ) (rest : Reading) : Type 0 where
  pub turns : whole.output.turns ≡ ts ++ rest.output.turns
  pub ends : whole.ends ≡ rest.ends
  pub read : whole.read ≡ lines + rest.read

-- the image's buffer is m, and the sums are x: those of the turns so far
pub record Stands (bytes m : List ℕ) (s : Stand) (x : Sums) : Type 0 where
  pub turns : List Took
  pub counted : x ≡ sums_of turns
  pub inside : s.from ≤ length bytes
  pub few : s.lines ≤ s.from
  pub holds : Holds m s.day
  pub going :
      ends_of s.day.played ≡ 0 → Rest (day_reading bytes) turns s.lines (lines_whole (lines_of (drop s.from bytes)) (take s.day.words m) s.day.played.cursors)
  pub over :
      ends_of s.day.played ≢ 0
      → ((day_reading bytes).output.turns ≡ turns) × ((day_reading bytes).ends ≡ ends_of s.day.played) × ((day_reading bytes).read ≡ s.lines)
