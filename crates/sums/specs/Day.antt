-- The sums of a day, for any bytes: of the turns that its lines make, up to where reading ends.
use Rattle.std.specs.Prelude.{ℕ, List, []}
use Rattle.working.specs.Cursor.{all_idle}
use Rattle.buffers.specs.Input.{lines_of}
use Rattle.stages.specs.Lines.{Reading, lines_whole}
use Rattle.lines.specs.Whole.{Took}
use Rattle.sums.specs.declared.Sums.{Sums}
use Rattle.sums.specs.Sums.{sums_of}

-- what the lines of a day do
abbrev pub day_reading : List ℕ → Reading
day_reading bytes = lines_whole (lines_of bytes) [] all_idle

-- the turns made in it
abbrev pub day_turns : List ℕ → List Took
day_turns bytes = (day_reading bytes).output.turns

abbrev pub day_sums : List ℕ → Sums
day_sums bytes = sums_of (day_turns bytes)
