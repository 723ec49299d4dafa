-- What a day prints: what its lines print, whole (`lines_whole`). proofs/Printout.antt shows that `day_of` is this.
use Rattle.std.specs.Prelude.{ℕ, List, [], ◌∷◌, ◌++◌}
use Rattle.working.specs.Cursor.{all_idle}
use Rattle.frames.specs.Print.{Printed}
use Rattle.buffers.specs.Input.{lines_of}
use Rattle.buffers.specs.Output.{bytes_of}
use Rattle.stages.specs.Lines.{lines_whole}

-- the bytes
unfoldable pub texts : List Printed → List ℕ
texts [] = []
texts (p ∷ ps) = bytes_of p ++ texts ps

abbrev pub printout : List ℕ → List ℕ
printout input = texts (lines_whole (lines_of input) [] all_idle).output.lines
