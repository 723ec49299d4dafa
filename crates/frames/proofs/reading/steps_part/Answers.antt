-- `frames::reading::steps_part` meets its contract: of a line that is shorter nothing is left after 148 digits.
use native.Mathlib.Omega.{arith}
use mathlib.Core.Path.{sym}
use Prim.Native.Nat.{◌-◌}
use lib.ListN.{length, drop, length-drop, drop_of_length-le}
use lib.Seq.{take_all}
use Rattle.frames.proofs.reading.steps_part.Goals as goal

pub returns-then-line-ge148 : goal.returns-then-line-ge148
returns-then-line-ge148 c =
    let l = c.args.line.now in
    take_all (length l - 148) (drop 148 l) (omega (arith, length-drop 148 l))

pub returns-else-line-ge148 : goal.returns-else-line-ge148
returns-else-line-ge148 c =
    let l = c.args.line.now in
    sym (drop_of_length-le l {i = 148} (omega arith))
