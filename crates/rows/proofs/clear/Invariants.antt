-- `rows::clear` meets its contract. The loop's invariant, with 2 i words stored: as many stores are taken off, and what
-- the rest of the row of zeros leaves of the image as it is now is what the whole row leaves of the first one.
use Prim.Native.Nat.{◌+◌, ◌-◌, ◌*◌}
use mathlib.Core.Path.{◌≡◌}
use lib.ListN.{drop, replicate}
use Rattle.rows.specs.Rows.{put_from}
use Rattle.rows.proofs.clear.Given as goal

abbrev pub invariant-loop-i : goal.invariant-loop-i
invariant-loop-i l = record {
  spent : l.rest ≡ l.left - 2 * l.i;
  row : put_from l.rest l.image (l.at + 2 * l.i) (drop (2 * l.i) (replicate l.k 0)) ≡ put_from l.left l.initial.image l.at (replicate l.k 0);
}
