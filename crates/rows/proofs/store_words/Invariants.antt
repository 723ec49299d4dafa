-- `rows::store_words` meets its contract. The loop's invariant, with i words stored: i stores are taken off, and what
-- the rest of the list leaves of the image as it is now is what the whole list leaves of the first one.
use Prim.Native.Nat.{◌+◌, ◌-◌}
use mathlib.Core.Path.{◌≡◌}
use lib.ListN.{drop}
use Rattle.rows.specs.Rows.{put_from}
use Rattle.rows.proofs.store_words.Given as goal

abbrev pub invariant-loop-i : goal.invariant-loop-i
invariant-loop-i l = record {
  spent : l.rest ≡ l.left - l.i;
  row : put_from l.rest l.image (l.at + l.i) (drop l.i l.words) ≡ put_from l.left l.initial.image l.at l.words;
}
