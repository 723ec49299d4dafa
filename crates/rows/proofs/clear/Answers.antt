-- `rows::clear` meets its contract, by the loop's invariant. A round of the loop takes two steps; the word that an odd row has left over takes
-- one more.
use Prim.Native.Nat.{ℕ, ◌+◌, ◌-◌, ◌*◌, ◌≤◌, ◌<◌}
use mathlib.Core.Path.{◌≡◌, refl, sym, ◌∙◌}
use native.Mathlib.Omega.{arith}
use lib.ListN.{drop, replicate, length-replicate}
use Rattle.image.specs.Image.{Image, put}
use Rattle.rows.specs.Rows.{put_from}
use Rattle.rows.proofs.Rows.{replicate-zero, words_step, words-end}
use Rattle.rows.proofs.clear.Goals as goal

-- one word more of the row, at index p
zero-step : (k at i p q rest next : ℕ) (m after : Image) → i < k → p ≡ at + i → q ≡ i + 1 → after ≡ put rest m p 0 → next ≡ rest - 1
    → put_from next after (at + q) (drop q (replicate k 0)) ≡ put_from rest m (at + i) (drop i (replicate k 0))
zero-step k at i p q rest next m after h here then e l =
    rw then (words_step (replicate k 0) at i 0 rest next m after (rw length-replicate h) (sym (replicate-zero k i)) (rw here at e) l)

-- the whole of it
zero-end : (k at i rest : ℕ) (m : Image) → k ≤ i → put_from rest m at (drop i (replicate k 0)) ≡ m
zero-end k at i rest m h = words-end (replicate k 0) at i rest m (rw length-replicate h)

pub loop-i-preserved : goal.loop-i-preserved
loop-i-preserved c =
    let A = c.args in
    let L = c.loop-i in
    let one = c.store_inside in
    let two = c.store_inside-in-loop-i in
    let t = c.loop-i-test.true in
    let first = zero-step A.k A.at (2 * L.i) _ (2 * L.i + 1) L.rest _ L.image _ (omega (arith, t)) refl refl one.ensures.image one.ensures.left in
    let second = zero-step A.k A.at (2 * L.i + 1) _ (2 * (L.i + 1)) _ _ _ _ (omega (arith, t)) (omega arith) (omega arith) two.ensures.image
    two.ensures.left in record {
      spent = omega (arith, one.ensures.left, two.ensures.left, L.invariant.spent);
      row = second ∙ (first ∙ L.invariant.row);
    }

pub returns-then-k-eq1-clause-image : goal.returns-then-k-eq1-clause-image
returns-then-k-eq1-clause-image c =
    let A = c.args in
    let L = c.loop-i in
    let s = c.store_inside-then-k-eq1 in
    let last = zero-step A.k A.at (2 * L.i) _ A.k L.rest _ L.image _ (omega arith) (omega arith) (omega arith) s.ensures.image s.ensures.left in
    sym (zero-end A.k (A.at + A.k) A.k _ _ (omega arith)) ∙ (last ∙ L.invariant.row)

pub returns-else-k-eq1-clause-image : goal.returns-else-k-eq1-clause-image
returns-else-k-eq1-clause-image c =
    let A = c.args in
    let L = c.loop-i in
    sym (zero-end A.k (A.at + 2 * L.i) (2 * L.i) L.rest L.image (omega arith)) ∙ L.invariant.row
