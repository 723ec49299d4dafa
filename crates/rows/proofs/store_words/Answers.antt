-- `rows::store_words` meets its contract, by the loop's invariant.
use Prim.Native.Nat.{◌+◌}
use mathlib.Core.Path.{refl, sym, ◌∙◌}
use native.Mathlib.Omega.{arith}
use Rattle.rows.proofs.Rows.{words_step, words-end}
use Rattle.rows.proofs.store_words.Goals as goal

pub loop-i-preserved : goal.loop-i-preserved
loop-i-preserved c =
    let A = c.args in
    let L = c.loop-i in
    let s = c.store_inside in record {
      spent = omega (arith, s.ensures.left);
      row = words_step A.words.now A.at L.i _ L.rest _ L.image _ (omega arith) refl s.ensures.image s.ensures.left ∙ L.invariant.row;
    }

pub returns-clause-image : goal.returns-clause-image
returns-clause-image c =
    let A = c.args in
    let L = c.loop-i in
    sym (words-end A.words.now (A.at + L.i) L.i L.rest L.image c.loop-i-test.false) ∙ L.invariant.row
