-- `worklog::words::operand_index` meets its contract: below 512 a cell, from there on an own word.
use Rattle.std.proofs.Common.{◌≡◌, ◌+◌, arith, rules}
use Rattle.image.specs.Image.{index_of}
use Rattle.image.proofs.Apart.{index-small}
use Rattle.worklog.specs.Log.{operand}
use Rattle.worklog.proofs.Operands.{operand-cell, operand-own, own-past, operand-valid}
use Rattle.worklog.proofs.words.operand_index.Goals as goal
use Rattle.worklog.proofs.words.operand_index.Goals.{then-x-lt512, else-x-lt512}

pub overflow_sub-from : goal.overflow_sub-from
overflow_sub-from c = let A = c.args in rw c.own_index.ensures (own-past A.own A.d A.x)

pub overflow_add-result : goal.overflow_add-result
overflow_add-result c =
    let A = c.args in
    let small = index-small A.own (operand A.d A.x) c.requires.2 (operand-valid A.own A.d A.x 8 c.requires.0 c.requires.1) in
    let at : c.if-x-lt512.from + A.x ≡ index_of A.own (operand A.d A.x) = elim c.if-x-lt512.branch [
      | then-x-lt512 w ↦ rw (w.from-is, w.cell_index-from.ensures A.own) (operand-cell A.own A.d A.x w.if-x-lt512.true)
      | else-x-lt512 w ↦ rw (w.from-is, w.own_index.ensures) (operand-own A.own A.d A.x w.if-x-lt512.false)
    ] in
    omega (arith, small, at)

pub returns : goal.returns
returns c =
    let A = c.args in
    elim c.if-x-lt512.branch [
      | then-x-lt512 w ↦ rw (w.from-is, w.cell_index-from.ensures A.own) (operand-cell A.own A.d A.x w.if-x-lt512.true)
      | else-x-lt512 w ↦ rw (w.from-is, w.own_index.ensures) (operand-own A.own A.d A.x w.if-x-lt512.false)
    ]
