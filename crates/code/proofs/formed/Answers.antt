-- `code::formed` meets its contract: first the range, then the position.
use mathlib.Core.Path.{sym, ◌∙◌}
use Rattle.code.proofs.Decoding.{row-formed}
use Rattle.code.proofs.formed.Goals as goal

pub returns-then-op_in_row : goal.returns-then-op_in_row
returns-then-op_in_row c =
    let c = c in
    rw (← row-formed c.args.own c.args.n c.args.i c.args.w, ← c.requires.0) (simp (sym c.op_in_row.ensures ∙ c.if-op_in_row.true) c.op_in_place.ensures)

pub returns-else-op_in_row : goal.returns-else-op_in_row
returns-else-op_in_row c =
    rw (← row-formed c.args.own c.args.n c.args.i c.args.w, ← c.requires.0) (simp (sym c.op_in_row.ensures ∙ c.if-op_in_row.false) c.if-op_in_row.false)
