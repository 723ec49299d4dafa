-- `code::in_range` meets its contract: the kind, then the row of it, whose entries tell the largest value of each field.
use mathlib.Core.Path.{◌≡◌, sym, ◌∙◌}
use mathlib.Core.Bool.{◌&&◌}
use lib.Dec.{leb}
use Rattle.base.proofs.Bools.{within}
use Rattle.code.specs.Table.{kind_of}
use Rattle.code.proofs.Decoding.{range-outside, range-row}
use Rattle.code.proofs.in_range.Goals as goal

pub returns-then-contains : goal.returns-then-contains
returns-then-contains c =
    let k = kind_of c.args.w in
    let t : c.contains.result ≡ (leb 1 k && leb k 8) =
    (rw (c.new.ensures.start, c.new.ensures.end, c.new.ensures.exhausted, c.kind_of-k.ensures) at c.contains.ensures.value) ∙ within 1 8 k in
    c.in_row.ensures ∙ range-row c.args.own c.args.w c.row.result (sym t ∙ c.if-contains.true) (rw c.kind_of-k.ensures at c.row.ensures)

pub returns-else-contains : goal.returns-else-contains
returns-else-contains c =
    let k = kind_of c.args.w in
    let t : c.contains.result ≡ (leb 1 k && leb k 8) =
    (rw (c.new.ensures.start, c.new.ensures.end, c.new.ensures.exhausted, c.kind_of-k.ensures) at c.contains.ensures.value) ∙ within 1 8 k in
    c.if-contains.false ∙ sym (range-outside c.args.own c.args.w (sym t ∙ c.if-contains.false))
