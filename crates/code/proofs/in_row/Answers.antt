-- `code::in_row` meets its contract: each test is the definition's, in its order.
use borrow.Author.Tests.{le-leb, lt-leb}
use mathlib.Core.Bool.{and-false}
use Rattle.code.proofs.in_row.Goals as goal

pub returns-then-highest-field_a : goal.returns-then-highest-field_a
returns-then-highest-field_a c = simp (← c.highest.ensures, ← c.field_a.ensures, lt-leb _ _ c.if-highest-field_a.true)

pub returns-then-highest-field_b : goal.returns-then-highest-field_b
returns-then-highest-field_b c = simp (← c.highest-2.ensures, ← c.field_b.ensures, lt-leb _ _ c.if-highest-field_b.true, and-false)

pub returns : goal.returns
returns c =
    let c = c in
    simp (
      ← c.highest.ensures,
      ← c.field_a.ensures,
      le-leb _ _ c.if-highest-field_a.false,
      ← c.highest-2.ensures,
      ← c.field_b.ensures,
      le-leb _ _ c.if-highest-field_b.false,
      ← c.highest-3.ensures,
      ← c.field_c.ensures,
    )
