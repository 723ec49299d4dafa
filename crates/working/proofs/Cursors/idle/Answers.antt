-- `working::Cursors::idle` meets its contract: turn 255 is idle, and so is a worker past the record's end.
use Prim.Native.Nat.{ℕ}
use mathlib.Core.Path.{◌≡◌, sym, ap, ◌∙◌}
use lib.Dec.{eqb}
use lib.ListN.{length, get_or-eq_default}
use native.Mathlib.Omega.{arith}
use borrow.Author.Rules.{rules}
use borrow.Author.Tests.{eq-eqb, le-leb}
use Rattle.base.proofs.Filling.{get_d-inside}
use Rattle.working.proofs.Placed.{idle-by}
use Rattle.working.proofs.Cursors.idle.Goals as goal

pub returns-then-d-ge8 : goal.returns-then-d-ge8
returns-then-d-ge8 c =
    let a = c.args in
    let p : length a.self.turn ≡ 8 = search rules in
    le-leb _ _ c.if-d-ge8.true ∙ sym (idle-by a.self a.d ∙ eq-eqb _ 255 (get_or-eq_default a.self.turn 255 (omega arith)))

pub returns-else-d-ge8 : goal.returns-else-d-ge8
returns-else-d-ge8 c =
    let a = c.args in
    let p : length a.self.turn ≡ 8 = search rules in
    sym (idle-by a.self a.d ∙ ap (λ (x : ℕ). eqb x 255) (get_d-inside a.self.turn a.d 255 0 (omega arith)))
