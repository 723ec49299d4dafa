-- `recovery::planned` meets its contract, by what the tests found.
use mathlib.Core.Path.{sym, ◌∙◌}
use Rattle.recovery.proofs.Answers.{found-is, found-right}
use Rattle.recovery.proofs.planned.Goals as goal

pub resumed_all-requires : goal.resumed_all-requires
resumed_all-requires c = let e = c.args.e in found-right e.mark e.own c.args.image.now _ (sym c.in-Ok.is ∙ c.judge.ensures) e.few

pub repair-requires : goal.repair-requires
repair-requires c = let e = c.args.e in found-right e.mark e.own c.args.image.now _ (sym c.in-Ok.is ∙ c.judge.ensures) e.few

pub returns-in-Ok-clause-cursors : goal.returns-in-Ok-clause-cursors
returns-in-Ok-clause-cursors c =
    let e = c.args.e in
    rw (found-is e.mark e.own c.args.image.now _ (sym c.in-Ok.is ∙ c.judge.ensures)) c.resumed_all.ensures
