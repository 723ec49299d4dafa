-- `plan::steps::assign_turn` meets its contract: the value of a logged store matters at turn 1 alone.
use Rattle.plan.proofs.Planned.{operand-indexed, logged-plan, value-plan}
use Rattle.plan.proofs.steps.assign_turn.Goals as goal

pub returns : goal.returns
returns c =
    rw (logged-plan _ _ _ _ _ _ _ _ _ _ (operand-indexed _ _ _), value-plan _ _ _ _ _ _ _ _ _ _ c.if-t-eq1.false)
    (rw c.operand_index-target.ensures at c.logged-2.ensures)
