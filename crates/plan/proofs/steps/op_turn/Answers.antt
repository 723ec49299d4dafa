-- `plan::steps::op_turn` meets its contract: each arm is the definition's case; a jump's promise is of every turn.
use Rattle.plan.proofs.steps.op_turn.Goals as goal

pub returns-in-Jump : goal.returns-in-Jump
returns-in-Jump c = rw c.in-Jump.is (c.jump_turn.ensures c.args.t)
