-- `code::turns` meets its contract: the last entry of the row.
use Rattle.code.proofs.turns.Goals as goal

pub returns : goal.returns
returns c = rw (← c.kind_of.ensures) (c.row.ensures 3)
