-- `code::held_past` meets its contract, by whether the kind is above 2.
use mathlib.Core.Path.{sym}
use Rattle.code.proofs.Decoding.{held_stays}
use Rattle.code.proofs.held_past.Goals as goal

pub returns-then-kind_of-gt2 : goal.returns-then-kind_of-gt2
returns-then-kind_of-gt2 c = sym (held_stays c.args.h c.args.w (rw c.kind_of.ensures at c.if-kind_of-gt2.true))

pub held_after-requires : goal.held_after-requires
held_after-requires c = rw c.op_of.ensures c.requires

pub returns-else-kind_of-gt2 : goal.returns-else-kind_of-gt2
returns-else-kind_of-gt2 c = rw (← c.op_of.ensures) c.held_after.ensures
