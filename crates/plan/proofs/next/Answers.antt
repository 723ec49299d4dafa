-- `plan::next` meets its contract: a cursor that is ready has the instruction's turn.
use mathlib.Core.Path.{sym}
use Rattle.plan.proofs.Planned.{ready-says, ready-fits, ready-op}
use Rattle.plan.proofs.next.Goals as goal

pub read_step-w-requires : goal.read_step-w-requires
read_step-w-requires c = let h = c.requires in (h.0, (ready-says _ _ _ _ _ h.1).step)

pub op_turn-requires : goal.op_turn-requires
op_turn-requires c =
    let h = c.requires in
    let r = ready-fits _ _ _ _ _ _ _ h.1 c.read_step-w.ensures (sym c.op_of.ensures) in
    (h.0, r.0, r.1, r.2)

pub returns : goal.returns
returns c = rw (ready-op _ _ _ _ _ _ _ c.requires.1 c.read_step-w.ensures (sym c.op_of.ensures)) c.op_turn.ensures
