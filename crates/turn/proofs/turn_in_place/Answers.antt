-- `turn::turn_in_place` meets its contract, as `turn_on` does: the plan is the outcome's, and what is done of it is what the outcome leaves.
use Rattle.turn.proofs.Ready.{plan-lock, plan-acts}
use Rattle.turn.proofs.turn_in_place.Goals as goal

pub done-requires : goal.done-requires
done-requires c = plan-lock _ _ _ _ _ _ c.next-p.ensures

pub returns : goal.returns
returns c =
    let r = c.done.ensures in
    let h = plan-acts _ _ _ _ _ _ c.next-p.ensures _ _ _ _ c.requires.1 r.did r.after in
    record { lock = h.0; acts = h.1 }
