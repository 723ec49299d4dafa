-- `repair::storing::store_all` meets its contract: the four stages, one after the other, are all slots.
use Rattle.std.proofs.Common.{rules}
use Rattle.repair.specs.Repair.{intent_slot, withdraw_slot}
use Rattle.repair.proofs.Slots.{few_when, stages-leave}
use Rattle.repair.proofs.storing.store_all.Goals as goal

pub returns : goal.returns
returns c =
    let A = c.args in
    let p = c.store_locks in
    let q = c.store_workers.ensures A.own (intent_slot A.r) (λ d s h gives. (search rules, few_when _ _)) in
    let s = c.store_workers-2.ensures A.own (withdraw_slot A.r) (λ d s h gives. (search rules, few_when _ _)) in
    let t = c.store_relocks in
    let w = stages-leave A.r A.own _ _ _ _ _ _ _ _ _ _ (p.ensures.image A.own) p.ensures.left q.0 q.1 s.0 s.1 (t.ensures.image A.own) t.ensures.left in
    record { image = w.0; left = w.1 }
