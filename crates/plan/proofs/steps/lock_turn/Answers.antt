-- `plan::steps::lock_turn` meets its contract: the lock is free, or it is waited for.
use Rattle.image.proofs.Stores.{inside-front}
use Rattle.plan.proofs.steps.lock_turn.Goals as goal

pub read_lock-requires : goal.read_lock-requires
read_lock-requires c =
    let A = c.args in
    (c.requires.1, inside-front A.own A.image.now A.d c.requires.0)
