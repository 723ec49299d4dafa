-- `plan::steps::unlock_turn` meets its contract: an arm a report.
use Rattle.image.proofs.Stores.{inside-front}
use Rattle.plan.proofs.steps.unlock_turn.Goals as goal

pub read_lock-requires : goal.read_lock-requires
read_lock-requires c =
    let A = c.args in
    (c.requires.1, inside-front A.own A.image.now A.d c.requires.0)
