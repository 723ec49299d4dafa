-- `recovery::recover` meets its contract: the stores of the repair's slots are the definition's.
use mathlib.Core.Path.{◌∙◌}
use Rattle.recovery.proofs.Answers.{slots-leave, slots-left}
use Rattle.recovery.proofs.recover.Goals as goal

pub returns-clause-image : goal.returns-clause-image
returns-clause-image c =
    let A = c.args in
    rw c.planned-r.ensures.repair at c.store_all.ensures.image ∙ slots-leave A.e.mark A.e.own A.left.now A.image.now

pub returns-clause-left : goal.returns-clause-left
returns-clause-left c =
    let A = c.args in
    rw c.planned-r.ensures.repair at c.store_all.ensures.left ∙ slots-left A.e.mark A.e.own A.left.now A.image.now
