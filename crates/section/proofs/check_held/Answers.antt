-- `section::check_held` meets its contract: what is left in the array is by the answer of the whole check.
use Rattle.std.proofs.Common.{◌∙◌, length, ap}
use Rattle.section.specs.Check.{code_of}
use Rattle.section.specs.Inner.Pass.{reached}
use Rattle.section.proofs.Left.{left_by}
use Rattle.section.proofs.check_held.Goals as goal

pub returns-clause-sets : goal.returns-clause-sets
returns-clause-sets c =
    let A = c.args in
    let n = length A.words.now in
    let p = c.checked.ensures in
    λ j. p.sets j ∙ left_by A.own n (code_of A.words.now) (code_of A.held.now) j (ap (reached n) p.first)
