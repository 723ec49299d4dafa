-- `intake::submitting::before_check` meets its contract: past the first two tests the image has the worker.
use mathlib.Core.Path.{sym, ◌∙◌}
use Rattle.image.proofs.Header.{header-inside}
use Rattle.intake.proofs.submitting.before_check.Goals as goal

pub free-requires : goal.free-requires
free-requires c =
    let A = c.args in
    header-inside A.e.mark A.e.own A.image.now A.d A.e.few (sym c.header_ok.ensures ∙ c.if-not-header_ok.false)
    (rw (← c.workers.ensures) c.if-workers-d.false)

pub read_field-requires : goal.read_field-requires
read_field-requires c =
    let A = c.args in
    header-inside A.e.mark A.e.own A.image.now A.d A.e.few (sym c.header_ok.ensures ∙ c.if-not-header_ok.false)
    (rw (← c.workers.ensures) c.if-workers-d.false)
