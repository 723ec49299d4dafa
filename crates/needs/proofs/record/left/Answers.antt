-- `record::left` meets its contract: the tests of the image, of the worker and of its record, past which it can be read.
use mathlib.Core.Path.{sym, ◌∙◌}
use borrow.Author.Tests.{lt-ltb, le-ltb}
use Rattle.image.proofs.Header.{header-inside}
use Rattle.needs.proofs.record.left.Goals as goal

pub record_sound-requires : goal.record_sound-requires
record_sound-requires c =
    let A = c.args in
    header-inside A.e.mark A.e.own A.image.now A.d c.args.e.few (sym c.header_ok.ensures ∙ c.if-not-header_ok.false)
    (rw (← c.workers.ensures) c.if-workers-d.false)

pub span_left-requires : goal.span_left-requires
span_left-requires c =
    let A = c.args in
    let inside =
    header-inside A.e.mark A.e.own A.image.now A.d c.args.e.few (sym c.header_ok.ensures ∙ c.if-not-header_ok.false)
    (rw (← c.workers.ensures) c.if-workers-d.false)
    in
    (inside, cc)
