-- `intake::submit` meets its contract, by its answer. A section that is taken has met all causes (`accepted`), so its worker is
-- one of the eight and it has at most 64 instructions, as storing it asks.
use mathlib.Core.Path.{sym, ◌∙◌}
use Rattle.image.proofs.Header.{header-inside}
use Rattle.section.proofs.Facts.{check-parts}
use Rattle.working.specs.World.{world}
use Rattle.intake.proofs.Submission.{taken-by, accepted, leaves-taken}
use Rattle.intake.proofs.submit.Goals as goal

pub store_section-requires : goal.store_section-requires
store_section-requires c =
    let A = c.args in
    let w = world A.image.now A.c A.left.now in
    let r = taken-by _ (sym c.is_err.ensures.value ∙ c.if-is_err.false) in
    let a = accepted A.e.mark A.e.own w A.d A.number A.words.now (rw (← c.judge-answer.ensures A.left.now) r) in
    (header-inside A.e.mark A.e.own A.image.now A.d A.e.few a.header a.below, c.requires, (check-parts A.e.own _ _ a.checked).1)

pub returns-clause-after : goal.returns-clause-after
returns-clause-after c =
    let A = c.args in
    let r = taken-by _ (sym c.is_err.ensures.value ∙ c.if-is_err.false) in
    rw (
      ← c.judge-answer.ensures A.left.now,
      leaves-taken A.e.own (world A.image.now A.c A.left.now) A.d A.number A.args.now A.words.now c.judge-answer.result r,
      c.store_section.ensures.image,
      c.store_section.ensures.left,
      c.put.ensures A.c.held,
    )
