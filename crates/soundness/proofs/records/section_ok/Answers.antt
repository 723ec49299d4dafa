-- `soundness::records::section_ok` meets its contract: the definition's tests in their order; a count past 64 does not
-- pass. The held sets are those of the check.
use mathlib.Core.Path.{sym, ◌∙◌}
use borrow.Author.Tests.{eq-eqb, ne_eqb, lt-leb, le-leb}
use Rattle.image.specs.Image.{at}
use Rattle.worklog.specs.Log.{code_in}
use Rattle.soundness.specs.Sound.{section_ok}
use Rattle.soundness.proofs.Legible.{check-long}
use Rattle.soundness.proofs.records.section_ok.Goals.{then-k-gt64-via-then-k-gt64, then-k-gt64-via-else-k-gt64+then-not-section_passes}
use Rattle.soundness.proofs.records.section_ok.Goals as goal

pub returns-then-k-eq0-clause-ok : goal.returns-then-k-eq0-clause-ok
unfolding section_ok
returns-then-k-eq0-clause-ok c =
    let k = c.read_field-k in
    rw (← k.ensures, eq-eqb k.result 0 c.if-k-eq0.true, ← c.read_field.ensures)

pub returns-then-k-gt64-clause-ok : goal.returns-then-k-gt64-clause-ok
unfolding section_ok
returns-then-k-gt64-clause-ok c =
    let A = c.args in
    let k = c.read_field-k in
    let some = ne_eqb k.result 0 c.if-k-eq0.false in
    elim c.then-k-gt64.branch [
      | then-k-gt64-via-then-k-gt64 w ↦
          rw (← k.ensures, some, check-long A.own k.result (code_in A.own (at A.own A.image.now) A.d) w.if-k-gt64.true)
      | then-k-gt64-via-else-k-gt64+then-not-section_passes w ↦
          rw (← k.ensures, some, sym w.section_passes.ensures.passes ∙ w.if-not-section_passes.true)
    ]

pub returns-then-number-ge1-clause-ok : goal.returns-then-number-ge1-clause-ok
unfolding section_ok
returns-then-number-ge1-clause-ok c =
    let k = c.read_field-k in
    let number = c.read_field-number in
    rw (
      ← k.ensures,
      ne_eqb k.result 0 c.if-k-eq0.false,
      sym c.section_passes.ensures.passes ∙ c.if-not-section_passes.false,
      ← number.ensures,
      le-leb 1 number.result c.if-number-ge1.true,
      ← c.read_field-then-number-ge1.ensures,
    )

pub returns-else-number-ge1-clause-ok : goal.returns-else-number-ge1-clause-ok
unfolding section_ok
returns-else-number-ge1-clause-ok c =
    let k = c.read_field-k in
    let number = c.read_field-number in
    rw (
      ← k.ensures,
      ne_eqb k.result 0 c.if-k-eq0.false,
      sym c.section_passes.ensures.passes ∙ c.if-not-section_passes.false,
      ← number.ensures,
      lt-leb 1 number.result c.if-number-ge1.false,
    )
