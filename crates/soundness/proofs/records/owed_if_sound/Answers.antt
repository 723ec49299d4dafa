-- `soundness::records::owed_if_sound` meets its contract: the three tests are the definition's, in the same order.
use mathlib.Core.Path.{sym, ◌∙◌}
use Rattle.soundness.specs.Sound.{sound}
use Rattle.soundness.proofs.Given.{not-given, given}
use Rattle.soundness.proofs.records.owed_if_sound.Goals as goal

pub returns-then-not-section_ok : goal.returns-then-not-section_ok
unfolding sound
returns-then-not-section_ok c = rw (sym c.section_ok.ensures.ok ∙ c.if-not-section_ok.true)

pub returns-in_err-set : goal.returns-in_err-set
unfolding sound
returns-in_err-set c =
    let no = not-given _ _ (sym c.in_err-set.was ∙ c.owed_at_pc.ensures) in
    rw (sym c.section_ok.ensures.ok ∙ c.if-not-section_ok.false, no) c.from_residual.ensures

pub returns : goal.returns
unfolding sound
returns c =
    let yes = given _ _ _ (sym c.in_ok-set.was ∙ c.owed_at_pc.ensures) in
    rw (
      sym c.section_ok.ensures.ok ∙ c.if-not-section_ok.false,
      yes.0,
      ← c.read_field.ensures,
      ← yes.1,
      ← c.covers.ensures,
    )
    c.then_some.ensures
