-- `soundness::records::judged` meets its contract.
use Prim.Native.Nat.{◌<◌}
use mathlib.Core.Path.{sym, ap, ◌∙◌}
use native.Mathlib.Omega.{arith}
use Rattle.std.proofs.lemmas.Result.{err_from_is_err_and}
use Rattle.image.specs.Image.{at}
use Rattle.soundness.specs.Inner.Tests.{by_record}
use Rattle.soundness.proofs.Given.{given-ok, not-given-err}
use Rattle.soundness.proofs.Legible.{unsound-on, unsound-here, unsound-none}
use Rattle.soundness.proofs.Sets.{owed-next}
use Rattle.soundness.proofs.records.judged.Goals as goal

pub returns-in_err-sets-clause-answer : goal.returns-in_err-sets-clause-answer
returns-in_err-sets-clause-answer c =
    let A = c.args in
    let L = c.loop-d in
    let p = err_from_is_err_and c.from_residual.result c.from_residual.ensures.1 in
    let no = not-given-err _ _ _ _ (rw c.owed_if_sound.ensures at (sym c.in_err-sets.was ∙ c.ok_or.ensures.value)) in
    rw (p.1, p.2, no.1) (ap by_record (sym (unsound-here A.own (at A.own A.image.now) A.end L.d c.loop-d-test.true no.0) ∙ L.invariant.0))

pub loop-d-preserved : goal.loop-d-preserved
loop-d-preserved c =
    let A = c.args in
    let L = c.loop-d in
    let rd = at A.own A.image.now in
    let g : L.d < 8 = omega (arith, c.loop-d-test.true, c.requires.1, c.requires.4) in
    let yes = given-ok _ _ _ _ (rw c.owed_if_sound.ensures at (sym c.in_ok-sets.was ∙ c.ok_or.ensures.value)) in (
      sym (unsound-on A.own rd A.end L.d c.loop-d-test.true yes.0) ∙ L.invariant.0,
      λ z. owed-next A.own rd A.end L.sets L.d _ g (L.invariant.1 z) yes.1,
    )

pub returns-clause-answer : goal.returns-clause-answer
returns-clause-answer c =
    let A = c.args in
    let L = c.loop-d in
    ap by_record (sym (unsound-none A.own (at A.own A.image.now) A.end L.d c.loop-d-test.false) ∙ L.invariant.0)
