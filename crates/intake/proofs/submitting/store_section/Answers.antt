-- `intake::submitting::store_section` meets its contract: its stores are the definition's, one call after the other.
use Prim.Native.Nat.{◌<◌}
use native.Mathlib.Omega.{arith}
use Rattle.image.proofs.Stores.{inside-own, inside-steps}
use Rattle.intake.proofs.Submission.{submission-stores, submission-left}
use Rattle.intake.proofs.submitting.store_section.Goals as goal

pub store_own-requires : goal.store_own-requires
store_own-requires c =
    let A = c.args in
    let l : A.d < 8 = omega (arith, c.requires.0.below, c.requires.0.most) in
    (l, c.requires.1, c.requires.0.few, omega (arith, inside-own A.n A.image.now A.d c.requires.0, c.store_field.auto.image))

pub store_steps-requires : goal.store_steps-requires
store_steps-requires c =
    let A = c.args in
    let l : A.d < 8 = omega (arith, c.requires.0.below, c.requires.0.most) in
    (l, c.requires.0.few, omega (arith, inside-steps A.n A.image.now A.d c.requires.0, c.requires.2, c.store_field.auto.image, c.store_own.auto.image))

pub returns : goal.returns
returns c =
    let A = c.args in
    record {
      image = rw (
        submission-stores A.n A.d A.number A.args.now A.words.now A.left.now A.image.now,
        ← c.store_field.ensures.left,
        ← c.store_field.ensures.image,
        ← c.store_own.ensures.left,
        ← c.store_own.ensures.image,
        ← c.store_steps.ensures.left,
        ← c.store_steps.ensures.image,
      )
          c.store_field-2.ensures.image;
      left = rw (
        ← submission-left A.n A.d A.number A.args.now A.words.now A.left.now,
        ← c.store_field.ensures.left,
        ← c.store_own.ensures.left,
        ← c.store_steps.ensures.left,
      )
          c.store_field-2.ensures.left;
    }
