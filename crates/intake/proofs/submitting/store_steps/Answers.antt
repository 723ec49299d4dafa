-- `intake::submitting::store_steps` meets its contract: the words from the first instruction's index up are the row of the instructions.
use native.Mathlib.Omega.{arith}
use Rattle.image.specs.Place.{step}
use Rattle.intake.proofs.Assigns.{row_words, assigns-length}
use Rattle.intake.proofs.Submission.{step-next}
use Rattle.intake.proofs.submitting.store_steps.Goals as goal

pub store_words-requires : goal.store_words-requires
store_words-requires c = omega (arith, c.step_index.ensures, c.requires)

pub returns-clause-image : goal.returns-clause-image
returns-clause-image c = let A = c.args in rw (row_words A.n (step A.d) (step-next A.n A.d) 0, ← c.step_index.ensures) c.store_words.ensures.image

pub returns-clause-left : goal.returns-clause-left
returns-clause-left c = rw (assigns-length (step c.args.d) 0 c.args.words.now) c.store_words.ensures.left
