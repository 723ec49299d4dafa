-- `intake::submitting::store_own` meets its contract: the arguments and the words behind them are the row of the own words.
use borrow.Author.Rules.{rules}
use borrow.Author.Tests.{lt-ltb}
use mathlib.Core.Path.{◌≡◌}
use native.Mathlib.Omega.{arith}
use lib.ListN.{length}
use Rattle.base.proofs.Bools.{and_both}
use Rattle.image.specs.Place.{own}
use Rattle.image.proofs.Apart.{index-small}
use Rattle.intake.proofs.Submission.{own-stores, own-left}
use Rattle.intake.proofs.submitting.store_own.Goals as goal

pub store_words-requires : goal.store_words-requires
store_words-requires c =
    let p : length c.args.args.now ≡ 8 = search rules in
    omega (arith, c.own_index-own.ensures, c.requires, p)

pub overflow_add-own : goal.overflow_add-own
overflow_add-own c =
    let A = c.args in
    omega (
      arith,
      c.own_index-own.ensures,
      index-small A.n (own A.d 0) c.requires.2
          (and_both _ _ (lt-ltb A.d 8 c.requires.0) (lt-ltb 0 A.n (omega (arith, c.requires.1)))),
    )

pub returns-clause-image : goal.returns-clause-image
returns-clause-image c =
    let A = c.args in
    let p : length A.args.now ≡ 8 = search rules in
    rw (
      own-stores A.n A.d A.args.now p A.left.now A.image.now,
      ← c.own_index-own.ensures,
      ← c.store_words.ensures.image,
      ← c.store_words.ensures.left,
    )
    c.clear.ensures.image

pub returns-clause-left : goal.returns-clause-left
returns-clause-left c =
    let A = c.args in
    rw (← own-left A.n A.d A.args.now A.left.now, ← c.store_words.ensures.left) c.clear.ensures.left
