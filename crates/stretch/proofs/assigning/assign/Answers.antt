-- `stretch::assigning::assign` meets its contract: its stores are those of `assign-turns`.
use mathlib.Core.Path.{sym}
use native.Mathlib.Omega.{arith}
use borrow.Author.Tests.{lt-ltb}
use Rattle.image.proofs.Stores.{inside-lt}
use Rattle.worklog.proofs.Operands.{operand-valid}
use Rattle.stretch.proofs.Running.{fetched_fits}
use Rattle.stretch.proofs.ByKind.{assign-turns}
use Rattle.stretch.proofs.Fetching.{here-fetched, row-ranged}
use Rattle.stretch.proofs.Counting.{made-stores}
use Rattle.stretch.proofs.assigning.assign.Goals as goal

pub value_of-requires : goal.value_of-requires
value_of-requires c = let h = c.requires.0 in (h.counted.inside, row-ranged _ _ _ _ h.op)

pub operand_index-target-requires : goal.operand_index-target-requires
operand_index-target-requires c =
    let f = here-fetched _ _ _ _ _ _ _ c.requires.0 (sym c.in_ok-v.ensures.fits) (lt-ltb _ _ c.if-k-s.false) in
    (omega (arith, f.inside.below, f.inside.most), (fetched_fits _ _ _ _ _ f).0, f.inside.few)

pub stores-requires : goal.stores-requires
stores-requires c =
    let f = here-fetched _ _ _ _ _ _ _ c.requires.0 (sym c.in_ok-v.ensures.fits) (lt-ltb _ _ c.if-k-s.false) in
    (f.inside, inside-lt _ _ _ _ f.inside (operand-valid _ _ c.args.a _ f.inside.below (fetched_fits _ _ _ _ _ f).0) c.operand_index-target.ensures)

pub returns : goal.returns
returns c =
    let f = here-fetched _ _ _ _ _ _ _ c.requires.0 (sym c.in_ok-v.ensures.fits) (lt-ltb _ _ c.if-k-s.false) in (
      made-stores 4
          (λ y. rw (c.stores.ensures.image, c.stores.ensures.left, c.in_ok-v.ensures.word, c.operand_index-target.ensures) (assign-turns _ _ _ _ _ _ y _ _ f))
          (omega arith)
          (omega arith),
      λ e. c.if-k-s.false,
    )
