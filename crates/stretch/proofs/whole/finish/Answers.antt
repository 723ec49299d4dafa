-- `stretch::whole::finish` meets its contract: its stores are those of `finish-turns`.
use mathlib.Core.Path.{sym}
use native.Mathlib.Omega.{arith}
use borrow.Author.Tests.{eq-eqb}
use Rattle.stretch.proofs.ByKind.{finish-turns}
use Rattle.stretch.proofs.Fetching.{here-fetched}
use Rattle.stretch.proofs.Counting.{made-stores}
use Rattle.stretch.proofs.whole.finish.Goals as goal

pub returns : goal.returns
returns c =
    let f = here-fetched _ _ _ _ _ _ _ c.requires.0 (sym c.if-not-fits.ensures) (eq-eqb _ _ (sym c.if-k-s.false)) in (
      made-stores 3 (λ y. rw (c.close.ensures.image, c.close.ensures.left) (finish-turns _ _ _ _ _ _ y f)) (omega arith) (omega arith),
      λ e. absurd (omega (arith, e)),
    )
