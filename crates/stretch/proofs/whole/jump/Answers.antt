-- `stretch::whole::jump` meets its contract: its turn is that of `jump-turns`, by what its word holds.
use mathlib.Core.Path.{sym, ◌∙◌}
use native.Mathlib.Omega.{arith}
use borrow.Author.Tests.{eq-eqb, ne_eqb}
use Rattle.stretch.proofs.Running.{fetched_fits}
use Rattle.stretch.proofs.ByKind.{jump-turns}
use Rattle.stretch.proofs.Fetching.{here-fetched, jump-place}
use Rattle.stretch.proofs.Counting.{made-jump}
use Rattle.stretch.proofs.whole.jump.Goals.{then-word-eq0, else-word-eq0}
use Rattle.stretch.proofs.whole.jump.Goals as goal

pub word-requires : goal.word-requires
word-requires c =
    let f = here-fetched _ _ _ _ _ _ _ c.requires.0 (sym c.if-not-fits.ensures) (jump-place _ _ c.args.a _ c.if-b-s.false c.if-k-b.false) in
    (f.inside, (fetched_fits _ _ _ _ _ f).0)

pub returns : goal.returns
returns c =
    let f = here-fetched _ _ _ _ _ _ _ c.requires.0 (sym c.if-not-fits.ensures) (jump-place _ _ c.args.a _ c.if-b-s.false c.if-k-b.false) in
    λ left. elim c.if-word-eq0.branch [
      | then-word-eq0 x ↦ let e = eq-eqb _ 0 (sym c.word.ensures ∙ x.if-word-eq0.true) in
          rw (x.step-is, c.passed_jump.ensures) (made-jump (λ y. jump-turns _ _ _ _ left _ y _ _ f _ (rw e)), λ q. c.if-k-b.false)
      | else-word-eq0 x ↦ let e = ne_eqb _ 0 (λ q. x.if-word-eq0.false (c.word.ensures ∙ q)) in
          rw (x.step-is, c.passed_jump.ensures) (made-jump (λ y. jump-turns _ _ _ _ left _ y _ _ f _ (rw e)), λ q. omega arith)
    ]
