-- `stretch::whole::instruction` meets its contract: an arm for each instruction, by its callee.
use mathlib.Core.Path.{sym}
use borrow.Author.Tests.{lt-ltb}
use Rattle.stretch.specs.Inner.Whole.{Here}
use Rattle.stretch.proofs.Fetching.{here-fetched}
use Rattle.code.specs.declared.Op.TheVariants.{Acquire, Release}
use Rattle.stretch.proofs.whole.instruction.Goals as goal

pub acquire-requires : goal.acquire-requires
acquire-requires c =
    let A = c.args in
    let w = c.read_step-w in
    let h : Here A.own A.d A.s A.k A.image.now w.result (Acquire c.in-Acquire.a) = record {
      counted = c.requires.0;
      below = c.requires.1;
      word = sym w.ensures;
      op = sym c.in-Acquire.ensures;
    } in
    here-fetched _ _ _ _ _ _ _ h (sym c.if-fits.ensures) (lt-ltb _ _ c.if-inside.true)

pub release-requires : goal.release-requires
release-requires c =
    let A = c.args in
    let w = c.read_step-w in
    let h : Here A.own A.d A.s A.k A.image.now w.result (Release c.in-Release.a) = record {
      counted = c.requires.0;
      below = c.requires.1;
      word = sym w.ensures;
      op = sym c.in-Release.ensures;
    } in
    (here-fetched _ _ _ _ _ _ _ h (sym c.if-fits-2.ensures) (lt-ltb _ _ c.if-inside-2.true), c.requires.2)

pub returns-in-Jump : goal.returns-in-Jump
returns-in-Jump c = c.jump.ensures _
