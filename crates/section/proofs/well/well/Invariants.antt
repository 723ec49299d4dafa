-- `well::well`: `Fine` is what is known of the section where the pass has come to step i.
use Rattle.section.specs.Check.{code_of}
use Rattle.section.proofs.Fine.{Fine}
use Rattle.section.proofs.well.well.Given as goal

abbrev pub invariant-loop-i : goal.invariant-loop-i
invariant-loop-i l = Fine l.own l.n (code_of l.words) l.h l.until l.i
