-- `ahead::span_from`: from step i on the array has what the steps need, and behind the last step 0.
use Rattle.std.proofs.Common.{◌≡◌, ℕ, ◌≤◌, length, get_or}
use Rattle.section.specs.Check.{code_of}
use Rattle.needs.specs.From.{span}
use Rattle.needs.proofs.Pass.{none}
use Rattle.needs.proofs.ahead.span_from.Given as goal

abbrev pub invariant-loop-i : goal.invariant-loop-i
invariant-loop-i l = (length l.spans ≡ 65) × ((j : ℕ) → l.i ≤ j → get_or l.spans j none ≡ span (length l.words) (code_of l.words) j)
