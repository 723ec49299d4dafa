-- `section::uses`: the first refusal from the step reached on is that of the whole section.
use Rattle.std.proofs.Common.{◌≡◌, ◌-◌, length}
use Rattle.section.specs.Check.{code_of, first_of, use_of}
use Rattle.section.proofs.uses.Given as goal

abbrev pub invariant-loop-i : goal.invariant-loop-i
invariant-loop-i l = let f = use_of (code_of l.words) in let n = length l.words in first_of f l.i (n - l.i) ≡ first_of f 0 n
