-- `sets::fill`, with i steps passed: h is the held set before step i, the first refusal from i on is that of the whole section, and the slice
-- has the held set before each step below i and else what it had.
use Rattle.std.proofs.Common.{◌≡◌, ℕ, ◌-◌}
use Rattle.section.specs.Check.{code_of, first_of, form_of, held_before}
use Rattle.section.specs.Inner.Pass.{held_to}
use Rattle.section.proofs.sets.fill.Given as goal

pub record Filled (own n : ℕ) (code before now : ℕ → ℕ) (h i : ℕ) : Type 0 where
  pub held : h ≡ held_before code i
  pub first : first_of (form_of own n code) i (n - i) ≡ first_of (form_of own n code) 0 n
  pub sets : (j : ℕ) → now j ≡ held_to i code before j

abbrev pub invariant-loop-i : goal.invariant-loop-i
invariant-loop-i l = Filled l.own l.n (code_of l.words) (code_of l.initial.held) (code_of l.held) l.h l.i
