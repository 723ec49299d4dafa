-- `soundness::records::section_passes` meets its contract: the words loaded pass the check as the record's do, and have their held sets.
use mathlib.Core.Path.{◌≡◌, refl, ap, ◌∙◌, sym}
use native.Mathlib.Omega.{arith}
use Rattle.std.proofs.Common.{Ok, Err, is_ok}
use Rattle.section.specs.Check.{Verdict, passes}
use Rattle.section.proofs.Left.{left_passed}
use Rattle.soundness.proofs.Loaded.{first-fit, first-length, first-checks, first-helds}
use Rattle.soundness.proofs.records.section_passes.Goals as goal

pub slice_bounds-words-end : goal.slice_bounds-words-end
slice_bounds-words-end c = first-fit _ _ _ _ c.load_steps.ensures (omega arith)

pub slice_bounds-check_held-end : goal.slice_bounds-check_held-end
slice_bounds-check_held-end c = sym (first-length _ _ _ _ c.load_steps.ensures (omega arith))

ok-passes : (v : Verdict) → is_ok v ≡ passes v
ok-passes (Ok u) = refl
ok-passes (Err f) = refl

pub returns-clause-passes : goal.returns-clause-passes
returns-clause-passes c =
    c.is_ok.ensures.value
    ∙ (ok-passes _ ∙ ap passes (c.check_held.ensures.verdict ∙ first-checks _ _ c.args.k _ c.load_steps.ensures (omega arith) c.args.own))

pub returns-clause-sets : goal.returns-clause-sets
returns-clause-sets c =
    let k = c.check_held in
    λ t.
    let passed = ap passes (sym k.ensures.verdict) ∙ (sym (c.is_ok.ensures.value ∙ ok-passes _) ∙ t) in
    first-helds _ _ c.args.k _ c.load_steps.ensures (omega arith) k.new.held (λ j l. k.ensures.sets j ∙ left_passed _ _ _ _ j passed l)
