-- `ahead::span_from` meets its contract. The steps that one leads to stand behind it (`reached`), and no step needs more than six turns for each
-- that is left, so the sums fit.
use Rattle.std.proofs.Common.{◌≡◌, ℕ, ◌+◌, ◌-◌, ◌<◌, ◌≤◌, ◌∙◌, length, get_or, refl, sym, arith}
use Rattle.std.proofs.Math.ListN.{length-set}
use Rattle.section.specs.Check.{code_of}
use Rattle.needs.specs.From.{span, fewest, most}
use Rattle.needs.proofs.Unrolled.{fewest-most, most-most}
use Rattle.needs.proofs.Pass.{none, Reached, summed-fewest, summed-most, same_at, span-end, filled-back}
use Rattle.needs.proofs.ahead.span_from.Goals as goal
use Rattle.needs.proofs.ahead.span_from.Goals.{After-other_step, After-min, After-max}

pub loop-i-init : goal.loop-i-init
loop-i-init c = (refl, λ j h. same_at 65 j none ∙ sym (span-end (length c.args.words.now) (code_of c.args.words.now) j h))

-- the step that the pass has come to
reached : (c : After-other_step) →
    let w = c.args.words.now in
    let i = c.loop-i.i - 1 in
    Reached (length w) (code_of w) i (i + 1) (get_or w i 0) c.other_step.result c.op_of.result
reached c =
    let i = c.loop-i.i - 1 in
    let below : i < length c.args.words.now = omega arith in
    record {
      below = below;
      placed = c.requires.placed i below;
      after = omega arith;
      word = refl;
      op = c.op_of.ensures;
      leads = c.other_step.ensures;
    }

known : (c : After-other_step) →
    let w = c.args.words.now in
    (j : ℕ) → c.loop-i.i - 1 + 1 ≤ j → get_or c.loop-i.spans j none ≡ span (length w) (code_of w) j
known c = λ j h. c.loop-i.invariant.1 j (omega arith)

few_is : (c : After-min) →
    let w = c.args.words.now in
    c.turns-turns.result + c.min.result ≡ fewest (length w) (code_of w) (c.loop-i.i - 1)
few_is c =
    let b = (goal.at.overflow_add-spans c).After-other_step in
    summed-fewest _ _ _ _ _ _ _ (reached b) c.loop-i.spans (known b) _ c.turns-turns.ensures _ c.min.ensures

many_is : (c : After-max) →
    let w = c.args.words.now in
    c.turns-turns.result + c.max.result ≡ most (length w) (code_of w) (c.loop-i.i - 1)
many_is c =
    let b = (goal.at.overflow_add-spans-in-loop-i c).After-other_step in
    summed-most _ _ _ _ _ _ _ (reached b) c.loop-i.spans (known b) _ c.turns-turns.ensures _ c.max.ensures

pub overflow_add-spans : goal.overflow_add-spans
overflow_add-spans c =
    let w = c.args.words.now in
    omega (arith, few_is c, fewest-most (length w) (code_of w) (c.loop-i.i - 1), c.requires.few)

pub overflow_add-spans-in-loop-i : goal.overflow_add-spans-in-loop-i
overflow_add-spans-in-loop-i c =
    let w = c.args.words.now in
    omega (arith, many_is c, most-most (length w) (code_of w) (c.loop-i.i - 1), c.requires.few)

pub loop-i-preserved : goal.loop-i-preserved
loop-i-preserved c =
    let w = c.args.words.now in
    let i = c.loop-i.i - 1 in
    let b = (goal.at.loop-i-preserved c).After-other_step in (
      length-set c.loop-i.spans i _ ∙ c.loop-i.invariant.0,
      filled-back c.loop-i.spans i (i + 1) _ none (span (length w) (code_of w)) (omega arith) (omega arith) (known b)
          (rw (few_is (goal.at.loop-i-preserved c).After-min, many_is c)),
    )
