-- `path::along` meets its contract: the sum fits, and the first step that is none of the section, or fails cause 5, decides.
use Rattle.std.proofs.Common.{◌∙◌, length, get_or, sym, arith}
use Rattle.code.proofs.Ranges.{turns-most}
use Rattle.section.specs.Check.{code_of}
use Rattle.needs.proofs.Steps.{along-all, along-stops, along-goes, along-ends, step-inside}
use Rattle.needs.proofs.path.along.Goals as goal

pub loop-i-init : goal.loop-i-init
loop-i-init c =
    let A = c.args in
    let w = A.words.now in
    (omega arith, along-all A.own (length w) (code_of w) A.path.now)

pub returns-then-not-step_ok : goal.returns-then-not-step_ok
returns-then-not-step_ok c =
    let L = c.loop-i in
    let A = c.args in
    let w = A.words.now in
    let no = sym c.step_ok.ensures ∙ c.if-not-step_ok.true in
    sym (along-stops A.own (length w) (code_of w) A.path.now L.turns L.i-index c.loop-i-test.true no) ∙ L.invariant.1

pub offset_bounds-words-i : goal.offset_bounds-words-i
offset_bounds-words-i c =
    let L = c.loop-i in
    let A = c.args in
    let w = A.words.now in
    let l = step-inside A.own (length w) (code_of w) (get_or A.path.now L.i-index 0) (sym c.step_ok.ensures ∙ c.if-not-step_ok.false) in
    omega (arith, l)

pub bounds-words-i : goal.bounds-words-i
bounds-words-i c =
    let L = c.loop-i in
    let A = c.args in
    let w = A.words.now in
    step-inside A.own (length w) (code_of w) (get_or A.path.now L.i-index 0) (sym c.step_ok.ensures ∙ c.if-not-step_ok.false)

pub overflow_add-turns : goal.overflow_add-turns
overflow_add-turns c =
    let A = c.args in
    let few = turns-most (get_or A.words.now (get_or A.path.now c.loop-i.i-index 0) 0) in
    omega (arith, c.turns-turns.ensures, few)

pub loop-i-preserved : goal.loop-i-preserved
loop-i-preserved c =
    let L = c.loop-i in
    let A = c.args in
    let w = A.words.now in
    let i = get_or A.path.now L.i-index 0 in
    let few = turns-most (get_or w i 0) in
    let yes = sym c.step_ok.ensures ∙ c.if-not-step_ok.false in
    let on = along-goes A.own (length w) (code_of w) A.path.now L.turns L.i-index c.turns-turns.result c.loop-i-test.true yes c.turns-turns.ensures in
    (omega (arith, c.turns-turns.ensures, few), sym on ∙ L.invariant.1)

pub returns : goal.returns
returns c =
    let L = c.loop-i in
    let A = c.args in
    let w = A.words.now in
    sym (along-ends A.own (length w) (code_of w) A.path.now L.turns L.i-index (omega arith)) ∙ L.invariant.1
