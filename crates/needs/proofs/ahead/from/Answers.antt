-- `ahead::from` meets its contract: the check's answer, then whether there is such a step, then the pass.
use Rattle.std.proofs.Common.{◌∙◌, length, sym, arith}
use Rattle.std.proofs.lemmas.Result.{err_from_is_err_and}
use Rattle.section.specs.Check.{code_of}
use Rattle.needs.proofs.Pass.{passed-passable, needs-refused, needs-past, needs-given}
use Rattle.needs.proofs.ahead.from.Goals as goal

pub returns-in_err-check : goal.returns-in_err-check
returns-in_err-check c =
    let A = c.args in
    let w = A.words.now in
    let p = err_from_is_err_and c.from_residual.result c.from_residual.ensures.1 in
    rw (p.1, p.2) (needs-refused A.own (length w) (code_of w) A.step (sym c.check.ensures ∙ c.in_err-check.was))

pub returns-then-words-step : goal.returns-then-words-step
returns-then-words-step c =
    let A = c.args in
    let w = A.words.now in
    needs-past A.own (length w) (code_of w) A.step (sym c.check.ensures ∙ c.in_ok-check.was) c.if-words-step.true

pub span_from-requires : goal.span_from-requires
span_from-requires c = passed-passable c.args.own c.args.words.now c.args.step (sym c.check.ensures ∙ c.in_ok-check.was) (omega arith)

pub returns : goal.returns
returns c =
    let A = c.args in
    let w = A.words.now in
    needs-given A.own (length w) (code_of w) A.step (sym c.check.ensures ∙ c.in_ok-check.was) c.if-words-step.false c.span_from.ensures
