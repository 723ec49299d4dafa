-- `section::uses` meets its contract: a refusal is the first, and with no step left there is none.
use Rattle.std.proofs.Common.{◌∙◌, length, sym}
use Rattle.std.proofs.lemmas.Result.{err_from_is_err_and}
use Rattle.section.specs.Check.{code_of, use_of}
use Rattle.section.proofs.Passing.{first_on, first_stops}
use Rattle.section.proofs.First.{first-none}
use Rattle.section.proofs.uses.Goals as goal

pub returns-in_err-use_at : goal.returns-in_err-use_at
returns-in_err-use_at c =
    let f = use_of (code_of c.args.words.now) in
    let n = length c.args.words.now in
    let p = err_from_is_err_and c.from_residual.result c.from_residual.ensures.1 in
    let q = first_stops f n c.loop-i.i _ c.loop-i-test.true (sym c.use_at.ensures ∙ c.in_err-use_at.was) in
    rw (p.1, p.2) (sym q ∙ c.loop-i.invariant)

pub loop-i-preserved : goal.loop-i-preserved
loop-i-preserved c =
    let f = use_of (code_of c.args.words.now) in
    let n = length c.args.words.now in
    sym (first_on f n c.loop-i.i c.loop-i-test.true (sym c.use_at.ensures ∙ c.in_ok-use_at.was)) ∙ c.loop-i.invariant

pub returns : goal.returns
returns c = sym (first-none (use_of (code_of c.args.words.now)) c.loop-i.i (length c.args.words.now) c.loop-i-test.false) ∙ c.loop-i.invariant
