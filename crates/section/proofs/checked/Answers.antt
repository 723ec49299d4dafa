-- `section::checked` meets its contract: the pass, then the uses of its held sets, if they are asked. What is left in the array is the pass's.
use Rattle.std.proofs.Common.{◌∙◌, length, refl, sym, arith}
use Rattle.std.proofs.lemmas.Result.{err_from_is_err_and}
use Rattle.section.specs.Check.{code_of}
use Rattle.section.proofs.Left.{held-past-to}
use Rattle.section.proofs.Whole.{sets-length, either-refused}
use Rattle.section.proofs.Filled.{filled-refused, filled-judgeable, filled-pass, filled-uses}
use Rattle.section.proofs.checked.Goals as goal

pub returns-then-not-length_ok : goal.returns-then-not-length_ok
returns-then-not-length_ok c =
    let A = c.args in
    let w = A.words.now in
    let e = sets-length A.own (length w) (code_of w) (sym c.length_ok.ensures ∙ c.if-not-length_ok.true) in
    record {
      first = either-refused A.own (length w) (code_of w) A.whole e refl;
      sets = λ j. sym (held-past-to (code_of w) (code_of A.held.now) j 0 (omega arith));
    }

pub returns-in_err-fill : goal.returns-in_err-fill
returns-in_err-fill c =
    let p = err_from_is_err_and c.from_residual.result c.from_residual.ensures.1 in
    rw (p.1, p.2) (filled-refused c.args.own (sym c.length_ok.ensures ∙ c.if-not-length_ok.false) c.fill.ensures c.args.whole c.in_err-fill.was)

pub uses-requires : goal.uses-requires
uses-requires c =
    filled-judgeable c.args.own (sym c.length_ok.ensures ∙ c.if-not-length_ok.false) c.fill.ensures c.in_ok-fill.was
    (omega (arith, c.fill.auto.held, c.requires))

pub returns-then-whole : goal.returns-then-whole
returns-then-whole c =
    filled-uses c.args.own (sym c.length_ok.ensures ∙ c.if-not-length_ok.false) c.fill.ensures c.in_ok-fill.was c.if-whole.true c.uses.ensures

pub returns-else-whole : goal.returns-else-whole
returns-else-whole c = filled-pass c.args.own (sym c.length_ok.ensures ∙ c.if-not-length_ok.false) c.fill.ensures c.in_ok-fill.was c.if-whole.false
