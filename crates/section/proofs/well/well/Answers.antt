-- `well::well` meets its contract: where the pass has come to the end, the section passes the check.
use Rattle.std.proofs.Common.{◌≡◌, ℕ, ◌∙◌, length, sym, subst, arith}
use Rattle.section.specs.Check.{code_of}
use Rattle.section.proofs.Passing.{formed-lock}
use Rattle.section.proofs.Fine.{Fine, fine-start, fine-next, fine_end}
use Rattle.section.proofs.well.well.Goals as goal

pub loop-i-init : goal.loop-i-init
loop-i-init c = fine-start _ _ _

pub fair-requires : goal.fair-requires
fair-requires c =
    let L = c.loop-i in
    let A = c.args in
    rw c.op_of-x.ensures (formed-lock A.own (length A.words.now) L.i _ (sym c.formed.ensures ∙ c.if-not-formed.false))

pub held_after-h-requires : goal.held_after-h-requires
held_after-h-requires c =
    let L = c.loop-i in
    let A = c.args in
    rw c.op_of-x.ensures (formed-lock A.own (length A.words.now) L.i _ (sym c.formed.ensures ∙ c.if-not-formed.false))

pub loop-i-preserved : goal.loop-i-preserved
loop-i-preserved c =
    let A = c.args in
    fine-next A.own (length A.words.now) (code_of A.words.now) c.loop-i-test.true c.loop-i.invariant
    (sym c.formed.ensures ∙ c.if-not-formed.false) c.op_of-x.ensures (sym c.fair.ensures ∙ c.if-not-fair.false) c.held_after-h.ensures
    c.furthest-until.ensures

pub returns : goal.returns
returns c =
    let L = c.loop-i in
    let A = c.args in
    let n = length A.words.now in
    let all : L.i ≡ n = omega (arith, L.invariant.most) in
    λ e. fine_end A.own n (code_of A.words.now) L.h L.until (sym c.length_ok.ensures ∙ c.if-not-length_ok.false)
    (subst (λ (j : ℕ). Fine A.own n (code_of A.words.now) L.h L.until j) all L.invariant)
