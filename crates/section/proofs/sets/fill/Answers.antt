-- `sets::fill` meets its contract: where a step fails cause 5 it is the first, and at the end none has.
use Rattle.std.proofs.Common.{◌≡◌, ℕ, ◌∙◌, length, refl, sym, ap, arith}
use Rattle.base.proofs.Counting.{left-all}
use Rattle.section.specs.declared.Fault.TheVariants.{Malformed}
use Rattle.section.specs.Check.{code_of, form_of, held_before}
use Rattle.section.specs.Inner.Pass.{held_to}
use Rattle.section.proofs.First.{first-none}
use Rattle.section.proofs.Facts.{pass-form}
use Rattle.section.proofs.Passing.{first_on, first_stops, formed-lock, form-fails, held_next}
use Rattle.section.proofs.Left.{held-past-to, set_next}
use Rattle.section.proofs.sets.fill.Goals as goal

pub loop-i-init : goal.loop-i-init
unfolding held_before
loop-i-init c =
    let A = c.args in
    record {
      held = refl;
      first = rw (left-all (length A.words.now));
      sets = λ j. sym (held-past-to (code_of A.words.now) (code_of A.held.now) j 0 (omega arith));
    }

pub returns-then-not-well_formed : goal.returns-then-not-well_formed
returns-then-not-well_formed c =
    let L = c.loop-i in
    let A = c.args in
    let w = A.words.now in
    let t = c.loop-i-test.true in
    let f = form-fails A.own (length w) (code_of w) L.i (sym c.well_formed-in-loop-i.ensures ∙ c.if-not-well_formed.true) in
    let e = first_stops (form_of A.own (length w) (code_of w)) (length w) L.i (Malformed L.i) t f in
    record { first = sym e ∙ L.invariant.first; sets = L.invariant.sets }

pub held_past-h-requires : goal.held_past-h-requires
held_past-h-requires c = formed-lock c.args.own _ c.loop-i.i _ (sym c.well_formed-in-loop-i.ensures ∙ c.if-not-well_formed.false)

pub loop-i-preserved : goal.loop-i-preserved
loop-i-preserved c =
    let L = c.loop-i in
    let A = c.args in
    let w = A.words.now in
    let f = pass-form A.own (length w) (code_of w) L.i (sym c.well_formed-in-loop-i.ensures ∙ c.if-not-well_formed.false) in
    record {
      held = rw (held_next (code_of w) L.i, ← L.invariant.held) c.held_past-h.ensures;
      first = sym (first_on (form_of A.own (length w) (code_of w)) (length w) L.i c.loop-i-test.true f) ∙ L.invariant.first;
      sets = set_next (code_of w) (code_of A.held.now) L.held L.i L.h (omega arith) L.invariant.held L.invariant.sets;
    }

pub returns : goal.returns
returns c =
    let L = c.loop-i in
    let A = c.args in
    let e : L.i ≡ length A.words.now = omega arith in
    record {
      first = sym (first-none _ L.i _ c.loop-i-test.false) ∙ L.invariant.first;
      sets = λ j. L.invariant.sets j ∙ ap (λ (k : ℕ). held_to k (code_of A.words.now) (code_of A.held.now) j) e;
    }
