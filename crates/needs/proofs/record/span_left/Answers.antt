-- `record::span_left` meets its contract: nothing where the pc is 0; else, of a sound record, the step behind the one named is one of a section that
-- passes the check (`next`).
use Prim.Native.Nat.{◌%◌, ◌<◌, ◌≤◌}
use mathlib.Core.Path.{◌≡◌, refl, ap}
use mathlib.Core.Bool.{true}
use native.Mathlib.Omega.{arith}
use Rattle.image.specs.Image.{at}
use Rattle.section.specs.Check.{check, passes}
use Rattle.worklog.specs.Log.{code_in}
use Rattle.needs.specs.declared.Span.{Span}
use Rattle.needs.proofs.Unrolled.{fewest-most, most-most}
use Rattle.needs.proofs.Resumed.{resumed-most, sound-next, none-left, begun-left}
use Rattle.needs.proofs.record.span_left.Goals as goal
use Rattle.needs.proofs.record.span_left.Goals.{After-read_field-k, After-resumed_turns-turns}

pub returns-then-pc-eq0 : goal.returns-then-pc-eq0
returns-then-pc-eq0 c =
    let A = c.args in
    none-left A.own (at A.own A.image.now) A.d c.read_field-pc.result c.read_field-pc.ensures c.if-pc-eq0.true

next : (c : After-read_field-k) →
    let A = c.args in
    let s = c.read_field-pc.result % 9223372036854775808 in
    let k = c.read_field-k.result in
    (1 ≤ s) × (s < k) × (k ≤ 64) × (passes (check A.own k (code_in A.own (at A.own A.image.now) A.d)) ≡ true)
next c =
    let A = c.args in
    let pc = c.read_field-pc in
    rw c.read_field-k.ensures (sound-next A.own (at A.own A.image.now) A.d pc.result _ pc.ensures c.if-pc-eq0.false refl c.requires.1)

pub overflow_sub-next : goal.overflow_sub-next
overflow_sub-next c = (next c).0

pub read_step-requires : goal.read_step-requires
read_step-requires c = let l = next c in (c.requires.0, omega (arith, l.0, l.1, l.2))

pub span_in-s-requires : goal.span_in-s-requires
span_in-s-requires c = let l = next (goal.at.span_in-s-requires c).After-read_field-k in (c.requires.0, l.2, omega (arith, l.1), l.3)

pub overflow_add-result : goal.overflow_add-result
overflow_add-result c =
    let A = c.args in
    let code = code_in A.own (at A.own A.image.now) A.d in
    let few = fewest-most c.read_field-k.result code (c.read_field-pc.result % 9223372036854775808) in
    let k = (next (goal.at.overflow_add-result c).After-read_field-k).2 in
    omega (arith, c.resumed_turns-turns.ensures, resumed-most c.op_of.result, ap (λ (s : Span). s.fewest) c.span_in-s.ensures, few, k)

pub overflow_add-result-2 : goal.overflow_add-result-2
overflow_add-result-2 c =
    let A = c.args in
    let code = code_in A.own (at A.own A.image.now) A.d in
    let few = most-most c.read_field-k.result code (c.read_field-pc.result % 9223372036854775808) in
    let k = (next (goal.at.overflow_add-result-2 c).After-read_field-k).2 in
    omega (arith, c.resumed_turns-turns.ensures, resumed-most c.op_of.result, ap (λ (s : Span). s.most) c.span_in-s.ensures, few, k)

pub returns : goal.returns
returns c =
    let A = c.args in
    let pc = c.read_field-pc in
    let some = (next (goal.at.span_in-s-requires (goal.at.returns c).After-resumed_turns-turns).After-read_field-k).0 in
    begun-left A.own (at A.own A.image.now) A.d pc.result _ c.read_field-k.result _ _ _ _ pc.ensures c.if-pc-eq0.false refl some c.read_field-k.ensures
    c.read_step.ensures c.op_of.ensures c.resumed_turns-turns.ensures c.span_in-s.ensures
