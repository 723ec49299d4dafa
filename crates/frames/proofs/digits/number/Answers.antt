-- `frames::digits::number` meets its contract. The loop's invariant: the number so far has as many digits as were read, and with
-- the digits that are left it is the whole.
use Rattle.std.proofs.Common.{◌+◌, ◌<◌, ◌≤◌, arith}
use Rattle.std.proofs.lemmas.List.Edits.{length-between, get_or-between}
use Rattle.frames.proofs.Numbers.{grows, room, from_step, from-none, from_all}
use Rattle.frames.proofs.digits.number.Goals as goal

pub loop-b-init : goal.loop-b-init
loop-b-init c = (omega arith, from_all _ _ _)

pub overflow_mul-v : goal.overflow_mul-v
overflow_mul-v c =
    let A = c.args in
    let L = c.loop-b in
    let k : L.b-index < A.n = omega (arith, length-between A.line.now A.at (A.at + A.n) c.requires.0) in
    omega (arith, room L.b-index L.v (omega arith) L.invariant.0)

pub overflow_add-v : goal.overflow_add-v
overflow_add-v c =
    let A = c.args in
    let L = c.loop-b in
    let k : L.b-index < A.n = omega (arith, length-between A.line.now A.at (A.at + A.n) c.requires.0) in
    omega (arith, room L.b-index L.v (omega arith) L.invariant.0)

pub loop-b-preserved : goal.loop-b-preserved
loop-b-preserved c =
    let A = c.args in
    let L = c.loop-b in
    let k : L.b-index < A.n = omega (arith, length-between A.line.now A.at (A.at + A.n) c.requires.0) in (
      grows L.b-index L.v _ L.invariant.0 c.digit.ensures.bound,
      rw (from_step A.line.now A.at A.n L.b-index L.v k, ← get_or-between A.line.now A.at (A.at + A.n) L.b-index 0 (omega arith), ← c.digit.ensures.value)
          at L.invariant.1,
    )

pub returns : goal.returns
returns c =
    let A = c.args in
    let L = c.loop-b in
    let k : A.n ≤ L.b-index = omega (arith, length-between A.line.now A.at (A.at + A.n) c.requires.0) in
    rw (from-none _ A.at _ L.b-index L.v k) at L.invariant.1
