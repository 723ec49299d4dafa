-- `turn::tests` meets its contract: the header's test, then the worker's number, then the worker's own.
use Prim.Native.Nat.{◌≤◌, ◌<◌}
use mathlib.Core.Path.{sym, ap, ◌∙◌}
use Rattle.image.specs.Image.{workers}
use Rattle.image.proofs.Header.{header-inside}
use Rattle.working.specs.World.{world}
use Rattle.turn.specs.Inner.Acting.{gate_of}
use Rattle.turn.proofs.Turns.{no_header, no-worker, a_turn}
use Rattle.turn.proofs.tests.Goals as goal

pub returns-then-not-header_ok : goal.returns-then-not-header_ok
returns-then-not-header_ok c =
    λ k.
    let A = c.args in
    rw (no_header A.e.mark A.e.own (world A.image.now A.c k) A.d (sym c.header_ok.ensures ∙ c.if-not-header_ok.true))

pub returns-then-workers-d : goal.returns-then-workers-d
returns-then-workers-d c =
    λ k.
    let A = c.args in
    let h = sym c.header_ok.ensures ∙ c.if-not-header_ok.false in
    let b : workers A.image.now ≤ A.d = rw c.workers.ensures at c.if-workers-d.true in
    rw (no-worker A.e.mark A.e.own (world A.image.now A.c k) A.d h b)

pub worker_tests-requires : goal.worker_tests-requires
worker_tests-requires c =
    let A = c.args in
    let h = sym c.header_ok.ensures ∙ c.if-not-header_ok.false in
    let b : A.d < workers A.image.now = rw c.workers.ensures at c.if-workers-d.false in
    header-inside A.e.mark A.e.own A.image.now A.d A.e.few h b

pub returns : goal.returns
returns c =
    λ k.
    let A = c.args in
    let h = sym c.header_ok.ensures ∙ c.if-not-header_ok.false in
    let b : A.d < workers A.image.now = rw c.workers.ensures at c.if-workers-d.false in
    c.worker_tests.ensures k ∙ ap gate_of (sym (a_turn A.e.mark A.e.own (world A.image.now A.c k) A.d h b))
