-- `turn::worker_tests` meets its contract: an idle worker rests, one whose cursor is not ready is refused, and any other has its turn made.
use borrow.Author.Rules.{rules}
use Prim.Native.Nat.{◌<◌}
use mathlib.Core.Path.{◌≡◌, sym, ◌∙◌}
use native.Mathlib.Omega.{arith}
use lib.ListN.{length}
use Rattle.working.specs.World.{world}
use Rattle.turn.specs.Call.{outcome_at}
use Rattle.working.proofs.Placed.{Full, open-not}
use Rattle.turn.proofs.Turns.{rests, made_at, refused-at, made-gate}
use Rattle.turn.proofs.worker_tests.Goals as goal

pub returns-then-idle : goal.returns-then-idle
returns-then-idle c =
    λ k.
    let A = c.args in
    rw (rests A.own (world A.image.now A.c k) A.d (sym c.idle.ensures ∙ c.if-idle.true))

pub returns-then-not-ready : goal.returns-then-not-ready
returns-then-not-ready c =
    λ k.
    let A = c.args in
    let p : length A.c.step ≡ 8 = search rules in
    let q : length A.c.turn ≡ 8 = search rules in
    let f : Full A.c = record { steps = p; turns = q } in
    let l : A.d < 8 = omega (arith, c.requires.below, c.requires.most) in
    let o = open-not A.c A.d (rw q l) (sym c.idle.ensures ∙ c.if-idle.false) in
    rw (refused-at A.own (world A.image.now A.c k) A.d f l o (sym c.ready.ensures ∙ c.if-not-ready.true))

pub returns : goal.returns
returns c =
    λ k.
    let A = c.args in
    let p : length A.c.step ≡ 8 = search rules in
    let q : length A.c.turn ≡ 8 = search rules in
    let f : Full A.c = record { steps = p; turns = q } in
    let w = world A.image.now A.c k in
    let made = made_at A.own w A.d f (omega (arith, c.requires.below, c.requires.most)) (sym c.ready.ensures ∙ c.if-not-ready.false) in
    sym (made-gate A.own (outcome_at A.own w A.d) made)
