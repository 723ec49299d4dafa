-- `soundness::locks::locks` meets its contract.
use Prim.Native.Nat.{◌<◌, ◌≤◌}
use mathlib.Core.Path.{◌≡◌, sym, ap, ◌∙◌}
use native.Mathlib.Omega.{arith}
use Rattle.image.specs.Image.{at, workers}
use Rattle.soundness.specs.Inner.Tests.{by_lock}
use Rattle.owed.proofs.Sharing.{shared-told}
use Rattle.soundness.proofs.Sets.{owed-first, lock-single, lock-shared, bad-on, bad-here, bad-none}
use Rattle.soundness.proofs.locks.locks.Goals as goal

pub owner_ok-requires : goal.owner_ok-requires
owner_ok-requires c =
    let h : c.loop-b.b < 64 = omega (arith, (shared-told _ _ _ c.shared-end.ensures).0) in
    (c.requires.0, c.requires.1, h, c.requires.3)

pub returns-then-not-owner_ok : goal.returns-then-not-owner_ok
returns-then-not-owner_ok c =
    let A = c.args in
    let L = c.loop-b in
    let D = workers A.image.now in
    let rd = at A.own A.image.now in
    let low = shared-told _ _ _ c.shared-end.ensures in
    let h : L.b < 64 = omega (arith, low.0) in
    let owing = owed-first A.own rd D A.sets.now _ c.requires.2 c.workers.ensures c.requires.1 in
    let e = lock-single A.own rd D _ owing L.b (low.1 L.b (omega arith) c.loop-b-test.true) in
    sym (ap by_lock (bad-here A.own rd D L.b h (e ∙ sym c.owner_ok.ensures ∙ c.if-not-owner_ok.true))) ∙ L.invariant

pub loop-b-preserved : goal.loop-b-preserved
loop-b-preserved c =
    let A = c.args in
    let L = c.loop-b in
    let D = workers A.image.now in
    let rd = at A.own A.image.now in
    let low = shared-told _ _ _ c.shared-end.ensures in
    let h : L.b < 64 = omega (arith, low.0) in
    let owing = owed-first A.own rd D A.sets.now _ c.requires.2 c.workers.ensures c.requires.1 in
    let e = lock-single A.own rd D _ owing L.b (low.1 L.b (omega arith) c.loop-b-test.true) in
    sym (ap by_lock (bad-on A.own rd D L.b h (e ∙ sym c.owner_ok.ensures ∙ c.if-not-owner_ok.false))) ∙ L.invariant

pub returns-then-end-lt64 : goal.returns-then-end-lt64
returns-then-end-lt64 c =
    let A = c.args in
    let L = c.loop-b in
    let f = c.shared-end in
    let D = workers A.image.now in
    let rd = at A.own A.image.now in
    let h = c.if-end-lt64.true in
    let owing = owed-first A.own rd D A.sets.now _ c.requires.2 c.workers.ensures c.requires.1 in
    let e = lock-shared A.own rd D _ owing f.result ((shared-told _ _ _ f.ensures).2 h) in
    let z : L.b ≡ f.result = omega arith in
    sym (ap by_lock (bad-here A.own rd D f.result h e)) ∙ rw z at L.invariant

pub returns : goal.returns
returns c =
    let A = c.args in
    let L = c.loop-b in
    let h : 64 ≤ L.b = omega arith in
    sym (ap by_lock (bad-none A.own (at A.own A.image.now) (workers A.image.now) L.b h)) ∙ L.invariant
