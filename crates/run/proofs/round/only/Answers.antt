-- `run::round::only` meets its contract: its tests are those of a turn call, in the same order, and an open worker's turn is a round's.
use Prim.Native.Nat.{◌<◌, ◌≤◌}
use mathlib.Core.Path.{sym, ◌∙◌}
use Rattle.image.specs.Image.{workers}
use Rattle.image.proofs.Header.{header-inside}
use Rattle.working.specs.World.{world}
use Rattle.turn.proofs.Turns.{rests, no_header, no-worker, a_turn}
use Rattle.run.proofs.round.only.Goals as goal

pub returns-then-not-header_ok : goal.returns-then-not-header_ok
returns-then-not-header_ok c =
    let A = c.args in
    let w = world A.image.now A.c A.left.now in
    let o = no_header A.e.mark A.e.own w A.d (sym c.header_ok.ensures ∙ c.if-not-header_ok.true) in
    record { answer = rw (c.told.ensures, o); after = rw (c.told.ensures, o) }

pub returns-then-workers-d : goal.returns-then-workers-d
returns-then-workers-d c =
    let A = c.args in
    let w = world A.image.now A.c A.left.now in
    let e = sym c.header_ok.ensures ∙ c.if-not-header_ok.false in
    let h : workers A.image.now ≤ A.d = rw c.workers.ensures at c.if-workers-d.true in
    let o = no-worker A.e.mark A.e.own w A.d e h in
    record { answer = rw (c.told-then-workers-d.ensures, o); after = rw (c.told-then-workers-d.ensures, o) }

pub returns-then-idle : goal.returns-then-idle
returns-then-idle c =
    let A = c.args in
    let w = world A.image.now A.c A.left.now in
    let e = sym c.header_ok.ensures ∙ c.if-not-header_ok.false in
    let h : A.d < workers A.image.now = rw c.workers.ensures at c.if-workers-d.false in
    let o = a_turn A.e.mark A.e.own w A.d e h ∙ rests A.e.own w A.d (sym c.idle.ensures ∙ c.if-idle.true) in
    record { answer = rw (c.told-then-idle.ensures, o); after = rw (c.told-then-idle.ensures, o) }

pub open_turn-requires : goal.open_turn-requires
open_turn-requires c =
    let A = c.args in
    let e = sym c.header_ok.ensures ∙ c.if-not-header_ok.false in
    let h : A.d < workers A.image.now = rw c.workers.ensures at c.if-workers-d.false in
    (header-inside _ _ _ A.d A.e.few e h, sym c.idle.ensures ∙ c.if-idle.false)

pub returns : goal.returns
returns c =
    let A = c.args in
    let w = world A.image.now A.c A.left.now in
    let e = sym c.header_ok.ensures ∙ c.if-not-header_ok.false in
    let h : A.d < workers A.image.now = rw c.workers.ensures at c.if-workers-d.false in
    let o = a_turn A.e.mark A.e.own w A.d e h in
    let T = c.open_turn.ensures in
    record { answer = rw o T.answer; after = rw o T.after }
