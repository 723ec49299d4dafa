-- `turn::turn` meets its contract: refused or idle by its tests, else the turn of a worker that gets one.
use borrow.Author.Rules.{rules}
use mathlib.Core.Path.{◌≡◌, sym}
use lib.ListN.{length}
use Rattle.working.specs.World.{world}
use Rattle.working.proofs.Placed.{Full}
use Rattle.turn.proofs.Turns.{gate-opens}
use Rattle.turn.proofs.turn.Goals as goal

pub open_turn-requires : goal.open_turn-requires
open_turn-requires c =
    let A = c.args in
    let p : length A.c.step ≡ 8 = search rules in
    let q : length A.c.turn ≡ 8 = search rules in
    let f : Full A.c = record { steps = p; turns = q } in
    let opens = rw c.in-Ok-Open.field-0-is at (sym (c.in-Ok-Open.ensures A.left.now)) in
    let o = gate-opens A.e.mark A.e.own (world A.image.now A.c A.left.now) A.d A.e.few f opens in
    (o.inside, o.test)

pub returns-in-Ok-Open : goal.returns-in-Ok-Open
returns-in-Ok-Open c =
    let A = c.args in
    let p : length A.c.step ≡ 8 = search rules in
    let q : length A.c.turn ≡ 8 = search rules in
    let f : Full A.c = record { steps = p; turns = q } in
    let opens = rw c.in-Ok-Open.field-0-is at (sym (c.in-Ok-Open.ensures A.left.now)) in
    let o = gate-opens A.e.mark A.e.own (world A.image.now A.c A.left.now) A.d A.e.few f opens in
    rw o.same c.open_turn.ensures
