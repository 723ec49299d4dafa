-- `run::round::open_turn` meets its contract: the turn made is the outcome's, told as an answer; a worker that is open and not ready is refused.
use borrow.Author.Rules.{rules}
use Prim.Native.Nat.{◌<◌}
use mathlib.Core.Path.{◌≡◌, refl, ap, ◌∙◌}
use native.Mathlib.Omega.{arith}
use lib.ListN.{length}
use Rattle.working.specs.World.{world}
use Rattle.turn.specs.Call.{outcome_at}
use Rattle.turn.specs.Inner.Acting.{did_answer}
use Rattle.working.proofs.Placed.{Full, open-not}
use Rattle.turn.proofs.Turns.{made_at, refused-at, did-answers}
use Rattle.run.proofs.round.open_turn.Goals as goal

pub returns-in_default : goal.returns-in_default
returns-in_default c =
    let A = c.args in
    let no = c.in_default.ensures in
    let l : A.d < 8 = omega (arith, c.requires.0.below, c.requires.0.most) in
    let q : length A.c.turn ≡ 8 = search rules in
    let f : Full A.c = record { steps = search rules; turns = q } in
    let o = refused-at A.own (world A.image.now A.c A.left.now) A.d f l (open-not A.c A.d (rw q l) c.requires.1) no.0 in
    record { answer = rw (c.told.ensures, o); after = rw (c.told.ensures, o, no.1, no.2) }

pub returns : goal.returns
returns c =
    let A = c.args in
    let yes = c.in-Some.ensures in
    let w = world A.image.now A.c A.left.now in
    let l : A.d < 8 = omega (arith, c.requires.0.below, c.requires.0.most) in
    let q : length A.c.turn ≡ 8 = search rules in
    let f : Full A.c = record { steps = search rules; turns = q } in
    let acts = yes.2 A.c (record { inside = rw q l; step = refl; turn = refl }) in
    let made = made_at A.own w A.d f l yes.0 in
    record {
      answer = c.told-2.ensures.answer A.own ∙ (ap (did_answer A.own) acts.did ∙ did-answers A.own (outcome_at A.own w A.d) made);
      after = rw (← c.told-2.ensures.cursors) at acts.after;
    }
