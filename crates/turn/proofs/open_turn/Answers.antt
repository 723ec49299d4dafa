-- `turn::open_turn` meets its contract: what was done is the outcome's, told as an answer, and the record is placed by it.
use borrow.Author.Rules.{rules}
use Prim.Native.Nat.{◌<◌}
use mathlib.Core.Path.{◌≡◌, refl, ap, ◌∙◌}
use native.Mathlib.Omega.{arith}
use lib.ListN.{length}
use Rattle.working.specs.World.{world}
use Rattle.turn.specs.Call.{outcome_at}
use Rattle.turn.specs.Inner.Acting.{did_answer}
use Rattle.working.proofs.Placed.{Full}
use Rattle.turn.proofs.Turns.{made_at, did-answers}
use Rattle.turn.proofs.open_turn.Goals as goal

pub told-requires : goal.told-requires
told-requires c = c.turn_on-acted.ensures.lock

pub returns : goal.returns
returns c =
    let A = c.args in
    let w = world A.image.now A.c A.left.now in
    let l : A.d < 8 = omega (arith, c.requires.0.below, c.requires.0.most) in
    let p : length A.c.step ≡ 8 = search rules in
    let q : length A.c.turn ≡ 8 = search rules in
    let f : Full A.c = record { steps = p; turns = q } in
    let inside : A.d < length A.c.turn = rw q l in
    let acts = c.turn_on-acted.ensures.acts A.c (record { inside = inside; step = refl; turn = refl }) in
    let made = made_at A.own w A.d f l c.requires.1 in
    record {
      answer = c.told.ensures.answer A.own ∙ (ap (did_answer A.own) acts.did ∙ did-answers A.own (outcome_at A.own w A.d) made);
      after = rw (← c.told.ensures.cursors) at acts.after;
    }
