-- `run::alone::turns` meets its contract: whole instructions that are some, a turn as it is with those behind it, or a turn that is refused.
use mathlib.Core.Path.{sym, ◌∙◌}
use native.Mathlib.Omega.{arith}
use Rattle.stretch.proofs.Alone.{room-less}
use Rattle.stretch.proofs.Sequence.{turns-still, turns-room}
use Rattle.run.proofs.Going.{turns-inside, went_then, went-refused}
use Rattle.run.proofs.alone.turns.Goals as goal

pub plain-requires : goal.plain-requires
plain-requires c =
    let same = turns-still _ _ (c.instructions-x.ensures.turns c.args.tally) c.if-x-ne0.false in
    (rw same.0 c.requires.0, c.requires.1, c.requires.2)

pub returns-in_default-clause-went : goal.returns-in_default-clause-went
returns-in_default-clause-went c =
    let same = turns-still _ _ (c.instructions-x.ensures.turns c.args.tally) c.if-x-ne0.false in
    let no = c.in_default.ensures.attempt in
    went-refused _ _ (rw same.0 at no.0) (no.1 ∙ same.0) (no.2 ∙ same.1)

pub instructions-z-requires : goal.instructions-z-requires
instructions-z-requires c =
    let same = turns-still _ _ (c.instructions-x.ensures.turns c.args.tally) c.if-x-ne0.false in
    turns-inside _ _ c.in-Some.ensures.attempt.1.made (rw same.0 c.requires.0)

pub went-requires-2 : goal.went-requires-2
went-requires-2 c =
    let y = c.in-Some.ensures in
    let z = c.instructions-z.ensures in
    let room = turns-room _ _ y.attempt.1.made c.args.rounds y.most c.requires.2 in
    (room-less _ _ _ z.most room, z.passes, omega (arith, z.most, y.most, c.ranges.rounds))

pub returns-clause-went : goal.returns-clause-went
returns-clause-went c =
    let same = turns-still _ _ (c.instructions-x.ensures.turns c.args.tally) c.if-x-ne0.false in
    rw c.went-2.ensures (went_then _ _ _ c.instructions-z.result same.0 same.1 c.in-Some.ensures.attempt.1 c.instructions-z.ensures.turns)
