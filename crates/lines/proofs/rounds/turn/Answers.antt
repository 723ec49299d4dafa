-- `lines::rounds::turn` meets its contract: no turn where no round is left, else the next of the round.
use Prim.Native.Nat.{suc, ◌-◌}
use mathlib.Core.Path.{◌≡◌, sym, ap, ◌∙◌}
use native.Mathlib.Omega.{arith}
use Rattle.edition.specs.Edition.{mark, own_words}
use Rattle.lines.specs.Play.{uncut, makes, round_stage}
use Rattle.lines.proofs.Few.{next-few}
use Rattle.lines.proofs.rounds.turn.Goals as goal

pub returns-then-rounds-eq0 : goal.returns-then-rounds-eq0
unfolding round_stage
returns-then-rounds-eq0 c = rw (c.if-rounds-eq0.true, c.over.ensures)

pub job-requires : goal.job-requires
job-requires c =
    let A = c.args in
    let t = c.round_turn-t.ensures in (
      omega (arith, c.if-rounds-eq0.false),
      λ e. rw t.worker (next-few mark own_words (uncut A.image.now A.p.cursors) A.from (sym (ap makes t.answer) ∙ e)),
    )

pub returns : goal.returns
unfolding round_stage
returns c =
    let A = c.args in
    let t = c.round_turn-t.ensures in
    let k : A.rounds ≡ suc (A.rounds - 1) = omega (arith, c.if-rounds-eq0.false) in
    rw (c.made.ensures, c.job.ensures, k, c.turned.ensures, ← t.worker, ← t.after, ← t.answer)
