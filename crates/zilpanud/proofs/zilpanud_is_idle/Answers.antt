-- `zilpanud_is_idle` meets its contract: told by the cursor where the question is answered, else 0.
use borrow.Author.Rules.{rules}
use Rattle.working.specs.Cursor.{cursors}
use Rattle.zilpanud.specs.Ask.{idle_bit}
use Rattle.zilpanud.proofs.Asked.{told_by}
use Rattle.zilpanud.proofs.zilpanud_is_idle.Goals as goal
use Rattle.zilpanud.proofs.zilpanud_is_idle.Goals.{then-is_ok, else-is_ok}

pub returns-clause-answer : goal.returns-clause-answer
unfolding idle_bit
returns-clause-answer c =
    let A = c.args in
    rw (← told_by A.image.now A.worker (idle_bit (cursors A.step.now A.turn.now 0) A.worker), ← c.asked-a.ensures, ← c.is_ok.ensures.value)
    (elim c.if-is_ok.branch [
      | then-is_ok w ↦ rw (w.if-is_ok.true, w.idle-is, w.idle-idle.ensures, w.lent.ensures) (search rules)
      | else-is_ok w ↦ rw (w.if-is_ok.false, w.idle-is) (search rules)
    ])
