-- `lines::playing::turn` meets its contract: no turn where none is left, else the engine's.
use borrow.Author.Rules.{rules}
use Prim.Native.Nat.{suc, ◌-◌}
use mathlib.Core.Path.{◌≡◌}
use native.Mathlib.Omega.{arith}
use Rattle.lines.specs.Play.{turn_stage}
use Rattle.lines.specs.Play.{turn_stage}
use Rattle.lines.proofs.playing.turn.Goals as goal

pub returns-then-turns-eq0 : goal.returns-then-turns-eq0
unfolding turn_stage
returns-then-turns-eq0 c = rw (c.if-turns-eq0.true, c.over.ensures)

pub returns : goal.returns
unfolding turn_stage
returns c =
    let t = c.line_turn-t in
    let A = c.args in
    let k : A.turns ≡ suc (A.turns - 1) = omega arith in
    rw (c.turns_made.ensures, k, c.turns_job.ensures, c.turned.ensures, ← t.ensures.after, ← t.ensures.answer)
