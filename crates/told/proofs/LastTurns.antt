-- Where a worker's reading is behind the store that set its pc to 0, its turn is the last of its finish (`last-turns`).
use Prim.Native.Nat.{ℕ, ◌<◌, ◌≤◌}
use mathlib.Core.Path.{◌≡◌, sym, ap, subst, ◌∙◌}
use mathlib.Core.Bool.{false}
use mathlib.Core.List.{List}
use borrow.Author.Tests.{ltb-false}
use native.Mathlib.Omega.{arith}
use Rattle.image.specs.declared.Field.TheVariants.{Count, Pc}
use Rattle.image.specs.Place.{field, Memory}
use Rattle.image.specs.Image.{at, workers, cells_of}
use Rattle.code.specs.declared.Op.TheVariants.{Finish}
use Rattle.working.specs.Cursor.{Cursor, idle, on, step_no, cursor_at}
use Rattle.worklog.specs.Log.{code_in}
use Rattle.plan.specs.Turn.{stored, turn_at}
use Rattle.claims.specs.Reference.{Given}
use Rattle.claims.specs.Calls.{Traced, from}
use Rattle.claims.specs.Claims.{of_worker}
use Rattle.claims.proofs.Invariant.{op_at}
use Rattle.claims.proofs.Invariant.{Phase, resting, fresh as fresh-phase, due, unlocking, unlocked, between, ended as ended-phase}
use Rattle.claims.proofs.Worlds.{Running}
use Rattle.claims.proofs.Played.{outcome-below}
use Rattle.claims.proofs.Resting.{rested-running}
use Rattle.claims.proofs.Ready.{turn-op}
use Rattle.claims.proofs.Submitting.{on-not-idle}
use Rattle.told.specs.Moments.{moment}
use Rattle.told.specs.Turns.{Now, passage_of}
use Rattle.told.specs.Treads.{LastTurn, LastTurns}
use Rattle.told.proofs.FromRest.{Any, any-sorted}
use Rattle.told.proofs.Resuming.{same_step}
use Rattle.told.proofs.Pacing.{Paced, At}
use Rattle.told.proofs.OnTrack.{paths_in}
use Rattle.told.proofs.Spanning.{Spanning, Moored, spanning-keeps}
use Rattle.told.proofs.Turns.{rested-spanning}
use Rattle.told.proofs.Gathering.{all-each}
use Rattle.told.proofs.Tied.{named-not}

module _ (n : ℕ) (rd : Memory) (d : ℕ) where
  last_turn :
      (g : Given) (c : Cursor) (locks j : ℕ) → Phase n rd d g c locks j → (i : ℕ) → c ≡ on i 2 → op_at n rd d i ≡ Finish → rd (field Pc d) ≡ 0
      → turn_at n rd d c ≡ stored (field Count d) 0 idle
  last_turn g _ _ _ (resting k p x o) i e f z = absurd (on-not-idle i 2 (sym e))
  last_turn g _ _ _ (fresh-phase t locks sec h p o m) i e f z =
      let (a, first) = sec.valid.first in
      let same : 0 ≡ i = (same_step e).0 in
      let fin : op_at n rd d 0 ≡ Finish = rw same f in
      let y : ◌≡◌ {A = ℕ} 0 1 = cc in
      absurd (omega arith)
  last_turn g _ _ _ (due s locks sec m q) i e f z = absurd (named-not n rd d s m.pc z)
  last_turn g _ _ _ (unlocking s a locks sec m o w x q) i e f z = absurd (named-not n rd d s m.pc z)
  last_turn g _ _ _ (unlocked s a locks sec m o w x q) i e f z = absurd (named-not n rd d s m.pc z)
  last_turn g _ _ _ (between s k t locks j sec m q js l w h r) i e f z = absurd (named-not n rd d s m.pc z)
  last_turn g _ _ _ (ended-phase s sec p w x l o) i e f z = turn-op n rd d s 2 Finish sec.valid l o (omega arith)

module _ (mark n D : ℕ) (cells : List ℕ) where
  below_last : (w : Traced) (d : ℕ) → Running mark n D cells w → d < D → Spanning mark n D cells w → LastTurn mark n (moment w d)
  below_last w d r dl x left dw k g b u q =
      let rd = at n w.world.image in
      let c = passage_of d w.trace.events in
      let here = cursor_at w.world.cursors d in
      let mine = of_worker d w.trace.begun in
      let way = paths_in mark n D cells w d in
      let a = subst (At (rd (field Pc d)) (rd (field Count d)) (code_in n rd d) way mine c.ends) q (x d dl).anchor.at in
      let (i, e, f) = subst
      (λ (y : Now). Paced (rd (field Pc d)) (rd (field Count d)) (code_in n rd d) way mine (w.trace.jumps d) (w.trace.last d) here y) q (x d dl).pace in
      let s : step_no here ≡ i = ap step_no e in
      (outcome-below mark n D cells w d r.reached dl ∙ last_turn n rd d _ here _ _ (r.live.phase d dl) i e f a.0.none, rw s f)

pub last-turns : (mark n : ℕ) → 8 ≤ n → n ≤ 64 → LastTurns mark n
unfolding LastTurns
last-turns mark n wide narrow m rest xs h l =
    let D = workers m in
    let cells = cells_of m in
    all-each mark n D cells (Spanning mark n D cells) (Moored mark n D cells) Any (spanning-keeps mark n D cells wide) (LastTurn mark n)
    (below_last mark n D cells)
    (λ w d z left. absurd (omega arith))
    (λ w d r f left dw. let q = r.reached.many in let z = ltb-false d D f in absurd (omega arith))
    false xs (from m) wide narrow h l (any-sorted mark n xs (from m)) (rested-running mark n m rest, rested-spanning mark n wide narrow m rest)
