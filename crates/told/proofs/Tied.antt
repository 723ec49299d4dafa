-- The reference machine follows the order so far (`followed-always`), the readings are those of the records (`readings-tied`), and a section is begun with
-- the fifth store of its turns (`begun-fifth`).
use Prim.Native.Nat.{ℕ, suc, zero, ◌+◌, ◌%◌, ◌^◌, ◌<◌, ◌≤◌}
use mathlib.Core.Path.{◌≡◌, refl, sym, subst}
use mathlib.Core.Bool.{Bool, true, false, cond}
use mathlib.Core.List.{List, [], ◌∷◌}
use lib.Dec.{eqb}
use borrow.Author.Tests.{ne_eqb, ltb-false}
use native.Mathlib.Omega.{arith}
use Rattle.image.specs.declared.Field.TheVariants.{Count, Pc}
use Rattle.image.specs.Place.{lock, field, Memory}
use Rattle.image.specs.Image.{at, workers, cells_of}
use Rattle.code.specs.declared.Op.{Op}
use Rattle.code.specs.declared.Op.TheVariants.{Acquire, Finish}
use Rattle.section.specs.Check.{Code}
use Rattle.working.specs.Cursor.{Cursor, on, cursor_at}
use Rattle.worklog.specs.Log.{code_in}
use Rattle.owed.specs.Owed.{named_step}
use Rattle.plan.specs.Turn.{stored, waiting, op_turn, turn_at, lock_turn}
use Rattle.claims.specs.Reference.{Given}
use Rattle.claims.specs.Calls.{Traced, from}
use Rattle.claims.specs.Claims.{of_worker, after}
use Rattle.claims.proofs.Invariant.{op_at, Nearing}
use Rattle.claims.proofs.Invariant.{Phase, resting, fresh as fresh-phase, due, unlocking, unlocked, between, ended as ended-phase}
use Rattle.claims.proofs.Worlds.{Running}
use Rattle.claims.proofs.Played.{outcome-below}
use Rattle.claims.proofs.Resting.{rested-running}
use Rattle.claims.proofs.Covers.{crashed-parts}
use Rattle.claims.proofs.Accepted.{ok_named}
use Rattle.claims.proofs.Ready.{turn-op}
use Rattle.claims.proofs.Entries.{addr-no-pc, val-no-pc}
use Rattle.claims.proofs.Switching.{switched-names}
use Rattle.claims.proofs.Submitting.{on-not-idle}
use Rattle.told.specs.Paths.{Paths}
use Rattle.told.specs.Moments.{moment}
use Rattle.told.specs.Turns.{Span, Now, nowhere, fresh, going, closing, passage, passage_of}
use Rattle.told.specs.Tied.{TiedAt, FreshTurn, FollowedAlways, ReadingsTied, BeginsFifth, BegunFifth}
use Rattle.told.proofs.FromRest.{Any, any-sorted, kept-list}
use Rattle.told.proofs.Resuming.{same_step}
use Rattle.told.proofs.Pacing.{Anchored, Paced}
use Rattle.told.proofs.OnTrack.{paths_in}
use Rattle.told.proofs.Spanning.{Spanning, Moored, spanning-keeps}
use Rattle.told.proofs.Turns.{rested-spanning}
use Rattle.told.proofs.Gathering.{all-each}

-- ---- the reference machine

pub followed-always : (mark n : ℕ) → 8 ≤ n → n ≤ 64 → FollowedAlways mark n
unfolding FollowedAlways named_step
followed-always mark n wide narrow m rest xs h l =
    let D = workers m in
    let cells = cells_of m in
    let w = after mark n m xs in
    let rd = at n w.world.image in
    let k = (kept-list mark n wide narrow m rest (Spanning mark n D cells) (Moored mark n D cells) (spanning-keeps mark n D cells wide)
    (rested-spanning mark n wide narrow m rest) xs h l).0 in
    let parts = crashed-parts n D rd k.crashed in
    record {
      state = k.reached.state;
      followed = k.reached.followed;
      none = k.reached.mirrors.none;
      one = λ d dl p.
          let (j, q, f) = k.reached.mirrors.some d dl p in
          let named = (ok_named n rd d (parts.pc d dl) (ne_eqb (rd (field Pc d)) 0 p)).some in
          let next = f.next in
          (j, q, omega arith);
    }

-- ---- the readings

tied_at :
    (n : ℕ) (rd : Memory) (d : ℕ) (P : Paths) (mine : List Given) (e : ℕ) (x : Now) (xs : List Span)
    → Anchored (rd (field Pc d)) (rd (field Count d)) (code_in n rd d) P mine (passage e x xs) → TiedAt rd d mine e x
tied_at n rd d P mine e nowhere xs a = (a.at.none, a.at.size)
tied_at n rd d P mine e (fresh g t) xs a = (a.at.none, a.at.size)
tied_at n rd d P mine e (going g b s t) xs a = (a.at.named, a.at.coded, a.at.size, a.at.which)
tied_at n rd d P mine e (closing k g b t) xs a = (a.at.0.none, a.at.0.size)

pub readings-tied : (mark n : ℕ) → 8 ≤ n → n ≤ 64 → ReadingsTied mark n
unfolding ReadingsTied
readings-tied mark n wide narrow m rest xs h l d dl =
    let D = workers m in
    let cells = cells_of m in
    let w = after mark n m xs in
    let rd = at n w.world.image in
    let c = passage_of d w.trace.events in
    let k = kept-list mark n wide narrow m rest (Spanning mark n D cells) (Moored mark n D cells) (spanning-keeps mark n D cells wide)
    (rested-spanning mark n wide narrow m rest) xs h l in
    tied_at n rd d _ (of_worker d w.trace.begun) c.ends c.now c.spans (k.1 d dl)

-- ---- the fifth store

module _ (n : ℕ) (rd : Memory) (d : ℕ) where
  lock-fresh : (a : ℕ) → FreshTurn 1 (lock_turn n rd d a 0)
  lock-fresh a = by (eqb (rd (lock a)) 0)
    where
      by : (b : Bool) → FreshTurn 1 (cond b (stored (lock a) (d + 1) (on 0 2)) (waiting a))
      by true = (omega arith, refl, λ e. absurd (omega arith))
      by false = refl

  acquire-fresh : (a t : ℕ) → t ≤ 4 → FreshTurn t (op_turn n rd d 0 t (Acquire a))
  acquire-fresh a zero l = (omega arith, refl, λ e. absurd (omega arith))
  acquire-fresh a (suc zero) l = lock-fresh a
  acquire-fresh a (suc (suc zero)) l = (omega arith, addr-no-pc n rd d, λ e. absurd (omega arith))
  acquire-fresh a (suc (suc (suc zero))) l = (omega arith, val-no-pc n rd d, λ e. absurd (omega arith))
  acquire-fresh a (suc (suc (suc (suc zero)))) l = (omega arith, refl, λ e. switched-names n rd d 0 (omega arith))
  acquire-fresh a (suc (suc (suc (suc (suc t))))) l = absurd (omega arith)

  near-acquire : (t locks : ℕ) (x : Op) (a : ℕ) → x ≡ Acquire a → Nearing n rd d 0 t 0 locks x → t ≤ 4
  near-acquire t locks x a o y = (subst (Nearing n rd d 0 t 0 locks) o y).0

  pub named-not : (s : ℕ) → rd (field Pc d) % 2 ^ 63 ≡ suc s → rd (field Pc d) ≡ 0 → ⊥
  named-not s q z = omega arith

  fresh-turn :
      (g : Given) (c : Cursor) (locks j : ℕ) → Phase n rd d g c locks j → (u : ℕ) → c ≡ on 0 u → rd (field Pc d) ≡ 0 → FreshTurn u (turn_at n rd d c)
  fresh-turn g _ _ _ (resting k p i o) u e z = absurd (on-not-idle 0 u (sym e))
  fresh-turn g _ _ _ (fresh-phase t locks sec h p o m) u e z =
      let (a, f) = sec.valid.first in
      let l = near-acquire t locks (op_at n rd d 0) a f m in
      let low = sec.valid.least in
      let same = (same_step e).1 in
      rw (← same, turn-op n rd d 0 t (Acquire a) sec.valid (omega arith) f (omega arith)) (acquire-fresh a t l)
  fresh-turn g _ _ _ (due s locks sec m q) u e z = absurd (named-not s m.pc z)
  fresh-turn g _ _ _ (unlocking s a locks sec m o w i q) u e z = absurd (named-not s m.pc z)
  fresh-turn g _ _ _ (unlocked s a locks sec m o w i q) u e z = absurd (named-not s m.pc z)
  fresh-turn g _ _ _ (between s k t locks j sec m f js l w h r) u e z = absurd (named-not s m.pc z)
  fresh-turn g _ _ _ (ended-phase s sec p w i l o) u e z =
      let (a, f) = sec.valid.first in
      let same : s ≡ 0 = (same_step e).0 in
      let first : op_at n rd d 0 ≡ Finish = rw (← same) o in
      let y : ◌≡◌ {A = ℕ} 0 1 = cc in
      absurd (omega arith)

-- where its worker's reading is fresh, by the pace
paced-fresh : (pc count : ℕ) (code : Code) (P : Paths) (mine : List Given) (j : ℕ) (last : Given) (c : Cursor) (x : Now) (g : Given) (u : ℕ)
    → x ≡ fresh g u → Paced pc count code P mine j last c x → c ≡ on 0 u
paced-fresh pc count code P mine j last c x g u e p = (subst (λ (y : Now). Paced pc count code P mine j last c y) e p).0

anchored-fresh : (rd : Memory) (d : ℕ) (mine : List Given) (e : ℕ) (x : Now) (g : Given) (u : ℕ) → x ≡ fresh g u → TiedAt rd d mine e x → rd (field Pc d) ≡ 0
anchored-fresh rd d mine e x g u q t = (subst (TiedAt rd d mine e) q t).0

module _ (mark n D : ℕ) (cells : List ℕ) where
  below-fifth : (w : Traced) (d : ℕ) → Running mark n D cells w → d < D → Spanning mark n D cells w → BeginsFifth mark n (moment w d)
  below-fifth w d r dl x left dw g u q =
      let rd = at n w.world.image in
      let c = passage_of d w.trace.events in
      let here = cursor_at w.world.cursors d in
      let z = anchored-fresh rd d (of_worker d w.trace.begun) c.ends c.now g u q
      (tied_at n rd d _ (of_worker d w.trace.begun) c.ends c.now c.spans (x d dl).anchor) in
      let e = paced-fresh (rd (field Pc d)) (rd (field Count d)) (code_in n rd d) (paths_in mark n D cells w d) (of_worker d w.trace.begun)
      (w.trace.jumps d) (w.trace.last d) here c.now g u q (x d dl).pace in
      rw (outcome-below mark n D cells w d r.reached dl) (fresh-turn n rd d _ here _ _ (r.live.phase d dl) u e z)

pub begun-fifth : (mark n : ℕ) → 8 ≤ n → n ≤ 64 → BegunFifth mark n
unfolding BegunFifth
begun-fifth mark n wide narrow m rest xs h l =
    let D = workers m in
    let cells = cells_of m in
    all-each mark n D cells (Spanning mark n D cells) (Moored mark n D cells) Any (spanning-keeps mark n D cells wide) (BeginsFifth mark n)
    (below-fifth mark n D cells)
    (λ w d z left. absurd (omega arith))
    (λ w d r f left dw. let q = r.reached.many in let z = ltb-false d D f in absurd (omega arith))
    false xs (from m) wide narrow h l (any-sorted mark n xs (from m)) (rested-running mark n m rest, rested-spanning mark n wide narrow m rest)
