-- What was logged before a cut is stored as logged (`logged-stored`): on an image that a recovery accepts, a pc that is not 0 names a step whose log
-- entry is right, the recovery touches neither that entry nor the section, and the worker goes on at the step's target store.
use Prim.Native.Nat.{ℕ, ◌<◌}
use mathlib.Core.Path.{◌≡◌, refl, sym, ap, ◌∙◌}
use mathlib.Core.Logic.{◌≢◌}
use mathlib.Core.Bool.{true, false, false≢true}
use mathlib.Core.List.{List}
use lib.Dec.{eqb}
use borrow.Author.Tests.{lt-ltb, ne_eqb}
use native.Mathlib.Omega.{arith}
use Rattle.image.specs.declared.Field.TheVariants.{Pc}
use Rattle.image.specs.Place.{Place, field, Memory, Store}
use Rattle.image.specs.Image.{Image, index_of, at, workers, header_ok, put_all}
use Rattle.image.proofs.Header.{header-workers}
use Rattle.image.proofs.Lists.{header-all, workers-all}
use Rattle.code.specs.declared.Op.{Op}
use Rattle.code.specs.declared.Op.TheVariants.{Acquire, Release, Assign, Jump, Finish, Unknown}
use Rattle.code.proofs.Ranges.{op_turns}
use Rattle.worklog.specs.Log.{active_addr, active_val}
use Rattle.working.specs.declared.Cursors.{Cursors}
use Rattle.working.specs.Cursor.{Cursor}
use Rattle.plan.specs.Turn.{stored, turn_at, op_turn}
use Rattle.turn.specs.Call.{outcome_at, outcome}
use Rattle.owed.specs.Owed.{target_of, named_step, entry_ok}
use Rattle.resuming.specs.Resumed.{target_turn, resumed}
use Rattle.repair.specs.Plan.{plan}
use Rattle.recovery.specs.Recovery.{recovery, accepted}
use Rattle.claims.specs.Calls.{Traced, recovers, call}
use Rattle.claims.proofs.Fields.{active-addr-kept, active-val-kept}
use Rattle.claims.proofs.Invariant.{Crashed, op_at}
use Rattle.claims.proofs.Ready.{turn-op}
use Rattle.claims.proofs.Covers.{Parts, crashed-parts, crashed-accepted, accepted-crashed}
use Rattle.claims.proofs.RecoveryFrame.{Framed, resumed-frame}
use Rattle.claims.proofs.Stages.{Kept, kept-framed, kept-parts, plan-kept}
use Rattle.claims.proofs.Accepted.{ok-sectioned, ok_named, ok-entry, resumed-on}
use Rattle.claims.proofs.RecoveryImage.{resumed-cursor, recovery-at}
use Rattle.told.specs.Changing.{LoggedStored}

-- ---- a memory that a recovery accepts

module _ (n : ℕ) (rd : Memory) (d : ℕ) where
  abbrev logged : ℕ
  logged = rd (field (active_val n rd d) d)

  -- the target turn of an instruction whose entry is right is one of its turns, and stores the logged value at the target
  target-stores :
      (s : ℕ) (x : Op) → entry_ok n rd d x ≡ true
      → (c : Cursor) × (target_turn x < op_turns x) × (op_turn n rd d s (target_turn x) x ≡ stored (target_of d x) logged c)
  target-stores s (Acquire a) h = (_, omega arith, refl)
  target-stores s (Release a) h = (_, omega arith, refl)
  target-stores s (Assign a e) h = (_, omega arith, refl)
  target-stores s (Jump a b) h = absurd (false≢true h)
  target-stores s Finish h = absurd (false≢true h)
  target-stores s Unknown h = absurd (false≢true h)

  -- where the worker goes on, it stores what is logged
  resumed-stores :
      (D : ℕ) → Parts n D rd → d < D → eqb (rd (field Pc d)) 0 ≡ false
      → (p : Place) × (c : Cursor) × (turn_at n rd d (resumed n rd d) ≡ stored p logged c) × (index_of n p ≡ rd (field (active_addr n rd d) d))
  resumed-stores D p l z =
      let k = ok_named n rd d (p.pc d l) z in
      let s = named_step n rd d in
      let x = op_at n rd d s in
      let t = target-stores s x k.entry in
      let op = turn-op n rd d s (target_turn x) x (ok-sectioned n rd d (p.section d l) z).valid k.below refl t.1 in
      (target_of d x, t.0, ap (turn_at n rd d) (resumed-on n rd d z) ∙ (op ∙ t.2), sym (ok-entry n rd d k).address)

-- ---- behind a recovery of it

module _
    (mark n : ℕ) (w : Traced) (ss : List Store) (cs : Cursors) (e : recovery mark n w.world.image ≡ accepted ss cs) (d : ℕ)
    (l : d < workers w.world.image) where
  abbrev m : Image
  m = w.world.image

  abbrev before : Memory
  before = at n m

  abbrev D : ℕ
  D = workers m

  abbrev behind : Memory
  behind = at n (put_all n w.world.left m (plan n before D))

  was-crashed : (header_ok mark n m ≡ true) × Crashed n D before
  was-crashed = accepted-crashed mark n m ss cs e

  parts : Parts n D before
  parts = crashed-parts n D before was-crashed.1

  kept : Kept n D before behind
  kept = rw (recovery-at mark n m was-crashed.0 w.world.left) (plan-kept n D before parts w.world.left)

  framed : Framed n before behind d
  framed = kept-framed n D before behind kept d

  turn-behind : outcome mark n (call mark n recovers w).world d ≡ turn_at n behind d (resumed n behind d)
  unfolding call outcome outcome_at
  turn-behind =
      rw (
        crashed-accepted mark n m was-crashed.0 was-crashed.1,
        header-all n mark w.world.left m (plan n before D),
        was-crashed.0,
        workers-all n w.world.left m (plan n before D),
        lt-ltb d D l,
        resumed-cursor n before D d l (header-workers mark n m was-crashed.0).1,
        resumed-frame n before behind d framed,
      )

  same-value : logged n behind d ≡ logged n before d
  same-value = rw (active-val-kept n before behind d framed.pc) framed.val

  same_address : behind (field (active_addr n behind d) d) ≡ before (field (active_addr n before d) d)
  same_address = rw (active-addr-kept n before behind d framed.pc) framed.addr

pub logged-stored : (mark n : ℕ) → LoggedStored mark n
unfolding LoggedStored
logged-stored mark n w ss cs e d l z =
    let f = framed mark n w ss cs e d l in
    let k = kept mark n w ss cs e d l in
    let D = workers w.world.image in
    let rd = at n w.world.image in
    let s = resumed-stores n _ d D (kept-parts n D rd (parts mark n w ss cs e d l) _ k) l (ne_eqb _ 0 (λ q. z (sym f.pc ∙ q))) in (
      s.0,
      s.1,
      turn-behind mark n w ss cs e d l ∙ (s.2 ∙ ap (λ (v : ℕ). stored s.0 v s.1) (same-value mark n w ss cs e d l)),
      s.3 ∙ same_address mark n w ss cs e d l,
    )
