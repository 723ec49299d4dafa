-- A section that is taken and not begun is pending: its worker's pc is 0 and its cursor on step 0. What one turn of a worker
-- does to that: a store of a pc ends it, and is the store at which the section counts as begun; any other turn leaves it.
use Prim.Native.Nat.{ℕ, suc, zero, ◌+◌, ◌%◌, ◌^◌, ◌<◌, ◌≤◌}
use mathlib.Core.Path.{◌≡◌, refl, sym, subst, ◌∙◌}
use mathlib.Core.Logic.{◌≢◌}
use mathlib.Core.Bool.{Bool, true, false, cond, ◌&&◌, false≢true}
use native.Mathlib.Omega.{arith}
use lib.Dec.{eqb, ltb}
use borrow.Author.Tests.{ne_eqb, eq-eqb}
use Rattle.mask.specs.Mask.{without}
use Rattle.image.specs.declared.Field.TheVariants.{Count, Pc, Intent, Owned}
use Rattle.image.specs.Place.{Place, lock, field, Memory}
use Rattle.code.specs.declared.Op.{Op}
use Rattle.code.specs.declared.Op.TheVariants.{Acquire, Release, Assign, Jump, Finish, Unknown}
use Rattle.code.specs.Op.{op_of}
use Rattle.working.specs.Cursor.{Cursor, idle, on}
use Rattle.working.specs.declared.Refusal.TheVariants.{Cursor as CursorRefused}
use Rattle.worklog.specs.Log.{operand, code_in}
use Rattle.plan.specs.Turn.{Outcome, stored, passed, waiting, resting, refused, logged, lock_turn, unlock_turn, acquire_turn, release_turn}
use Rattle.plan.specs.Turn.{finish_turn, op_turn, ready, turn_at}
use Rattle.plan.proofs.Outcomes.{unlock-either}
use Rattle.resuming.specs.Resumed.{target_turn}
use Rattle.claims.specs.Reference.{Given}
use Rattle.claims.specs.Calls.{is_pc}
use Rattle.claims.proofs.Invariant.{op_at, Sectioned, Nearing, Phase, resting as rests, fresh, due, unlocking, unlocked, between, ended}
use Rattle.claims.proofs.Entries.{named-pc, operand-no-pc, addr-no-pc, val-no-pc}
use Rattle.claims.proofs.Ready.{turn-op}
use Rattle.claims.proofs.Switching.{switched-some}

abbrev pub at_start : Cursor → Bool
at_start idle = false
at_start (on zero t) = true
at_start (on (suc s) t) = false

-- pc, cursor
unfoldable pub pend : ℕ → Cursor → Bool
pend pc c = eqb pc 0 && at_start c

pub pend-begun : (pc : ℕ) (c : Cursor) → pc ≢ 0 → pend pc c ≡ false
unfolding pend
pend-begun pc c h = rw (ne_eqb pc 0 h)

pub pend-idle : (pc : ℕ) → pend pc idle ≡ false
unfolding pend
pend-idle pc = by (eqb pc 0)
  where
    by : (b : Bool) → (b && false) ≡ false
    by true = refl
    by false = refl

pend-later : (pc s t : ℕ) → s ≢ 0 → pend pc (on s t) ≡ false
unfolding pend
pend-later pc zero t h = absurd (h refl)
pend-later pc (suc s) t h = pend-idle pc

pub pend-start : (pc t : ℕ) → pc ≡ 0 → pend pc (on 0 t) ≡ true
unfolding pend
pend-start pc t e = rw e

-- ---- what a turn does to it, by its outcome

-- a store of v, and the cursor after it, by whether it is a store of the pc
abbrev pub Passes : ℕ → Cursor → ℕ → Cursor → Bool → Type 0
Passes pc c v c' true = (pend pc c ≡ eqb pc 0) × (pend v c' ≡ false)
Passes pc c v c' false = pend pc c ≡ pend pc c'

abbrev pub Pends : ℕ → Cursor → Outcome → Type 0
Pends pc c (stored p v c') = Passes pc c v c' (is_pc p)
Pends pc c (passed why c') = pend pc c ≡ pend pc c'
Pends pc c (waiting b) = Unit {0}
Pends pc c resting = Unit {0}
Pends pc c (refused r) = Unit {0}

-- ---- a section that is begun: only the value of a pc store matters

-- a pc that is stored ends what is pending
abbrev Ends : Outcome → Type 0
Ends (stored p v c) = is_pc p ≡ true → pend v c ≡ false
Ends (passed why c) = Unit {0}
Ends (waiting b) = Unit {0}
Ends resting = Unit {0}
Ends (refused r) = Unit {0}

no-pc : {b : Bool} {A : Type 0} → b ≡ false → b ≡ true → A
no-pc e h = absurd (false≢true (sym e ∙ h))

module _ (n : ℕ) (rd : Memory) (d : ℕ) where
  logged-ends : (s t : ℕ) (p : Place) (v : ℕ) (c : Cursor) (i : ℕ) → is_pc p ≡ false → Ends (logged n rd d s t p v c i)
  logged-ends s t p v c zero h = no-pc (addr-no-pc n rd d)
  logged-ends s t p v c (suc zero) h = no-pc (val-no-pc n rd d)
  logged-ends s t p v c (suc (suc zero)) h = λ e. pend-begun _ _ (switched-some n rd d s)
  logged-ends s t p v c (suc (suc (suc i))) h = no-pc h

  lock-ends : (a s : ℕ) → Ends (lock_turn n rd d a s)
  lock-ends a s = by (eqb (rd (lock a)) 0)
    where
      by : (b : Bool) → Ends (cond b (stored (lock a) (d + 1) (on s 2)) (waiting a))
      by true = no-pc refl
      by false = tt

  unlock-ends : (a s : ℕ) → Ends (unlock_turn n rd d a s)
  unlock-ends a s = unlock-either n rd d a s Ends (no-pc refl) (λ why. tt)

  acquire-ends : (a s t : ℕ) → Ends (acquire_turn n rd d a s t)
  acquire-ends a s zero = no-pc refl
  acquire-ends a s (suc zero) = lock-ends a s
  acquire-ends a s (suc (suc t)) = logged-ends s (suc (suc t)) (field Owned d) _ _ t refl

  release-ends : (a s t : ℕ) → Ends (release_turn n rd d a s t)
  release-ends a s t = by (ltb t 4) (eqb t 4)
    where
      by : (b c : Bool)
          → Ends (cond b (logged n rd d s t (field Owned d) (without (rd (field Owned d)) a) (on s 4) t)
          (cond c (unlock_turn n rd d a s) (stored (field Intent d) (without (rd (field Intent d)) a) (on (s + 1) 0))))
      by true c = logged-ends s t (field Owned d) _ _ t refl
      by false true = unlock-ends a s
      by false false = no-pc refl

  finish-ends : (s t : ℕ) → s ≢ 0 → Ends (finish_turn n rd d s t)
  finish-ends s zero h = no-pc refl
  finish-ends s (suc zero) h = λ e. pend-later 0 s 2 h
  finish-ends s (suc (suc t)) h = no-pc refl

  op-ends : (s t : ℕ) (x : Op) → (x ≡ Finish → s ≢ 0) → Ends (op_turn n rd d s t x)
  op-ends s t (Acquire a) h = acquire-ends a s t
  op-ends s t (Release a) h = release-ends a s t
  op-ends s t (Assign a e) h = logged-ends s t (operand d a) _ _ t (operand-no-pc d a)
  op-ends s t (Jump a b) h = tt
  op-ends s t Finish h = finish-ends s t (h refl)
  op-ends s t Unknown h = tt

  -- a section's first step is no finish
  finish-later : Sectioned n rd d → (s : ℕ) → op_at n rd d s ≡ Finish → s ≢ 0
  finish-later sec s f z =
      let (a, x) = sec.valid.first in
      let q : op_at n rd d 0 ≡ Finish = rw z at f in
      let e : ◌≡◌ {A = ℕ} 0 1 = cc in
      omega arith

  turn-ends : Sectioned n rd d → (c : Cursor) → Ends (turn_at n rd d c)
  unfolding turn_at
  turn-ends sec idle = tt
  turn-ends sec (on s t) = by (ready n rd d s t)
    where
      by : (b : Bool) → Ends (cond b (op_turn n rd d s t (op_of (code_in n rd d s))) (refused (CursorRefused d)))
      by true = op-ends s t (op_of (code_in n rd d s)) (finish-later sec s)
      by false = tt

-- with the pc not 0 nothing is pending, before and behind a turn
begun-passes : (pc : ℕ) (c : Cursor) (v : ℕ) (c' : Cursor) (b : Bool) → pc ≢ 0 → (b ≡ true → pend v c' ≡ false) → Passes pc c v c' b
begun-passes pc c v c' true h e = (pend-begun pc c h ∙ sym (ne_eqb pc 0 h), e refl)
begun-passes pc c v c' false h e = pend-begun pc c h ∙ sym (pend-begun pc c' h)

begun-pends : (pc : ℕ) (c : Cursor) (o : Outcome) → pc ≢ 0 → Ends o → Pends pc c o
begun-pends pc c (stored p v c') h e = begun-passes pc c v c' (is_pc p) h e
begun-pends pc c (passed why c') h e = pend-begun pc c h ∙ sym (pend-begun pc c' h)
begun-pends pc c (waiting b) h e = tt
begun-pends pc c resting h e = tt
begun-pends pc c (refused r) h e = tt

-- ---- a section that is not begun: its first instruction, an acquire

module _ (n : ℕ) (rd : Memory) (d : ℕ) (pc : ℕ) (z : pc ≡ 0) where
  -- still on its first step
  stays_on : (t t' : ℕ) → pend pc (on 0 t) ≡ pend pc (on 0 t')
  stays_on t t' = pend-start pc t z ∙ sym (pend-start pc t' z)

  first-logged : (t i : ℕ) (p : Place) (v : ℕ) (c : Cursor) → i ≤ 2 → Pends pc (on 0 t) (logged n rd d 0 t p v c i)
  first-logged t zero p v c h = rw (addr-no-pc n rd d) (stays_on t (t + 1))
  first-logged t (suc zero) p v c h = rw (val-no-pc n rd d) (stays_on t (t + 1))
  first-logged t (suc (suc zero)) p v c h = (pend-start pc t z ∙ sym (eq-eqb pc 0 z), pend-begun _ _ (switched-some n rd d 0))
  first-logged t (suc (suc (suc i))) p v c h = absurd (omega arith)

  first-lock : (a : ℕ) → Pends pc (on 0 1) (lock_turn n rd d a 0)
  first-lock a = by (eqb (rd (lock a)) 0)
    where
      by : (b : Bool) → Pends pc (on 0 1) (cond b (stored (lock a) (d + 1) (on 0 2)) (waiting a))
      by true = stays_on 1 2
      by false = tt

  first-acquire : (a t : ℕ) → t ≤ 4 → Pends pc (on 0 t) (acquire_turn n rd d a 0 t)
  first-acquire a zero h = stays_on 0 1
  first-acquire a (suc zero) h = first-lock a
  first-acquire a (suc (suc t)) h = first-logged (suc (suc t)) t (field Owned d) _ _ (omega arith)

-- ---- all phases

module _ (n : ℕ) (rd : Memory) (d : ℕ) (g : Given) where
  fresh-pends : (t locks : ℕ) → Sectioned n rd d → rd (field Pc d) ≡ 0 → Nearing n rd d 0 t 0 locks (op_at n rd d 0)
      → Pends (rd (field Pc d)) (on 0 t) (turn_at n rd d (on 0 t))
  fresh-pends t locks sec p N =
      let (a, x) = sec.valid.first in
      let c : 3 ≤ rd (field Count d) = sec.valid.least in
      let K : Nearing n rd d 0 t 0 locks (Acquire a) = subst (Nearing n rd d 0 t 0 locks) x N in
      let r : t ≤ 4 = K.0 in
      rw (turn-op n rd d 0 t (Acquire a) sec.valid (omega arith) x (omega arith)) (first-acquire n rd d (rd (field Pc d)) p a t r)

  ended-pends : (s : ℕ) → Sectioned n rd d → rd (field Pc d) ≡ 0 → s < rd (field Count d) → op_at n rd d s ≡ Finish
      → Pends (rd (field Pc d)) (on s 2) (turn_at n rd d (on s 2))
  ended-pends s sec p below f =
      rw (turn-op n rd d s 2 Finish sec.valid below f (omega arith))
      (pend-later (rd (field Pc d)) s 2 (finish-later n rd d sec s f) ∙ sym (pend-idle (rd (field Pc d))))

  named-pends : (s : ℕ) (c : Cursor) → Sectioned n rd d → rd (field Pc d) % 2 ^ 63 ≡ suc s → Pends (rd (field Pc d)) c (turn_at n rd d c)
  named-pends s c sec p = begun-pends (rd (field Pc d)) c (turn_at n rd d c) (named-pc n rd d s p) (turn-ends n rd d sec c)

  -- a turn of a worker at any place of its section
  pub pends-turn : (c : Cursor) (locks j : ℕ) → Phase n rd d g c locks j → Pends (rd (field Pc d)) c (turn_at n rd d c)
  unfolding turn_at
  pends-turn c locks j (rests k p i o) = tt
  pends-turn c locks j (fresh t l sec H p o N) = fresh-pends t l sec p N
  pends-turn c locks j (due s l sec N K) = named-pends s (on s (target_turn (op_at n rd d s))) sec N.pc
  pends-turn c locks j (unlocking s a l sec N o x y q) = named-pends s (on s 4) sec N.pc
  pends-turn c locks j (unlocked s a l sec N o x y q) = named-pends s (on s 5) sec N.pc
  pends-turn c locks j (between s k t l i sec N made J below o h K) = named-pends s (on k t) sec N.pc
  pends-turn c locks j (ended s sec p o x below f) = ended-pends s sec p below f
