-- What the code does of an outcome: what the plan leaves is what the outcome leaves, the locks held with it (`plan-leaves`); and a turn stores at
-- no cell and no lock past the image's, and waits at none (`within-turn`), so that the lock that a plan names is one of the 64 (`plan-in`).
use Prim.Native.Nat.{ℕ, suc, zero, ◌-◌, ◌<◌}
use mathlib.Core.Path.{◌≡◌, refl}
use mathlib.Core.Bool.{Bool, true, false, cond}
use lib.Dec.{ltb, eqb}
use borrow.Author.Tests.{ltb-true, eqb-true}
use Rattle.mask.specs.Mask.{with, without}
use Rattle.image.specs.Place.{Place, cell, lock, field, own, step, Memory}
use Rattle.image.specs.Image.{index_of, put}
use Rattle.code.specs.declared.Op.{Op}
use Rattle.code.specs.declared.Op.TheVariants.{Acquire, Release, Assign, Jump, Finish, Unknown}
use Rattle.code.specs.Op.{op_of}
use Rattle.code.specs.Inner.Fits.{fits}
use Rattle.working.specs.Cursor.{Cursor, idle, on, step_no, turn_no, set_at, holding}
use Rattle.working.specs.World.{World, world}
use Rattle.worklog.specs.Log.{operand, code_in}
use Rattle.plan.specs.Turn.{Outcome, stored, passed, waiting, resting, refused, logged, acquire_turn, finish_turn, op_turn, ready, turn_at}
use Rattle.worklog.specs.declared.Plan.TheVariants.{Take, Free}
use Rattle.plan.specs.Inner.Plan.{store_plan, plan_of}
use Rattle.plan.proofs.Planned.{ready-says}
use Rattle.plan.proofs.Outcomes.{either, unlock-either}
use Rattle.turn.specs.Call.{leaves}
use Rattle.turn.specs.Inner.Acting.{plan_did, plan_leaves, did_lock}

-- a cell or a lock of this number is an image's
abbrev pub Numbered : Place → Type 0
Numbered (cell x) = x < 512
Numbered (lock b) = b < 64
Numbered (field f d) = Unit {0}
Numbered (own d i) = Unit {0}
Numbered (step d i) = Unit {0}

abbrev pub Within : Outcome → Type 0
Within (stored p v c) = Numbered p
Within (passed why c) = Unit {0}
Within (waiting b) = b < 64
Within resting = Unit {0}
Within (refused r) = Unit {0}

module _ (n : ℕ) (rd : Memory) (d s : ℕ) where
  within-logged : (t : ℕ) (p : Place) (v : ℕ) (next : Cursor) (j : ℕ) → Numbered p → Within (logged n rd d s t p v next j)
  within-logged t p v next zero h = tt
  within-logged t p v next (suc zero) h = tt
  within-logged t p v next (suc (suc zero)) h = tt
  within-logged t p v next (suc (suc (suc j))) h = h

  within-acquire : (a t : ℕ) → a < 64 → Within (acquire_turn n rd d a s t)
  within-acquire a zero h = tt
  within-acquire a (suc zero) h = either Within (eqb (rd (lock a)) 0) _ _ (λ e. h) (λ e. h)
  within-acquire a (suc (suc j)) h = within-logged (suc (suc j)) _ _ _ j tt

  within-finish : (t : ℕ) → Within (finish_turn n rd d s t)
  within-finish zero = tt
  within-finish (suc zero) = tt
  within-finish (suc (suc t)) = tt

  within-operand : (a : ℕ) → Numbered (operand d a)
  unfolding operand
  within-operand a = by (ltb a 512) refl
    where
      by : (b : Bool) → ltb a 512 ≡ b → Numbered (cond b (cell a) (own d (a - 512)))
      by true e = ltb-true a 512 e
      by false e = tt

  within-op : (t : ℕ) (x : Op) → fits n x → Within (op_turn n rd d s t x)
  within-op t (Acquire a) f = within-acquire a t f
  within-op t (Release a) f =
      either Within (ltb t 4) _ _ (λ e. within-logged t _ _ _ t tt)
      (λ e. either Within (eqb t 4) _ _ (λ g. unlock-either n rd d a s Within f (λ why. tt)) (λ g. tt))
  within-op t (Assign a e) f = within-logged t _ _ _ t (within-operand a)
  within-op t (Jump a b) f = tt
  within-op t Finish f = within-finish t
  within-op t Unknown f = tt

-- at any cursor: where it is not ready nothing is stored
pub within-turn : (n : ℕ) (rd : Memory) (d : ℕ) (c : Cursor) → Within (turn_at n rd d c)
unfolding turn_at
within-turn n rd d idle = tt
within-turn n rd d (on s t) =
    either Within (ready n rd d s t) _ _ (λ e. within-op n rd d s t (op_of (code_in n rd d s)) (ready-says n rd d s t e).form) (λ e. tt)

-- ---- what the code does of an outcome

module _ (n : ℕ) (w : World) (d : ℕ) where
  -- a store in lock b's owner word, by whether v is 0
  lock-leaves : (b v s t : ℕ) (z : Bool) → eqb v 0 ≡ z
      → plan_leaves n w d (cond z (Free b s t) (Take b v s t))
      ≡ world (put w.left w.image (index_of n (lock b)) v)
      (holding (cond z (without w.cursors.held b) (with w.cursors.held b)) (set_at w.cursors d s t)) (w.left - 1)
  lock-leaves b v s t true e = rw (eqb-true v 0 e)
  lock-leaves b v s t false e = refl

  store-leaves : (p : Place) (v : ℕ) (c : Cursor) → plan_leaves n w d (plan_of n (stored p v c)) ≡ leaves n w d (stored p v c)
  unfolding set_at
  store-leaves (cell x) v c = refl
  store-leaves (lock b) v c = lock-leaves b v (step_no c) (turn_no c) (eqb v 0) refl
  store-leaves (field f e) v c = refl
  store-leaves (own e i) v c = refl
  store-leaves (step e i) v c = refl

  pub plan-leaves : (o : Outcome) → plan_leaves n w d (plan_of n o) ≡ leaves n w d o
  plan-leaves (stored p v c) = store-leaves p v c
  plan-leaves (passed why c) = refl
  plan-leaves (waiting b) = refl
  plan-leaves resting = refl
  plan-leaves (refused r) = refl

-- the lock that it names is an image's
store_in : (n : ℕ) (p : Place) (v s t : ℕ) → Numbered p → did_lock (plan_did (store_plan n p v s t))
store_in n (cell x) v s t h = tt
store_in n (lock b) v s t h = by (eqb v 0)
  where
    by : (z : Bool) → did_lock (plan_did (cond z (Free b s t) (Take b v s t)))
    by true = h
    by false = h
store_in n (field f d) v s t h = tt
store_in n (own d i) v s t h = tt
store_in n (step d i) v s t h = tt

pub plan-in : (n : ℕ) (o : Outcome) → Within o → did_lock (plan_did (plan_of n o))
plan-in n (stored p v c) h = store_in n p v (step_no c) (turn_no c) h
plan-in n (passed why c) h = tt
plan-in n (waiting b) h = tt
plan-in n resting h = tt
plan-in n (refused r) h = tt
