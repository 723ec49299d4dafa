-- One turn of a worker, over a memory of places: at most one store. (Document 01, 'Turns'.)
use Rattle.std.specs.Prelude.{ℕ, suc, zero, ◌+◌, Bool, cond, ◌&&◌, leb, ltb, eqb}
use Rattle.mask.specs.Mask.{with, without}
use Rattle.image.specs.declared.Field.TheVariants.{Count, Pc, Intent, Owned, Number, Finished}
use Rattle.image.specs.Place.{Place, lock, field, Memory}
use Rattle.image.specs.Image.{index_of}
use Rattle.code.specs.declared.Op.{Op}
use Rattle.code.specs.declared.Op.TheVariants.{Acquire, Release, Assign, Jump, Finish, Unknown}
use Rattle.code.specs.Table.{turns_of}
use Rattle.code.specs.Op.{op_of, eval}
use Rattle.code.specs.Form.{well_formed}
use Rattle.worklog.specs.Log.{operand, code_in, word_in, spare_addr, spare_val, active_val, switched}
use Rattle.worklog.specs.declared.Passing.{Passing}
use Rattle.worklog.specs.declared.Passing.TheVariants.{Jump as PassedJump, AlreadyFree as PassedFree, Others as PassedOthers}
use Rattle.working.specs.declared.Refusal.{Refusal}
use Rattle.working.specs.declared.Refusal.TheVariants.{Cursor as CursorRefused}
use Rattle.working.specs.Cursor.{Cursor, idle, on}
use Rattle.plan.specs.declared.Report.{Report}
use Rattle.plan.specs.declared.Report.TheVariants.{Freed, AlreadyFree, Others}
use Rattle.plan.specs.Report.{report_of}

-- what a turn does: a store, and the cursor after it; no store, with why it passes and the cursor after it; waiting at a lock; nothing, when
-- idle; or a refusal
pub data Outcome : Type 0 where
  stored : Place → ℕ → Cursor → Outcome
  passed : Passing → Cursor → Outcome
  waiting : ℕ → Outcome
  resting : Outcome
  refused : Refusal → Outcome

-- n: the number of own words; d: the worker
module _ (n : ℕ) (rd : Memory) (d : ℕ) where
  -- a logged store of v at p, of which step s, turn t is the store's turn j: address, value, pc, target
  abbrev pub logged : ℕ → ℕ → Place → ℕ → Cursor → ℕ → Outcome
  logged s t p v next zero = stored (field (spare_addr n rd d) d) (index_of n p) (on s (t + 1))
  logged s t p v next (suc zero) = stored (field (spare_val n rd d) d) v (on s (t + 1))
  logged s t p v next (suc (suc zero)) = stored (field Pc d) (switched n rd d s) (on s (t + 1))
  logged s t p v next (suc (suc (suc j))) = stored p (rd (field (active_val n rd d) d)) next

  -- lock a at turn 1 of an acquire: taken where it is free
  abbrev pub lock_turn : ℕ → ℕ → Outcome
  lock_turn a s = cond (eqb (rd (lock a)) 0) (stored (lock a) (d + 1) (on s 2)) (waiting a)

  abbrev pub acquire_turn : ℕ → ℕ → ℕ → Outcome
  acquire_turn a s zero = stored (field Intent d) (with (rd (field Intent d)) a) (on s 1)
  acquire_turn a s (suc zero) = lock_turn a s
  acquire_turn a s (suc (suc j)) = logged s (suc (suc j)) (field Owned d) (with (rd (field Owned d)) a) (on (s + 1) 0) j

  -- lock a at turn 4 of a release: freed where it names this worker, else passed with what was found
  abbrev pub unlock_by : ℕ → ℕ → Report → Outcome
  unlock_by a s Freed = stored (lock a) 0 (on s 5)
  unlock_by a s AlreadyFree = passed PassedFree (on s 5)
  unlock_by a s Others = passed PassedOthers (on s 5)

  abbrev pub unlock_turn : ℕ → ℕ → Outcome
  unlock_turn a s = unlock_by a s (report_of d (rd (lock a)))

  abbrev pub release_turn : ℕ → ℕ → ℕ → Outcome
  release_turn a s t =
      cond (ltb t 4) (logged s t (field Owned d) (without (rd (field Owned d)) a) (on s 4) t)
      (cond (eqb t 4) (unlock_turn a s)
      (stored (field Intent d) (without (rd (field Intent d)) a) (on (s + 1) 0)))

  abbrev pub finish_turn : ℕ → ℕ → Outcome
  finish_turn s zero = stored (field Finished d) (rd (field Number d)) (on s 1)
  finish_turn s (suc zero) = stored (field Pc d) 0 (on s 2)
  finish_turn s (suc (suc t)) = stored (field Count d) 0 idle

  abbrev pub op_turn : ℕ → ℕ → Op → Outcome
  op_turn s t (Acquire a) = acquire_turn a s t
  op_turn s t (Release a) = release_turn a s t
  op_turn s t (Assign a e) = logged s t (operand d a) (eval (word_in n rd d) e) (on (s + 1) 0) t
  op_turn s t (Jump a b) = passed PassedJump (cond (eqb (word_in n rd d a) 0) (on b 0) (on (s + 1) 0))
  op_turn s t Finish = finish_turn s t
  op_turn s t Unknown = refused (CursorRefused d)

  -- cause 11 does not hold at step s, turn t
  unfoldable pub ready : ℕ → ℕ → Bool
  ready s t =
      leb 3 (rd (field Count d)) && leb (rd (field Count d)) 64 && ltb s (rd (field Count d)) && well_formed n (rd (field Count d)) s (code_in n rd d s)
      && ltb t (turns_of (code_in n rd d s))

  -- a turn at a cursor
  unfoldable pub turn_at : Cursor → Outcome
  turn_at idle = resting
  turn_at (on s t) = cond (ready s t) (op_turn s t (op_of (code_in n rd d s))) (refused (CursorRefused d))
