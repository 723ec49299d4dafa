-- Every turn of a worker that is not resting or waiting is one stride on its section (`phase-stride`): within a step, over the end of the step that
-- the pc names, over a jump behind it, or a store of the pc, at a section's first step, at a later one, and at its finish; and then the last. By
-- cases on where the worker stands, and on the instruction.
use Prim.Native.Nat.{ℕ, suc, zero, ◌+◌, ◌-◌, ◌<◌, ◌≤◌}
use mathlib.Core.Path.{◌≡◌, refl, sym, subst}
use mathlib.Core.Bool.{Bool, true, false, cond, ◌||◌}
use native.Mathlib.Omega.{arith}
use lib.Dec.{ltb, eqb}
use Rattle.image.specs.declared.Field.TheVariants.{Count, Pc, Addr0, Val0, Addr1, Val1, Intent, Owned}
use Rattle.image.specs.Place.{offset, Place, cell, lock, field, own, step, Memory}
use Rattle.code.specs.declared.Expr.{Expr}
use Rattle.code.specs.declared.Op.{Op}
use Rattle.code.specs.declared.Op.TheVariants.{Acquire, Release, Assign, Jump, Finish, Unknown}
use Rattle.code.specs.Table.{turns_of}
use Rattle.code.specs.Op.{eval}
use Rattle.code.proofs.Ranges.{turns-op}
use Rattle.section.specs.Valid.{Valid}
use Rattle.working.specs.Cursor.{Cursor, idle, on}
use Rattle.worklog.specs.declared.Passing.TheVariants.{Jump as PassedJump, AlreadyFree as PassedFree, Others as PassedOthers}
use Rattle.worklog.specs.Log.{operand, code_in, word_in, second, spare_addr, spare_val, active_val, switched}
use Rattle.plan.specs.declared.Report.{Report}
use Rattle.plan.specs.declared.Report.TheVariants.{Freed, AlreadyFree, Others}
use Rattle.plan.specs.Report.{report_of}
use Rattle.plan.specs.Turn.{Outcome, stored, passed, waiting, resting, logged}
use Rattle.plan.specs.Turn.{lock_turn, unlock_by, unlock_turn, acquire_turn, release_turn, finish_turn, turn_at}
use Rattle.owed.specs.Owed.{target_of}
use Rattle.resuming.specs.Resumed.{target_turn}
use Rattle.claims.specs.Reference.{Given}
use Rattle.claims.specs.Calls.{is_pc}
use Rattle.claims.proofs.Invariant.{op_at, held_at, Sectioned, logs_held, Named, Nearing, Jumps, Lodged}
use Rattle.claims.proofs.Invariant.{Phase, resting as rests, fresh, due, unlocking, unlocked, between, ended}
use Rattle.claims.proofs.Ready.{turn-op}

-- step i, to which j jumps lead from behind the named step s, before its turn t
pub record Coming (n : ℕ) (rd : Memory) (d locks s i t j : ℕ) : Type 0 where
  pub sectioned : Sectioned n rd d
  pub named : Named n rd d s
  pub made : rd (target_of d (op_at n rd d s)) ≡ rd (field (active_val n rd d) d)
  pub leaps : Jumps n rd d (suc s) j i
  pub below : i < rd (field Count d)
  pub owned : rd (field Owned d) ≡ held_at n rd d i
  pub level : held_at n rd d i ≡ held_at n rd d (suc s)
  pub near : Nearing n rd d i t (held_at n rd d i) locks (op_at n rd d i)

-- a pc or a count
abbrev pub is_head : Place → Bool
is_head (cell x) = false
is_head (lock b) = false
is_head (field f d) = eqb (offset f) (offset Pc) || eqb (offset f) (offset Count)
is_head (own d i) = false
is_head (step d i) = false

pub head-pc : (p : Place) → is_head p ≡ false → is_pc p ≡ false
head-pc (cell x) h = refl
head-pc (lock b) h = refl
head-pc (field f d) h = by (eqb (offset f) (offset Pc)) h
  where
    by : (b : Bool) → (b || eqb (offset f) (offset Count)) ≡ false → b ≡ false
    by true e = e
    by false e = refl
head-pc (own d i) h = refl
head-pc (step d i) h = refl

-- an instruction that is logged: its pc is stored, and it is resumed at its target store
abbrev pub is_logged : Op → Bool
is_logged (Acquire a) = true
is_logged (Release a) = true
is_logged (Assign a e) = true
is_logged (Jump a b) = false
is_logged Finish = false
is_logged Unknown = false

-- a turn of worker d, from its cursor, with j jumps made since the pc was stored; g: the section last taken
pub data Stride (n : ℕ) (rd : Memory) (d : ℕ) (g : Given) (locks j : ℕ) : Cursor → Outcome → Type 0 where
  rested : Stride n rd d g locks j idle resting
  waits : (i t b : ℕ) → Stride n rd d g locks j (on i t) (waiting b)
  -- within a step
  stores :
      (i t : ℕ) (p : Place) (v : ℕ) → is_head p ≡ false → (op_at n rd d i ≡ Finish → t ≡ 0) → Stride n rd d g locks j (on i t) (stored p v (on i (t + 1)))
  frees : (i : ℕ) → Stride n rd d g locks j (on i 4) (passed PassedFree (on i 5))
  leaves : (i : ℕ) → Stride n rd d g locks j (on i 4) (passed PassedOthers (on i 5))
  -- the last turn of the step that the pc names
  closes :
      (s t : ℕ) (p : Place) (v : ℕ) → is_head p ≡ false → Named n rd d s → t + 1 ≡ turns_of (code_in n rd d s) → j ≡ 0
      → Stride n rd d g locks j (on s t) (stored p v (on (s + 1) 0))
  -- a jump behind it
  jumps : (s i k a b : ℕ) → Coming n rd d locks s i 0 j → op_at n rd d i ≡ Jump a b → i < k → Stride n rd d g locks j (on i 0) (passed PassedJump (on k 0))
  -- the store of a pc: of the section's first step, of a later one, and of its finish
  begins :
      (a : ℕ) → rd (field Pc d) ≡ 0 → Sectioned n rd d → Lodged n rd d g → op_at n rd d 0 ≡ Acquire a → j ≡ 0
      → Stride n rd d g locks j (on 0 4) (stored (field Pc d) (switched n rd d 0) (on 0 5))
  names :
      (s i t : ℕ) → Coming n rd d locks s i t j → is_logged (op_at n rd d i) ≡ true
      → Stride n rd d g locks j (on i t) (stored (field Pc d) (switched n rd d i) (on i (t + 1)))
  finishes : (s i : ℕ) → Coming n rd d locks s i 1 j → op_at n rd d i ≡ Finish → Stride n rd d g locks j (on i 1) (stored (field Pc d) 0 (on i 2))
  -- the last turn of all
  ends : (i : ℕ) → rd (field Pc d) ≡ 0 → 0 < i → Stride n rd d g locks j (on i 2) (stored (field Count d) 0 idle)

-- ---- places that are neither

addr-no-head : (n : ℕ) (rd : Memory) (d : ℕ) → is_head (field (spare_addr n rd d) d) ≡ false
unfolding spare_addr
addr-no-head n rd d = by (second n rd d)
  where
    by : (b : Bool) → is_head (field (cond b Addr0 Addr1) d) ≡ false
    by true = refl
    by false = refl

val-no-head : (n : ℕ) (rd : Memory) (d : ℕ) → is_head (field (spare_val n rd d) d) ≡ false
unfolding spare_val
val-no-head n rd d = by (second n rd d)
  where
    by : (b : Bool) → is_head (field (cond b Val0 Val1) d) ≡ false
    by true = refl
    by false = refl

operand-no-head : (d x : ℕ) → is_head (operand d x) ≡ false
unfolding operand
operand-no-head d x = by (ltb x 512)
  where
    by : (b : Bool) → is_head (cond b (cell x) (own d (x - 512))) ≡ false
    by true = refl
    by false = refl

-- another instruction is no finish
acquire-on : {x : Op} (a : ℕ) → x ≡ Acquire a → x ≡ Finish → ⊥
acquire-on a e f = let z : ◌≡◌ {A = ℕ} 0 1 = cc in omega arith

release-on : {x : Op} (a : ℕ) → x ≡ Release a → x ≡ Finish → ⊥
release-on a e f = let z : ◌≡◌ {A = ℕ} 0 1 = cc in omega arith

assign-on : {x : Op} (a : ℕ) (v : Expr) → x ≡ Assign a v → x ≡ Finish → ⊥
assign-on a v e f = let z : ◌≡◌ {A = ℕ} 0 1 = cc in omega arith

-- ---- the turns of an instruction up to its pc store, which is given

module _ (n : ℕ) (rd : Memory) (d : ℕ) (g : Given) (locks j i : ℕ) (more : op_at n rd d i ≡ Finish → ⊥) where
  abbrev Goes : Cursor → Outcome → Type 0
  Goes c o = Stride n rd d g locks j c o

  -- a store of an instruction that is no finish
  within : (t : ℕ) (p : Place) (v : ℕ) → is_head p ≡ false → Goes (on i t) (stored p v (on i (t + 1)))
  within t p v e = stores i t p v e (λ f. absurd (more f))

  lock-stride : (a : ℕ) → Goes (on i 1) (lock_turn n rd d a i)
  lock-stride a = by (eqb (rd (lock a)) 0)
    where
      by : (b : Bool) → Goes (on i 1) (cond b (stored (lock a) (d + 1) (on i 2)) (waiting a))
      by true = within 1 (lock a) (d + 1) refl
      by false = waits i 1 a

  unlock-stride : (a : ℕ) → Goes (on i 4) (unlock_turn n rd d a i)
  unlock-stride a = by (report_of d (rd (lock a)))
    where
      by : (r : Report) → Goes (on i 4) (unlock_by n rd d a i r)
      by Freed = within 4 (lock a) 0 refl
      by AlreadyFree = frees i
      by Others = leaves i

  logged-stride :
      (t : ℕ) (p : Place) (v : ℕ) (c : Cursor) (k : ℕ) → k ≤ 2 → (k ≡ 2 → Goes (on i t) (stored (field Pc d) (switched n rd d i) (on i (t + 1))))
      → Goes (on i t) (logged n rd d i t p v c k)
  logged-stride t p v c zero h f = within t _ _ (addr-no-head n rd d)
  logged-stride t p v c (suc zero) h f = within t _ _ (val-no-head n rd d)
  logged-stride t p v c (suc (suc zero)) h f = f refl
  logged-stride t p v c (suc (suc (suc k))) h f = absurd (omega arith)

  acquire-stride :
      (t a : ℕ) → t ≤ 4 → (t ≡ 4 → Goes (on i 4) (stored (field Pc d) (switched n rd d i) (on i 5))) → Goes (on i t) (acquire_turn n rd d a i t)
  acquire-stride zero a h f = within 0 _ _ refl
  acquire-stride (suc zero) a h f = lock-stride a
  acquire-stride (suc (suc t)) a h f =
      logged-stride (suc (suc t)) (field Owned d) _ _ t (omega arith)
      (λ e. let q : suc (suc t) ≡ 4 = omega arith in rw q (f q))

  release-stride :
      (t a : ℕ) → t ≤ 2 → (t ≡ 2 → Goes (on i 2) (stored (field Pc d) (switched n rd d i) (on i 3))) → Goes (on i t) (release_turn n rd d a i t)
  release-stride zero a h f = within 0 _ _ (addr-no-head n rd d)
  release-stride (suc zero) a h f = within 1 _ _ (val-no-head n rd d)
  release-stride (suc (suc zero)) a h f = f refl
  release-stride (suc (suc (suc t))) a h f = absurd (omega arith)

-- ---- where a worker stands

module _ (n : ℕ) (rd : Memory) (d : ℕ) (g : Given) (locks : ℕ) where
  fresh-stride :
      (t : ℕ) → Sectioned n rd d → Lodged n rd d g → rd (field Pc d) ≡ 0 → Nearing n rd d 0 t 0 locks (op_at n rd d 0)
      → Stride n rd d g locks 0 (on 0 t) (turn_at n rd d (on 0 t))
  fresh-stride t sec H p N =
      let (a, x) = sec.valid.first in
      let c : 3 ≤ rd (field Count d) = sec.valid.least in
      let K : Nearing n rd d 0 t 0 locks (Acquire a) = subst (Nearing n rd d 0 t 0 locks) x N in
      let r : t ≤ 4 = K.0 in
      rw (turn-op n rd d 0 t (Acquire a) sec.valid (omega arith) x (omega arith))
      (acquire-stride n rd d g locks 0 0 (acquire-on a x) t a r (λ e. begins a p sec H x refl))

  due-stride :
      (s : ℕ) → Sectioned n rd d → Named n rd d s → (x : Op) → op_at n rd d s ≡ x
      → Stride n rd d g locks 0 (on s (target_turn x)) (turn_at n rd d (on s (target_turn x)))
  due-stride s sec N x o = by x o
    where
      logs : (y : Op) → op_at n rd d s ≡ y → logs_held n rd d s y
      logs y p = subst (logs_held n rd d s) p N.logs

      by : (y : Op) → op_at n rd d s ≡ y → Stride n rd d g locks 0 (on s (target_turn y)) (turn_at n rd d (on s (target_turn y)))
      by (Acquire a) p =
          rw (turn-op n rd d s 5 (Acquire a) sec.valid N.below p (omega arith))
          (closes s 5 (field Owned d) _ refl N (sym (turns-op (code_in n rd d s) (Acquire a) p)) refl)
      by (Release a) p =
          rw (turn-op n rd d s 3 (Release a) sec.valid N.below p (omega arith)) (stores s 3 (field Owned d) _ refl (λ f. absurd (release-on a p f)))
      by (Assign a e) p =
          rw (turn-op n rd d s 3 (Assign a e) sec.valid N.below p (omega arith))
          (closes s 3 (operand d a) _ (operand-no-head d a) N (sym (turns-op (code_in n rd d s) (Assign a e) p)) refl)
      by (Jump a b) p = absurd (logs (Jump a b) p)
      by Finish p = absurd (logs Finish p)
      by Unknown p = absurd (logs Unknown p)

  jump-stride :
      (s i j a b : ℕ) → Coming n rd d locks s i 0 j → op_at n rd d i ≡ Jump a b
      → Stride n rd d g locks j (on i 0) (passed PassedJump (cond (eqb (word_in n rd d a) 0) (on b 0) (on (i + 1) 0)))
  jump-stride s i j a b C x = by (eqb (word_in n rd d a) 0)
    where
      by : (z : Bool) → Stride n rd d g locks j (on i 0) (passed PassedJump (cond z (on b 0) (on (i + 1) 0)))
      by true = jumps s i b a b C x (C.sectioned.valid.jumps i a b C.below x).0
      by false = jumps s i (i + 1) a b C x (omega arith)

  coming-stride : (s i t j : ℕ) → Coming n rd d locks s i t j → Stride n rd d g locks j (on i t) (turn_at n rd d (on i t))
  coming-stride s i t j C = by (op_at n rd d i) refl C.near
    where
      val : Valid n (rd (field Count d)) (code_in n rd d)
      val = C.sectioned.valid

      at_turn : (u : ℕ) → t ≡ u → Coming n rd d locks s i u j
      at_turn u e = subst (λ (k : ℕ). Coming n rd d locks s i k j) e C

      by : (x : Op) → op_at n rd d i ≡ x → Nearing n rd d i t (held_at n rd d i) locks x → Stride n rd d g locks j (on i t) (turn_at n rd d (on i t))
      by (Acquire a) x K =
          let r : t ≤ 4 = K.0 in
          rw (turn-op n rd d i t (Acquire a) val C.below x (omega arith))
          (acquire-stride n rd d g locks j i (acquire-on a x) t a r (λ e. names s i 4 (at_turn 4 e) (rw x)))
      by (Release a) x K =
          let r : t ≤ 2 = K.0 in
          rw (turn-op n rd d i t (Release a) val C.below x (omega arith))
          (release-stride n rd d g locks j i (release-on a x) t a r (λ e. names s i 2 (at_turn 2 e) (rw x)))
      by (Assign a v) x K =
          let r : t ≤ 2 = K.0 in
          rw (turn-op n rd d i t (Assign a v) val C.below x (omega arith))
          (logged-stride n rd d g locks j i (assign-on a v x) t (operand d a) (eval (word_in n rd d) v) (on (i + 1) 0) t r
          (λ e. names s i t C (rw x)))
      by (Jump a b) x K =
          let r : t ≡ 0 = K.0 in
          rw r (rw (turn-op n rd d i 0 (Jump a b) val C.below x (omega arith)) (jump-stride s i j a b (at_turn 0 r) x))
      by Finish x K =
          let r : t ≤ 1 = K.0 in
          rw (turn-op n rd d i t Finish val C.below x (omega arith)) (finish t r refl x)
        where
          finish : (u : ℕ) → u ≤ 1 → u ≡ t → op_at n rd d i ≡ Finish → Stride n rd d g locks j (on i u) (finish_turn n rd d i u)
          finish zero l e o = stores i 0 _ _ refl (λ f. refl)
          finish (suc zero) l e o = finishes s i (at_turn 1 (sym e)) o
          finish (suc (suc u)) l e o = absurd (omega arith)
      by Unknown x K = absurd K

  -- a section's first step is no finish
  finish-later : Sectioned n rd d → (s : ℕ) → op_at n rd d s ≡ Finish → 0 < s
  finish-later sec zero f = let (a, x) = sec.valid.first in absurd (acquire-on a x f)
  finish-later sec (suc s) f = omega arith

pub phase-stride :
    (n : ℕ) (rd : Memory) (d : ℕ) (g : Given) (locks j : ℕ) (c : Cursor) → Phase n rd d g c locks j → Stride n rd d g locks j c (turn_at n rd d c)
unfolding turn_at
phase-stride n rd d g locks j c (rests a b x y) = rested
phase-stride n rd d g locks j c (fresh t lk sec H p o N) = fresh-stride n rd d g locks t sec H p N
phase-stride n rd d g locks j c (due s lk sec N K) = due-stride n rd d g locks s sec N (op_at n rd d s) refl
phase-stride n rd d g locks j c (unlocking s a lk sec N o x y z) =
    rw (turn-op n rd d s 4 (Release a) sec.valid N.below o (omega arith)) (unlock-stride n rd d g locks 0 s (release-on a o) a)
phase-stride n rd d g locks j c (unlocked s a lk sec N o x y z) =
    rw (turn-op n rd d s 5 (Release a) sec.valid N.below o (omega arith))
    (closes s 5 (field Intent d) _ refl N (sym (turns-op (code_in n rd d s) (Release a) o)) refl)
phase-stride n rd d g locks j c (between s k t lk i sec N made leaps below o h K) =
    coming-stride n rd d g locks s k t i
    (record { sectioned = sec; named = N; made = made; leaps = leaps; below = below; owned = o; level = h; near = K })
phase-stride n rd d g locks j c (ended s sec p o x below f) =
    rw (turn-op n rd d s 2 Finish sec.valid below f (omega arith)) (ends s p (finish-later n rd d g locks sec s f))
