-- Where a turn goes: on to a later turn of the same step, or to the first of another, with a store at no count and no instruction word, or none (`goes-ready`);
-- but for the last turn of a finish, which stores the count and leaves its worker idle.
use Prim.Native.Nat.{ℕ, suc, zero, ◌+◌, ◌<◌}
use mathlib.Core.Path.{◌≡◌, refl}
use mathlib.Core.Bool.{Bool, true, false, cond}
use mathlib.Core.Logic.{◌≢◌}
use native.Mathlib.Omega.{arith}
use lib.Dec.{ltb, eqb}
use Rattle.image.specs.declared.Field.TheVariants.{Count, Pc, Addr0, Val0, Addr1, Val1, Intent, Owned, Finished}
use Rattle.image.specs.Place.{Place, lock, field, Memory}
use Rattle.code.specs.declared.Op.{Op}
use Rattle.code.specs.declared.Op.TheVariants.{Acquire, Release, Assign, Jump, Finish, Unknown}
use Rattle.code.specs.Table.{turns_of}
use Rattle.code.specs.Op.{op_of}
use Rattle.code.specs.Inner.Fits.{fits}
use Rattle.code.proofs.Ranges.{op_turns, turns-op}
use Rattle.working.specs.Cursor.{Cursor, idle, on}
use Rattle.worklog.specs.declared.Passing.{Passing}
use Rattle.worklog.specs.declared.Passing.TheVariants.{Jump as PassedJump}
use Rattle.worklog.specs.Log.{operand, code_in, second, spare_addr, spare_val}
use Rattle.plan.specs.Turn.{Outcome, stored, passed, waiting, logged, acquire_turn, finish_turn, op_turn, ready, turn_at}
use Rattle.plan.proofs.Planned.{ready-says}
use Rattle.plan.proofs.Outcomes.{either, unlock-either}
use Rattle.plan.proofs.Quiet.{Spares, quiet-field, quiet-lock, quiet-operand, other-field}

-- a later turn of the step, or the first of another
abbrev pub Onward : ℕ → ℕ → Cursor → Type 0
Onward s k idle = Unit {0}
Onward s k (on r t) = t ≢ 0 → (r ≡ s) × (t < k)

pub data Goes (D n d s k : ℕ) : Outcome → Type 0 where
  stores : (p : Place) (v : ℕ) (c : Cursor) → Spares D n p → Onward s k c → Goes D n d s k (stored p v c)
  ends : (v : ℕ) → Goes D n d s k (stored (field Count d) v idle)
  passes : (why : Passing) (c : Cursor) → Onward s k c → Goes D n d s k (passed why c)
  waits : (b : ℕ) → Goes D n d s k (waiting b)

-- turns of the same step, and the first of another
same_turn : (s k t : ℕ) → t < k → Onward s k (on s t)
same_turn s k t h o = (refl, h)

first-turn : (s k r : ℕ) → Onward s k (on r 0)
first-turn s k r o = absurd (o refl)

turns-cond : (s k : ℕ) (b : Bool) (x y : Cursor) → Onward s k x → Onward s k y → Onward s k (cond b x y)
turns-cond s k true x y p q = p
turns-cond s k false x y p q = q

module _ (D n : ℕ) (rd : Memory) (d : ℕ) (h : d < D) (s : ℕ) where
  goes-logged : (k t : ℕ) (p : Place) (v : ℕ) (next : Cursor) (j : ℕ) → Spares D n p → Onward s k next → (j < 3 → t + 1 < k)
      → Goes D n d s k (logged n rd d s t p v next j)
  unfolding spare_addr spare_val
  goes-logged k t p v next zero q u l =
      stores _ _ _ (quiet-field D n _ d h (other-field Count (second n rd d) Addr0 Addr1 refl refl)) (same_turn s k (t + 1) (l (omega arith)))
  goes-logged k t p v next (suc zero) q u l =
      stores _ _ _ (quiet-field D n _ d h (other-field Count (second n rd d) Val0 Val1 refl refl)) (same_turn s k (t + 1) (l (omega arith)))
  goes-logged k t p v next (suc (suc zero)) q u l = stores _ _ _ (quiet-field D n Pc d h refl) (same_turn s k (t + 1) (l (omega arith)))
  goes-logged k t p v next (suc (suc (suc j))) q u l = stores _ _ _ q u

  goes-acquire : (a t : ℕ) → a < 64 → t < 6 → Goes D n d s 6 (acquire_turn n rd d a s t)
  goes-acquire a zero f l = stores _ _ _ (quiet-field D n Intent d h refl) (same_turn s 6 1 (omega arith))
  goes-acquire a (suc zero) f l =
      either (Goes D n d s 6) (eqb (rd (lock a)) 0) _ _ (λ e. stores _ _ _ (quiet-lock D n a f) (same_turn s 6 2 (omega arith))) (λ e. waits a)
  goes-acquire a (suc (suc j)) f l = goes-logged 6 (suc (suc j)) _ _ _ j (quiet-field D n Owned d h refl) (first-turn s 6 (s + 1)) (λ m. omega arith)

  goes-release : (a t : ℕ) → a < 64 → t < 6 → Goes D n d s 6 (op_turn n rd d s t (Release a))
  goes-release a t f l =
      either (Goes D n d s 6) (ltb t 4) _ _
      (λ e. goes-logged 6 t _ _ _ t (quiet-field D n Owned d h refl) (same_turn s 6 4 (omega arith)) (λ m. omega arith))
      (λ e. either (Goes D n d s 6) (eqb t 4) _ _
      (λ g. unlock-either n rd d a s (Goes D n d s 6) (stores _ _ _ (quiet-lock D n a f) (same_turn s 6 5 (omega arith)))
      (λ why. passes why _ (same_turn s 6 5 (omega arith))))
      (λ g. stores _ _ _ (quiet-field D n Intent d h refl) (first-turn s 6 (s + 1))))

  goes-finish : (t : ℕ) → t < 3 → Goes D n d s 3 (finish_turn n rd d s t)
  goes-finish zero l = stores _ _ _ (quiet-field D n Finished d h refl) (same_turn s 3 1 (omega arith))
  goes-finish (suc zero) l = stores _ _ _ (quiet-field D n Pc d h refl) (same_turn s 3 2 (omega arith))
  goes-finish (suc (suc t)) l = ends 0

  goes-op : (x : Op) (t : ℕ) → fits n x → t < op_turns x → Goes D n d s (op_turns x) (op_turn n rd d s t x)
  goes-op (Acquire a) t f l = goes-acquire a t f l
  goes-op (Release a) t f l = goes-release a t f l
  goes-op (Assign a e) t f l = goes-logged 4 t _ _ _ t (quiet-operand D n d a h f.0) (first-turn s 4 (s + 1)) (λ m. omega arith)
  goes-op (Jump a b) t f l = passes PassedJump _ (turns-cond s 1 (eqb (rd (operand d a)) 0) _ _ (first-turn s 1 b) (first-turn s 1 (s + 1)))
  goes-op Finish t f l = goes-finish t l
  goes-op Unknown t f l = absurd f

  -- a turn that is ready
  pub goes-ready : (t : ℕ) → ready n rd d s t ≡ true → Goes D n d s (turns_of (code_in n rd d s)) (turn_at n rd d (on s t))
  unfolding turn_at
  goes-ready t e =
      let x = op_of (code_in n rd d s) in
      let k = turns-op (code_in n rd d s) x refl in
      let r = ready-says n rd d s t e in
      rw (e, k) (goes-op x t r.form (rw k at r.has))
