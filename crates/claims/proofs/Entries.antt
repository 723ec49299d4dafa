-- Places told apart by a test, the fields of the active and the spare log entry, which are no pc, and the log entry of a worker:
-- what it is by its pc, and when two memories have the same.
use Prim.Native.Nat.{ℕ, suc, ◌-◌, ◌%◌, ◌^◌}
use mathlib.Core.Path.{◌≡◌, refl, sym, ap, ◌∙◌, subst}
use mathlib.Core.Logic.{◌≢◌}
use mathlib.Core.Bool.{Bool, true, false, cond, false≢true}
use native.Mathlib.Omega.{arith}
use native.Mathlib.Decide.{ℕ_discrete}
use lib.Dec.{ltb, eqb}
use borrow.Author.Tests.{ne_eqb}
use Rattle.image.specs.declared.Field.{Field}
use Rattle.image.specs.declared.Field.TheVariants.{Pc, Addr0, Val0, Addr1, Val1, Owned}
use Rattle.image.specs.Inner.Same.{same_field, same}
use Rattle.image.specs.Place.{Place, cell, lock, field, own, step, Memory}
use Rattle.image.proofs.Places.{same_place}
use Rattle.code.specs.declared.Op.{Op}
use Rattle.code.specs.declared.Op.TheVariants.{Acquire, Release, Assign, Jump, Finish, Unknown}
use Rattle.worklog.specs.Log.{operand, second, spare_addr, spare_val, active_val}
use Rattle.owed.specs.Owed.{target_of, named_step, named_op}
use Rattle.claims.specs.Calls.{is_pc}
use Rattle.claims.proofs.Virtual.{none, due, entry_of}
use Rattle.claims.proofs.Invariant.{op_at, Named, logs_held}
use Rattle.claims.proofs.Fields.{active-val-kept}

-- ---- places told apart

-- by a test that one passes and the other does not
pub apart_by : (f : Place → Bool) (q p : Place) → f q ≡ false → f p ≡ true → same q p ≡ false
apart_by f q p a b = by (same q p) refl
  where
    by : (t : Bool) → same q p ≡ t → same q p ≡ false
    by true e = absurd (false≢true (sym a ∙ (ap f (same_place q p e) ∙ b)))
    by false e = e

pub apart_of : (f : Place → Bool) (q p : Place) → f q ≡ true → f p ≡ false → same q p ≡ false
apart_of f q p a b = by (same q p) refl
  where
    by : (t : Bool) → same q p ≡ t → same q p ≡ false
    by true e = absurd (false≢true (sym b ∙ (sym (ap f (same_place q p e)) ∙ a)))
    by false e = e

-- a target may be a cell, an own word, an owned set
abbrev pub aimed : Place → Bool
aimed (cell x) = true
aimed (lock b) = false
aimed (field f d) = same_field f Owned
aimed (own d i) = true
aimed (step d i) = false

operand-aimed : (d a : ℕ) → aimed (operand d a) ≡ true
unfolding operand
operand-aimed d a = by (ltb a 512)
  where
    by : (b : Bool) → aimed (cond b (cell a) (own d (a - 512))) ≡ true
    by true = refl
    by false = refl

pub target-aimed : (d : ℕ) (x : Op) → aimed (target_of d x) ≡ true
target-aimed d (Acquire a) = refl
target-aimed d (Release a) = refl
target-aimed d (Assign a e) = operand-aimed d a
target-aimed d (Jump a b) = refl
target-aimed d Finish = refl
target-aimed d Unknown = refl

-- a word of worker d's record, or an own word or instruction of it
abbrev pub belongs : ℕ → Place → Bool
belongs d (cell x) = false
belongs d (lock b) = false
belongs d (field f e) = eqb e d
belongs d (own e i) = eqb e d
belongs d (step e i) = eqb e d

-- ---- active and spare entries

-- both values' fields are other than f
pub active-apart : (n : ℕ) (rd : Memory) (d : ℕ) (f : Field) → same_field Val0 f ≡ false → same_field Val1 f ≡ false → same_field (active_val n rd d) f ≡ false
unfolding active_val
active-apart n rd d f a b = by (second n rd d)
  where
    by : (t : Bool) → same_field (cond t Val1 Val0) f ≡ false
    by true = b
    by false = a

pub active-spare-val : (n : ℕ) (rd : Memory) (d : ℕ) → same_field (active_val n rd d) (spare_val n rd d) ≡ false
unfolding active_val spare_val
active-spare-val n rd d = by (second n rd d)
  where
    by : (t : Bool) → same_field (cond t Val1 Val0) (cond t Val0 Val1) ≡ false
    by true = refl
    by false = refl

pub spare-val-apart :
    (n : ℕ) (rd : Memory) (d : ℕ) (f : Field) → same_field f Val0 ≡ false → same_field f Val1 ≡ false
    → same_field f (spare_val n rd d) ≡ false
unfolding spare_val
spare-val-apart n rd d f a b = by (second n rd d)
  where
    by : (t : Bool) → same_field f (cond t Val0 Val1) ≡ false
    by true = a
    by false = b

pub spare-addr-apart : (n : ℕ) (rd : Memory) (d : ℕ) (f : Field) → same_field f Addr0 ≡ false → same_field f Addr1 ≡ false
    → same_field f (spare_addr n rd d) ≡ false
unfolding spare_addr
spare-addr-apart n rd d f a b = by (second n rd d)
  where
    by : (t : Bool) → same_field f (cond t Addr0 Addr1) ≡ false
    by true = a
    by false = b

pub active-not-addr : (n : ℕ) (rd : Memory) (d e : ℕ) → same_field (active_val n rd d) (spare_addr n rd e) ≡ false
active-not-addr n rd d e = active-apart n rd d (spare_addr n rd e) (spare-addr-apart n rd e Val0 refl refl) (spare-addr-apart n rd e Val1 refl refl)

-- ---- no pc

pub operand-no-pc : (d a : ℕ) → is_pc (operand d a) ≡ false
unfolding operand
operand-no-pc d a = by (ltb a 512)
  where
    by : (b : Bool) → is_pc (cond b (cell a) (own d (a - 512))) ≡ false
    by true = refl
    by false = refl

pub addr-no-pc : (n : ℕ) (rd : Memory) (d : ℕ) → is_pc (field (spare_addr n rd d) d) ≡ false
unfolding spare_addr
addr-no-pc n rd d = by (second n rd d)
  where
    by : (b : Bool) → is_pc (field (cond b Addr0 Addr1) d) ≡ false
    by true = refl
    by false = refl

pub val-no-pc : (n : ℕ) (rd : Memory) (d : ℕ) → is_pc (field (spare_val n rd d) d) ≡ false
unfolding spare_val
val-no-pc n rd d = by (second n rd d)
  where
    by : (b : Bool) → is_pc (field (cond b Val0 Val1) d) ≡ false
    by true = refl
    by false = refl

-- ---- what a pc names

pub named-cong : (n : ℕ) (rd rd' : Memory) (d : ℕ) → rd' (field Pc d) ≡ rd (field Pc d) → named_step n rd' d ≡ named_step n rd d
unfolding named_step
named-cong n rd rd' d e = rw e

pub entry-none : (n : ℕ) (rd : Memory) (d : ℕ) → rd (field Pc d) ≡ 0 → entry_of n rd d ≡ none
unfolding entry_of
entry-none n rd d e = rw e

pub entry-due : (n : ℕ) (rd : Memory) (d : ℕ) → rd (field Pc d) ≢ 0 → entry_of n rd d ≡ due (target_of d (named_op n rd d)) (rd (field (active_val n rd d) d))
unfolding entry_of
entry-due n rd d e = rw (ne_eqb (rd (field Pc d)) 0 e)

pub named_step_lem : (n : ℕ) (rd : Memory) (d s : ℕ) → rd (field Pc d) % 2 ^ 63 ≡ suc s → named_step n rd d ≡ s
unfolding named_step
named_step_lem n rd d s e = rw e (omega arith)

pub named-pc : (n : ℕ) (rd : Memory) (d s : ℕ) → rd (field Pc d) % 2 ^ 63 ≡ suc s → rd (field Pc d) ≢ 0
named-pc n rd d s e z = let w : 0 % 2 ^ 63 ≡ suc s = rw z at e in omega arith

-- the entry of a worker whose pc names step s
pub entry_named : (n : ℕ) (rd : Memory) (d s : ℕ) → rd (field Pc d) % 2 ^ 63 ≡ suc s
    → entry_of n rd d ≡ due (target_of d (op_at n rd d s)) (rd (field (active_val n rd d) d))
unfolding named_op
entry_named n rd d s e = entry-due n rd d (named-pc n rd d s e) ∙ rw (named_step_lem n rd d s e)

-- what the step that is named has logged
pub named-logs : (n : ℕ) (rd : Memory) (d s : ℕ) → Named n rd d s → (x : Op) → op_at n rd d s ≡ x → logs_held n rd d s x
named-logs n rd d s m x o = subst (logs_held n rd d s) o m.logs

-- two memories with one entry
pub entry-cong :
    (n : ℕ) (rd rd' : Memory) (d : ℕ) → rd' (field Pc d) ≡ rd (field Pc d) → (rd (field Pc d) ≢ 0 → (i : ℕ) → rd' (step d i) ≡ rd (step d i))
    → (rd (field Pc d) ≢ 0 → rd' (field (active_val n rd d) d) ≡ rd (field (active_val n rd d) d)) → entry_of n rd' d ≡ entry_of n rd d
unfolding named_op
entry-cong n rd rd' d p c v = by (ℕ_discrete (rd (field Pc d)) 0)
  where
    by : Dec (rd (field Pc d) ≡ 0) → entry_of n rd' d ≡ entry_of n rd d
    by (yes e) = entry-none n rd' d (p ∙ e) ∙ sym (entry-none n rd d e)
    by (no e) =
        entry-due n rd' d (λ z. e (sym p ∙ z))
        ∙ (rw (named-cong n rd rd' d p, active-val-kept n rd rd' d p, c e (named_step n rd d), v e) (sym (entry-due n rd d e)))
