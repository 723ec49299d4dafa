-- What the store of a worker's turn makes of its pc, its number and its finished number, and when it is a store of a cell: by the
-- phase in which the worker stands (`turn-writes`). A finish is reached by the step right behind the last one that is recorded, since
-- no jump leads to it (`finish-next`); and what is not yet recorded is no finish (`logged-next`).
use Prim.Native.Nat.{ℕ, suc, zero, ◌+◌, ◌-◌, ◌<◌, ◌≤◌}
use mathlib.Core.Path.{◌≡◌, refl, sym, ap, subst, ◌∙◌}
use mathlib.Core.Logic.{◌≢◌}
use mathlib.Core.Bool.{Bool, true, false, cond, true≢false}
use native.Mathlib.Omega.{arith}
use lib.Dec.{eqb, ltb}
use Rattle.image.specs.declared.Field.{Field}
use Rattle.image.specs.declared.Field.TheVariants.{Count, Pc, Addr0, Val0, Addr1, Val1, Intent, Owned, Number, Finished}
use Rattle.image.specs.Place.{Place, cell, lock, field, own, step, Memory}
use Rattle.code.specs.Op.{is_finish}
use Rattle.code.specs.declared.Op.{Op}
use Rattle.code.specs.declared.Op.TheVariants.{Acquire, Release, Assign, Jump, Finish, Unknown}
use Rattle.working.specs.Cursor.{Cursor, on}
use Rattle.worklog.specs.Log.{operand, code_in, second, spare_addr, spare_val}
use Rattle.plan.specs.Turn.{Outcome, stored, passed, waiting, resting as rests, refused}
use Rattle.worklog.specs.Log.{switched}
use Rattle.plan.specs.Turn.{logged, lock_turn, unlock_turn, op_turn, turn_at}
use Rattle.plan.proofs.Outcomes.{unlock-either}
use Rattle.owed.specs.Owed.{named_step}
use Rattle.resuming.specs.Resumed.{target_turn}
use Rattle.claims.specs.Reference.{Given}
use Rattle.claims.proofs.Invariant.{op_at, held_at, Sectioned, Named, Nearing, Due, Jumps, stay, leap, Lodged}
use Rattle.claims.proofs.Invariant.{Phase, resting, fresh, due, unlocking, unlocked, between, ended}
use Rattle.claims.proofs.Entries.{named-pc, named_step_lem}
use Rattle.claims.proofs.Origins.{near-ready}
use Rattle.claims.proofs.Frame.{jumps-held}
use Rattle.claims.proofs.Ready.{turn-op, finish-free, step-behind}
use Rattle.claims.proofs.Switching.{switched-some}

-- the step behind the one that the pc names is a finish
abbrev pub FinishNext : ℕ → Memory → ℕ → Type 0
FinishNext n rd d = op_at n rd d (suc (named_step n rd d)) ≡ Finish

module _ (n : ℕ) (rd : Memory) (d : ℕ) (g : Given) where
  -- a store of v: a pc that was 0 begins the section whose number the record has, and is set to 0 once finished is stored
  abbrev pub WritesPc : ℕ → Type 0
  WritesPc v =
      (rd (field Pc d) ≡ 0 → (v ≢ 0) × (g.worker ≡ d) × (g.number ≡ rd (field Number d)))
      × (rd (field Pc d) ≢ 0 → v ≡ 0 → rd (field Finished d) ≡ rd (field Number d))
      × (rd (field Pc d) ≢ 0 → v ≢ 0 → FinishNext n rd d → ⊥)

  abbrev pub WritesField : Field → ℕ → Type 0
  WritesField Count v = Unit {0}
  WritesField Pc v = WritesPc v
  WritesField Addr0 v = Unit {0}
  WritesField Val0 v = Unit {0}
  WritesField Addr1 v = Unit {0}
  WritesField Val1 v = Unit {0}
  WritesField Intent v = Unit {0}
  WritesField Owned v = Unit {0}
  WritesField Number v = ⊥
  WritesField Finished v = (v ≡ rd (field Number d)) × (rd (field Pc d) ≢ 0) × FinishNext n rd d

  abbrev pub Writes : Place → ℕ → Type 0
  Writes (cell x) v = rd (field Pc d) ≢ 0
  Writes (lock b) v = Unit {0}
  Writes (field f e) v = (e ≡ d) × WritesField f v
  Writes (own e i) v = Unit {0}
  Writes (step e i) v = ⊥

  abbrev pub Says : Outcome → Type 0
  Says (stored p v c) = Writes p v
  Says (passed why c) = Unit {0}
  Says (waiting b) = Unit {0}
  Says rests = Unit {0}
  Says (refused r) = Unit {0}

  addr-writes : (v : ℕ) → Writes (field (spare_addr n rd d) d) v
  unfolding spare_addr
  addr-writes v = by (second n rd d)
    where
      by : (b : Bool) → Writes (field (cond b Addr0 Addr1) d) v
      by true = (refl, tt)
      by false = (refl, tt)

  val-writes : (v : ℕ) → Writes (field (spare_val n rd d) d) v
  unfolding spare_val
  val-writes v = by (second n rd d)
    where
      by : (b : Bool) → Writes (field (cond b Val0 Val1) d) v
      by true = (refl, tt)
      by false = (refl, tt)

  operand-writes : (a v : ℕ) → rd (field Pc d) ≢ 0 → Writes (operand d a) v
  unfolding operand
  operand-writes a v h = by (ltb a 512)
    where
      by : (b : Bool) → Writes (cond b (cell a) (own d (a - 512))) v
      by true = h
      by false = tt

  lock-says : (a s : ℕ) → Says (lock_turn n rd d a s)
  lock-says a s = by (eqb (rd (lock a)) 0)
    where
      by : (b : Bool) → Says (cond b (stored (lock a) (d + 1) (on s 2)) (waiting a))
      by true = tt
      by false = tt

  unlock-says : (a s : ℕ) → Says (unlock_turn n rd d a s)
  unlock-says a s = unlock-either n rd d a s Says tt (λ why. tt)

  -- ---- up to the store of a step's pc, of which w is known

  logged-says : (s t : ℕ) (p : Place) (v : ℕ) (c : Cursor) (i : ℕ) → i ≤ 2 → WritesPc (switched n rd d s) → Says (logged n rd d s t p v c i)
  logged-says s t p v c zero l w = addr-writes _
  logged-says s t p v c (suc zero) l w = val-writes _
  logged-says s t p v c (suc (suc zero)) l w = (refl, w)
  logged-says s t p v c (suc (suc (suc i))) l w = absurd (omega arith)

  acquire-says : (a s t : ℕ) → t ≤ 4 → WritesPc (switched n rd d s) → Says (op_turn n rd d s t (Acquire a))
  acquire-says a s zero l w = (refl, tt)
  acquire-says a s (suc zero) l w = lock-says a s
  acquire-says a s (suc (suc t)) l w = logged-says s (suc (suc t)) (field Owned d) _ _ t (omega arith) w

  release-says : (a s t : ℕ) → t ≤ 2 → WritesPc (switched n rd d s) → Says (op_turn n rd d s t (Release a))
  release-says a s zero l w = addr-writes _
  release-says a s (suc zero) l w = val-writes _
  release-says a s (suc (suc zero)) l w = (refl, w)
  release-says a s (suc (suc (suc t))) l w = absurd (omega arith)

  -- ---- which step is next

  -- a step behind jumps is no finish, since a finish holds nothing and a jump something
  jump-holds : Sectioned n rd d → (k a b : ℕ) → k < rd (field Count d) → op_at n rd d k ≡ Jump a b → held_at n rd d k ≢ 0
  jump-holds sec k a b l o =
      by k o (step-behind n (rd (field Count d)) (code_in n rd d) sec.valid k (Jump a b) l o refl)
    where
      by : (k : ℕ) → op_at n rd d k ≡ Jump a b → suc k < rd (field Count d) → held_at n rd d k ≡ 0 → ⊥
      by zero o i z = let e : ◌≡◌ {A = ℕ} 0 1 = cc in omega arith
      by (suc k) o i z = sec.valid.holding (suc k) (omega arith) (omega arith) z

  finish-next :
      Sectioned n rd d → (s k j : ℕ) → Jumps n rd d (suc s) j k → k < rd (field Count d) → op_at n rd d k ≡ Finish
      → held_at n rd d k ≡ held_at n rd d (suc s) → op_at n rd d (suc s) ≡ Finish
  finish-next sec s k j stay l o h = o
  finish-next sec s k j (leap jj kk a b js m p) l o h =
      let free = finish-free n (rd (field Count d)) (code_in n rd d) sec.valid k l o in
      let same = jumps-held n rd d (suc s) jj kk sec.valid js in
      absurd (jump-holds sec kk a b m p (same ∙ (sym h ∙ free)))

  -- the step behind the last one recorded is no finish where another logged step, or a jump, comes next
  logged-next : (s k j : ℕ) (x : Op) → Jumps n rd d (suc s) j k → op_at n rd d k ≡ x → is_finish x ≡ false → op_at n rd d (suc s) ≡ Finish → ⊥
  logged-next s k j x js o e f = by k j js o
    where
      first : (i j k : ℕ) → Jumps n rd d i j k → op_at n rd d i ≡ Finish → j ≡ 0
      first i j k stay q = refl
      first i j k (leap zero kk a b stay m p) q = let e : ◌≡◌ {A = ℕ} 0 1 = cc in absurd (omega arith)
      first i j k (leap (suc jj) kk a b js m p) q = let z = first i (suc jj) kk js q in absurd (omega arith)

      by : (k j : ℕ) → Jumps n rd d (suc s) j k → op_at n rd d k ≡ x → ⊥
      by k j stay q =
          let z : Finish ≡ x = sym f ∙ q in
          let y : true ≡ false = ap is_finish z ∙ e in
          absurd (true≢false y)
      by k j (leap jj kk a b js m p) q = let z = first (suc s) (suc jj) _ (leap jj kk a b js m p) f in omega arith

  -- ---- the phases

  fresh-says :
      (t locks : ℕ) → Sectioned n rd d → Lodged n rd d g → rd (field Pc d) ≡ 0 → Nearing n rd d 0 t 0 locks (op_at n rd d 0)
      → Says (turn_at n rd d (on 0 t))
  fresh-says t locks sec entered p near =
      let (a, x) = sec.valid.first in
      let K : Nearing n rd d 0 t 0 locks (Acquire a) = subst (Nearing n rd d 0 t 0 locks) x near in
      let early : t ≤ 4 = K.0 in
      rw (turn-op n rd d 0 t (Acquire a) sec.valid (omega arith) x (omega arith))
      (acquire-says a 0 t early ((λ z. (switched-some n rd d 0, entered.by, entered.numbered)), (λ h. absurd (h p)), (λ h. absurd (h p))))

  -- the pc of step k is stored, with step s recorded
  pc-moves : (s k j : ℕ) (x : Op) → Named n rd d s → Jumps n rd d (suc s) j k → op_at n rd d k ≡ x → is_finish x ≡ false → WritesPc (switched n rd d k)
  pc-moves s k j x named js o e = (
    (λ z. absurd (named-pc n rd d s named.pc z)),
    (λ h z. absurd (switched-some n rd d k z)),
    (λ h z f. logged-next s k j x js o e (rw (named_step_lem n rd d s named.pc) at f)),
  )

  finish-says :
      (s k t j : ℕ) → Sectioned n rd d → Named n rd d s → Jumps n rd d (suc s) j k → k < rd (field Count d) → held_at n rd d k ≡ held_at n rd d (suc s)
      → op_at n rd d k ≡ Finish → t ≤ 1 → (1 ≤ t → rd (field Finished d) ≡ rd (field Number d)) → Says (op_turn n rd d k t Finish)
  finish-says s k zero j sec named js l h o r e =
      (refl, (refl, named-pc n rd d s named.pc, rw (named_step_lem n rd d s named.pc) (finish-next sec s k j js l o h)))
  finish-says s k (suc zero) j sec named js l h o r e =
      (refl, ((λ z. absurd (named-pc n rd d s named.pc z)), (λ h z. e (omega arith)), (λ h z. absurd (z refl))))
  finish-says s k (suc (suc t)) j sec named js l h o r e = absurd (omega arith)

  between-says :
      (s k t locks j : ℕ) → Sectioned n rd d → Named n rd d s → Jumps n rd d (suc s) j k → k < rd (field Count d) → held_at n rd d k ≡ held_at n rd d (suc s)
      → (x : Op) → op_at n rd d k ≡ x → Nearing n rd d k t (held_at n rd d k) locks x → Says (op_turn n rd d k t x)
  between-says s k t locks j sec named js l h (Acquire a) o r = acquire-says a k t r.0 (pc-moves s k j (Acquire a) named js o refl)
  between-says s k t locks j sec named js l h (Release a) o r = release-says a k t r.0 (pc-moves s k j (Release a) named js o refl)
  between-says s k t locks j sec named js l h (Assign a e) o r = logged-says k t (operand d a) _ _ t r.0 (pc-moves s k j (Assign a e) named js o refl)
  between-says s k t locks j sec named js l h (Jump a b) o r = tt
  between-says s k t locks j sec named js l h Finish o r = finish-says s k t j sec named js l h o r.0 r.3
  between-says s k t locks j sec named js l h Unknown o r = absurd r

  due-says :
      (s locks : ℕ) → Sectioned n rd d → Named n rd d s → (x : Op) → op_at n rd d s ≡ x → Due n rd d s locks x
      → Says (turn_at n rd d (on s (target_turn x)))
  due-says s locks sec m (Acquire a) o u = rw (turn-op n rd d s 5 (Acquire a) sec.valid m.below o (omega arith)) (refl, tt)
  due-says s locks sec m (Release a) o u = rw (turn-op n rd d s 3 (Release a) sec.valid m.below o (omega arith)) (refl, tt)
  due-says s locks sec m (Assign a e) o u =
      rw (turn-op n rd d s 3 (Assign a e) sec.valid m.below o (omega arith)) (operand-writes a _ (named-pc n rd d s m.pc))
  due-says s locks sec m (Jump a b) o u = absurd u
  due-says s locks sec m Finish o u = absurd u
  due-says s locks sec m Unknown o u = absurd u

  -- a turn of a worker at any place of its section
  pub turn-writes : (c : Cursor) (locks j : ℕ) → Phase n rd d g c locks j → Says (turn_at n rd d c)
  unfolding turn_at
  turn-writes _ _ _ (resting k p i o) = tt
  turn-writes _ _ _ (fresh t locks sec h p o r) = fresh-says t locks sec h p r
  turn-writes _ _ _ (due s locks sec m u) = due-says s locks sec m (op_at n rd d s) refl u
  turn-writes _ _ _ (unlocking s a locks sec m o w i q) = rw (turn-op n rd d s 4 (Release a) sec.valid m.below o (omega arith)) (unlock-says a s)
  turn-writes _ _ _ (unlocked s a locks sec m o w i q) = rw (turn-op n rd d s 5 (Release a) sec.valid m.below o (omega arith)) (refl, tt)
  turn-writes _ _ _ (between s k t locks j sec m f js l w h r) =
      rw (turn-op n rd d k t (op_at n rd d k) sec.valid l refl (near-ready n rd d k t (held_at n rd d k) locks (op_at n rd d k) r))
      (between-says s k t locks j sec m js l h (op_at n rd d k) refl r)
  turn-writes _ _ _ (ended s sec p w i l o) = rw (turn-op n rd d s 2 Finish sec.valid l o (omega arith)) (refl, tt)
