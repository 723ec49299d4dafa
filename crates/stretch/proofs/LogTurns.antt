-- A logged store's four turns in sequence (`logged-turns`). What each of them reads of the log is what it was before the first: the pc stays until the third,
-- and the third makes the entry just written the active one. So the fourth stores the value of the second; or no store is left, and it stores nothing.
use Prim.Native.Nat.{ℕ, suc, zero, ◌+◌, ◌-◌, ◌<◌}
use mathlib.Core.Path.{◌≡◌, refl, ap, sym, ◌∙◌}
use mathlib.Core.Bool.{Bool, true, false, cond}
use native.Mathlib.Omega.{arith}
use lib.Dec.{eqb}
use borrow.Author.Tests.{lt-ltb}
use Rattle.image.specs.declared.Field.{Field}
use Rattle.image.specs.declared.Field.TheVariants.{Count, Pc, Addr0, Val0, Addr1, Val1}
use Rattle.image.specs.Place.{Place, field, Memory}
use Rattle.image.specs.Inner.Same.{same, same_field, upd}
use Rattle.image.specs.Image.{Image, index_of, at, put}
use Rattle.image.proofs.Header.{Sized}
use Rattle.image.proofs.Places.{upd_same}
use Rattle.image.proofs.Stores.{put-none, sized-store, at_store}
use Rattle.code.specs.declared.Op.{Op}
use Rattle.code.proofs.Ranges.{op_turns}
use Rattle.tally.specs.declared.Tally.{Tally}
use Rattle.working.specs.Cursor.{Cursor, on, step_no, turn_no}
use Rattle.worklog.specs.Log.{second, spare_addr, spare_val, active_val, switched}
use Rattle.worklog.proofs.Switching.{switched-val}
use Rattle.plan.specs.Turn.{logged, op_turn}
use Rattle.plan.proofs.Quiet.{Spares, quiet-field, other-field, at_other}
use Rattle.turn.specs.Call.{held_by}
use Rattle.stretch.specs.Inner.Single.{Single, single, Turns}
use Rattle.stretch.specs.Inner.Logged.{with_address, with_value, with_pc, with_target}
use Rattle.stretch.proofs.Running.{with_stores, Running, running-store, makes, stores-more}

-- ---- the log's words

module _ (n : ℕ) (rd : Memory) (d : ℕ) where
  pub other-addr : (f : Field) → same_field f Addr0 ≡ false → same_field f Addr1 ≡ false → same (field f d) (field (spare_addr n rd d) d) ≡ false
  unfolding spare_addr
  other-addr f p q = rw (other-field f (second n rd d) Addr0 Addr1 p q)

  other-val : (f : Field) → same_field f Val0 ≡ false → same_field f Val1 ≡ false → same (field f d) (field (spare_val n rd d) d) ≡ false
  unfolding spare_val
  other-val f p q = rw (other-field f (second n rd d) Val0 Val1 p q)

  val-pc : same (field (spare_val n rd d) d) (field Pc d) ≡ false
  unfolding spare_val
  val-pc = by (second n rd d)
    where
      by : (b : Bool) → same (field (cond b Val0 Val1) d) (field Pc d) ≡ false
      by true = refl
      by false = refl

  module _ (D : ℕ) (l : d < D) where
    pub spares-addr : Spares D n (field (spare_addr n rd d) d)
    unfolding spare_addr
    spares-addr = quiet-field D n _ d l (other-field Count (second n rd d) Addr0 Addr1 refl refl)

    spares-val : Spares D n (field (spare_val n rd d) d)
    unfolding spare_val
    spares-val = quiet-field D n _ d l (other-field Count (second n rd d) Val0 Val1 refl refl)

  -- a memory with the same pc has the same spare entry, and the same pc to come
  module _ (re : Memory) (e : re (field Pc d) ≡ rd (field Pc d)) where
    kept-val : spare_val n re d ≡ spare_val n rd d
    unfolding spare_val second
    kept-val = rw e

    kept-switched : (s : ℕ) → switched n re d s ≡ switched n rd d s
    unfolding switched second
    kept-switched s = rw e

-- ---- the value at the target

module _ (D n d s : ℕ) (l : d < D) (small : s < 64) (m : Image) (z : Sized n D m) (left i v : ℕ) where
  -- what the first two stores leave of the pc
  pc-address : at n (with_address n d s i v m left) (field Pc d) ≡ at n m (field Pc d)
  pc-address = at_other D n left m z _ (field Pc d) i (spares-addr n (at n m) d D l).there (other-addr n (at n m) d Pc refl refl)

  sized-address : Sized n D (with_address n d s i v m left)
  sized-address = sized-store n D left m _ i z

  pc-value : at n (with_value n d s i v m left) (field Pc d) ≡ at n m (field Pc d)
  pc-value =
      at_other D n (left - 1) _ sized-address _ (field Pc d) v (spares-val n (at n m) d D l).there (other-val n (at n m) d Pc refl refl) ∙ pc-address

  sized-value : Sized n D (with_value n d s i v m left)
  sized-value = sized-store n D (left - 1) _ _ v sized-address

  -- the third one is made: then so were those before it, and the entry that it names holds the value
  active-value : 0 < left - 1 - 1 → at n (with_pc n d s i v m left) (field (active_val n (at n (with_pc n d s i v m left)) d) d) ≡ v
  active-value some =
      let pc = at_store n D (left - 1 - 1) _ (field Pc d) (switched n (at n m) d s) sized-value (lt-ltb d D l) some in
      let p = field (spare_val n (at n m) d) d in
      let names : at n (with_pc n d s i v m left) (field Pc d) ≡ switched n (at n m) d s =
      pc (field Pc d) ∙ upd_same (at n (with_value n d s i v m left)) (field Pc d) _ in
      let value = at_store n D (left - 1) _ p v sized-address (spares-val n (at n m) d D l).there (omega (arith, some)) p
      ∙ upd_same (at n (with_address n d s i v m left)) p v in
      rw (switched-val n (at n m) d s small _ names) (at_other D n (left - 1 - 1) _ sized-value (field Pc d) p _ (lt-ltb d D l) (val-pc n (at n m) d) ∙ value)

  -- so the fourth stores it, or nothing
  pub target-stored :
      put (left - 1 - 1 - 1) (with_pc n d s i v m left) i (at n (with_pc n d s i v m left) (field (active_val n (at n (with_pc n d s i v m left)) d) d))
      ≡ with_target n d s i v m left
  target-stored = by (left - 1 - 1 - 1) refl
    where
      by : (k : ℕ) → left - 1 - 1 - 1 ≡ k
          → put k (with_pc n d s i v m left) i (at n (with_pc n d s i v m left) (field (active_val n (at n (with_pc n d s i v m left)) d) d))
          ≡ put k (with_pc n d s i v m left) i v
      by zero e = put-none _ i _ ∙ sym (put-none _ i v)
      by (suc k) e = rw (active-value (omega (arith, e)))

-- ---- the four turns

-- the turns of x from turn t on are those of a logged store at p of what f reads, with the cursor c after them
pub record Logs (n d s t : ℕ) (x : Op) (p : Place) (f : Memory → ℕ) (c : Cursor) : Type 0 where
  pub address : (rd : Memory) → op_turn n rd d s t x ≡ logged n rd d s t p (f rd) c 0
  pub value : (rd : Memory) → op_turn n rd d s (t + 1) x ≡ logged n rd d s (t + 1) p (f rd) c 1
  pub pc : (rd : Memory) → op_turn n rd d s (t + 1 + 1) x ≡ logged n rd d s (t + 1 + 1) p (f rd) c 2
  pub target : (rd : Memory) → op_turn n rd d s (t + 1 + 1 + 1) x ≡ logged n rd d s (t + 1 + 1 + 1) p (f rd) c 3
  pub has : t + 3 < op_turns x

four-stores : (y : Tally) → with_stores 1 (with_stores 1 (with_stores 1 (with_stores 1 y))) ≡ with_stores 4 y
four-stores y = ap (λ (z : Tally). with_stores 1 (with_stores 1 z)) (stores-more 1 1 y) ∙ (ap (with_stores 1) (stores-more 2 1 y) ∙ stores-more 3 1 y)

-- through each of the four stores the worker is within its instruction
module _ (D n d s : ℕ) (l : d < D) (x : Op) (m : Image) (r : Running D n d s x m) (left : ℕ) (p : Place) (v : ℕ) where
  abbrev i : ℕ
  i = index_of n p

  address-running : Running D n d s x (with_address n d s i v m left)
  address-running = running-store D n d s x m r left _ i (spares-addr n (at n m) d D l)

  value-running : Running D n d s x (with_value n d s i v m left)
  value-running = running-store D n d s x _ address-running (left - 1) _ v (spares-val n (at n m) d D l)

  pc-running : Running D n d s x (with_pc n d s i v m left)
  pc-running = running-store D n d s x _ value-running (left - 1 - 1) (field Pc d) _ (quiet-field D n Pc d l refl)

  pub logged-running : Spares D n p → Running D n d s x (with_target n d s i v m left)
  logged-running q = running-store D n d s x _ pc-running (left - 1 - 1 - 1) p v q

module _ (D n d s : ℕ) (l : d < D) (small : s < 64) (x : Op) (m : Image) (r : Running D n d s x m) where
  pub logged-turns : (k t : ℕ) {b : Single} (left h : ℕ) (y : Tally) (p : Place) (f : Memory → ℕ) (c : Cursor)
      → Spares D n p → ((v : ℕ) → held_by p v h ≡ h) → Logs n d s t x p f c
      → f (at n (with_address n d s (index_of n p) (f (at n m)) m left)) ≡ f (at n m)
      → Turns n d k (single (with_target n d s (index_of n p) (f (at n m)) m left) (left - 1 - 1 - 1 - 1) (step_no c) (turn_no c) h (with_stores 4 y)) b
      → Turns n d (suc (suc (suc (suc k)))) (single m left s t h y) b
  logged-turns k t {b} left h y p f c q free g kept more =
      let i = index_of n p in
      let v = f (at n m) in
      let rd = at n m in
      let has = g.has in
      let m1 = with_address n d s i v m left in
      let m2 = with_value n d s i v m left in
      let m3 = with_pc n d s i v m left in
      let r1 = address-running D n d s l x m r left p v in
      let r2 = value-running D n d s l x m r left p v in
      let r3 = pc-running D n d s l x m r left p v in
      let e1 = kept-val n rd d (at n m1) (pc-address D n d s l small m r.size left i v) in
      let e2 = kept-switched n rd d (at n m2) (pc-value D n d s l small m r.size left i v) s in
      let end = target-stored D n d s l small m r.size left i v in
      makes D n d s x m r (suc (suc (suc k))) t left h y _ (omega arith) (g.address rd)
      (makes D n d s x m1 r1 (suc (suc k)) (t + 1) (left - 1) h (with_stores 1 y) _ (omega arith) (g.value (at n m1))
      (rw (e1, kept)
      (makes D n d s x m2 r2 (suc k) (t + 1 + 1) (left - 1 - 1) h (with_stores 1 (with_stores 1 y)) _ (omega arith) (g.pc (at n m2))
      (rw e2
      (makes D n d s x m3 r3 k (t + 1 + 1 + 1) (left - 1 - 1 - 1) h (with_stores 1 (with_stores 1 (with_stores 1 y))) _ (omega arith) (g.target (at n m3))
      (rw (end, free (at n m3 (field (active_val n (at n m3) d) d)), four-stores y) more))))))
