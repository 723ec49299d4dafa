-- The four turns of a logged store, one after the other: the spare entry's address and value, the pc, and the target. The
-- first three change words of the log alone (`LogOnly`), so that after the fourth the memory is, but for the log, the one with
-- the value at the target.
use Prim.Native.Nat.{ℕ, ◌+◌, ◌<◌, ◌≤◌}
use mathlib.Core.Path.{◌≡◌, refl, ap, subst₂, ◌∙◌, sym, fun_ext}
use mathlib.Core.Logic.{◌≢◌}
use mathlib.Core.Bool.{true, false, and-false}
use mathlib.Core.List.{List}
use lib.ListN.{replicate}
use borrow.Author.Tests.{lt-ltb, ne_eqb}
use native.Mathlib.Omega.{arith}
use Rattle.image.specs.declared.Field.{Field}
use Rattle.image.specs.declared.Field.TheVariants.{Count, Pc, Addr0, Val0, Addr1, Val1, Intent, Owned, Number, Finished}
use Rattle.image.specs.Place.{Place, cell, lock, field, own, step, valid, Memory}
use Rattle.image.specs.Inner.Same.{same_field, upd}
use Rattle.image.specs.Image.{index_of}
use Rattle.code.specs.declared.Op.{Op}
use Rattle.code.specs.Op.{op_of}
use Rattle.section.specs.Check.{Code}
use Rattle.section.specs.Valid.{Valid}
use Rattle.code.proofs.Ranges.{op_turns}
use Rattle.working.specs.Cursor.{Cursor, on}
use Rattle.worklog.specs.Log.{code_in, spare_addr, spare_val, active_val, switched}
use Rattle.plan.specs.Turn.{logged, op_turn, stored}
use Rattle.working.proofs.Placed.{sayable}
use Rattle.claims.specs.Reference.{Given}
use Rattle.claims.specs.Calls.{Traced, turns, Move, whole, play}
use Rattle.claims.proofs.Fields.{spare-addr-other, spare-val-other, spare-val-now, next-value}
use Rattle.claims.proofs.Ready.{turn-op}
use Rattle.told.proofs.OrderTurn.{View, turn-stored}

-- so many turns of worker d
abbrev pub turns_of : ℕ → ℕ → List Move
turns_of k d = replicate k (whole (turns d))

-- worker d's section has instruction x at step k
pub record Codes (n : ℕ) (rd : Memory) (d k : ℕ) (x : Op) : Type 0 where
  pub valid : Valid n (rd (field Count d)) (code_in n rd d)
  pub below : k < rd (field Count d)
  pub op : op_of (rd (step d k)) ≡ x

pub valid_same :
    (n : ℕ) (rd rd' : Memory) (d : ℕ) → rd' (field Count d) ≡ rd (field Count d) → ((i : ℕ) → rd' (step d i) ≡ rd (step d i))
    → Valid n (rd (field Count d)) (code_in n rd d)
    → Valid n (rd' (field Count d)) (code_in n rd' d)
valid_same n rd rd' d c s v = subst₂ (λ (k : ℕ) (f : Code). Valid n k f) (sym c) (sym (fun_ext s)) v

pub codes_same :
    (n : ℕ) (rd rd' : Memory) (d k : ℕ) (x : Op) → rd' (field Count d) ≡ rd (field Count d) → ((i : ℕ) → rd' (step d i) ≡ rd (step d i)) → Codes n rd d k x
    → Codes n rd' d k x
codes_same n rd rd' d k x c s h = record { valid = valid_same n rd rd' d c s h.valid; below = rw c h.below; op = ap op_of (s k) ∙ h.op }

-- the memories differ at most in words of worker d's log
pub record LogOnly (rd rd' : Memory) (d : ℕ) : Type 0 where
  pub count : rd' (field Count d) ≡ rd (field Count d)
  pub intent : rd' (field Intent d) ≡ rd (field Intent d)
  pub owned : rd' (field Owned d) ≡ rd (field Owned d)
  pub number : rd' (field Number d) ≡ rd (field Number d)
  pub finished : rd' (field Finished d) ≡ rd (field Finished d)
  pub fields : (e : ℕ) → e ≢ d → (f : Field) → rd' (field f e) ≡ rd (field f e)
  pub steps : (e i : ℕ) → rd' (step e i) ≡ rd (step e i)
  pub owns : (e i : ℕ) → rd' (own e i) ≡ rd (own e i)
  pub cells : (x : ℕ) → rd' (cell x) ≡ rd (cell x)
  pub locks : (b : ℕ) → rd' (lock b) ≡ rd (lock b)

-- a store in a record is none in another's
pub field-other : (rd : Memory) (d e : ℕ) (f g : Field) (v : ℕ) → e ≢ d → upd rd (field f d) v (field g e) ≡ rd (field g e)
field-other rd d e f g v h = rw (ne_eqb e d h, and-false (same_field g f))

module _ (n : ℕ) (rd : Memory) (d x v y : ℕ) where
  abbrev addressed : Memory
  addressed = upd rd (field (spare_addr n rd d) d) x

  abbrev valued : Memory
  valued = upd addressed (field (spare_val n addressed d) d) v

  private-noted : (f : Field) → same_field f Addr0 ≡ false → same_field f Addr1 ≡ false → same_field f Val0 ≡ false → same_field f Val1 ≡ false
      → valued (field f d) ≡ rd (field f d)
  private-noted f a b c e = spare-val-other n addressed d v f c e ∙ spare-addr-other n rd d x f a b

  noted : LogOnly rd (upd valued (field Pc d) y) d
  noted =
      record {
        count = private-noted Count refl refl refl refl;
        intent = private-noted Intent refl refl refl refl;
        owned = private-noted Owned refl refl refl refl;
        number = private-noted Number refl refl refl refl;
        finished = private-noted Finished refl refl refl refl;
        fields =
            λ e h f.
            field-other valued d e Pc f y h ∙ (field-other addressed d e (spare_val n addressed d) f v h ∙ field-other rd d e (spare_addr n rd d) f x h);
        steps = λ e i. refl;
        owns = λ e i. refl;
        cells = λ c. refl;
        locks = λ b. refl;
      }

-- where the four turns from turn t on are those of a logged store of a value at p
pub record Logs (n d k t : ℕ) (x : Op) (p : Place) (val : Memory → ℕ) (next : Cursor) : Type 0 where
  pub address : (rd : Memory) → op_turn n rd d k t x ≡ logged n rd d k t p (val rd) next 0
  pub value : (rd : Memory) → op_turn n rd d k (t + 1) x ≡ logged n rd d k (t + 1) p (val rd) next 1
  pub pc : (rd : Memory) → op_turn n rd d k (t + 1 + 1) x ≡ logged n rd d k (t + 1 + 1) p (val rd) next 2
  pub target : (rd : Memory) → op_turn n rd d k (t + 1 + 1 + 1) x ≡ logged n rd d k (t + 1 + 1 + 1) p (val rd) next 3
  pub enough : t + 4 ≤ op_turns x
  pub few : t + 4 ≤ 6

-- what they leave
pub record Wrote (mark n D : ℕ) (w : Traced) (rd : Memory) (d : ℕ) (p : Place) (v : ℕ) (next : Cursor) (cur : ℕ → Cursor) (taken : List Given) : Type 0 where
  pub before : Memory
  pub noted : LogOnly rd before d
  pub view : View mark n D (play mark n (turns_of 4 d) w) (upd before p v) d next cur taken

pub log-turns :
    (mark n D : ℕ) (w : Traced) (rd : Memory) (d : ℕ) (cur : ℕ → Cursor) (taken : List Given) (k t : ℕ) (x : Op) (p : Place) (val : Memory → ℕ) (next : Cursor)
    → View mark n D w rd d (on k t) cur taken → d < D → Codes n rd d k x → Logs n d k t x p val next → valid D n p ≡ true → sayable next
    → ((z : ℕ) → val (upd rd (field (spare_addr n rd d) d) z) ≡ val rd)
    → Wrote mark n D w rd d p (val rd) next cur taken
unfolding play
log-turns mark n D w rd d cur taken k t x p val next v0 dl c logs ok say same =
    let ix = index_of n p in
    let rd1 = upd rd (field (spare_addr n rd d) d) ix in
    let rd2 = upd rd1 (field (spare_val n rd1 d) d) (val rd) in
    let y = switched n rd2 d k in
    let rd3 = upd rd2 (field Pc d) y in
    let enough = logs.enough in
    let few = logs.few in
    let small : k < 64 = let l = c.below in let m = c.valid.most in omega arith in
    let c1 : Codes n rd1 d k x = codes_same n rd rd1 d k x (spare-addr-other n rd d ix Count refl refl) (λ i. refl) c in
    let c2 : Codes n rd2 d k x = codes_same n rd1 rd2 d k x (spare-val-other n rd1 d (val rd) Count refl refl) (λ i. refl) c1 in
    let c3 : Codes n rd3 d k x = codes_same n rd2 rd3 d k x refl (λ i. refl) c2 in
    let ok-field : (f : Field) → valid D n (field f d) ≡ true = λ f. lt-ltb d D dl in
    let t0 = turn-op n rd d k t x c.valid c.below c.op (omega arith) ∙ logs.address rd in
    let v1 = turn-stored mark n D w rd d (on k t) cur taken v0 dl (field (spare_addr n rd d) d) ix (on k (t + 1)) t0 (ok-field (spare_addr n rd d))
    (λ q. omega arith) in
    let t1 = turn-op n rd1 d k (t + 1) x c1.valid c1.below c1.op (omega arith) ∙
    (logs.value rd1 ∙ ap (λ (z : ℕ). stored (field (spare_val n rd1 d) d) z (on k (t + 1 + 1))) (same ix)) in
    let v2 = turn-stored mark n D _ rd1 d (on k (t + 1)) cur taken v1 dl (field (spare_val n rd1 d) d) (val rd) (on k (t + 1 + 1)) t1
    (ok-field (spare_val n rd1 d)) (λ q. omega arith) in
    let t2 = turn-op n rd2 d k (t + 1 + 1) x c2.valid c2.below c2.op (omega arith) ∙ logs.pc rd2 in
    let v3 = turn-stored mark n D _ rd2 d (on k (t + 1 + 1)) cur taken v2 dl (field Pc d) y (on k (t + 1 + 1 + 1)) t2 (ok-field Pc) (λ q. omega arith) in
    let e : rd3 (field (active_val n rd3 d) d) ≡ val rd = next-value n rd2 d k small ∙ spare-val-now n rd1 d (val rd) in
    let t3 = turn-op n rd3 d k (t + 1 + 1 + 1) x c3.valid c3.below c3.op (omega arith) ∙ (logs.target rd3 ∙ ap (λ (z : ℕ). stored p z next) e) in
    let v4 = turn-stored mark n D _ rd3 d (on k (t + 1 + 1 + 1)) cur taken v3 dl p (val rd) next t3 ok say in
    record { before = rd3; noted = noted n rd d ix (val rd) y; view = v4 }
