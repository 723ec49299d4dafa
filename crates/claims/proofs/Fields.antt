-- What one store of a worker leaves of its record, and which log entry is active afterwards. A store is known by the words
-- that it keeps (`KeepsNamed`, `Quiet`), so that what rests on these words is carried over by one lemma for every store. Which
-- entry is active is read off the pc alone: other stores leave it, and the store of the next pc exchanges the entries.
use Prim.Native.Nat.{ℕ, suc, ◌+◌, ◌-◌, ◌/◌, ◌%◌, ◌^◌, ◌<◌}
use mathlib.Core.Path.{◌≡◌, refl, ap, ◌∙◌}
use mathlib.Core.Bool.{Bool, true, false, cond}
use native.Mathlib.Omega.{arith}
use lib.Dec.{eqb, ltb}
use borrow.Author.Tests.{eq-eqb, ne_eqb}
use Rattle.image.specs.declared.Field.{Field}
use Rattle.image.specs.declared.Field.TheVariants.{Count, Pc, Addr0, Val0, Addr1, Val1, Intent, Owned, Number, Finished}
use Rattle.image.specs.Place.{cell, lock, field, own, step, Memory}
use Rattle.image.specs.Inner.Same.{same_field, upd}
use Rattle.image.proofs.Places.{upd_same}
use Rattle.worklog.specs.Log.{operand, second, spare_addr, spare_val, active_addr, active_val, switched}
use Rattle.worklog.proofs.Switching.{switched-addr, switched-val}

-- what every store but those of the pc, the count and the active entry keeps
pub record KeepsNamed (n : ℕ) (rd rd' : Memory) (d : ℕ) : Type 0 where
  pub steps : (i : ℕ) → rd' (step d i) ≡ rd (step d i)
  pub count : rd' (field Count d) ≡ rd (field Count d)
  pub pc : rd' (field Pc d) ≡ rd (field Pc d)
  pub address : rd' (field (active_addr n rd d) d) ≡ rd (field (active_addr n rd d) d)
  pub value : rd' (field (active_val n rd d) d) ≡ rd (field (active_val n rd d) d)

-- and the stores that are no target store
pub record Quiet (n : ℕ) (rd rd' : Memory) (d : ℕ) : Type 0 where
  pub keeps : KeepsNamed n rd rd' d
  pub owned : rd' (field Owned d) ≡ rd (field Owned d)
  pub number : rd' (field Number d) ≡ rd (field Number d)
  pub owns : (i : ℕ) → rd' (own d i) ≡ rd (own d i)
  pub cells : (x : ℕ) → rd' (cell x) ≡ rd (cell x)

-- ---- one of two single words

module _ (rd : Memory) (d v : ℕ) where
  wrote : (f x y : Field) (b : Bool) → same_field f x ≡ false → same_field f y ≡ false → upd rd (field (cond b x y) d) v (field f d) ≡ rd (field f d)
  wrote f x y true p q = rw p
  wrote f x y false p q = rw q

  reads : (f x y : Field) (b : Bool) → same_field x f ≡ false → same_field y f ≡ false → upd rd (field f d) v (field (cond b x y) d) ≡ rd (field (cond b x y) d)
  reads f x y true p q = rw p
  reads f x y false p q = rw q

  crossed : (x y : Field) (b : Bool) → same_field x y ≡ false → same_field y x ≡ false
      → upd rd (field (cond b x y) d) v (field (cond b y x) d) ≡ rd (field (cond b y x) d)
  crossed x y true p q = rw q
  crossed x y false p q = rw p

  beside : (w x y z : Field) (b : Bool) → same_field w y ≡ false → same_field x z ≡ false
      → upd rd (field (cond b y z) d) v (field (cond b w x) d) ≡ rd (field (cond b w x) d)
  beside w x y z true p q = rw p
  beside w x y z false p q = rw q

-- ---- which entry is active

module _ (n : ℕ) (rd rd' : Memory) (d : ℕ) where
  second-kept : rd' (field Pc d) ≡ rd (field Pc d) → second n rd' d ≡ second n rd d
  unfolding second
  second-kept e = rw e

  pub active-addr-kept : rd' (field Pc d) ≡ rd (field Pc d) → active_addr n rd' d ≡ active_addr n rd d
  unfolding active_addr
  active-addr-kept e = rw (second-kept e)

  pub active-val-kept : rd' (field Pc d) ≡ rd (field Pc d) → active_val n rd' d ≡ active_val n rd d
  unfolding active_val
  active-val-kept e = rw (second-kept e)

  pub spare-addr-kept : rd' (field Pc d) ≡ rd (field Pc d) → spare_addr n rd' d ≡ spare_addr n rd d
  unfolding spare_addr
  spare-addr-kept e = rw (second-kept e)

  pub spare-val-kept : rd' (field Pc d) ≡ rd (field Pc d) → spare_val n rd' d ≡ spare_val n rd d
  unfolding spare_val
  spare-val-kept e = rw (second-kept e)

  -- what a word number says is kept with the cells and the own words
  pub word_kept : ((i : ℕ) → rd' (own d i) ≡ rd (own d i)) → ((x : ℕ) → rd' (cell x) ≡ rd (cell x)) → (x : ℕ) → rd' (operand d x) ≡ rd (operand d x)
  unfolding operand
  word_kept owns cells x = by (ltb x 512)
    where
      by : (b : Bool) → rd' (cond b (cell x) (own d (x - 512))) ≡ rd (cond b (cell x) (own d (x - 512)))
      by true = cells x
      by false = owns (x - 512)

-- ---- each store

module _ (n : ℕ) (rd : Memory) (d v : ℕ) where
  -- a single word that is neither count, pc nor of the log
  pub keeps-field :
      (f : Field) → same_field Count f ≡ false → same_field Pc f ≡ false → same_field Addr0 f ≡ false → same_field Val0 f ≡ false → same_field Addr1 f ≡ false
      → same_field Val1 f ≡ false
      → KeepsNamed n rd (upd rd (field f d) v) d
  unfolding active_addr active_val
  keeps-field f c p a0 v0 a1 v1 =
      record {
        steps = λ i. refl;
        count = rw c;
        pc = rw p;
        address = reads rd d v f Addr1 Addr0 (second n rd d) a1 a0;
        value = reads rd d v f Val1 Val0 (second n rd d) v1 v0;
      }

  pub keeps-lock : (a : ℕ) → KeepsNamed n rd (upd rd (lock a) v) d
  keeps-lock a = record { steps = λ i. refl; count = refl; pc = refl; address = refl; value = refl }

  pub keeps-cell : (x : ℕ) → KeepsNamed n rd (upd rd (cell x) v) d
  keeps-cell x = record { steps = λ i. refl; count = refl; pc = refl; address = refl; value = refl }

  pub keeps-own : (i : ℕ) → KeepsNamed n rd (upd rd (own d i) v) d
  keeps-own i = record { steps = λ j. refl; count = refl; pc = refl; address = refl; value = refl }

  pub quiet-intent : Quiet n rd (upd rd (field Intent d) v) d
  quiet-intent = record { keeps = keeps-field Intent refl refl refl refl refl refl; owned = refl; number = refl; owns = λ i. refl; cells = λ x. refl }

  pub quiet-finished : Quiet n rd (upd rd (field Finished d) v) d
  quiet-finished = record { keeps = keeps-field Finished refl refl refl refl refl refl; owned = refl; number = refl; owns = λ i. refl; cells = λ x. refl }

  pub quiet-lock : (a : ℕ) → Quiet n rd (upd rd (lock a) v) d
  quiet-lock a = record { keeps = keeps-lock a; owned = refl; number = refl; owns = λ i. refl; cells = λ x. refl }

  -- the two words of the spare entry, and a single word that is not of the log
  pub spare-addr-other : (f : Field) → same_field f Addr0 ≡ false → same_field f Addr1 ≡ false
      → upd rd (field (spare_addr n rd d) d) v (field f d) ≡ rd (field f d)
  unfolding spare_addr
  spare-addr-other f p q = wrote rd d v f Addr0 Addr1 (second n rd d) p q

  pub spare-val-other : (f : Field) → same_field f Val0 ≡ false → same_field f Val1 ≡ false → upd rd (field (spare_val n rd d) d) v (field f d) ≡ rd (field f d)
  unfolding spare_val
  spare-val-other f p q = wrote rd d v f Val0 Val1 (second n rd d) p q

  pub quiet-spare-addr : Quiet n rd (upd rd (field (spare_addr n rd d) d) v) d
  unfolding spare_addr active_addr active_val
  quiet-spare-addr =
      record {
        keeps = record {
          steps = λ i. refl;
          count = spare-addr-other Count refl refl;
          pc = spare-addr-other Pc refl refl;
          address = crossed rd d v Addr0 Addr1 (second n rd d) refl refl;
          value = beside rd d v Val1 Val0 Addr0 Addr1 (second n rd d) refl refl;
        };
        owned = spare-addr-other Owned refl refl;
        number = spare-addr-other Number refl refl;
        owns = λ i. refl;
        cells = λ x. refl;
      }

  pub quiet-spare-val : Quiet n rd (upd rd (field (spare_val n rd d) d) v) d
  unfolding spare_val active_addr active_val
  quiet-spare-val =
      record {
        keeps = record {
          steps = λ i. refl;
          count = spare-val-other Count refl refl;
          pc = spare-val-other Pc refl refl;
          address = beside rd d v Addr1 Addr0 Val0 Val1 (second n rd d) refl refl;
          value = crossed rd d v Val0 Val1 (second n rd d) refl refl;
        };
        owned = spare-val-other Owned refl refl;
        number = spare-val-other Number refl refl;
        owns = λ i. refl;
        cells = λ x. refl;
      }

  -- the spare entry holds what was stored last, and its value's store leaves its address
  pub spare-addr-now : upd rd (field (spare_addr n rd d) d) v (field (spare_addr n (upd rd (field (spare_addr n rd d) d) v) d) d) ≡ v
  spare-addr-now =
      let p = field (spare_addr n rd d) d in
      ap (λ (f : Field). upd rd p v (field f d)) (spare-addr-kept n rd (upd rd p v) d (spare-addr-other Pc refl refl)) ∙ upd_same rd p v

  pub spare-val-now : upd rd (field (spare_val n rd d) d) v (field (spare_val n (upd rd (field (spare_val n rd d) d) v) d) d) ≡ v
  spare-val-now =
      let p = field (spare_val n rd d) d in
      ap (λ (f : Field). upd rd p v (field f d)) (spare-val-kept n rd (upd rd p v) d (spare-val-other Pc refl refl)) ∙ upd_same rd p v

  spare-val-beside : upd rd (field (spare_val n rd d) d) v (field (spare_addr n rd d) d) ≡ rd (field (spare_addr n rd d) d)
  unfolding spare_addr spare_val
  spare-val-beside = beside rd d v Addr0 Addr1 Val0 Val1 (second n rd d) refl refl

  pub spare-val-addr :
      upd rd (field (spare_val n rd d) d) v (field (spare_addr n (upd rd (field (spare_val n rd d) d) v) d) d)
      ≡ rd (field (spare_addr n rd d) d)
  spare-val-addr =
      let p = field (spare_val n rd d) d in
      ap (λ (f : Field). upd rd p v (field f d)) (spare-addr-kept n rd (upd rd p v) d (spare-val-other Pc refl refl)) ∙ spare-val-beside

-- ---- the next pc

private-step : (s : ℕ) (b : Bool) → s < 64 → cond b (s + 1) (s + 1 + 2 ^ 63) % 2 ^ 63 ≡ suc s
private-step s true l = omega arith
private-step s false l = omega arith

module _ (n : ℕ) (rd : Memory) (d s : ℕ) (small : s < 64) where
  pub next-step : upd rd (field Pc d) (switched n rd d s) (field Pc d) % 2 ^ 63 ≡ suc s
  unfolding switched
  next-step = rw (upd_same rd (field Pc d) (switched n rd d s)) (private-step s (second n rd d) small)

  next-active-addr : active_addr n (upd rd (field Pc d) (switched n rd d s)) d ≡ spare_addr n rd d
  next-active-addr = switched-addr n rd d s small _ (upd_same rd (field Pc d) (switched n rd d s))

  next-active-val : active_val n (upd rd (field Pc d) (switched n rd d s)) d ≡ spare_val n rd d
  next-active-val = switched-val n rd d s small _ (upd_same rd (field Pc d) (switched n rd d s))

  next-addr-kept : upd rd (field Pc d) (switched n rd d s) (field (spare_addr n rd d) d) ≡ rd (field (spare_addr n rd d) d)
  unfolding spare_addr
  next-addr-kept = reads rd d (switched n rd d s) Pc Addr0 Addr1 (second n rd d) refl refl

  next-val-kept : upd rd (field Pc d) (switched n rd d s) (field (spare_val n rd d) d) ≡ rd (field (spare_val n rd d) d)
  unfolding spare_val
  next-val-kept = reads rd d (switched n rd d s) Pc Val0 Val1 (second n rd d) refl refl

  -- the entry that was spare is the active one
  pub next_address :
      upd rd (field Pc d) (switched n rd d s) (field (active_addr n (upd rd (field Pc d) (switched n rd d s)) d) d) ≡ rd (field (spare_addr n rd d) d)
  next_address = ap (λ (f : Field). upd rd (field Pc d) (switched n rd d s) (field f d)) next-active-addr ∙ next-addr-kept

  pub next-value :
      upd rd (field Pc d) (switched n rd d s) (field (active_val n (upd rd (field Pc d) (switched n rd d s)) d) d) ≡ rd (field (spare_val n rd d) d)
  next-value = ap (λ (f : Field). upd rd (field Pc d) (switched n rd d s) (field f d)) next-active-val ∙ next-val-kept
