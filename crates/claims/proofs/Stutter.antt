-- Stores that change nothing in the mirror: the memory before and the memory after stand for the same state. `SameMirror` is all
-- that `Mirrors` looks at; `Unmirrored` the places that a store may touch without touching that, with its instances; and the store
-- that a worker's active entry is for makes what the virtual memory has already.
use Prim.Native.Nat.{ℕ, suc, ◌<◌}
use mathlib.Core.Path.{◌≡◌, refl, sym, ap, ◌∙◌}
use mathlib.Core.Logic.{◌≢◌}
use mathlib.Core.Bool.{Bool, true, false}
use native.Mathlib.Decide.{ℕ_discrete}
use lib.Dec.{eqb}
use borrow.Author.Tests.{eq-eqb, ne_eqb}
use Rattle.image.specs.declared.Field.{Field}
use Rattle.image.specs.declared.Field.TheVariants.{Count, Pc, Intent, Owned, Finished}
use Rattle.image.specs.Inner.Same.{same_field, same, upd}
use Rattle.image.specs.Place.{Place, cell, lock, field, own, step, Memory}
use Rattle.image.proofs.Places.{same_refl, same_place, upd_other}
use Rattle.worklog.specs.Log.{spare_addr, spare_val, active_val}
use Rattle.owed.specs.Owed.{target_of}
use Rattle.claims.specs.Reference.{Job, State}
use Rattle.claims.proofs.Virtual.{Entry, none, due, over, misses, entry_of, virtual, virtual-due, virtual-cong}
use Rattle.claims.proofs.Invariant.{op_at, Named, JobOf, Mirrors}
use Rattle.claims.proofs.Entries.{apart_by, apart_of, aimed, target-aimed, belongs, active-apart, active-spare-val, spare-val-apart, spare-addr-apart}
use Rattle.claims.proofs.Entries.{active-not-addr, named-cong, entry_named, entry-cong}

-- ---- all that the mirror looks at

pub record SameMirror (n D : ℕ) (rd rd' : Memory) : Type 0 where
  pub pcs : (d : ℕ) → d < D → rd' (field Pc d) ≡ rd (field Pc d)
  pub cells : (x : ℕ) → x < 512 → virtual n rd' D (cell x) ≡ virtual n rd D (cell x)
  pub owneds : (d : ℕ) → d < D → rd (field Pc d) ≢ 0 → virtual n rd' D (field Owned d) ≡ virtual n rd D (field Owned d)
  pub owns : (d : ℕ) → d < D → rd (field Pc d) ≢ 0 → (i : ℕ) → i < n → virtual n rd' D (own d i) ≡ virtual n rd D (own d i)
  pub counts : (d : ℕ) → d < D → rd (field Pc d) ≢ 0 → rd' (field Count d) ≡ rd (field Count d)
  pub steps : (d : ℕ) → d < D → rd (field Pc d) ≢ 0 → (i : ℕ) → rd' (step d i) ≡ rd (step d i)

pub job-frame :
    (n D : ℕ) (rd rd' : Memory) (d : ℕ) (j : Job) → rd' (field Pc d) ≡ rd (field Pc d) → virtual n rd' D (field Owned d) ≡ virtual n rd D (field Owned d)
    → ((i : ℕ) → i < n → virtual n rd' D (own d i) ≡ virtual n rd D (own d i)) → rd' (field Count d) ≡ rd (field Count d)
    → ((i : ℕ) → rd' (step d i) ≡ rd (step d i)) → JobOf n D rd d j → JobOf n D rd' d j
job-frame n D rd rd' d j p h o c s J =
    record {
      next = J.next ∙ ap suc (sym (named-cong n rd rd' d p));
      held = J.held ∙ sym h;
      size = J.size;
      own = λ i l. J.own i l ∙ sym (o i l);
      code = λ i l. J.code i (rw c at l) ∙ sym (s i);
    }

pub mirror-frame : (n D : ℕ) (rd rd' : Memory) (s : State) → SameMirror n D rd rd' → Mirrors n D rd s → Mirrors n D rd' s
mirror-frame n D rd rd' s f m =
    record {
      size = m.size;
      cells = λ x l. m.cells x l ∙ sym (f.cells x l);
      workers = m.workers;
      none = λ d l z. m.none d l (sym (f.pcs d l) ∙ z);
      some =
          λ d l z.
          let y : rd (field Pc d) ≢ 0 = λ e. z (f.pcs d l ∙ e) in
          let (j, q, J) = m.some d l y in
          (j, q, job-frame n D rd rd' d j (f.pcs d l) (f.owneds d l y) (f.owns d l y) (f.counts d l y) (f.steps d l y) J);
    }

-- ---- places that it does not look at

pub record Unmirrored (n D : ℕ) (rd : Memory) (p : Place) : Type 0 where
  pub pcs : (d : ℕ) → d < D → same (field Pc d) p ≡ false
  pub cells : (x : ℕ) → x < 512 → same (cell x) p ≡ false
  pub values : (d : ℕ) → d < D → rd (field Pc d) ≢ 0 → same (field (active_val n rd d) d) p ≡ false
  pub owneds : (d : ℕ) → d < D → rd (field Pc d) ≢ 0 → same (field Owned d) p ≡ false
  pub owns : (d : ℕ) → d < D → rd (field Pc d) ≢ 0 → (i : ℕ) → same (own d i) p ≡ false
  pub counts : (d : ℕ) → d < D → rd (field Pc d) ≢ 0 → same (field Count d) p ≡ false
  pub steps : (d : ℕ) → d < D → rd (field Pc d) ≢ 0 → (i : ℕ) → same (step d i) p ≡ false

-- the entries of a memory after a store that touches no pc, and no value or step of a worker under way
pub entry-upd :
    (n : ℕ) (rd : Memory) (p : Place) (v d : ℕ) → same (field Pc d) p ≡ false → (rd (field Pc d) ≢ 0 → (i : ℕ) → same (step d i) p ≡ false)
    → (rd (field Pc d) ≢ 0 → same (field (active_val n rd d) d) p ≡ false) → entry_of n (upd rd p v) d ≡ entry_of n rd d
entry-upd n rd p v d a b c =
    entry-cong n rd (upd rd p v) d (upd_other rd p v (field Pc d) a) (λ z i. upd_other rd p v (step d i) (b z i))
    (λ z. upd_other rd p v (field (active_val n rd d) d) (c z))

module _ (n D : ℕ) (rd : Memory) (p : Place) (v : ℕ) (k : Unmirrored n D rd p) where
  unmirrored-virtual : (q : Place) → same q p ≡ false → virtual n (upd rd p v) D q ≡ virtual n rd D q
  unmirrored-virtual q e =
      virtual-cong n rd (upd rd p v) D q (upd_other rd p v q e)
      (λ d l x. ap (λ (y : Entry). over y q x) (entry-upd n rd p v d (k.pcs d l) (k.steps d l) (k.values d l)))

  unmirrored-framed : SameMirror n D rd (upd rd p v)
  unmirrored-framed =
      record {
        pcs = λ d l. upd_other rd p v (field Pc d) (k.pcs d l);
        cells = λ x l. unmirrored-virtual (cell x) (k.cells x l);
        owneds = λ d l z. unmirrored-virtual (field Owned d) (k.owneds d l z);
        owns = λ d l z i m. unmirrored-virtual (own d i) (k.owns d l z i);
        counts = λ d l z. upd_other rd p v (field Count d) (k.counts d l z);
        steps = λ d l z i. upd_other rd p v (step d i) (k.steps d l z i);
      }

  pub mirror-kept : (s : State) → Mirrors n D rd s → Mirrors n D (upd rd p v) s
  mirror-kept s m = mirror-frame n D rd (upd rd p v) s unmirrored-framed m

-- ---- such places

module _ (n D : ℕ) (rd : Memory) where
  pub unmirrored-lock : (b : ℕ) → Unmirrored n D rd (lock b)
  unmirrored-lock b =
      record {
        pcs = λ d l. refl;
        cells = λ x l. refl;
        values = λ d l z. refl;
        owneds = λ d l z. refl;
        owns = λ d l z i. refl;
        counts = λ d l z. refl;
        steps = λ d l z i. refl;
      }

  -- a single word that is neither pc, nor count, nor owned set, nor any worker's value of the active entry
  pub unmirrored-field :
      (f : Field) (e : ℕ) → same_field Pc f ≡ false → same_field Count f ≡ false → same_field Owned f ≡ false
      → ((d : ℕ) → same (field (active_val n rd d) d) (field f e) ≡ false) → Unmirrored n D rd (field f e)
  unmirrored-field f e a b c v =
      record {
        pcs = λ d l. rw a;
        cells = λ x l. refl;
        values = λ d l z. v d;
        owneds = λ d l z. rw c;
        owns = λ d l z i. refl;
        counts = λ d l z. rw b;
        steps = λ d l z i. refl;
      }

  pub unmirrored-intent : (e : ℕ) → Unmirrored n D rd (field Intent e)
  unmirrored-intent e = unmirrored-field Intent e refl refl refl (λ d. rw (active-apart n rd d Intent refl refl))

  pub unmirrored-finished : (e : ℕ) → Unmirrored n D rd (field Finished e)
  unmirrored-finished e = unmirrored-field Finished e refl refl refl (λ d. rw (active-apart n rd d Finished refl refl))

  pub unmirrored-spare-addr : (e : ℕ) → Unmirrored n D rd (field (spare_addr n rd e) e)
  unmirrored-spare-addr e =
      unmirrored-field (spare_addr n rd e) e (spare-addr-apart n rd e Pc refl refl) (spare-addr-apart n rd e Count refl refl)
      (spare-addr-apart n rd e Owned refl refl)
      (λ d. rw (active-not-addr n rd d e))

  spare-val-unmirrored : (d e : ℕ) → same (field (active_val n rd d) d) (field (spare_val n rd e) e) ≡ false
  spare-val-unmirrored d e = by (ℕ_discrete d e)
    where
      by : Dec (d ≡ e) → same (field (active_val n rd d) d) (field (spare_val n rd e) e) ≡ false
      by (yes i) = rw (i, active-spare-val n rd e)
      by (no i) = apart_of (belongs d) (field (active_val n rd d) d) (field (spare_val n rd e) e) (eq-eqb d d refl) (ne_eqb e d (λ j. i (sym j)))

  pub unmirrored-spare-val : (e : ℕ) → Unmirrored n D rd (field (spare_val n rd e) e)
  unmirrored-spare-val e =
      unmirrored-field (spare_val n rd e) e (spare-val-apart n rd e Pc refl refl) (spare-val-apart n rd e Count refl refl)
      (spare-val-apart n rd e Owned refl refl)
      (λ d. spare-val-unmirrored d e)

  -- where the pc is 0, every word of a record but the pc, and the own words and instructions
  module _ (e : ℕ) (rests : rd (field Pc e) ≡ 0) where
    -- no worker under way
    other : (d : ℕ) → rd (field Pc d) ≢ 0 → eqb d e ≡ false
    other d z = ne_eqb d e (λ i. z (rw i rests))

    unmirrored-record : (p : Place) → belongs e p ≡ true → ((d : ℕ) → same (field Pc d) p ≡ false) → Unmirrored n D rd p
    unmirrored-record p b a =
        record {
          pcs = λ d l. a d;
          cells = λ x l. apart_by (belongs e) (cell x) p refl b;
          values = λ d l z. apart_by (belongs e) (field (active_val n rd d) d) p (other d z) b;
          owneds = λ d l z. apart_by (belongs e) (field Owned d) p (other d z) b;
          owns = λ d l z i. apart_by (belongs e) (own d i) p (other d z) b;
          counts = λ d l z. apart_by (belongs e) (field Count d) p (other d z) b;
          steps = λ d l z i. apart_by (belongs e) (step d i) p (other d z) b;
        }

    -- a single word that is not the pc
    pub unmirrored-resting : (f : Field) → same_field Pc f ≡ false → Unmirrored n D rd (field f e)
    unmirrored-resting f a = unmirrored-record (field f e) (eq-eqb e e refl) (λ d. rw a)

-- ---- the store that is due

-- a target is no pc, no count, no value of an entry, no instruction
pub aimed-field : (f : Field) (d : ℕ) (p : Place) → aimed p ≡ true → same_field f Owned ≡ false → same (field f d) p ≡ false
aimed-field f d p a e = apart_by aimed (field f d) p e a

pub aimed-step : (d i : ℕ) (p : Place) → aimed p ≡ true → same (step d i) p ≡ false
aimed-step d i p a = apart_by aimed (step d i) p refl a

-- a store at a target changes no entry
pub aimed-entry : (n : ℕ) (rd : Memory) (p : Place) (v d : ℕ) → aimed p ≡ true → entry_of n (upd rd p v) d ≡ entry_of n rd d
aimed-entry n rd p v d a =
    entry-upd n rd p v d (aimed-field Pc d p a refl) (λ z i. aimed-step d i p a)
    (λ z. aimed-field (active_val n rd d) d p a (active-apart n rd d Owned refl refl))

module _ (n D : ℕ) (rd : Memory) (d : ℕ) (p : Place) (v : ℕ) (below : d < D) (here : entry_of n rd d ≡ due p v) (aims : aimed p ≡ true)
    (others : (e : ℕ) → e < D → e ≢ d → misses (entry_of n rd e) p) where
  due-virtual : (q : Place) → virtual n (upd rd p v) D q ≡ virtual n rd D q
  due-virtual q = by (same q p) refl
    where
      by : (b : Bool) → same q p ≡ b → virtual n (upd rd p v) D q ≡ virtual n rd D q
      by true e =
          let i : q ≡ p = same_place q p e in
          let there : entry_of n (upd rd p v) d ≡ due p v = aimed-entry n rd p v d aims ∙ here in
          rw i
          (virtual-due n (upd rd p v) D d p p v below there (same_refl p) (λ f l h. rw (aimed-entry n rd p v f aims) (others f l h))
          ∙ sym (virtual-due n rd D d p p v below here (same_refl p) others))
      by false e = virtual-cong n rd (upd rd p v) D q (upd_other rd p v q e) (λ f l x. ap (λ (y : Entry). over y q x) (aimed-entry n rd p v f aims))

  due-framed : SameMirror n D rd (upd rd p v)
  due-framed =
      record {
        pcs = λ e l. upd_other rd p v (field Pc e) (aimed-field Pc e p aims refl);
        cells = λ x l. due-virtual (cell x);
        owneds = λ e l z. due-virtual (field Owned e);
        owns = λ e l z i m. due-virtual (own e i);
        counts = λ e l z. upd_other rd p v (field Count e) (aimed-field Count e p aims refl);
        steps = λ e l z i. upd_other rd p v (step e i) (aimed-step e i p aims);
      }

-- the target store of the step that the pc names, where no other entry is for its place
pub mirror-target :
    (n D : ℕ) (rd : Memory) (d s : ℕ) (S : State) → Named n rd d s → d < D
    → ((e : ℕ) → e < D → e ≢ d → misses (entry_of n rd e) (target_of d (op_at n rd d s))) → Mirrors n D rd S
    → Mirrors n D (upd rd (target_of d (op_at n rd d s)) (rd (field (active_val n rd d) d))) S
mirror-target n D rd d s S N l others m =
    let p = target_of d (op_at n rd d s) in
    let v = rd (field (active_val n rd d) d) in
    mirror-frame n D rd (upd rd p v) S (due-framed n D rd d p v l (entry_named n rd d s N.pc) (target-aimed d (op_at n rd d s)) others) m
