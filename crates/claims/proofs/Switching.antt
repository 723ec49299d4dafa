-- A store of worker d's pc: which entries there are then, and what the virtual memory is. Only d's entry changes. Where d has
-- none, or its target store is made, a pc of 0 changes nothing in the virtual memory (`Freed`); so after a pc that switches to
-- the spare entry only that entry's target is new. With `mirror-set`: the state that the memory then stands for, where d's
-- queue is set and the other queues are as they were.
use Prim.Native.Nat.{ℕ, suc, ◌+◌, ◌/◌, ◌%◌, ◌^◌, ◌<◌}
use mathlib.Core.Path.{◌≡◌, refl, sym, ap, subst, ◌∙◌}
use mathlib.Core.Logic.{◌≢◌}
use mathlib.Core.Bool.{Bool, true, false, cond, not}
use mathlib.Core.List.{List, [], ◌∷◌}
use native.Mathlib.Omega.{arith}
use native.Mathlib.Decide.{ℕ_discrete}
use lib.ListN.{length, get_or, set, length-set}
use lib.Seq.{get_or-set_same, get_or-set_other}
use lib.Dec.{eqb}
use borrow.Author.Tests.{ne_eqb}
use Rattle.image.specs.declared.Field.{Field}
use Rattle.image.specs.declared.Field.TheVariants.{Pc, Val0, Val1, Owned}
use Rattle.image.specs.Inner.Same.{same_field, same, upd}
use Rattle.image.specs.Place.{Place, cell, field, own, Memory}
use Rattle.image.proofs.Places.{same_refl, same_place, upd_same, upd_other}
use Rattle.working.specs.Cursor.{Cursor}
use Rattle.worklog.specs.Log.{second, spare_val, active_val, switched}
use Rattle.owed.specs.Owed.{target_of, named_step}
use Rattle.claims.specs.Reference.{Given, Job, State, state}
use Rattle.claims.proofs.Virtual.{Entry, due, over, misses, entry_of, virtual, virtual-none, virtual-due, virtual-cong}
use Rattle.claims.proofs.Invariant.{op_at, Live, JobOf, Mirrors}
use Rattle.claims.proofs.Entries.{active-apart, entry-none, entry_named, entry-cong, named_step_lem}
use Rattle.claims.proofs.Stutter.{job-frame}
use Rattle.claims.proofs.Apart.{Busy, Guarded, misses-guarded, target-guarded, virtual-settled}

-- ---- the pc that switches entries

spare-no-pc : (n : ℕ) (rd : Memory) (d : ℕ) → same_field (spare_val n rd d) Pc ≡ false
unfolding spare_val
spare-no-pc n rd d = by (second n rd d)
  where
    by : (b : Bool) → same_field (cond b Val0 Val1) Pc ≡ false
    by true = refl
    by false = refl

-- the memory once the pc names step k and the entry that was spare
abbrev pub after : ℕ → Memory → ℕ → ℕ → Memory
after n rd d k = upd rd (field Pc d) (switched n rd d k)

pub switched-some : (n : ℕ) (rd : Memory) (d k : ℕ) → switched n rd d k ≢ 0
unfolding switched
switched-some n rd d k = by (second n rd d)
  where
    by : (b : Bool) → cond b (k + 1) (k + 1 + 2 ^ 63) ≢ 0
    by true e = omega arith
    by false e = omega arith

module _ (n : ℕ) (rd : Memory) (d k : ℕ) (short : k < 64) where
  pub switched-names : switched n rd d k % 2 ^ 63 ≡ suc k
  unfolding switched
  switched-names = by (second n rd d)
    where
      by : (b : Bool) → cond b (k + 1) (k + 1 + 2 ^ 63) % 2 ^ 63 ≡ suc k
      by true = omega arith
      by false = omega arith

  switched-pc : after n rd d k (field Pc d) % 2 ^ 63 ≡ suc k
  switched-pc = rw (upd_same rd (field Pc d) (switched n rd d k)) switched-names

  pub switched-step : named_step n (after n rd d k) d ≡ k
  switched-step = named_step_lem n (after n rd d k) d k switched-pc

  -- the entry that was spare is active
  switched-active : active_val n (after n rd d k) d ≡ spare_val n rd d
  unfolding active_val spare_val second switched
  switched-active = rw (upd_same rd (field Pc d) (switched n rd d k)) (by (not (eqb (rd (field Pc d) / 2 ^ 63) 0)))
    where
      by : (b : Bool) → cond (not (eqb (cond b (k + 1) (k + 1 + 2 ^ 63) / 2 ^ 63) 0)) Val1 Val0 ≡ cond b Val0 Val1
      by true = let e : (k + 1) / 2 ^ 63 ≡ 0 = omega arith in rw e
      by false = let e : (k + 1 + 2 ^ 63) / 2 ^ 63 ≡ 1 = omega arith in rw e

  spare-stays : after n rd d k (field (spare_val n rd d) d) ≡ rd (field (spare_val n rd d) d)
  spare-stays = upd_other rd (field Pc d) (switched n rd d k) (field (spare_val n rd d) d) (rw (spare-no-pc n rd d))

  pub switched-entry : entry_of n (after n rd d k) d ≡ due (target_of d (op_at n rd d k)) (rd (field (spare_val n rd d) d))
  switched-entry =
      entry_named n (after n rd d k) d k switched-pc ∙ ap (due (target_of d (op_at n rd d k)))
      (ap (λ (f : Field). after n rd d k (field f d)) switched-active ∙ spare-stays)

-- ---- the entries after any pc of worker d

pub entry-others : (n : ℕ) (rd : Memory) (d v e : ℕ) → e ≢ d → entry_of n (upd rd (field Pc d) v) e ≡ entry_of n rd e
entry-others n rd d v e h =
    entry-cong n rd (upd rd (field Pc d) v) e (upd_other rd (field Pc d) v (field Pc e) (ne_eqb e d h)) (λ z i. refl)
    (λ z. upd_other rd (field Pc d) v (field (active_val n rd e) e) (rw (active-apart n rd e Pc refl refl)))

-- a pc of 0 leaves the virtual memory as it is
abbrev pub Freed : ℕ → ℕ → Memory → ℕ → Type 0
Freed n D rd d = (q : Place) → same q (field Pc d) ≡ false → virtual n (upd rd (field Pc d) 0) D q ≡ virtual n rd D q

zero-entry : (n : ℕ) (rd : Memory) (d : ℕ) → entry_of n (upd rd (field Pc d) 0) d ≡ Entry.none
zero-entry n rd d = entry-none n (upd rd (field Pc d) 0) d (upd_same rd (field Pc d) 0)

-- where worker d's entry does nothing at q
freed-at :
    (n D : ℕ) (rd : Memory) (d : ℕ) (q : Place) → same q (field Pc d) ≡ false → ((x : ℕ) → over (entry_of n rd d) q x ≡ x)
    → virtual n (upd rd (field Pc d) 0) D q ≡ virtual n rd D q
freed-at n D rd d q f h = virtual-cong n rd (upd rd (field Pc d) 0) D q (upd_other rd (field Pc d) 0 q f) (λ e l x. by e x (ℕ_discrete e d))
  where
    by : (e x : ℕ) → Dec (e ≡ d) → over (entry_of n (upd rd (field Pc d) 0) e) q x ≡ over (entry_of n rd e) q x
    by e x (yes i) = rw (i, zero-entry n rd d) (sym (h x))
    by e x (no i) = rw (entry-others n rd d 0 e i)

pub freed-resting : (n D : ℕ) (rd : Memory) (d : ℕ) → rd (field Pc d) ≡ 0 → Freed n D rd d
freed-resting n D rd d z q f = freed-at n D rd d q f (λ x. rw (entry-none n rd d z))

module _ (n D : ℕ) (rd : Memory) (cursor : ℕ → Cursor) (locks jumps : ℕ → ℕ) (given : ℕ → Given) (L : Live n D rd cursor locks jumps given) (d : ℕ) (l : d < D)
  where
    -- with a pc of 0, what worker d guards is as it stands
    freed-guarded : (q : Place) → same q (field Pc d) ≡ false → Guarded d (locks d) q → virtual n (upd rd (field Pc d) 0) D q ≡ rd q
    freed-guarded q f g = virtual-none n (upd rd (field Pc d) 0) D q (λ e m. by e m (ℕ_discrete e d)) ∙ upd_other rd (field Pc d) 0 q f
      where
        by : (e : ℕ) → e < D → Dec (e ≡ d) → misses (entry_of n (upd rd (field Pc d) 0) e) q
        by e m (yes i) = rw (i, zero-entry n rd d) tt
        by e m (no i) = rw (entry-others n rd d 0 e i) (misses-guarded n D rd cursor locks jumps given L d e l m i q g)

    pub freed-settled : (s : ℕ) → Busy n rd d (locks d) s → rd (target_of d (op_at n rd d s)) ≡ rd (field (active_val n rd d) d) → Freed n D rd d
    freed-settled s B made q f = by (same q (target_of d (op_at n rd d s))) refl
      where
        by : (t : Bool) → same q (target_of d (op_at n rd d s)) ≡ t → virtual n (upd rd (field Pc d) 0) D q ≡ virtual n rd D q
        by true e =
            let g : Guarded d (locks d) q = subst (Guarded d (locks d)) (sym (same_place q (target_of d (op_at n rd d s)) e))
            (target-guarded n rd d (locks d) s B)
            in
            freed-guarded q f g ∙ sym (virtual-settled n D rd cursor locks jumps given L d s l B made q g)
        by false e = freed-at n D rd d q f (λ x. rw (entry_named n rd d s B.named.pc, e))

    -- ---- after the switch

    module _ (k : ℕ) (short : k < 64) where
      -- at the new target stands the value that was spare
      pub virtual-new : Guarded d (locks d) (target_of d (op_at n rd d k))
          → virtual n (after n rd d k) D (target_of d (op_at n rd d k)) ≡ rd (field (spare_val n rd d) d)
      virtual-new g =
          let p = target_of d (op_at n rd d k) in
          virtual-due n (after n rd d k) D d p p (rd (field (spare_val n rd d) d)) l (switched-entry n rd d k short) (same_refl p)
          (λ e m h. rw (entry-others n rd d (switched n rd d k) e h) (misses-guarded n D rd cursor locks jumps given L d e l m h p g))

      -- and everywhere else what stood there
      pub virtual-old :
          Freed n D rd d → (q : Place) → same q (field Pc d) ≡ false → same q (target_of d (op_at n rd d k)) ≡ false
          → virtual n (after n rd d k) D q ≡ virtual n rd D q
      virtual-old F q f h =
          virtual-cong n (upd rd (field Pc d) 0) (after n rd d k) D q
          (upd_other rd (field Pc d) (switched n rd d k) q f ∙ sym (upd_other rd (field Pc d) 0 q f)) (λ e m x. by e x (ℕ_discrete e d))
          ∙ F q f
        where
          by : (e x : ℕ) → Dec (e ≡ d) → over (entry_of n (after n rd d k) e) q x ≡ over (entry_of n (upd rd (field Pc d) 0) e) q x
          by e x (yes i) = rw (i, switched-entry n rd d k short, zero-entry n rd d, h)
          by e x (no i) = rw (entry-others n rd d (switched n rd d k) e i, entry-others n rd d 0 e i)

-- ---- the state then

-- worker d's queue is q, the others' are as they were
pub mirror-set :
    (n D : ℕ) (rd : Memory) (d v : ℕ) (S : State) (cs : List ℕ) (q : List Job) → d < D → Mirrors n D rd S → length cs ≡ 512
    → ((x : ℕ) → x < 512 → get_or cs x 0 ≡ virtual n (upd rd (field Pc d) v) D (cell x))
    → ((e : ℕ) → e ≢ d → virtual n (upd rd (field Pc d) v) D (field Owned e) ≡ virtual n rd D (field Owned e))
    → ((e i : ℕ) → e ≢ d → virtual n (upd rd (field Pc d) v) D (own e i) ≡ virtual n rd D (own e i))
    → (v ≡ 0 → q ≡ []) → (v ≢ 0 → (j : Job) × (q ≡ j ∷ []) × JobOf n D (upd rd (field Pc d) v) d j)
    → Mirrors n D (upd rd (field Pc d) v) (state cs (set S.queues d q))
mirror-set n D rd d v S cs q l M size cells owned owns empty busy =
    record {
      size = size;
      cells = cells;
      workers = length-set S.queues d q ∙ M.workers;
      none = λ e m z. absent e m z (ℕ_discrete e d);
      some = λ e m z. present e m z (ℕ_discrete e d);
    }
  where
    here : get_or (set S.queues d q) d [] ≡ q
    here = get_or-set_same S.queues d q [] (rw M.workers l)

    pc : (e : ℕ) → e ≢ d → upd rd (field Pc d) v (field Pc e) ≡ rd (field Pc e)
    pc e h = upd_other rd (field Pc d) v (field Pc e) (ne_eqb e d h)

    absent : (e : ℕ) → e < D → upd rd (field Pc d) v (field Pc e) ≡ 0 → Dec (e ≡ d) → get_or (set S.queues d q) e [] ≡ []
    absent e m z (yes i) = rw i (here ∙ empty (sym (upd_same rd (field Pc d) v) ∙ (rw i at z)))
    absent e m z (no i) = get_or-set_other S.queues d e q [] i ∙ M.none e m (sym (pc e i) ∙ z)

    present : (e : ℕ) → e < D → upd rd (field Pc d) v (field Pc e) ≢ 0 → Dec (e ≡ d)
        → (j : Job) × (get_or (set S.queues d q) e [] ≡ j ∷ []) × JobOf n D (upd rd (field Pc d) v) e j
    present e m z (yes i) =
        let (j, r, J) = busy (λ y. z (rw i (upd_same rd (field Pc d) v ∙ y))) in
        subst (λ (f : ℕ). (j : Job) × (get_or (set S.queues d q) f [] ≡ j ∷ []) × JobOf n D (upd rd (field Pc d) v) f j) (sym i) (j, here ∙ r, J)
    present e m z (no i) =
        let (j, r, J) = M.some e m (λ y. z (pc e i ∙ y)) in (
          j,
          get_or-set_other S.queues d e q [] i ∙ r,
          job-frame n D rd (upd rd (field Pc d) v) e j (pc e i) (owned e i) (λ x y. owns e x i) refl (λ x. refl) J,
        )
