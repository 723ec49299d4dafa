-- Workers keep out of each other's words. `Busy` is what every phase with a pc that names a step says: the step, its entry, and
-- that the locks held after it are locked. So an entry's target is `Guarded`: a word of the worker's own record, or a cell
-- whose lock it has; no other worker's entry is for a guarded place, because a lock's owner word names one worker. With that
-- the virtual memory's owned set is the held set after the named step, and where the target store is made, what a worker
-- reads in the memory is what the reference machine reads.
use Prim.Native.Nat.{ℕ, suc, ◌+◌, ◌-◌, ◌/◌, ◌<◌, ◌≤◌}
use mathlib.Core.Path.{◌≡◌, refl, sym, subst, ◌∙◌}
use mathlib.Core.Logic.{◌≢◌, ◌⊎◌, inl, inr}
use mathlib.Core.Bool.{Bool, true, false, cond, ◌||◌}
use native.Mathlib.Omega.{arith}
use native.Mathlib.Decide.{ℕ_discrete}
use lib.ListN.{get_or}
use lib.Dec.{leb, ltb}
use borrow.Author.Tests.{ltb-true, ltb-false, lt-leb, eq-eqb, ne_eqb}
use Rattle.mask.specs.Mask.{has}
use Rattle.image.specs.declared.Field.{Field}
use Rattle.image.specs.declared.Field.TheVariants.{Pc, Intent, Owned}
use Rattle.image.specs.Place.{Place, cell, lock, field, own, step, Memory}
use Rattle.image.specs.Inner.Same.{same}
use Rattle.image.proofs.Places.{same_refl, same_place}
use Rattle.code.specs.declared.Expr.{Expr}
use Rattle.code.specs.declared.Op.{Op}
use Rattle.code.specs.declared.Op.TheVariants.{Acquire, Release, Assign, Jump, Finish, Unknown}
use Rattle.rules.specs.Rules.{covered}
use Rattle.section.proofs.Held.{after-release, after-assign}
use Rattle.working.specs.Cursor.{Cursor}
use Rattle.worklog.specs.Log.{operand, code_in, word_in, active_val}
use Rattle.owed.specs.Owed.{target_of, named_op}
use Rattle.claims.specs.Reference.{Given, Job, State, read_in}
use Rattle.claims.proofs.Virtual.{misses, entry_of, virtual, virtual-none, virtual-due}
use Rattle.claims.proofs.Invariant.{op_at, held_at, Sectioned, Named, Nearing, Due, Phase, resting, fresh, due, unlocking, unlocked, between, ended, Live}
use Rattle.claims.proofs.Invariant.{JobOf, Mirrors}
use Rattle.claims.proofs.Entries.{apart_of, belongs, entry-none, entry-due, entry_named, named-logs}
use Rattle.claims.proofs.Sets.{within-with, without-within}
use Rattle.claims.proofs.LiveTurn.{one-owner}

-- ---- every phase with a step named

pub record Busy (n : ℕ) (rd : Memory) (d locks s : ℕ) : Type 0 where
  pub sectioned : Sectioned n rd d
  pub named : Named n rd d s
  pub owned : (a : ℕ) (e : Expr) → op_at n rd d s ≡ Assign a e → rd (field Owned d) ≡ held_at n rd d (suc s)
  pub within : (b : ℕ) → has (held_at n rd d (suc s)) b ≡ true → has locks b ≡ true

module _ (n : ℕ) (rd : Memory) (d : ℕ) where
  release-within : (s a b : ℕ) → op_at n rd d s ≡ Release a → has (held_at n rd d (suc s)) b ≡ true → has (held_at n rd d s) b ≡ true
  release-within s a b o h = without-within (held_at n rd d s) a b (rw (after-release (code_in n rd d) s a o) at h)

  -- one of the held sets before and after a release
  either-within : (s a locks b : ℕ) → op_at n rd d s ≡ Release a → (locks ≡ held_at n rd d s) ⊎ (locks ≡ held_at n rd d (suc s))
      → has (held_at n rd d (suc s)) b ≡ true → has locks b ≡ true
  either-within s a locks b o (inl e) h = rw e (release-within s a b o h)
  either-within s a locks b o (inr e) h = rw e h

  released : (s locks : ℕ)
      → ((rd (field Owned d) ≡ held_at n rd d s) × (rd (field Intent d) ≡ held_at n rd d s)) ⊎
      ((rd (field Owned d) ≡ held_at n rd d (suc s)) × (rd (field Intent d) ≡ held_at n rd d (suc s)))
      → locks ≡ rd (field Intent d) → (locks ≡ held_at n rd d s) ⊎ (locks ≡ held_at n rd d (suc s))
  released s locks (inl e) i = inl (i ∙ e.1)
  released s locks (inr e) i = inr (i ∙ e.1)

  intends : (s locks : ℕ) → (rd (field Intent d) ≡ held_at n rd d s) ⊎ (rd (field Intent d) ≡ held_at n rd d (suc s)) → locks ≡ rd (field Intent d)
      → (locks ≡ held_at n rd d s) ⊎ (locks ≡ held_at n rd d (suc s))
  intends s locks (inl e) i = inl (i ∙ e)
  intends s locks (inr e) i = inr (i ∙ e)

  due-within : (s locks : ℕ) (x : Op) → op_at n rd d s ≡ x → Due n rd d s locks x → (b : ℕ) → has (held_at n rd d (suc s)) b ≡ true → has locks b ≡ true
  due-within s locks (Acquire a) o D b h = rw D.2 h
  due-within s locks (Release a) o D b h = either-within s a locks b o (released s locks D.0 D.1) h
  due-within s locks (Assign a e) o D b h = rw (D.2, ← after-assign (code_in n rd d) s a e o) h
  due-within s locks (Jump a c) o D b h = absurd D
  due-within s locks Finish o D b h = absurd D
  due-within s locks Unknown o D b h = absurd D

  due-owned : (s locks : ℕ) (x : Op) → op_at n rd d s ≡ x → Due n rd d s locks x → (a : ℕ) (e : Expr) → op_at n rd d s ≡ Assign a e
      → rd (field Owned d) ≡ held_at n rd d (suc s)
  due-owned s locks (Acquire c) o D a e p = cc
  due-owned s locks (Release c) o D a e p = cc
  due-owned s locks (Assign c f) o D a e p = D.0 ∙ sym (after-assign (code_in n rd d) s a e p)
  due-owned s locks (Jump c f) o D a e p = absurd D
  due-owned s locks Finish o D a e p = absurd D
  due-owned s locks Unknown o D a e p = absurd D

  -- what is held before a step is locked in each of its turns
  pub near_within : (s t h locks : ℕ) (x : Op) → Nearing n rd d s t h locks x → (b : ℕ) → has h b ≡ true → has locks b ≡ true
  near_within s t h locks (Acquire a) N b l = by (leb t 1) refl
    where
      by : (c : Bool) → leb t 1 ≡ c → has locks b ≡ true
      by true e = rw (N.2, e) l
      by false e = rw (N.2, e) (within-with h a b l)
  near_within s t h locks (Release a) N b l = rw N.2 l
  near_within s t h locks (Assign a e) N b l = rw N.2 l
  near_within s t h locks (Jump a c) N b l = rw N.2 l
  near_within s t h locks Finish N b l = rw N.2 l
  near_within s t h locks Unknown N b l = absurd N

  pub busy-due : (s locks : ℕ) → Sectioned n rd d → Named n rd d s → Due n rd d s locks (op_at n rd d s) → Busy n rd d locks s
  busy-due s locks S N D =
      record { sectioned = S; named = N; owned = due-owned s locks (op_at n rd d s) refl D; within = due-within s locks (op_at n rd d s) refl D }

  pub busy-between :
      (s k t locks : ℕ) → Sectioned n rd d → Named n rd d s → rd (field Owned d) ≡ held_at n rd d k → held_at n rd d k ≡ held_at n rd d (suc s)
      → Nearing n rd d k t (held_at n rd d k) locks (op_at n rd d k) → Busy n rd d locks s
  busy-between s k t locks S N o h K =
      record { sectioned = S; named = N; owned = λ a e p. o ∙ h; within = λ b l. near_within k t (held_at n rd d k) locks (op_at n rd d k) K b (rw h l) }

  pub busy-of : (g : Given) {c : Cursor} {locks j : ℕ} → Phase n rd d g c locks j → rd (field Pc d) ≢ 0 → (s : ℕ) × Busy n rd d locks s
  busy-of g (resting a b e f) z = absurd (z b)
  busy-of g (fresh t locks S H p o N) z = absurd (z p)
  busy-of g (due s locks S N D) z = (s, busy-due s locks S N D)
  busy-of g (unlocking s a locks S N o w i l) z =
      (s, record { sectioned = S; named = N; owned = λ b e p. w; within = λ b h. either-within s a locks b o (intends s locks i l) h })
  busy-of g (unlocked s a locks S N o w i l) z = (s, record { sectioned = S; named = N; owned = λ b e p. w; within = λ b h. rw l h })
  busy-of g (between s k t locks j S N m J b o h K) z = (s, busy-between s k t locks S N o h K)
  busy-of g (ended s S p o i b f) z = absurd (z p)

-- ---- guarded places

-- a word of worker d's record, or a cell whose lock is one of these
abbrev pub Guarded : ℕ → ℕ → Place → Type 0
Guarded d locks (cell x) = (x < 512) × (has locks (x / 8) ≡ true)
Guarded d locks (lock b) = ⊥
Guarded d locks (field f e) = e ≡ d
Guarded d locks (own e i) = e ≡ d
Guarded d locks (step e i) = e ≡ d

pub covered-guarded : (d h locks x : ℕ) → ((b : ℕ) → has h b ≡ true → has locks b ≡ true) → covered h x ≡ true → Guarded d locks (operand d x)
unfolding operand
covered-guarded d h locks x w c = by (ltb x 512) refl
  where
    by : (b : Bool) → ltb x 512 ≡ b → Guarded d locks (cond b (cell x) (own d (x - 512)))
    by true e =
        let l : x < 512 = ltb-true x 512 e in
        let g : (false || has h (x / 8)) ≡ true = rw (lt-leb 512 x l) at c in
        (l, w (x / 8) g)
    by false e = refl

-- the target of the named step is guarded
pub target-guarded : (n : ℕ) (rd : Memory) (d locks s : ℕ) → Busy n rd d locks s → Guarded d locks (target_of d (op_at n rd d s))
target-guarded n rd d locks s B = by (op_at n rd d s) refl
  where
    by : (x : Op) → op_at n rd d s ≡ x → Guarded d locks (target_of d x)
    by (Acquire a) o = refl
    by (Release a) o = refl
    by (Assign a e) o =
        covered-guarded d (held_at n rd d (suc s)) locks a B.within
        (rw (after-assign (code_in n rd d) s a e o) (B.sectioned.valid.targets s a e B.named.below o))
    by (Jump a b) o = refl
    by Finish o = refl
    by Unknown o = refl

pub field-operand : (f : Field) (e d a : ℕ) → same (field f e) (operand d a) ≡ false
unfolding operand
field-operand f e d a = by (ltb a 512)
  where
    by : (b : Bool) → same (field f e) (cond b (cell a) (own d (a - 512))) ≡ false
    by true = refl
    by false = refl

-- a word of worker d's record is no target of another worker
target-elsewhere : (d e : ℕ) (x : Op) → e ≢ d → belongs d (target_of e x) ≡ false
unfolding operand
target-elsewhere d e (Acquire a) h = ne_eqb e d h
target-elsewhere d e (Release a) h = ne_eqb e d h
target-elsewhere d e (Assign a y) h = by (ltb a 512)
  where
    by : (b : Bool) → belongs d (cond b (cell a) (own e (a - 512))) ≡ false
    by true = refl
    by false = ne_eqb e d h
target-elsewhere d e (Jump a b) h = ne_eqb e d h
target-elsewhere d e Finish h = ne_eqb e d h
target-elsewhere d e Unknown h = ne_eqb e d h

pub misses-none : (n : ℕ) (rd : Memory) (e : ℕ) (q : Place) → rd (field Pc e) ≡ 0 → misses (entry_of n rd e) q
misses-none n rd e q z = rw (entry-none n rd e z) tt

-- no other worker's entry is for a word of worker d's record
pub misses-record : (n : ℕ) (rd : Memory) (d e : ℕ) (q : Place) → e ≢ d → belongs d q ≡ true → misses (entry_of n rd e) q
misses-record n rd d e q h b = by (ℕ_discrete (rd (field Pc e)) 0)
  where
    by : Dec (rd (field Pc e) ≡ 0) → misses (entry_of n rd e) q
    by (yes z) = misses-none n rd e q z
    by (no z) = rw (entry-due n rd e z) (apart_of (belongs d) q (target_of e (named_op n rd e)) b (target-elsewhere d e (named_op n rd e) h))

-- ---- in a live memory

module _ (n D : ℕ) (rd : Memory) (cursor : ℕ → Cursor) (locks jumps : ℕ → ℕ) (given : ℕ → Given) (L : Live n D rd cursor locks jumps given) where
  pub busy : (e : ℕ) → e < D → rd (field Pc e) ≢ 0 → (s : ℕ) × Busy n rd e (locks e) s
  busy e l z = busy-of n rd e (given e) (L.phase e l) z

  misses-cell : (d e x : ℕ) → d < D → e < D → e ≢ d → x < 512 → has (locks d) (x / 8) ≡ true → misses (entry_of n rd e) (cell x)
  misses-cell d e x l m h lx p = by (ℕ_discrete (rd (field Pc e)) 0)
    where
      apart : (s : ℕ) → Busy n rd e (locks e) s → (t : Bool) → same (cell x) (target_of e (op_at n rd e s)) ≡ t
          → same (cell x) (target_of e (op_at n rd e s)) ≡ false
      apart s B true i =
          let k : Guarded e (locks e) (cell x) = subst (Guarded e (locks e)) (sym (same_place (cell x) (target_of e (op_at n rd e s)) i))
          (target-guarded n rd e (locks e) s B) in
          absurd (h (one-owner L (x / 8) e d (omega arith) m l k.1 p))
      apart s B false i = i

      by : Dec (rd (field Pc e) ≡ 0) → misses (entry_of n rd e) (cell x)
      by (yes z) = misses-none n rd e (cell x) z
      by (no z) = let (s, B) = busy e m z in rw (entry_named n rd e s B.named.pc) (apart s B (same (cell x) (target_of e (op_at n rd e s))) refl)

  -- no other worker's entry is for a place that worker d guards
  pub misses-guarded : (d e : ℕ) → d < D → e < D → e ≢ d → (q : Place) → Guarded d (locks d) q → misses (entry_of n rd e) q
  misses-guarded d e l m h (cell x) g = misses-cell d e x l m h g.0 g.1
  misses-guarded d e l m h (lock b) g = absurd g
  misses-guarded d e l m h (field f c) g = misses-record n rd d e (field f c) h (eq-eqb c d g)
  misses-guarded d e l m h (own c i) g = misses-record n rd d e (own c i) h (eq-eqb c d g)
  misses-guarded d e l m h (step c i) g = misses-record n rd d e (step c i) h (eq-eqb c d g)

  -- ---- what stands in the virtual memory

  -- a guarded place that the worker's own entry misses
  virtual-missed : (d : ℕ) → d < D → (q : Place) → Guarded d (locks d) q → misses (entry_of n rd d) q → virtual n rd D q ≡ rd q
  virtual-missed d l q g m = virtual-none n rd D q (λ e k. by e k (ℕ_discrete e d))
    where
      by : (e : ℕ) → e < D → Dec (e ≡ d) → misses (entry_of n rd e) q
      by e k (yes i) = rw i m
      by e k (no i) = misses-guarded d e l k i q g

  -- where nothing is under way, what a worker guards is as it stands
  pub virtual-resting : (d : ℕ) → d < D → rd (field Pc d) ≡ 0 → (q : Place) → Guarded d (locks d) q → virtual n rd D q ≡ rd q
  virtual-resting d l z q g = virtual-missed d l q g (misses-none n rd d q z)

  module _ (d s : ℕ) (l : d < D) (B : Busy n rd d (locks d) s) where
    -- at the target stands the entry's value
    pub virtual-target : virtual n rd D (target_of d (op_at n rd d s)) ≡ rd (field (active_val n rd d) d)
    virtual-target =
        let p = target_of d (op_at n rd d s) in
        virtual-due n rd D d p p (rd (field (active_val n rd d) d)) l (entry_named n rd d s B.named.pc) (same_refl p)
        (λ e m h. misses-guarded d e l m h p (target-guarded n rd d (locks d) s B))

    -- and at another guarded place what stands there now
    pub virtual-beside : (q : Place) → Guarded d (locks d) q → same q (target_of d (op_at n rd d s)) ≡ false → virtual n rd D q ≡ rd q
    virtual-beside q g e = virtual-missed d l q g (rw (entry_named n rd d s B.named.pc) e)

    -- once the target store is made, every guarded place is as it stands
    pub virtual-settled : rd (target_of d (op_at n rd d s)) ≡ rd (field (active_val n rd d) d) → (q : Place) → Guarded d (locks d) q → virtual n rd D q ≡ rd q
    virtual-settled made q g = by (same q (target_of d (op_at n rd d s))) refl
      where
        by : (t : Bool) → same q (target_of d (op_at n rd d s)) ≡ t → virtual n rd D q ≡ rd q
        by true e = rw (same_place q (target_of d (op_at n rd d s)) e) (virtual-target ∙ sym made)
        by false e = virtual-beside q g e

    -- the owned set is the held set after the named step
    pub virtual-owned : virtual n rd D (field Owned d) ≡ held_at n rd d (suc s)
    virtual-owned = by (op_at n rd d s) refl
      where
        by : (x : Op) → op_at n rd d s ≡ x → virtual n rd D (field Owned d) ≡ held_at n rd d (suc s)
        by (Acquire a) o = (rw o at virtual-target) ∙ named-logs n rd d s B.named (Acquire a) o
        by (Release a) o = (rw o at virtual-target) ∙ named-logs n rd d s B.named (Release a) o
        by (Assign a e) o = virtual-beside (field Owned d) refl (rw o (field-operand Owned d d a)) ∙ B.owned a e o
        by (Jump a b) o = absurd (named-logs n rd d s B.named (Jump a b) o)
        by Finish o = absurd (named-logs n rd d s B.named Finish o)
        by Unknown o = absurd (named-logs n rd d s B.named Unknown o)

    -- what the worker reads where its locks are held, the machine reads
    pub reads_same :
        rd (target_of d (op_at n rd d s)) ≡ rd (field (active_val n rd d) d) → (S : State) (j : Job) → Mirrors n D rd S → JobOf n D rd d j
        → (x : ℕ) → covered (held_at n rd d (suc s)) x ≡ true → x < 512 + n → read_in S.cells j.own x ≡ word_in n rd d x
    unfolding read_in operand
    reads_same made S j M J x c h = by (ltb x 512) refl
      where
        settled : virtual n rd D (operand d x) ≡ rd (operand d x)
        settled = virtual-settled made (operand d x) (covered-guarded d (held_at n rd d (suc s)) (locks d) x B.within c)

        by : (b : Bool) → ltb x 512 ≡ b → cond (ltb x 512) (get_or S.cells x 0) (get_or j.own (x - 512) 0) ≡ rd (cond (ltb x 512) (cell x) (own d (x - 512)))
        by true e = rw e (M.cells x (ltb-true x 512 e) ∙ (rw e at settled))
        by false e = let g : 512 ≤ x = ltb-false x 512 e in rw e (J.own (x - 512) (omega arith) ∙ (rw e at settled))

  -- the machine's owned sets have only locks of the worker
  pub held-within : (e b : ℕ) → e < D → rd (field Pc e) ≢ 0 → has (virtual n rd D (field Owned e)) b ≡ true → has (locks e) b ≡ true
  held-within e b l z h = let (s, B) = busy e l z in B.within b (rw (virtual-owned e s l B) at h)
