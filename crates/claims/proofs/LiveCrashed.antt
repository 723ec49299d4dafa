-- A live memory is one that a recovery accepts: `live-crashed`. For one worker, by where it stands: its section is one that
-- passes or none, its pc is right, what it is owed it has locked, and what it has locked it intends (`Stands`). A lock's owner
-- word has one value, so no two workers are owed one lock.
use Prim.Native.Nat.{ℕ, suc, ◌+◌, ◌%◌, ◌^◌}
use mathlib.Core.Path.{◌≡◌, refl, sym, ◌∙◌}
use mathlib.Core.Bool.{Bool, true, false, cond, ◌||◌, false≢true}
use mathlib.Core.Logic.{◌⊎◌, inl, inr}
use native.Mathlib.Omega.{arith}
use lib.Dec.{leb, eqb}
use borrow.Author.Tests.{lt-ltb, le-leb, eqb-true, eq-eqb, ne_eqb}
use Rattle.base.proofs.Bools.{and_both}
use Rattle.mask.specs.Mask.{has, with}
use Rattle.image.specs.declared.Field.TheVariants.{Count, Pc, Intent, Owned}
use Rattle.image.specs.Place.{lock, field, Memory}
use Rattle.image.specs.Image.{index_of}
use Rattle.code.specs.declared.Op.{Op}
use Rattle.code.specs.declared.Op.TheVariants.{Acquire, Release, Assign, Jump, Finish, Unknown}
use Rattle.section.proofs.Facts.{valid-passed}
use Rattle.section.proofs.Held.{after-release}
use Rattle.working.specs.Cursor.{Cursor}
use Rattle.worklog.specs.Log.{code_in, active_addr}
use Rattle.owed.specs.Owed.{target_of, owed_of, owed, named_step, named_op, entry_ok}
use Rattle.soundness.specs.Sound.{section_ok, pc_ok}
use Rattle.claims.specs.Reference.{Given}
use Rattle.claims.proofs.Invariant.{op_at, held_at, Sectioned, logs_held, Named, Nearing, Due, Phase, resting, fresh, due, unlocking, unlocked, between}
use Rattle.claims.proofs.Invariant.{ended, Live, Crashed}
use Rattle.claims.proofs.Covers.{Covered, Parts, parts-crashed}
use Rattle.claims.proofs.Sets.{within_none, within-with, without-within}
use Rattle.claims.proofs.Entries.{named_step_lem}

-- ---- sets

pub covered_same : (a b : ℕ) → a ≡ b → Covered a b
covered_same a b e c l h = rw (← e) h

-- ---- one worker

module _ (n : ℕ) (rd : Memory) (d : ℕ) where
  pub record Stands (locks : ℕ) : Type 0 where
    pub section : section_ok n rd d ≡ true
    pub pc : pc_ok n rd d ≡ true
    pub has : Covered (owed n rd d) locks
    pub meant : Covered locks (rd (field Intent d))

  -- no section, or one that passes
  pub section-none : rd (field Count d) ≡ 0 → rd (field Pc d) ≡ 0 → section_ok n rd d ≡ true
  unfolding section_ok
  section-none c p = rw (c, p)

  pub section-some : Sectioned n rd d → section_ok n rd d ≡ true
  unfolding section_ok
  section-some s =
      let v = s.valid in
      rw (
        ne_eqb (rd (field Count d)) 0 (λ e. omega (arith, v.least)),
        valid-passed n (rd (field Count d)) (code_in n rd d) v,
        le-leb _ _ s.numbered,
        le-leb
            _ _ s.unfinished,
      )

  -- a pc that is 0
  pub pc-none : rd (field Pc d) ≡ 0 → rd (field Owned d) ≡ 0 → pc_ok n rd d ≡ true
  unfolding pc_ok
  pc-none p o = rw (p, o)

  pub owed_none : rd (field Pc d) ≡ 0 → owed n rd d ≡ 0
  unfolding owed
  owed_none p = rw p

  pub named_some : (s : ℕ) → rd (field Pc d) % 2 ^ 63 ≡ suc s → eqb (rd (field Pc d)) 0 ≡ false
  named_some s e = ne_eqb (rd (field Pc d)) 0 (λ z. omega arith)

  -- what is owed at step s
  abbrev due_to : ℕ → Op → ℕ
  due_to s x = owed_of x (held_at n rd d (suc s)) (rd (field Owned d))

  pub owed-named : (s : ℕ) → rd (field Pc d) % 2 ^ 63 ≡ suc s → owed n rd d ≡ due_to s (op_at n rd d s)
  unfolding owed named_op
  owed-named s e = rw (named_some s e, named_step_lem n rd d s e)

  private-entry : (s : ℕ) (x : Op) → named_step n rd d ≡ s → rd (field (active_addr n rd d) d) ≡ index_of n (target_of d x) → logs_held n rd d s x
      → entry_ok n rd d x ≡ true
  private-entry s (Acquire a) e h l = rw e (and_both _ _ (eq-eqb _ _ h) (eq-eqb _ _ l))
  private-entry s (Release a) e h l = rw e (and_both _ _ (eq-eqb _ _ h) (eq-eqb _ _ l))
  private-entry s (Assign a x) e h l = eq-eqb _ _ h
  private-entry s (Jump a b) e h l = absurd l
  private-entry s Finish e h l = absurd l
  private-entry s Unknown e h l = absurd l

  private-either : (o h g : ℕ) → (o ≡ h) ⊎ (o ≡ g) → (eqb o h || eqb o g) ≡ true
  private-either o h g (inl e) = rw (eq-eqb o h e)
  private-either o h g (inr e) = by (eqb o h)
    where
      by : (t : Bool) → (t || eqb o g) ≡ true
      by true = refl
      by false = eq-eqb o g e

  pub pc-named : (s : ℕ) → Named n rd d s → (rd (field Owned d) ≡ held_at n rd d s) ⊎ (rd (field Owned d) ≡ held_at n rd d (suc s)) → pc_ok n rd d ≡ true
  unfolding pc_ok named_op
  pc-named s m o =
      let st = named_step_lem n rd d s m.pc in
      let z = named_some s m.pc in
      let one = le-leb 1 (rd (field Pc d) % 2 ^ 63) (omega arith) in
      let en = private-entry s (op_at n rd d s) st m.address m.logs in
      let ow = private-either (rd (field Owned d)) (held_at n rd d s) (held_at n rd d (suc s)) o in
      rw (z, one, st, lt-ltb s (rd (field Count d)) m.below, en, ow)

  -- ---- before a step's pc is stored

  private-grow : (h a : ℕ) (p q : Bool) → (p ≡ true → q ≡ true) → Covered h (cond q h (with h a)) × Covered (cond q h (with h a)) (cond p h (with h a))
  private-grow h a true true f = (covered_same h h refl, covered_same h h refl)
  private-grow h a true false f = absurd (false≢true (f refl))
  private-grow h a false true f = (covered_same h h refl, λ c l. within-with h a c)
  private-grow h a false false f = (λ c l. within-with h a c, covered_same (with h a) (with h a) refl)

  private-level : (h locks : ℕ) → rd (field Intent d) ≡ h → locks ≡ h → Covered h locks × Covered locks (rd (field Intent d))
  private-level h locks i l = (covered_same h locks (sym l), covered_same locks (rd (field Intent d)) (l ∙ sym i))

  pub nearing-locks : (s t h locks : ℕ) (x : Op) → Nearing n rd d s t h locks x → Covered h locks × Covered locks (rd (field Intent d))
  nearing-locks s t h locks (Acquire a) r =
      rw (r.1, r.2) (private-grow h a (eqb t 0) (leb t 1) (λ e. let z : t ≡ 0 = eqb-true t 0 e in le-leb t 1 (omega arith)))
  nearing-locks s t h locks (Release a) r = private-level h locks r.1 r.2
  nearing-locks s t h locks (Assign a e) r = private-level h locks r.1 r.2
  nearing-locks s t h locks (Jump a b) r = private-level h locks r.1 r.2
  nearing-locks s t h locks Finish r = private-level h locks r.1 r.2
  nearing-locks s t h locks Unknown r = absurd r

  -- ---- while a target store is due

  private-held : (s locks : ℕ) (x : Op) → Due n rd d s locks x → (rd (field Owned d) ≡ held_at n rd d s) ⊎ (rd (field Owned d) ≡ held_at n rd d (suc s))
  private-held s locks (Acquire a) r = r.0
  private-held s locks (Release a) r = by r.0
    where
      by : ((rd (field Owned d) ≡ held_at n rd d s) × (rd (field Intent d) ≡ held_at n rd d s)) ⊎
          ((rd (field Owned d) ≡ held_at n rd d (suc s)) × (rd (field Intent d) ≡ held_at n rd d (suc s)))
          → (rd (field Owned d) ≡ held_at n rd d s) ⊎ (rd (field Owned d) ≡ held_at n rd d (suc s))
      by (inl e) = inl e.0
      by (inr e) = inr e.0
  private-held s locks (Assign a e) r = inl r.0
  private-held s locks (Jump a b) r = absurd r
  private-held s locks Finish r = absurd r
  private-held s locks Unknown r = absurd r

  private-dues : (s locks : ℕ) (x : Op) → Due n rd d s locks x → (due_to s x ≡ locks) × (locks ≡ rd (field Intent d))
  private-dues s locks (Acquire a) r = (sym r.2, r.2 ∙ sym r.1)
  private-dues s locks (Release a) r = by r.0
    where
      by : ((rd (field Owned d) ≡ held_at n rd d s) × (rd (field Intent d) ≡ held_at n rd d s)) ⊎
          ((rd (field Owned d) ≡ held_at n rd d (suc s)) × (rd (field Intent d) ≡ held_at n rd d (suc s)))
          → (rd (field Owned d) ≡ locks) × (locks ≡ rd (field Intent d))
      by (inl e) = (e.0 ∙ (sym e.1 ∙ sym r.1), r.1)
      by (inr e) = (e.0 ∙ (sym e.1 ∙ sym r.1), r.1)
  private-dues s locks (Assign a e) r = (r.0 ∙ sym r.2, r.2 ∙ sym r.1)
  private-dues s locks (Jump a b) r = absurd r
  private-dues s locks Finish r = absurd r
  private-dues s locks Unknown r = absurd r

  -- after a release's target store it is owed the smaller set, which is in the one that it intends
  private-smaller : (s a : ℕ) → op_at n rd d s ≡ Release a → (rd (field Intent d) ≡ held_at n rd d s) ⊎ (rd (field Intent d) ≡ held_at n rd d (suc s))
      → Covered (held_at n rd d (suc s)) (rd (field Intent d))
  private-smaller s a o (inl e) = rw (e, after-release (code_in n rd d) s a o) (λ c l. without-within (held_at n rd d s) a c)
  private-smaller s a o (inr e) = covered_same _ _ (sym e)

  private-owned : (s : ℕ) (x : Op) (h : ℕ) → rd (field Owned d) ≡ h → h ≡ held_at n rd d (suc s) → due_to s x ≡ h
  private-owned s (Acquire a) h e f = sym f
  private-owned s (Release a) h e f = e
  private-owned s (Assign a x) h e f = e
  private-owned s (Jump a b) h e f = e
  private-owned s Finish h e f = e
  private-owned s Unknown h e f = e

  -- with the set after step s owned, it is what is owed
  private-after : (s : ℕ) → Named n rd d s → rd (field Owned d) ≡ held_at n rd d (suc s) → owed n rd d ≡ held_at n rd d (suc s)
  private-after s m o = owed-named s m.pc ∙ private-owned s (op_at n rd d s) _ o refl

  pub stands : {g : Given} {c : Cursor} {locks j : ℕ} → Phase n rd d g c locks j → Stands locks
  stands (resting c p i o) =
      record { section = section-none c p; pc = pc-none p o; has = covered_same _ _ (owed_none p); meant = λ c l. within_none _ c }
  stands (fresh t locks s f p o r) =
      record {
        section = section-some s;
        pc = pc-none p o;
        has = rw (owed_none p) (λ c l. within_none locks c);
        meant = (nearing-locks 0 t 0 locks (op_at n rd d 0) r).1;
      }
  stands (due s locks v m r) =
      let e = private-dues s locks (op_at n rd d s) r in
      record {
        section = section-some v;
        pc = pc-named s m (private-held s locks (op_at n rd d s) r);
        has = covered_same _ _ (owed-named s m.pc ∙ e.0);
        meant = covered_same _ _ e.1;
      }
  stands (unlocking s a locks v m x o i l) =
      record {
        section = section-some v;
        pc = pc-named s m (inr o);
        has = rw (private-after s m o, l) (private-smaller s a x i);
        meant = covered_same _ _ l;
      }
  stands (unlocked s a locks v m x o i l) =
      record {
        section = section-some v;
        pc = pc-named s m (inr o);
        has = covered_same _ _ (private-after s m o ∙ sym l);
        meant = rw l (private-smaller s a x i);
      }
  stands (between s k t locks j v m x u b o e r) =
      let w = nearing-locks k t (held_at n rd d k) locks (op_at n rd d k) r in
      record {
        section = section-some v;
        pc = pc-named s m (inr (o ∙ e));
        has = rw (private-after s m (o ∙ e), ← e) w.0;
        meant = w.1;
      }
  stands (ended s v p o i b x) =
      record { section = section-some v; pc = pc-none p o; has = covered_same _ _ (owed_none p); meant = λ c l. within_none _ c }

-- ---- all workers

module _ (n D : ℕ) (rd : Memory) (cursor : ℕ → Cursor) (locks jumps : ℕ → ℕ) (given : ℕ → Given) where
  pub live-parts : Live n D rd cursor locks jumps given → Parts n D rd
  live-parts v =
      record {
        section = λ d l. (stands n rd d (v.phase d l)).section;
        pc = λ d l. (stands n rd d (v.phase d l)).pc;
        meant = λ d l b u h. let s = stands n rd d (v.phase d l) in s.meant b u (s.has b u h);
        alone = λ b u d e l m g h.
            let x : rd (lock b) ≡ d + 1 = v.locked b d u l ((stands n rd d (v.phase d l)).has b u g) in
            let y : rd (lock b) ≡ e + 1 = v.locked b e u m ((stands n rd e (v.phase e m)).has b u h) in
            omega arith;
        names = λ b u d e. let o = v.owner b d u e in (o.0, (stands n rd d (v.phase d o.0)).meant b u o.1);
      }

  pub live-crashed : Live n D rd cursor locks jumps given → Crashed n D rd
  live-crashed v = parts-crashed n D rd (live-parts v)
