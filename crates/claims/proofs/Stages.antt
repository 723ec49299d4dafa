-- Every prefix of a recovery's stores leaves a memory that a recovery accepts: `plan-prefix`. What all such memories have in
-- common with the first is `Kept`: only locks, intents, and the counts of workers whose pc is 0 change; each intent is the first
-- one or what is owed; each count is the first one or 0; a lock's word names a worker that intends the lock now. Every store of
-- every stage keeps it; the second stage's stores do since all locks are free after the first (`unlocked-free`).
use Prim.Native.Nat.{ℕ, suc, zero, ◌+◌, ◌<◌}
use mathlib.Core.Path.{◌≡◌, refl, ap, sym, ◌∙◌}
use mathlib.Core.Bool.{Bool, true, false, cond, ◌||◌, not}
use mathlib.Core.List.{◌++◌}
use mathlib.Core.Logic.{◌⊎◌, inl, inr}
use native.Mathlib.Omega.{arith}
use native.Mathlib.Decide.{ℕ_discrete}
use lib.ListN.{take}
use lib.Dec.{eqb}
use borrow.Author.Tests.{eqb-true}
use Rattle.base.proofs.Bools.{and_left}
use Rattle.mask.specs.Mask.{has}
use Rattle.image.specs.declared.Field.TheVariants.{Count, Pc, Addr0, Val0, Addr1, Val1, Intent, Owned, Number, Finished}
use Rattle.image.specs.Place.{Place, cell, lock, field, own, step, Memory}
use Rattle.image.specs.Inner.Same.{same_field, upd, upd_all}
use Rattle.worklog.specs.Log.{second, active_addr, active_val}
use Rattle.repair.specs.Plan.{◌≔◌, rows, unbegun, intended, intend, withdraw, relock, relocks, unlock, plan}
use Rattle.owed.specs.Owed.{owed}
use Rattle.soundness.specs.Sound.{section_ok, pc_ok}
use Rattle.claims.proofs.Invariant.{Crashed}
use Rattle.claims.proofs.Covers.{Names, Covered, Parts, crashed-parts, parts-crashed}
use Rattle.claims.proofs.LiveCrashed.{section-none, covered_same}
use Rattle.claims.proofs.StoreRows.{KeptBy, keeps-one, keeps-cond, keeps-rows, keeps-append, keeps-whole, prefix-append}
use Rattle.claims.proofs.StoreRows.{Sets, sets_rows, sets-cond, writes-rows, writes-cond}
use Rattle.claims.proofs.RecoveryFrame.{Framed, owed-frame, pc-frame, section-frame}
use Rattle.claims.proofs.Entries.{apart_of}

-- ---- what no store of a recovery touches

abbrev pub stays : Place → Bool
stays (cell x) = true
stays (lock b) = false
stays (field f d) = not (same_field f Intent || same_field f Count)
stays (own d i) = true
stays (step d i) = true

module _ (n D : ℕ) (rd : Memory) where
  pub record Kept (rd' : Memory) : Type 0 where
    pub fixed : (p : Place) → stays p ≡ true → rd' p ≡ rd p
    pub count : (d : ℕ) → (rd' (field Count d) ≡ rd (field Count d)) ⊎ ((rd (field Pc d) ≡ 0) × (rd' (field Count d) ≡ 0))
    pub intent : (d : ℕ) → (rd' (field Intent d) ≡ rd (field Intent d)) ⊎ (rd' (field Intent d) ≡ owed n rd d)
    pub names : (b : ℕ) → b < 64 → Names D rd' b

  -- all locks are free
  abbrev pub Free : Memory → Type 0
  Free rd' = (b : ℕ) → b < 64 → rd' (lock b) ≡ 0

  private-addr : (d : ℕ) → stays (field (active_addr n rd d) d) ≡ true
  unfolding active_addr
  private-addr d = by (second n rd d)
    where
      by : (t : Bool) → stays (field (cond t Addr1 Addr0) d) ≡ true
      by true = refl
      by false = refl

  private-val : (d : ℕ) → stays (field (active_val n rd d) d) ≡ true
  unfolding active_val
  private-val d = by (second n rd d)
    where
      by : (t : Bool) → stays (field (cond t Val1 Val0) d) ≡ true
      by true = refl
      by false = refl

  pub kept-framed : (rd' : Memory) → Kept rd' → (d : ℕ) → Framed n rd rd' d
  kept-framed rd' k d =
      record {
        pc = k.fixed (field Pc d) refl;
        owned = k.fixed (field Owned d) refl;
        addr = k.fixed (field (active_addr n rd d) d) (private-addr d);
        val = k.fixed (field (active_val n rd d) d) (private-val d);
        code = λ i. k.fixed (step d i) refl;
      }

  private-section : (rd' : Memory) → Kept rd' → (d : ℕ) → section_ok n rd d ≡ true
      → (rd' (field Count d) ≡ rd (field Count d)) ⊎ ((rd (field Pc d) ≡ 0) × (rd' (field Count d) ≡ 0)) → section_ok n rd' d ≡ true
  private-section rd' k d s (inl e) = section-frame n rd rd' d (kept-framed rd' k d) e (k.fixed (field Number d) refl) (k.fixed (field Finished d) refl) ∙ s
  private-section rd' k d s (inr e) = section-none n rd' d e.1 (k.fixed (field Pc d) refl ∙ e.0)

  private-pc : (rd' : Memory) → Kept rd' → (d : ℕ) → pc_ok n rd d ≡ true
      → (rd' (field Count d) ≡ rd (field Count d)) ⊎ ((rd (field Pc d) ≡ 0) × (rd' (field Count d) ≡ 0)) → pc_ok n rd' d ≡ true
  private-pc rd' k d s (inl e) = pc-frame n rd rd' d (kept-framed rd' k d) (inl e) ∙ s
  private-pc rd' k d s (inr e) = pc-frame n rd rd' d (kept-framed rd' k d) (inr e.0) ∙ s

  -- what is owed is intended, now as at first
  private-meant : (rd' : Memory) (d : ℕ) → Covered (owed n rd d) (rd (field Intent d))
      → (rd' (field Intent d) ≡ rd (field Intent d)) ⊎ (rd' (field Intent d) ≡ owed n rd d) → Covered (owed n rd d) (rd' (field Intent d))
  private-meant rd' d w (inl e) = rw e w
  private-meant rd' d w (inr e) = covered_same _ _ (sym e)

  pub kept-meant : Parts n D rd → (rd' : Memory) → Kept rd' → (d : ℕ) → d < D → Covered (owed n rd d) (rd' (field Intent d))
  kept-meant p rd' k d l = private-meant rd' d (p.meant d l) (k.intent d)

  pub kept-parts : Parts n D rd → (rd' : Memory) → Kept rd' → Parts n D rd'
  kept-parts p rd' k =
      let owes : (d : ℕ) → owed n rd' d ≡ owed n rd d = λ d. owed-frame n rd rd' d (kept-framed rd' k d) in
      record {
        section = λ d l. private-section rd' k d (p.section d l) (k.count d);
        pc = λ d l. private-pc rd' k d (p.pc d l) (k.count d);
        meant = λ d l. rw (owes d) (kept-meant p rd' k d l);
        alone = λ b u d e l m g h. p.alone b u d e l m (rw (owes d) at g) (rw (owes e) at h);
        names = k.names;
      }

  pub kept-start : Parts n D rd → Kept rd
  kept-start p = record { fixed = λ q h. refl; count = λ d. inl refl; intent = λ d. inl refl; names = p.names }

  -- ---- one store

  private-fixed : (rd' : Memory) → Kept rd' → (p : Place) (v : ℕ) → stays p ≡ false → (q : Place) → stays q ≡ true → upd rd' p v q ≡ rd q
  private-fixed rd' k p v h q g = rw (apart_of stays q p g h) (k.fixed q g)

  -- a lock freed, or given to a worker that intends it
  kept-lock : (b v : ℕ) (rd' : Memory) → ((d : ℕ) → v ≡ d + 1 → (d < D) × (has (rd' (field Intent d)) b ≡ true)) → Kept rd' → Kept (upd rd' (lock b) v)
  kept-lock b v rd' h k =
      record {
        fixed = private-fixed rd' k (lock b) v refl;
        count = k.count;
        intent = k.intent;
        names = λ c u. by c u (eqb c b) refl;
      }
    where
      by : (c : ℕ) → c < 64 → (t : Bool) → eqb c b ≡ t → (d : ℕ) → cond t v (rd' (lock c)) ≡ d + 1 → (d < D) × (has (rd' (field Intent d)) c ≡ true)
      by c u true e d i = rw (eqb-true c b e) (h d i)
      by c u false e d i = k.names c u d i

  private-intent : (rd' : Memory) (d e : ℕ) → Kept rd'
      → (upd rd' (field Intent d) (owed n rd d) (field Intent e) ≡ rd (field Intent e)) ⊎
      (upd rd' (field Intent d) (owed n rd d) (field Intent e) ≡ owed n rd e)
  private-intent rd' d e k = by (eqb e d) refl
    where
      by : (t : Bool) → eqb e d ≡ t
          → (cond t (owed n rd d) (rd' (field Intent e)) ≡ rd (field Intent e)) ⊎ (cond t (owed n rd d) (rd' (field Intent e)) ≡ owed n rd e)
      by true i = inr (ap (owed n rd) (sym (eqb-true e d i)))
      by false i = k.intent e

  -- an intent set to what is owed, with all locks free
  kept-intent : (d : ℕ) (rd' : Memory) → Kept rd' → Free rd' → Kept (upd rd' (field Intent d) (owed n rd d))
  kept-intent d rd' k z =
      record {
        fixed = private-fixed rd' k (field Intent d) (owed n rd d) refl;
        count = k.count;
        intent = λ e. private-intent rd' d e k;
        names = λ c u e i. absurd (let w : rd' (lock c) ≡ 0 = z c u in let x : rd' (lock c) ≡ e + 1 = i in omega arith);
      }

  -- a count set to 0 where the pc is
  kept-count : (d : ℕ) (rd' : Memory) → rd (field Pc d) ≡ 0 → Kept rd' → Kept (upd rd' (field Count d) 0)
  kept-count d rd' z k =
      record {
        fixed = private-fixed rd' k (field Count d) 0 refl;
        count = λ e. by e (eqb e d) refl;
        intent = k.intent;
        names = k.names;
      }
    where
      by : (e : ℕ) (t : Bool) → eqb e d ≡ t
          → (cond t 0 (rd' (field Count e)) ≡ rd (field Count e)) ⊎ ((rd (field Pc e) ≡ 0) × (cond t 0 (rd' (field Count e)) ≡ 0))
      by e true i = inr (rw (eqb-true e d i) z, refl)
      by e false i = k.count e

  -- ---- the first stage frees every lock

  private-intended : (b k d : ℕ) → d < k → has (rd (field Intent d)) b ≡ true → intended n rd k b ≡ true
  unfolding intended
  private-intended b zero d l h = absurd (omega arith)
  private-intended b (suc k) d l h = by (private-intended b k d) (ℕ_discrete d k)
    where
      last : (t : Bool) → (t || true) ≡ true
      last true = refl
      last false = refl

      by : (d < k → has (rd (field Intent d)) b ≡ true → intended n rd k b ≡ true) → Dec (d ≡ k) → (intended n rd k b || has (rd (field Intent k)) b) ≡ true
      by more (yes e) = rw (← e, h) (last (intended n rd d b))
      by more (no e) = rw (more (omega arith) h)

  private-zero : (b j : ℕ) → Sets (lock b) 0 (unlock n rd D j)
  private-zero b j = sets-cond (lock b) 0 (intended n rd D j) (lock j ≔ 0) (λ t s. refl)

  pub unlocked-free : Parts n D rd → Free (upd_all rd (rows (unlock n rd D) 0 64))
  unlocked-free p b u = by (rd (lock b)) refl
    where
      by : (w : ℕ) → rd (lock b) ≡ w → upd_all rd (rows (unlock n rd D) 0 64) (lock b) ≡ 0
      by zero e = sets_rows (lock b) 0 (unlock n rd D) 0 64 (λ j l m. private-zero b j) rd e
      by (suc d) e =
          let o = p.names b u d (omega arith) in
          let i = private-intended b D d o.0 o.1 in
          writes-rows (lock b) 0 (unlock n rd D) 0 64 (λ j l m. private-zero b j) b (omega arith) (omega arith)
          (writes-cond (intended n rd D b) (lock b ≔ 0) i) rd

  -- ---- the stages

  unlocks-keep : KeptBy Kept (rows (unlock n rd D) 0 64)
  unlocks-keep =
      keeps-rows Kept (unlock n rd D) 0 64
      (λ b l m. keeps-cond Kept (intended n rd D b) (lock b ≔ 0) (λ t rd' k. kept-lock b 0 rd' (λ d e. absurd (omega arith)) k))

  abbrev KeptFree : Memory → Type 0
  KeptFree rd' = Kept rd' × Free rd'

  intents-keep : KeptBy KeptFree (rows (intend n rd) 0 D)
  intents-keep =
      keeps-rows KeptFree (intend n rd) 0 D (λ d l m. keeps-one KeptFree (field Intent d ≔ owed n rd d) (λ rd' k. (kept-intent d rd' k.0 k.1, k.1)))

  withdraws-keep : KeptBy Kept (rows (withdraw n rd) 0 D)
  withdraws-keep =
      keeps-rows Kept (withdraw n rd) 0 D
      (λ d l m.
      keeps-cond Kept (unbegun rd d) (field Count d ≔ 0)
      (λ t rd' k. kept-count d rd' (eqb-true _ _ (and_left (eqb (rd (field Pc d)) 0) (not (eqb (rd (field Count d)) 0)) t)) k))

  private-relock : Parts n D rd → (d : ℕ) → d < D → (b : ℕ) → b < 64 → KeptBy Kept (relock n rd d b)
  private-relock p d l b u =
      keeps-cond Kept (has (owed n rd d) b) (lock b ≔ d + 1)
      (λ t rd' k. kept-lock b (d + 1) rd' (λ e i. let j : d ≡ e = omega arith in rw (← j) (l, kept-meant p rd' k d l b u t)) k)

  relocks-keep : Parts n D rd → KeptBy Kept (rows (relocks n rd) 0 D)
  relocks-keep p =
      keeps-rows Kept (relocks n rd) 0 D
      (λ d l m. keeps-rows Kept (relock n rd d) 0 64 (λ b g h. private-relock p d (omega arith) b (omega arith)))

  -- ---- the plan

  pub plan-kept : Parts n D rd → (k : ℕ) → Kept (upd_all rd (take k (plan n rd D)))
  unfolding plan
  plan-kept p =
      let one = unlocks-keep rd (kept-start p) in
      let rd₁ = upd_all rd (rows (unlock n rd D) 0 64) in
      let k₁ : KeptFree rd₁ = (keeps-whole Kept (rows (unlock n rd D) 0 64) unlocks-keep rd (kept-start p), unlocked-free p) in
      let two = intents-keep rd₁ k₁ in
      let rd₂ = upd_all rd₁ (rows (intend n rd) 0 D) in
      let k₂ : KeptFree rd₂ = keeps-whole KeptFree (rows (intend n rd) 0 D) intents-keep rd₁ k₁ in
      let three = keeps-append Kept (rows (withdraw n rd) 0 D) (rows (relocks n rd) 0 D) withdraws-keep (relocks-keep p) rd₂ k₂.0 in
      prefix-append Kept (rows (unlock n rd D) 0 64) (rows (intend n rd) 0 D ++ (rows (withdraw n rd) 0 D ++ rows (relocks n rd) 0 D)) rd one
      (prefix-append Kept (rows (intend n rd) 0 D) (rows (withdraw n rd) 0 D ++ rows (relocks n rd) 0 D) rd₁ (λ j. (two j).0) three)

  pub plan-prefix : Crashed n D rd → (k : ℕ) → Crashed n D (upd_all rd (take k (plan n rd D)))
  plan-prefix c k = let p = crashed-parts n D rd c in parts-crashed n D _ (kept-parts p _ (plan-kept p k))
