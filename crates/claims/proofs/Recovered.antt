-- After all of a recovery's stores the memory is live: `recovered-live`. Every worker intends what it is owed, a worker whose pc
-- is 0 has no section, and a lock's word names the worker that is owed the lock, or is 0 if none is: by what each stage writes,
-- leaves, or sets. Every worker then stands where the recovery says that it goes on. All stores are at places of the image
-- (`plan-valid`).
use Prim.Native.Nat.{ℕ, suc, zero, ◌+◌, ◌<◌}
use mathlib.Core.Path.{◌≡◌, refl, ap, sym, ◌∙◌}
use mathlib.Core.Bool.{Bool, true, false, ◌&&◌, not, true≢false}
use mathlib.Core.List.{◌++◌}
use mathlib.Core.Logic.{◌⊎◌, inl, inr}
use native.Mathlib.Omega.{arith}
use native.Mathlib.Decide.{ℕ_discrete}
use lib.ListN.{length}
use lib.Seq.{take-length}
use lib.Dec.{eqb}
use borrow.Author.Tests.{eqb-true, lt-ltb}
use Rattle.mask.specs.Mask.{has}
use Rattle.image.specs.declared.Field.{Field}
use Rattle.image.specs.declared.Field.TheVariants.{Count, Pc, Intent}
use Rattle.image.specs.Place.{Place, lock, field, Memory}
use Rattle.image.specs.Inner.Same.{same, upd_all}
use Rattle.image.proofs.Lists.{all_valid}
use Rattle.resuming.specs.Resumed.{resumed}
use Rattle.repair.specs.Plan.{◌≔◌, rows, unbegun, intended, intend, withdraw, relock, relocks, unlock, plan}
use Rattle.owed.specs.Owed.{owed}
use Rattle.claims.specs.Reference.{Given}
use Rattle.claims.proofs.Invariant.{Phase, Live, Crashed}
use Rattle.claims.proofs.Covers.{Parts, crashed-parts}
use Rattle.claims.proofs.StoreRows.{upd_all-append, Leaves, Sets, Writes, leaves-one, leaves-cond, leaves-rows}
use Rattle.claims.proofs.StoreRows.{sets_rows, sets-one, sets-cond, writes-rows, writes-cond, valid-append, valid-cond, valid-rows}
use Rattle.claims.proofs.RecoveryFrame.{owed-frame, resumed-frame}
use Rattle.claims.proofs.Stages.{Kept, kept-framed, kept-parts, unlocked-free, plan-kept}
use Rattle.claims.proofs.Accepted.{settled-phase}

module _ (n : ℕ) (rd : Memory) (D : ℕ) where
  -- ---- what the stages leave

  unlocks-leave : (f : Field) (d : ℕ) → Leaves (field f d) (rows (unlock n rd D) 0 64)
  unlocks-leave f d = leaves-rows (field f d) (unlock n rd D) 0 64 (λ b. leaves-cond (field f d) (intended n rd D b) (lock b ≔ 0) refl)

  intents-leave-count : (d : ℕ) → Leaves (field Count d) (rows (intend n rd) 0 D)
  intents-leave-count d = leaves-rows (field Count d) (intend n rd) 0 D (λ e. leaves-one (field Count d) (field Intent e ≔ owed n rd e) refl)

  intents-leave-lock : (b : ℕ) → Leaves (lock b) (rows (intend n rd) 0 D)
  intents-leave-lock b = leaves-rows (lock b) (intend n rd) 0 D (λ e. leaves-one (lock b) (field Intent e ≔ owed n rd e) refl)

  withdraws-leave : (q : Place) → ((e : ℕ) → same q (field Count e) ≡ false) → Leaves q (rows (withdraw n rd) 0 D)
  withdraws-leave q h = leaves-rows q (withdraw n rd) 0 D (λ e. leaves-cond q (unbegun rd e) (field Count e ≔ 0) (h e))

  relocks-leave : (f : Field) (d : ℕ) → Leaves (field f d) (rows (relocks n rd) 0 D)
  relocks-leave f d =
      leaves-rows (field f d) (relocks n rd) 0 D
      (λ e. leaves-rows (field f d) (relock n rd e) 0 64 (λ b. leaves-cond (field f d) (has (owed n rd e) b) (lock b ≔ e + 1) refl))

  -- ---- what they write

  intents-write : (d : ℕ) → d < D → Writes (field Intent d) (owed n rd d) (rows (intend n rd) 0 D)
  intents-write d l =
      writes-rows (field Intent d) (owed n rd d) (intend n rd) 0 D
      (λ e g h. sets-one (field Intent d) (owed n rd d) (field Intent e ≔ owed n rd e) (λ i. ap (owed n rd) (sym (eqb-true d e i))))
      d (omega arith) (omega arith) (writes-cond true (field Intent d ≔ owed n rd d) refl)

  private-zero : (d e : ℕ) → Sets (field Count d) 0 (withdraw n rd e)
  private-zero d e = sets-cond (field Count d) 0 (unbegun rd e) (field Count e ≔ 0) (λ t s. refl)

  -- a count that is 0 stays 0, another is set to 0 where the pc is 0
  withdraws-zero : (rd' : Memory) (d : ℕ) → d < D → rd (field Pc d) ≡ 0 → rd' (field Count d) ≡ rd (field Count d)
      → upd_all rd' (rows (withdraw n rd) 0 D) (field Count d) ≡ 0
  withdraws-zero rd' d l z c = by (eqb (rd (field Count d)) 0) refl
    where
      by : (t : Bool) → eqb (rd (field Count d)) 0 ≡ t → upd_all rd' (rows (withdraw n rd) 0 D) (field Count d) ≡ 0
      by true e = sets_rows (field Count d) 0 (withdraw n rd) 0 D (λ j g h. private-zero d j) rd' (c ∙ eqb-true _ _ e)
      by false e =
          let t : (eqb (rd (field Pc d)) 0 && not (eqb (rd (field Count d)) 0)) ≡ true = rw (z, e) in
          writes-rows (field Count d) 0 (withdraw n rd) 0 D (λ j g h. private-zero d j) d (omega arith) (omega arith)
          (writes-cond (unbegun rd d) (field Count d ≔ 0) t) rd'

  -- the stores of worker e to lock b
  private-relock : (b v e : ℕ) → (has (owed n rd e) b ≡ true → e + 1 ≡ v) → Sets (lock b) v (rows (relock n rd e) 0 64)
  private-relock b v e h =
      sets_rows (lock b) v (relock n rd e) 0 64
      (λ c l m. sets-cond (lock b) v (has (owed n rd e) c) (lock c ≔ e + 1) (λ t s. h (rw (← eqb-true b c s) at t)))

  relocks-write : Parts n D rd → (b d : ℕ) → b < 64 → d < D → has (owed n rd d) b ≡ true → Writes (lock b) (d + 1) (rows (relocks n rd) 0 D)
  relocks-write p b d u l t =
      let only : (e : ℕ) → e < D → has (owed n rd e) b ≡ true → e + 1 ≡ d + 1 = λ e m h. let i : e ≡ d = p.alone b u e d m l h t in omega arith in
      writes-rows (lock b) (d + 1) (relocks n rd) 0 D (λ e g h. private-relock b (d + 1) e (only e (omega arith)))
      d (omega arith) (omega arith)
      (writes-rows (lock b) (d + 1) (relock n rd d) 0 64
      (λ c g h. sets-cond (lock b) (d + 1) (has (owed n rd d) c) (lock c ≔ d + 1) (λ s i. refl))
      b (omega arith) (omega arith) (writes-cond (has (owed n rd d) b) (lock b ≔ d + 1) t))

  relocks-free : (b : ℕ) → ((e : ℕ) → e < D → has (owed n rd e) b ≡ false) → Sets (lock b) 0 (rows (relocks n rd) 0 D)
  relocks-free b h =
      sets_rows (lock b) 0 (relocks n rd) 0 D (λ e g m. private-relock b 0 e (λ t. absurd (true≢false (sym t ∙ h e (omega arith)))))

  -- ---- the memory after the plan

  abbrev pub after : Memory
  after = upd_all rd (plan n rd D)

  private-after :
      after ≡ upd_all (upd_all (upd_all (upd_all rd (rows (unlock n rd D) 0 64)) (rows (intend n rd) 0 D)) (rows (withdraw n rd) 0 D)) (rows (relocks n rd) 0 D)
  unfolding plan
  private-after =
      upd_all-append rd (rows (unlock n rd D) 0 64) _ ∙ (upd_all-append (upd_all rd (rows (unlock n rd D) 0 64)) (rows (intend n rd) 0 D) _
      ∙ upd_all-append (upd_all (upd_all rd (rows (unlock n rd D) 0 64)) (rows (intend n rd) 0 D)) (rows (withdraw n rd) 0 D) (rows (relocks n rd) 0 D))

  pub after-intent : (d : ℕ) → d < D → after (field Intent d) ≡ owed n rd d
  after-intent d l =
      ap (λ (m : Memory). m (field Intent d)) private-after
      ∙ (relocks-leave Intent d _ ∙ (withdraws-leave (field Intent d) (λ e. refl) _ ∙ intents-write d l _))

  pub after-count : (d : ℕ) → d < D → rd (field Pc d) ≡ 0 → after (field Count d) ≡ 0
  after-count d l z =
      ap (λ (m : Memory). m (field Count d)) private-after
      ∙ (relocks-leave Count d _ ∙ withdraws-zero _ d l z (intents-leave-count d _ ∙ unlocks-leave Count d rd))

  pub after-lock : Parts n D rd → (b d : ℕ) → b < 64 → d < D → has (owed n rd d) b ≡ true → after (lock b) ≡ d + 1
  after-lock p b d u l t = ap (λ (m : Memory). m (lock b)) private-after ∙ relocks-write p b d u l t _

  pub after_free : Parts n D rd → (b : ℕ) → b < 64 → ((e : ℕ) → e < D → has (owed n rd e) b ≡ false) → after (lock b) ≡ 0
  after_free p b u h =
      ap (λ (m : Memory). m (lock b)) private-after
      ∙ relocks-free b h _ (withdraws-leave (lock b) (λ e. refl) _ ∙ (intents-leave-lock b _ ∙ unlocked-free n D rd p b u))

  -- ---- who has a lock

  pub someone : (b k : ℕ) → ((e : ℕ) × (e < k) × (has (owed n rd e) b ≡ true)) ⊎ ((e : ℕ) → e < k → has (owed n rd e) b ≡ false)
  someone b zero = inr (λ e l. absurd (omega arith))
  someone b (suc k) = by (someone b k) (has (owed n rd k) b) refl
    where
      by : ((e : ℕ) × (e < k) × (has (owed n rd e) b ≡ true)) ⊎ ((e : ℕ) → e < k → has (owed n rd e) b ≡ false) → (t : Bool) → has (owed n rd k) b ≡ t
          → ((e : ℕ) × (e < suc k) × (has (owed n rd e) b ≡ true)) ⊎ ((e : ℕ) → e < suc k → has (owed n rd e) b ≡ false)
      by r true i = inl (k, omega arith, i)
      by (inl r) false i = inl (r.0, omega (arith, r.1), r.2)
      by (inr r) false i = inr (λ e l. go e l (ℕ_discrete e k))
        where
          go : (e : ℕ) → e < suc k → Dec (e ≡ k) → has (owed n rd e) b ≡ false
          go e l (yes j) = rw j i
          go e l (no j) = r e (omega arith)

  pub after-owner : Parts n D rd → (b d : ℕ) → b < 64 → after (lock b) ≡ d + 1 → (d < D) × (has (owed n rd d) b ≡ true)
  after-owner p b d u h = by (someone b D)
    where
      by : ((e : ℕ) × (e < D) × (has (owed n rd e) b ≡ true)) ⊎ ((e : ℕ) → e < D → has (owed n rd e) b ≡ false) → (d < D) × (has (owed n rd d) b ≡ true)
      by (inl r) =
          let w : after (lock b) ≡ r.0 + 1 = after-lock p b r.0 u r.1 r.2 in
          let i : r.0 ≡ d = omega arith in
          rw i at
          let s : (r.0 < D) × (has (owed n rd r.0) b ≡ true) = (r.1, r.2) in s
      by (inr r) = absurd (let w : after (lock b) ≡ 0 = after_free p b u r in omega arith)

  -- ---- live again

  pub after_kept : Parts n D rd → Kept n D rd after
  after_kept p = rw (take-length (plan n rd D)) at (plan-kept n D rd p (length (plan n rd D)))

  private-phase : Parts n D rd → (g : Given) (d : ℕ) → d < D → Phase n after d g (resumed n rd d) (owed n rd d) 0
  private-phase p g d l =
      let k = after_kept p in
      let q = kept-parts n D rd p after k in
      let f = kept-framed n D rd after k d in
      let o : owed n after d ≡ owed n rd d = owed-frame n rd after d f in
      let r : resumed n after d ≡ resumed n rd d = resumed-frame n rd after d f in
      rw (← o, ← r) (settled-phase n after d g (q.section d l) (q.pc d l) (after-intent d l ∙ sym o) (λ z. after-count d l (sym f.pc ∙ z)))

  pub recovered-live : Crashed n D rd → (given : ℕ → Given) → Live n D (upd_all rd (plan n rd D)) (λ d. resumed n rd d) (λ d. owed n rd d) (λ d. 0) given
  recovered-live c given =
      let p = crashed-parts n D rd c in
      record {
        phase = λ d l. private-phase p (given d) d l;
        locked = λ b d u l h. after-lock p b d u l h;
        owner = λ b d u e. after-owner p b d u e;
      }

  -- ---- every store is at a place of the image

  pub plan-valid : all_valid D n (plan n rd D) ≡ true
  unfolding plan
  plan-valid =
      let us = rows (unlock n rd D) 0 64 in
      let is = rows (intend n rd) 0 D in
      let ws = rows (withdraw n rd) 0 D in
      let rs = rows (relocks n rd) 0 D in
      let u = valid-rows D n (unlock n rd D) 0 64 (λ b l m. valid-cond D n (intended n rd D b) (lock b ≔ 0) (lt-ltb b 64 (omega arith))) in
      let i = valid-rows D n (intend n rd) 0 D (λ d l m. valid-cond D n true (field Intent d ≔ owed n rd d) (lt-ltb d D (omega arith))) in
      let w = valid-rows D n (withdraw n rd) 0 D (λ d l m. valid-cond D n (unbegun rd d) (field Count d ≔ 0) (lt-ltb d D (omega arith))) in
      let r =
      valid-rows D n (relocks n rd) 0 D
      (λ e l m. valid-rows D n (relock n rd e) 0 64 (λ b g h. valid-cond D n (has (owed n rd e) b) (lock b ≔ e + 1) (lt-ltb b 64 (omega arith))))
      in
      valid-append D n us (is ++ (ws ++ rs)) u (valid-append D n is (ws ++ rs) i (valid-append D n ws rs w r))
