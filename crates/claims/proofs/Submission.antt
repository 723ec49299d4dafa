-- Every prefix of a submission leaves a memory that a recovery accepts: `submission-prefix`. Only words of the worker's own
-- section change (`Aside`). With a count and a pc of 0 its record is sound whatever its number, own words and steps are; the last
-- store, its count, makes a section that passes.
use Prim.Native.Nat.{ℕ, ◌+◌, ◌<◌}
use mathlib.Core.Path.{◌≡◌, refl, ap, sym, ◌∙◌}
use mathlib.Core.Bool.{Bool, true, false, cond, ◌&&◌, ◌||◌, not}
use mathlib.Core.List.{List, [], ◌∷◌, ◌++◌, append_assoc}
use mathlib.Core.Logic.{inl, ◌≢◌}
use native.Mathlib.Omega.{arith}
use native.Mathlib.Decide.{ℕ_discrete}
use lib.ListN.{length, take}
use lib.Dec.{eqb}
use borrow.Author.Tests.{eq-eqb, ne_eqb, le-leb}
use Rattle.std.specs.Prelude.{Ok}
use Rattle.image.specs.declared.Field.TheVariants.{Count, Pc, Addr0, Val0, Addr1, Val1, Intent, Owned, Number, Finished}
use Rattle.image.specs.Place.{Place, cell, lock, field, own, step, Memory, Store}
use Rattle.image.specs.Inner.Same.{same_field, same, upd, upd_all}
use Rattle.section.specs.Check.{code_of, check}
use Rattle.section.proofs.Facts.{check-parts, check-cong}
use Rattle.worklog.specs.Log.{code_in, second, active_addr, active_val}
use Rattle.intake.specs.Submit.{assigns, submission}
use Rattle.repair.specs.Plan.{◌≔◌}
use Rattle.owed.specs.Owed.{owed}
use Rattle.soundness.specs.Sound.{section_ok, pc_ok}
use Rattle.claims.proofs.Invariant.{Crashed}
use Rattle.claims.proofs.Covers.{Parts, crashed-parts, parts-crashed}
use Rattle.claims.proofs.LiveCrashed.{section-none, pc-none, owed_none}
use Rattle.claims.proofs.Accepted.{ok-owned}
use Rattle.claims.proofs.StoreRows.{upd_all-append, upd_all-one, KeptBy, keeps-nil, keeps-one, keeps-append, keeps-whole, prefix-append, prefix-one}
use Rattle.claims.proofs.RecoveryFrame.{Framed, owed-frame, pc-frame, section-frame}
use Rattle.claims.proofs.Laid.{filled, submitted_to, Laid, submission-laid}
use Rattle.claims.proofs.Entries.{apart_of}

-- ---- a row of assignments

pub assigns-keep : (P : Memory → Type 0) (f : ℕ → Place) → ((i v : ℕ) (rd : Memory) → P rd → P (upd rd (f i) v)) → (i : ℕ) (vs : List ℕ)
    → KeptBy P (assigns f i vs)
unfolding assigns
assigns-keep P f h i [] = keeps-nil P
assigns-keep P f h i (v ∷ vs) =
    keeps-append P ((f i ≔ v) ∷ []) (assigns f (i + 1) vs) (keeps-one P (f i ≔ v) (λ rd p. h i v rd p)) (assigns-keep P f h (i + 1) vs)

-- ---- the words that a submission leaves

abbrev pub aside : ℕ → Place → Bool
aside d (cell x) = true
aside d (lock b) = true
aside d (field f e) = not ((same_field f Number || same_field f Count) && eqb e d)
aside d (own e i) = not (eqb e d)
aside d (step e i) = not (eqb e d)

module _ (d : ℕ) (rd : Memory) where
  abbrev pub Aside : Memory → Type 0
  Aside rd' = (p : Place) → aside d p ≡ true → rd' p ≡ rd p

  pub aside-store : (p : Place) → aside d p ≡ false → (v : ℕ) (rd' : Memory) → Aside rd' → Aside (upd rd' p v)
  aside-store p h v rd' k q g = rw (apart_of (aside d) q p g h) (k q g)

module _ (n D d : ℕ) (rd : Memory) where
  private-addr : (e : ℕ) → aside d (field (active_addr n rd e) e) ≡ true
  unfolding active_addr
  private-addr e = by (second n rd e)
    where
      by : (t : Bool) → aside d (field (cond t Addr1 Addr0) e) ≡ true
      by true = refl
      by false = refl

  private-val : (e : ℕ) → aside d (field (active_val n rd e) e) ≡ true
  unfolding active_val
  private-val e = by (second n rd e)
    where
      by : (t : Bool) → aside d (field (cond t Val1 Val0) e) ≡ true
      by true = refl
      by false = refl

  pub aside-framed : (rd' : Memory) → Aside d rd rd' → (e : ℕ) → e ≢ d → Framed n rd rd' e
  aside-framed rd' k e h =
      record {
        pc = k (field Pc e) refl;
        owned = k (field Owned e) refl;
        addr = k (field (active_addr n rd e) e) (private-addr e);
        val = k (field (active_val n rd e) e) (private-val e);
        code = λ i. k (step e i) (rw (ne_eqb e d h));
      }

  module _ (z : rd (field Pc d) ≡ 0) (rd' : Memory) (k : Aside d rd rd') where
    private-owed : (e : ℕ) → owed n rd' e ≡ owed n rd e
    private-owed e = by (ℕ_discrete e d)
      where
        by : Dec (e ≡ d) → owed n rd' e ≡ owed n rd e
        by (yes i) = rw i (owed_none n rd' d (k (field Pc d) refl ∙ z) ∙ sym (owed_none n rd d z))
        by (no i) = owed-frame n rd rd' e (aside-framed rd' k e i)

    private-section : (e : ℕ) → section_ok n rd e ≡ true → section_ok n rd' d ≡ true → section_ok n rd' e ≡ true
    private-section e h g = by (ℕ_discrete e d)
      where
        by : Dec (e ≡ d) → section_ok n rd' e ≡ true
        by (yes i) = rw i g
        by (no i) =
            section-frame n rd rd' e (aside-framed rd' k e i) (k (field Count e) (rw (ne_eqb e d i))) (k (field Number e) (rw (ne_eqb e d i)))
            (k (field Finished e) refl) ∙ h

    private-pc : (e : ℕ) → pc_ok n rd e ≡ true → pc_ok n rd' e ≡ true
    private-pc e h = by (ℕ_discrete e d)
      where
        by : Dec (e ≡ d) → pc_ok n rd' e ≡ true
        by (yes i) = rw i (pc-none n rd' d (k (field Pc d) refl ∙ z) (k (field Owned d) refl ∙ ok-owned n rd d (rw i at h) z))
        by (no i) = pc-frame n rd rd' e (aside-framed rd' k e i) (inl (k (field Count e) (rw (ne_eqb e d i)))) ∙ h

    -- whatever the section's words are, if the section is right
    pub aside-parts : Parts n D rd → section_ok n rd' d ≡ true → Parts n D rd'
    aside-parts p s =
        record {
          section = λ e l. private-section e (p.section e l) s;
          pc = λ e l. private-pc e (p.pc e l);
          meant = λ e l. rw (private-owed e, k (field Intent e) refl) (p.meant e l);
          alone = λ b u e f l m g h. p.alone b u e f l m (rw (private-owed e) at g) (rw (private-owed f) at h);
          names = λ b u e h. let o = p.names b u e (sym (k (lock b) refl) ∙ h) in (o.0, rw (k (field Intent e) refl) o.1);
        }

    pub idle-parts : Parts n D rd → rd' (field Count d) ≡ 0 → Parts n D rd'
    idle-parts p c = aside-parts p (section-none n rd' d c (k (field Pc d) refl ∙ z))

-- ---- the submission

module _ (n d k : ℕ) (args ws : List ℕ) (rd : Memory) where
  abbrev submitted : Memory
  submitted = submitted_to n d k args ws rd

  laid : Laid n rd submitted d k args ws
  laid = submission-laid n rd d k args ws

  abbrev owns : List Store
  owns = assigns (own d) 0 (filled n args)

  abbrev steps : List Store
  steps = assigns (step d) 0 ws

  -- ---- what each prefix leaves

  abbrev Unbegun : Memory → Type 0
  Unbegun rd' = Aside d rd rd' × (rd' (field Count d) ≡ 0)

  private-off : (p : Place) (v : ℕ) (rd' : Memory) → aside d p ≡ false → same (field Count d) p ≡ false → Unbegun rd' → Unbegun (upd rd' p v)
  private-off p v rd' h g u = (aside-store d rd p h v rd' u.0, rw g u.1)

  private-refl : not (eqb d d) ≡ false
  private-refl = rw (eq-eqb d d refl)

  abbrev before : List Store
  before = (field Number d ≔ k) ∷ (owns ++ steps)

  private-before : KeptBy Unbegun before
  private-before =
      keeps-append Unbegun ((field Number d ≔ k) ∷ []) (owns ++ steps)
      (keeps-one Unbegun (field Number d ≔ k) (λ rd' u. private-off (field Number d) k rd' private-refl refl u))
      (keeps-append Unbegun owns steps
      (assigns-keep Unbegun (own d) (λ i v rd' u. private-off (own d i) v rd' private-refl refl u) 0 (filled n args))
      (assigns-keep Unbegun (step d) (λ i v rd' u. private-off (step d i) v rd' private-refl refl u) 0 ws))

  private-split : submission n d k args ws ≡ before ++ ((field Count d ≔ length ws) ∷ [])
  unfolding submission
  private-split = ap (λ (l : List Store). (field Number d ≔ k) ∷ l) (sym (append_assoc owns steps ((field Count d ≔ length ws) ∷ [])))

  private-last : submitted ≡ upd_all (upd_all rd before) ((field Count d ≔ length ws) ∷ [])
  private-last = ap (upd_all rd) private-split ∙ upd_all-append rd before ((field Count d ≔ length ws) ∷ [])

  -- all but the words of worker d's section stays
  pub submitted-aside : rd (field Count d) ≡ 0 → Aside d rd submitted
  submitted-aside c =
      rw (private-last, upd_all-one (upd_all rd before) (field Count d ≔ length ws))
      (aside-store d rd (field Count d) private-refl (length ws) (upd_all rd before) (keeps-whole Unbegun before private-before rd ((λ p h. refl), c)).0)

  pub submission-aside : rd (field Count d) ≡ 0 → (i : ℕ) → Aside d rd (upd_all rd (take i (submission n d k args ws)))
  submission-aside c i =
      let start : Unbegun rd = ((λ p h. refl), c) in
      rw private-split
      (prefix-append (Aside d rd) before ((field Count d ≔ length ws) ∷ []) rd (λ j. (private-before rd start j).0)
      (prefix-one (Aside d rd) (field Count d ≔ length ws) (upd_all rd before) (keeps-whole Unbegun before private-before rd start).0
      (rw private-last at (submitted-aside c)))
      i)

  pub submitted-check : check n (length ws) (code_of ws) ≡ Ok tt → check n (length ws) (code_in n submitted d) ≡ Ok tt
  submitted-check h = check-cong n (length ws) (code_in n submitted d) (code_of ws) laid.code-words ∙ h

  -- the section that was submitted is right
  pub submitted-section : rd (field Count d) ≡ 0 → check n (length ws) (code_of ws) ≡ Ok tt → rd (field Finished d) < k → section_ok n submitted d ≡ true
  unfolding section_ok
  submitted-section c h l =
      let some = (check-parts n (length ws) (code_of ws) h).0 in
      let f : submitted (field Finished d) ≡ rd (field Finished d) = submitted-aside c (field Finished d) refl in
      rw (
        laid.count,
        ne_eqb (length ws) 0 (λ e. omega arith),
        submitted-check h,
        laid.number,
        f,
        le-leb 1 k (omega arith),
        le-leb (rd (field Finished d)) k
            (omega arith),
      )

  pub submission-parts :
      (D : ℕ) → Parts n D rd → rd (field Count d) ≡ 0 → rd (field Pc d) ≡ 0 → check n (length ws) (code_of ws) ≡ Ok tt → rd (field Finished d) < k
      → (i : ℕ) → Parts n D (upd_all rd (take i (submission n d k args ws)))
  submission-parts D p c z h l i =
      let start : Unbegun rd = ((λ p h. refl), c) in
      let whole = keeps-whole Unbegun before private-before rd start in
      let last : Parts n D (upd_all (upd_all rd before) ((field Count d ≔ length ws) ∷ [])) =
      rw private-last at (aside-parts n D d rd z submitted (submitted-aside c) p (submitted-section c h l))
      in
      rw private-split
      (prefix-append (Parts n D) before ((field Count d ≔ length ws) ∷ []) rd
      (λ j. let u = private-before rd start j in idle-parts n D d rd z (upd_all rd (take j before)) u.0 p u.1)
      (prefix-one (Parts n D) (field Count d ≔ length ws) (upd_all rd before) (idle-parts n D d rd z (upd_all rd before) whole.0 p whole.1) last)
      i)

  pub submission-prefix :
      (D : ℕ) → Crashed n D rd → rd (field Count d) ≡ 0 → rd (field Pc d) ≡ 0 → check n (length ws) (code_of ws) ≡ Ok tt → rd (field Finished d) < k
      → (i : ℕ) → Crashed n D (upd_all rd (take i (submission n d k args ws)))
  submission-prefix D q c z h l i = parts-crashed n D _ (submission-parts D (crashed-parts n D rd q) c z h l i)
