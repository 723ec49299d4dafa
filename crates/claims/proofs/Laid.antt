-- What the stores of a submission leave (`Laid`): the section's number, its own words, its instructions and its count stand in
-- the worker's record, and every other word is as it was. First what a row of stores leaves, by induction on its values; then
-- the stores of a submission, one part after the other (`submission-laid`).
use Prim.Native.Nat.{ℕ, suc, ◌+◌, ◌-◌, ◌<◌, ◌≤◌}
use mathlib.Core.Path.{◌≡◌, refl, ◌∙◌}
use mathlib.Core.Logic.{◌≢◌}
use mathlib.Core.Bool.{false, and-false}
use mathlib.Core.List.{List, [], ◌∷◌, ◌++◌}
use lib.ListN.{length, get_or, replicate, length-append, length-replicate}
use lib.Dec.{eqb}
use borrow.Author.Tests.{ne_eqb}
use native.Mathlib.Omega.{arith}
use native.Mathlib.Decide.{ℕ_discrete}
use Rattle.image.specs.declared.Field.{Field}
use Rattle.image.specs.declared.Field.TheVariants.{Count, Number}
use Rattle.image.specs.Place.{Place, cell, lock, field, own, step, Memory}
use Rattle.image.specs.Inner.Same.{same, same_field, upd, upd_all}
use Rattle.image.proofs.Places.{upd_same}
use Rattle.image.proofs.Lists.{upd_all-nil, upd_all-cons}
use Rattle.intake.specs.Submit.{assigns, submission}
use Rattle.claims.proofs.StoreRows.{upd_all-append}

-- ---- a row of stores

-- a place that is none of the row's from i on
pub assigns-other : (rd : Memory) (f : ℕ → Place) (i : ℕ) (vs : List ℕ) (q : Place) → ((j : ℕ) → i ≤ j → same q (f j) ≡ false)
    → upd_all rd (assigns f i vs) q ≡ rd q
unfolding assigns upd_all
assigns-other rd f i [] q h = refl
assigns-other rd f i (v ∷ vs) q h = assigns-other (upd rd (f i) v) f (i + 1) vs q (λ j l. h j (omega arith)) ∙ rw (h i (omega arith))

-- a place of the row
pub assigns-at :
    (rd : Memory) (f : ℕ → Place) → ((a b : ℕ) → a ≢ b → same (f a) (f b) ≡ false) → (i : ℕ) (vs : List ℕ) (x : ℕ) → i ≤ x → x < i + length vs
    → upd_all rd (assigns f i vs) (f x) ≡ get_or vs (x - i) 0
unfolding assigns upd_all
assigns-at rd f apart i [] x l u = absurd (omega arith)
assigns-at rd f apart i (v ∷ vs) x l u = by (λ h. assigns-at (upd rd (f i) v) f apart (i + 1) vs x h (omega arith)) (ℕ_discrete x i)
  where
    by : (i + 1 ≤ x → upd_all (upd rd (f i) v) (assigns f (i + 1) vs) (f x) ≡ get_or vs (x - (i + 1)) 0) → Dec (x ≡ i)
        → upd_all (upd rd (f i) v) (assigns f (i + 1) vs) (f x) ≡ get_or (v ∷ vs) (x - i) 0
    by more (yes p) =
        let e : x - i ≡ 0 = omega arith in
        rw (e, p) (assigns-other (upd rd (f i) v) f (i + 1) vs (f i) (λ j h. apart i j (λ q. omega arith)) ∙ upd_same rd (f i) v)
    by more (no p) = let e : x - i ≡ suc (x - (i + 1)) = omega arith in rw e (more (omega arith))

own-apart : (d a b : ℕ) → a ≢ b → same (own d a) (own d b) ≡ false
own-apart d a b h = rw (ne_eqb a b h, and-false (eqb d d))

step-apart : (d a b : ℕ) → a ≢ b → same (step d a) (step d b) ≡ false
step-apart d a b h = rw (ne_eqb a b h, and-false (eqb d d))

-- ---- a submission

-- the own words of a section: its arguments, and 0
abbrev pub filled : ℕ → List ℕ → List ℕ
filled n args = args ++ replicate (n - 8) 0

pub own-size : (n : ℕ) (args : List ℕ) → 8 ≤ n → length args ≡ 8 → length (filled n args) ≡ n
own-size n args l e = simp (length-append, length-replicate) (omega arith)

-- the memory after a submission
abbrev pub submitted_to : ℕ → ℕ → ℕ → List ℕ → List ℕ → Memory → Memory
submitted_to n d k args ws rd = upd_all rd (submission n d k args ws)

-- what the stores leave
pub record Laid (n : ℕ) (rd rd' : Memory) (d k : ℕ) (args ws : List ℕ) : Type 0 where
  pub number : rd' (field Number d) ≡ k
  pub count : rd' (field Count d) ≡ length ws
  pub singles : (f : Field) → same_field f Number ≡ false → same_field f Count ≡ false → rd' (field f d) ≡ rd (field f d)
  pub own-words : (i : ℕ) → i < length (filled n args) → rd' (own d i) ≡ get_or (filled n args) i 0
  pub code-words : (i : ℕ) → i < length ws → rd' (step d i) ≡ get_or ws i 0
  pub fields : (e : ℕ) → e ≢ d → (f : Field) → rd' (field f e) ≡ rd (field f e)
  pub owns : (e : ℕ) → e ≢ d → (i : ℕ) → rd' (own e i) ≡ rd (own e i)
  pub steps : (e : ℕ) → e ≢ d → (i : ℕ) → rd' (step e i) ≡ rd (step e i)
  pub cells : (x : ℕ) → rd' (cell x) ≡ rd (cell x)
  pub locks : (b : ℕ) → rd' (lock b) ≡ rd (lock b)

module _ (n : ℕ) (rd : Memory) (d k : ℕ) (args ws : List ℕ) where
  abbrev numbered : Memory
  numbered = upd rd (field Number d) k

  abbrev owning : Memory
  owning = upd_all numbered (assigns (own d) 0 (filled n args))

  abbrev coded : Memory
  coded = upd_all owning (assigns (step d) 0 ws)

  -- the three parts and the count
  parts : submitted_to n d k args ws rd ≡ upd coded (field Count d) (length ws)
  unfolding submission
  parts =
      upd_all-cons rd _ _
      ∙ (upd_all-append numbered (assigns (own d) 0 (filled n args)) _ ∙
      (upd_all-append owning (assigns (step d) 0 ws) _ ∙ (upd_all-cons coded _ [] ∙ upd_all-nil _)))

  -- neither an own word nor an instruction of worker d
  rows_other : (q : Place) → ((i : ℕ) → same q (own d i) ≡ false) → ((i : ℕ) → same q (step d i) ≡ false) → coded q ≡ numbered q
  rows_other q a b = assigns-other owning (step d) 0 ws q (λ j l. b j) ∙ assigns-other numbered (own d) 0 (filled n args) q (λ j l. a j)

  private-laid : Laid n rd (upd coded (field Count d) (length ws)) d k args ws
  private-laid =
      record {
        number = rows_other (field Number d) (λ i. refl) (λ i. refl) ∙ upd_same rd (field Number d) k;
        count = upd_same coded (field Count d) (length ws);
        singles = λ f a b. rw b (rows_other (field f d) (λ i. refl) (λ i. refl) ∙ rw a);
        own-words = λ i l.
            assigns-other owning (step d) 0 ws (own d i) (λ j h. refl)
            ∙ (assigns-at numbered (own d) (own-apart d) 0 (filled n args) i (omega arith) (omega arith) ∙ (let e : i - 0 ≡ i = omega arith in rw e));
        code-words = λ i l. assigns-at owning (step d) (step-apart d) 0 ws i (omega arith) (omega arith) ∙ (let e : i - 0 ≡ i = omega arith in rw e);
        fields =
            λ e h f. rw (ne_eqb e d h, and-false (same_field f Count))
            (rows_other (field f e) (λ i. refl) (λ i. refl) ∙ rw (ne_eqb e d h, and-false (same_field f Number)));
        owns = λ e h i. rows_other (own e i) (λ j. rw (ne_eqb e d h)) (λ j. refl);
        steps = λ e h i. rows_other (step e i) (λ j. refl) (λ j. rw (ne_eqb e d h));
        cells = λ x. rows_other (cell x) (λ i. refl) (λ i. refl);
        locks = λ b. rows_other (lock b) (λ i. refl) (λ i. refl);
      }

  pub submission-laid : Laid n rd (submitted_to n d k args ws rd) d k args ws
  submission-laid = rw parts private-laid
