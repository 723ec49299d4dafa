-- What fewest and most mean, for a section that passes the check: no way from a step to a finish takes fewer turns than the fewest or more than
-- the most (`ways-between`, by induction on the way), and of each there is a way that takes just as many (`bounds-met`, by induction on
-- what is left of the section: at a jump it is the way on that counts).
use Rattle.std.proofs.Common.{Ok}
use Prim.Native.Nat.{ℕ, zero, suc, ◌+◌, ◌<◌, ◌≤◌}
use mathlib.Core.Path.{◌≡◌, refl, ap}
use mathlib.Core.Bool.{Bool, true, false, ◌||◌, false≢true}
use mathlib.Core.List.{List, [], ◌∷◌}
use mathlib.Core.Logic.{◌⊎◌, inl, inr, ⊎_elim}
use native.Mathlib.Omega.{arith}
use lib.Dec.{ltb, eqb}
use borrow.Author.Tests.{ltb-true, eqb-true, eq-eqb}
use Rattle.base.proofs.Bools.{and_left, and_right, and_both, or-either}
use Rattle.code.specs.declared.Op.{Op}
use Rattle.code.specs.declared.Op.TheVariants.{Acquire, Release, Assign, Jump, Finish, Unknown}
use Rattle.code.specs.Table.{turns_of}
use Rattle.code.specs.Op.{op_of, is_finish}
use Rattle.code.specs.Form.{in_place}
use Rattle.section.specs.Check.{Code, check}
use Rattle.section.proofs.Passing.{passed_is}
use Rattle.needs.specs.Path.{turns_along}
use Rattle.needs.specs.From.{lesser, larger, needs_by, fewest, most}
use Rattle.needs.specs.Ways.{leads, goes_on, WaysBetween, BoundsMet}
use Rattle.needs.proofs.Unrolled.{behind, unrolled, needs-end, lesser-one, larger-one, lesser-least, larger-most}
use Rattle.needs.proofs.Pass.{passed-placed}

-- the turns along a path are those of its first step and of the rest
pub along-first : (code : Code) (i : ℕ) (p : List ℕ) → turns_along code (i ∷ p) ≡ turns_of (code i) + turns_along code p
unfolding turns_along
along-first code i p = refl

pub along-end : (code : Code) → turns_along code [] ≡ 0
unfolding turns_along
along-end code = refl

private-finish : (x : Op) → is_finish x ≡ true → x ≡ Finish
private-finish (Acquire a) h = absurd (false≢true h)
private-finish (Release a) h = absurd (false≢true h)
private-finish (Assign a e) h = absurd (false≢true h)
private-finish (Jump a b) h = absurd (false≢true h)
private-finish Finish h = refl
private-finish Unknown h = absurd (false≢true h)

either_true : (t : Bool) → (t || true) ≡ true
either_true true = refl
either_true false = refl

-- ---- where an instruction leads

module _ (n i k : ℕ) (f g : ℕ → ℕ) where
  private-next : i + 1 < n → k ≡ suc i → (k < n) × (f (suc i) ≤ f k) × (g k ≤ g (suc i))
  private-next l e =
      let p : f k ≡ f (suc i) = ap f e in
      let q : g k ≡ g (suc i) = ap g e in
      (omega arith, omega arith, omega arith)

  private-jump : (b : ℕ) → i < b → b < n → (k ≡ suc i) ⊎ (k ≡ b) → (k < n) × (lesser (f (suc i)) (f b) ≤ f k) × (g k ≤ larger (g (suc i)) (g b))
  private-jump b l h (inl e) = (omega arith, rw e (lesser-least (f (suc i)) (f b)).0, rw e (larger-most (g (suc i)) (g b)).0)
  private-jump b l h (inr e) = (rw e h, rw e (lesser-least (f (suc i)) (f b)).1, rw e (larger-most (g (suc i)) (g b)).1)

  -- a step that it leads to is one of the section, and between what counts
  private-leads : (x : Op) → in_place n i x ≡ true → leads i k x ≡ true → (k < n) × (behind lesser f i x ≤ f k) × (g k ≤ behind larger g i x)
  private-leads (Acquire a) p l = private-next (ltb-true (i + 1) n p) (eqb-true k (suc i) l)
  private-leads (Release a) p l = private-next (ltb-true (i + 1) n p) (eqb-true k (suc i) l)
  private-leads (Assign a e) p l = private-next (ltb-true (i + 1) n p) (eqb-true k (suc i) l)
  private-leads (Jump a b) p l =
      private-jump b (ltb-true i b (and_left (ltb i b) (ltb b n) p)) (ltb-true b n (and_right (ltb i b) (ltb b n) p))
      (⊎_elim (λ h. inl (eqb-true k (suc i) h)) (λ h. inr (eqb-true k b h)) (or-either (eqb k (suc i)) (eqb k b) l))
  private-leads Finish p l = absurd (false≢true l)
  private-leads Unknown p l = absurd (false≢true l)

-- ---- every way

module _ (own n : ℕ) (code : Code) (passed : check own n code ≡ Ok tt) where
  -- a finish is the last step
  private-last : (pick : ℕ → ℕ → ℕ) (i : ℕ) → i < n → is_finish (op_of (code i)) ≡ true → needs_by pick n code i ≡ turns_of (code i) + 0
  private-last pick i l h =
      let o = private-finish (op_of (code i)) h in
      let p = passed-placed own n code passed i l in
      let e : i + 1 ≡ n = eqb-true (i + 1) n (rw o at p) in
      rw (unrolled pick n code i l p, o, needs-end pick n code (suc i) (omega arith))

  private-between : (p : List ℕ) (i : ℕ) → i < n → goes_on code i p ≡ true
      → (fewest n code i ≤ turns_along code (i ∷ p)) × (turns_along code (i ∷ p) ≤ most n code i)
  unfolding goes_on
  private-between [] i l g =
      let s = along-first code i [] in
      let z = along-end code in
      let e = private-last lesser i l g in
      let f = private-last larger i l g in
      (omega (arith, s, z, e), omega (arith, s, z, f))
  private-between (k ∷ p) i l g =
      let x = op_of (code i) in
      let here = passed-placed own n code passed i l in
      let on = private-leads n i k (fewest n code) (most n code) x here (and_left (leads i k x) (goes_on code k p) g) in
      let rest = private-between p k on.0 (and_right (leads i k x) (goes_on code k p) g) in
      let s = along-first code i (k ∷ p) in
      let e = unrolled lesser n code i l here in
      let f = unrolled larger n code i l here in
      (omega (arith, s, e, on.1, rest.0), omega (arith, s, f, on.2, rest.1))

pub ways-between : (own n : ℕ) (code : Code) → WaysBetween own n code
unfolding WaysBetween
ways-between own n code h = λ i p l g. private-between own n code (passed_is (check own n code) h) p i l g

-- ---- a way that takes just as many

module _ (own n : ℕ) (code : Code) (passed : check own n code ≡ Ok tt) (pick : ℕ → ℕ → ℕ) (one : (x y : ℕ) → (pick x y ≡ x) ⊎ (pick x y ≡ y)) where
  abbrev Met : ℕ → Type 0
  Met i = (p : List ℕ) × (goes_on code i p ≡ true) × (turns_along code (i ∷ p) ≡ needs_by pick n code i)

  -- by the step on which it counts
  private-to : (i k : ℕ) → i < n → leads i k (op_of (code i)) ≡ true → behind pick (needs_by pick n code) i (op_of (code i)) ≡ needs_by pick n code k
      → Met k → Met i
  unfolding goes_on
  private-to i k l g e (p, way, turns) =
      let s = along-first code i (k ∷ p) in
      let u = unrolled pick n code i l (passed-placed own n code passed i l) in
      (k ∷ p, and_both (leads i k (op_of (code i))) (goes_on code k p) g way, omega (arith, s, u, e, turns))

  private-here : (i : ℕ) → i < n → op_of (code i) ≡ Finish → Met i
  unfolding goes_on
  private-here i l o =
      let h : is_finish (op_of (code i)) ≡ true = ap is_finish o in
      let s = along-first code i [] in
      let z = along-end code in
      let u = private-last own n code passed pick i l h in
      ([], h, omega (arith, s, z, u))

  private-next-met : (i : ℕ) (x : Op) → i < n → op_of (code i) ≡ x → i + 1 < n → leads i (suc i) x ≡ true
      → behind pick (needs_by pick n code) i x ≡ needs_by pick n code (suc i) → ((k : ℕ) → i < k → k < n → Met k) → Met i
  private-next-met i x l o h g e on = private-to i (suc i) l (rw o g) (rw o e) (on (suc i) (omega arith) (omega arith))

  private-jump-met : (i a b : ℕ) → i < n → op_of (code i) ≡ Jump a b → i < b → b < n → ((k : ℕ) → i < k → k < n → Met k)
      → (pick (needs_by pick n code (suc i)) (needs_by pick n code b) ≡ needs_by pick n code (suc i)) ⊎
      (pick (needs_by pick n code (suc i)) (needs_by pick n code b) ≡ needs_by pick n code b)
      → Met i
  private-jump-met i a b l o f h on (inl e) =
      private-to i (suc i) l (rw (o, eq-eqb (suc i) (suc i) refl)) (rw o e) (on (suc i) (omega arith) (omega arith))
  private-jump-met i a b l o f h on (inr e) = private-to i b l (rw (o, eq-eqb b b refl) (either_true (eqb b (suc i)))) (rw o e) (on b f h)

  -- a step whose instruction is x, where those behind it have such a way
  private-by : (i : ℕ) (x : Op) → i < n → in_place n i x ≡ true → op_of (code i) ≡ x → ((k : ℕ) → i < k → k < n → Met k) → Met i
  private-by i (Acquire a) l p o on = private-next-met i (Acquire a) l o (ltb-true (i + 1) n p) (eq-eqb (suc i) (suc i) refl) refl on
  private-by i (Release a) l p o on = private-next-met i (Release a) l o (ltb-true (i + 1) n p) (eq-eqb (suc i) (suc i) refl) refl on
  private-by i (Assign a e) l p o on = private-next-met i (Assign a e) l o (ltb-true (i + 1) n p) (eq-eqb (suc i) (suc i) refl) refl on
  private-by i (Jump a b) l p o on =
      private-jump-met i a b l o (ltb-true i b (and_left (ltb i b) (ltb b n) p)) (ltb-true b n (and_right (ltb i b) (ltb b n) p)) on
      (one (needs_by pick n code (suc i)) (needs_by pick n code b))
  private-by i Finish l p o on = private-here i l o
  private-by i Unknown l p o on = absurd (false≢true p)

  -- m: more than what is left of the section
  private-met : (m i : ℕ) → n ≤ i + m → i < n → Met i
  private-met zero i h l = absurd (omega arith)
  private-met (suc m) i h l = private-by i (op_of (code i)) l (passed-placed own n code passed i l) refl (λ k a b. private-met m k (omega arith) b)

pub bounds-met : (own n : ℕ) (code : Code) → BoundsMet own n code
unfolding BoundsMet
bounds-met own n code h = λ i l.
    let p = passed_is (check own n code) h in
    (private-met own n code p lesser lesser-one n i (omega arith) l, private-met own n code p larger larger-one n i (omega arith) l)
