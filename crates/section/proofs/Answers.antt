-- What the pass refuses: no section with another cause than 4 and 5, and with 5 at the lowest step that fails it, which is the step that refuses first.
use Prim.Native.Nat.{ℕ, zero, suc, ◌+◌, ◌<◌, ◌≤◌}
use Rattle.std.proofs.Common.{Ok, Err}
use mathlib.Core.Path.{◌≡◌, refl, ap}
use mathlib.Core.Bool.{Bool, true, false, cond}
use native.Mathlib.Omega.{arith}
use Rattle.section.specs.declared.Fault.TheVariants.{Length, Malformed}
use Rattle.code.specs.Form.{well_formed}
use Rattle.section.specs.Check.{Verdict, Code, or_else, first_of, form_of, cause_of, step_of}
use Rattle.section.specs.Sets.{length_ok, sets_answer}
use Rattle.section.proofs.Facts.{form-pass}
use Rattle.section.proofs.Refusing.{FirstAt, first_found, form-refuses}

-- ---- the causes

private-cause : (b : Bool) (i : ℕ) (u : Verdict) → cause_of u ≤ 5 → cause_of (or_else (cond b (Ok tt) (Err (Malformed i))) u) ≤ 5
private-cause true i u h = h
private-cause false i u h = omega arith

private-length : (b : Bool) (u : Verdict) → cause_of u ≤ 5 → cause_of (cond b u (Err Length)) ≤ 5
private-length true u h = h
private-length false u h = omega arith

-- ---- the lowest step

-- step i is the first from d on, of k, that fails cause 5
abbrev pub Lowest : (own n : ℕ) (code : Code) (d k i : ℕ) → Type 0
Lowest own n code d k i =
    (d ≤ i) × (i < d + k) × (well_formed own n i (code i) ≡ false) × ((j : ℕ) → d ≤ j → j < i → well_formed own n j (code j) ≡ true)

module _ (own n : ℕ) (code : Code) where
  private-causes : (i k : ℕ) → cause_of (first_of (form_of own n code) i k) ≤ 5
  unfolding first_of form_of
  private-causes i zero = omega arith
  private-causes i (suc k) = private-cause (well_formed own n i (code i)) i (first_of (form_of own n code) (i + 1) k) (private-causes (i + 1) k)

  -- 0, 4 or 5
  pub sets-causes : cause_of (sets_answer own n code) ≤ 5
  unfolding sets_answer
  sets-causes = private-length (length_ok n) (first_of (form_of own n code) 0 n) (private-causes 0 n)

  private-within : (b : Bool) (i : ℕ) (u : Verdict) → cond b u (Err Length) ≡ Err (Malformed i) → u ≡ Err (Malformed i)
  private-within true i u e = e
  private-within false i u e = absurd (omega (arith, ap cause_of e))

  private-lowest : (i : ℕ) → (j : ℕ) × FirstAt (form_of own n code) 0 n j (Err (Malformed i)) → Lowest own n code 0 n i
  private-lowest i (j, x) =
      let (q, fails) = form-refuses own n code j (Err (Malformed i)) x.refuses refl in
      let s : i ≡ j = ap step_of q in
      let below = x.below in
      (omega arith, omega arith, rw s fails, λ m a b. form-pass own n code m (x.earlier m a (omega arith)))

  -- 5 names a step that fails it, and none before that does
  pub sets-lowest : (i : ℕ) → sets_answer own n code ≡ Err (Malformed i) → Lowest own n code 0 n i
  unfolding sets_answer
  sets-lowest i e =
      let f = private-within (length_ok n) i (first_of (form_of own n code) 0 n) e in
      private-lowest i (first_found (form_of own n code) 0 n (Err (Malformed i)) f refl)
