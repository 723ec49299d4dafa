-- The step that refuses first: the first refusal among steps is that of a step before which all pass, and of no other step. By induction on the
-- number of steps.
use Prim.Native.Nat.{ℕ, zero, suc, ◌+◌, ◌<◌, ◌≤◌}
use Rattle.std.proofs.Common.{Ok, Err}
use mathlib.Core.Path.{◌≡◌, refl, sym, ap, ◌∙◌}
use mathlib.Core.Bool.{Bool, true, false, cond}
use native.Mathlib.Omega.{arith}
use native.Mathlib.Decide.{ℕ_discrete}
use Rattle.section.specs.declared.Fault.TheVariants.{Malformed}
use Rattle.code.specs.Form.{well_formed}
use Rattle.section.specs.Check.{Verdict, Code, or_else, first_of, form_of, passes}
use Rattle.section.proofs.First.{or_left, or-refused, all_from}
use Rattle.section.proofs.Passing.{passed_is, refused-not}

-- step j, of k from i on, refuses with v, and those before it pass
pub record FirstAt (f : ℕ → Verdict) (i k j : ℕ) (v : Verdict) : Type 0 where
  pub from : i ≤ j
  pub below : j < i + k
  pub refuses : f j ≡ v
  pub earlier : (m : ℕ) → i ≤ m → m < j → f m ≡ Ok tt

-- by the first of the steps, and what is known of the later ones
found-first-or-later :
    (f : ℕ → Verdict) (i k : ℕ) (v : Verdict) (b : Bool) → passes (f i) ≡ b → or_else (f i) (first_of f (i + 1) k) ≡ v
    → (first_of f (i + 1) k ≡ v → (j : ℕ) × FirstAt f (i + 1) k j v) → (j : ℕ) × FirstAt f i (suc k) j v
found-first-or-later f i k v false q e later =
    let stops = or-refused (f i) (first_of f (i + 1) k) (refused-not (f i) q) in
    (i, record { from = omega arith; below = omega arith; refuses = sym stops ∙ e; earlier = λ m a b. absurd (omega arith) })
found-first-or-later f i k v true q e later =
    let p = passed_is (f i) q in
    let (j, x) = later (sym (or_left (f i) (first_of f (i + 1) k) p) ∙ e) in
    let l = x.from in
    let u = x.below in (
      j,
      record {
        from = omega arith;
        below = omega arith;
        refuses = x.refuses;
        earlier = λ m a b. all_from f i m p (λ c. x.earlier m c b) a (ℕ_discrete i m);
      },
    )

pub first_found : (f : ℕ → Verdict) (i k : ℕ) (v : Verdict) → first_of f i k ≡ v → passes v ≡ false → (j : ℕ) × FirstAt f i k j v
unfolding first_of
first_found f i zero v e r = absurd (refused-not (Ok tt) (ap passes e ∙ r) refl)
first_found f i (suc k) v e r = found-first-or-later f i k v (passes (f i)) refl e (λ q. first_found f (i + 1) k v q r)

is-first-or-later :
    (f : ℕ → Verdict) (i k j : ℕ) (v : Verdict) → FirstAt f i (suc k) j v → passes v ≡ false → (FirstAt f (i + 1) k j v → first_of f (i + 1) k ≡ v)
    → Dec (i ≡ j) → or_else (f i) (first_of f (i + 1) k) ≡ v
is-first-or-later f i k j v x r later (yes q) =
    let e : f i ≡ v = rw q x.refuses in
    or-refused (f i) (first_of f (i + 1) k) (refused-not (f i) (ap passes e ∙ r)) ∙ e
is-first-or-later f i k j v x r later (no q) =
    let l = x.from in
    let u = x.below in
    or_left (f i) (first_of f (i + 1) k) (x.earlier i (omega arith) (omega arith))
    ∙ later (record { from = omega arith; below = omega arith; refuses = x.refuses; earlier = λ m a b. x.earlier m (omega arith) b })

pub first-is : (f : ℕ → Verdict) (i k j : ℕ) (v : Verdict) → FirstAt f i k j v → passes v ≡ false → first_of f i k ≡ v
unfolding first_of
first-is f i zero j v x r = let l = x.from in let u = x.below in absurd (omega arith)
first-is f i (suc k) j v x r = is-first-or-later f i k j v x r (λ y. first-is f (i + 1) k j v y r) (ℕ_discrete i j)

-- ---- cause 5

private-refuses : (b : Bool) (j : ℕ) (v : Verdict) → cond b (Ok tt) (Err (Malformed j)) ≡ v → passes v ≡ false → (v ≡ Err (Malformed j)) × (b ≡ false)
private-refuses true j v e r = absurd (refused-not (Ok tt) (ap passes e ∙ r) refl)
private-refuses false j v e r = (sym e, refl)

-- a step that it refuses fails its test
pub form-refuses :
    (own n : ℕ) (code : Code) (j : ℕ) (v : Verdict) → form_of own n code j ≡ v → passes v ≡ false
    → (v ≡ Err (Malformed j)) × (well_formed own n j (code j) ≡ false)
unfolding form_of
form-refuses own n code j v e r = private-refuses (well_formed own n j (code j)) j v e r
