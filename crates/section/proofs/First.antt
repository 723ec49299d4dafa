-- The first refusal among steps: it is a pass where every step passes and only there, it depends on these steps alone, and
-- it is found one step at a time. By induction on the number of steps.
use Prim.Native.Nat.{ℕ, zero, suc, ◌+◌, ◌-◌, ◌<◌, ◌≤◌}
use Rattle.std.proofs.Common.{Ok, Err}
use mathlib.Core.Path.{◌≡◌, refl, ◌∙◌}
use native.Mathlib.Omega.{arith}
use native.Mathlib.Decide.{ℕ_discrete}
use Rattle.section.specs.Check.{Verdict, or_else, first_of}

-- ---- two answers in turn

pub or-pass : (u v : Verdict) → or_else u v ≡ Ok tt → (u ≡ Ok tt) × (v ≡ Ok tt)
or-pass (Ok u) v e = (refl, e)
or-pass (Err f) v e = (e, (cc))

pub or_left : (u v : Verdict) → u ≡ Ok tt → or_else u v ≡ v
or_left u v e = rw e

pub or-refused : (u v : Verdict) → (u ≡ Ok tt → ⊥) → or_else u v ≡ u
or-refused (Ok u) v n = absurd (n refl)
or-refused (Err f) v n = refl

-- the second matters only where the first passes
pub or-cong : (u v w : Verdict) → (u ≡ Ok tt → v ≡ w) → or_else u v ≡ or_else u w
or-cong (Ok u) v w h = h refl
or-cong (Err f) v w h = refl

-- ---- all steps

-- what holds at the first step and at the later ones
pub all_from : (f : ℕ → Verdict) (i j : ℕ) → f i ≡ Ok tt → (i + 1 ≤ j → f j ≡ Ok tt) → i ≤ j → Dec (i ≡ j) → f j ≡ Ok tt
all_from f i j e more l (yes p) = rw (← p) e
all_from f i j e more l (no n) = more (omega arith)

pub first-all : (f : ℕ → Verdict) (i k : ℕ) → first_of f i k ≡ Ok tt → (j : ℕ) → i ≤ j → j < i + k → f j ≡ Ok tt
unfolding first_of
first-all f i zero e j l u = absurd (omega arith)
first-all f i (suc k) e j l u =
    let (a, b) = or-pass (f i) (first_of f (i + 1) k) e in
    all_from f i j a (λ m. first-all f (i + 1) k b j m (omega arith)) l (ℕ_discrete i j)

pub all_first : (f : ℕ → Verdict) (i k : ℕ) → ((j : ℕ) → i ≤ j → j < i + k → f j ≡ Ok tt) → first_of f i k ≡ Ok tt
unfolding first_of
all_first f i zero h = refl
all_first f i (suc k) h =
    or_left (f i) (first_of f (i + 1) k) (h i (omega arith) (omega arith)) ∙ all_first f (i + 1) k (λ j l u. h j (omega arith) (omega arith))

pub first_cong : (f g : ℕ → Verdict) (i k : ℕ) → ((j : ℕ) → i ≤ j → j < i + k → f j ≡ g j) → first_of f i k ≡ first_of g i k
unfolding first_of
first_cong f g i zero h = refl
first_cong f g i (suc k) h = rw (h i (omega arith) (omega arith), first_cong f g (i + 1) k (λ j l u. h j (omega arith) (omega arith)))

-- ---- one step of n, and none left

pub first_step : (f : ℕ → Verdict) (d n : ℕ) → d < n → first_of f d (n - d) ≡ or_else (f d) (first_of f (d + 1) (n - (d + 1)))
unfolding first_of
first_step f d n h = let e : n - d ≡ suc (n - (d + 1)) = omega arith in rw e

pub first-none : (f : ℕ → Verdict) (d n : ℕ) → n ≤ d → first_of f d (n - d) ≡ Ok tt
unfolding first_of
first-none f d n h = let e : n - d ≡ 0 = omega arith in rw e
