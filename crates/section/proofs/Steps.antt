-- One step of the check: what its tests say of the instruction, by cases on it, and that they read only the words of the
-- section. The test of a jump reads the held set at the jump's target, which is inside where the jump is in place.
use Prim.Native.Nat.{ℕ, ◌+◌, ◌<◌}
use mathlib.Core.Path.{◌≡◌, refl, ap, ◌∙◌}
use mathlib.Core.Bool.{Bool, true, false, not, false≢true, and-eq-true_iff}
use native.Mathlib.Omega.{arith}
use lib.Dec.{ltb, eqb}
use borrow.Author.Tests.{ltb-true, eqb-false, not-true, ne_eqb}
use Rattle.code.specs.declared.Op.{Op}
use Rattle.code.specs.declared.Op.TheVariants.{Acquire, Release, Assign, Jump, Finish, Unknown}
use Rattle.code.specs.Op.{op_of}
use Rattle.rules.specs.Rules.{begins, goes_on, bracketed}
use Rattle.section.specs.Check.{Code, held_before, level, form_of, judged, use_of}
use Rattle.code.specs.Form.{in_range, in_place, well_formed}
use Rattle.section.proofs.Held.{held-cong}

-- ---- the instruction

-- the operands of a jump that is in place
pub place-jump : (n i a b : ℕ) → in_place n i (Jump a b) ≡ true → (i < b) × (b < n)
place-jump n i a b e =
    let (l, u) = (and-eq-true_iff (ltb i b) (ltb b n)).0 e in
    (ltb-true i b l, ltb-true b n u)

-- only a finish can be last
pub place-last : (n i : ℕ) (x : Op) → in_place n i x ≡ true → i + 1 ≡ n → x ≡ Finish
place-last n i (Acquire a) e q = let l = ltb-true (i + 1) n e in absurd (omega arith)
place-last n i (Release a) e q = let l = ltb-true (i + 1) n e in absurd (omega arith)
place-last n i (Assign a x) e q = let l = ltb-true (i + 1) n e in absurd (omega arith)
place-last n i (Jump a b) e q = let l = place-jump n i a b e in absurd (omega arith)
place-last n i Finish e q = refl
place-last n i Unknown e q = cc

pub begins-acquire : (x : Op) → begins x ≡ true → (a : ℕ) × (x ≡ Acquire a)
begins-acquire (Acquire a) e = (a, refl)
begins-acquire (Release a) e = absurd (false≢true e)
begins-acquire (Assign a x) e = absurd (false≢true e)
begins-acquire (Jump a b) e = absurd (false≢true e)
begins-acquire Finish e = absurd (false≢true e)
begins-acquire Unknown e = absurd (false≢true e)

private-something : (h : ℕ) → not (eqb h 0) ≡ true → h ≡ 0 → ⊥
private-something h e q = eqb-false h 0 (not-true (eqb h 0) e) q

-- only a finish goes on with nothing held
pub holds-nothing : (h : ℕ) (x : Op) → goes_on h x ≡ true → h ≡ 0 → x ≡ Finish
holds-nothing h (Acquire a) e q = absurd (private-something h e q)
holds-nothing h (Release a) e q = absurd (private-something h e q)
holds-nothing h (Assign a x) e q = absurd (private-something h e q)
holds-nothing h (Jump a b) e q = absurd (private-something h e q)
holds-nothing h Finish e q = refl
holds-nothing h Unknown e q = cc

pub bracketed-later : (i h : ℕ) (x : Op) → 0 < i → bracketed i h x ≡ goes_on h x
bracketed-later i h x l = let e : eqb i 0 ≡ false = ne_eqb i 0 (λ q. omega arith) in rw e

-- ---- the words

pub form-cong : (own n i : ℕ) (code code' : Code) → code i ≡ code' i → form_of own n code i ≡ form_of own n code' i
unfolding form_of
form-cong own n i code code' e = rw e

level-cong : (n i h : ℕ) (code code' : Code) → ((j : ℕ) → j < n → code j ≡ code' j) → (x : Op) → in_place n i x ≡ true → level code h x ≡ level code' h x
level-cong n i h code code' s (Acquire a) e = refl
level-cong n i h code code' s (Release a) e = refl
level-cong n i h code code' s (Assign a x) e = refl
level-cong n i h code code' s (Jump a b) e =
    let u = place-jump n i a b e in
    ap (λ (m : ℕ). eqb m h) (held-cong code code' b (λ j l. s j (omega arith)))
level-cong n i h code code' s Finish e = refl
level-cong n i h code code' s Unknown e = refl

-- the same where the step is in place
pub use-cong : (own n i : ℕ) (code code' : Code) → ((j : ℕ) → j < n → code j ≡ code' j) → i < n → well_formed own n i (code i) ≡ true
    → use_of code i ≡ use_of code' i
unfolding use_of well_formed
use-cong own n i code code' s l e =
    let h = held_before code i in
    let x = op_of (code i) in
    let p : in_place n i x ≡ true = ((and-eq-true_iff (in_range own (code i)) (in_place n i x)).0 e).1 in
    let same : judged i h x (level code h x) ≡ judged i h x (level code' h x) = ap (λ (b : Bool). judged i h x b) (level-cong n i h code code' s x p) in
    same ∙ rw (held-cong code code' i (λ j m. s j (omega arith)), s i l)
