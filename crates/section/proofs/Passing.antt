-- What the loops of the check stand on: what cause 5 leaves of an instruction, the cause that a step fails by its tests,
-- and the held set looked up in place of worked out.
use Prim.Native.Nat.{ℕ, ◌+◌, ◌-◌, ◌<◌, ◌≤◌}
use Rattle.std.proofs.Common.{Ok, Err}
use mathlib.Core.Path.{◌≡◌, refl, sym, ap, ◌∙◌}
use mathlib.Core.Bool.{true, false, false≢true}
use mathlib.Core.List.{List}
use lib.ListN.{get_or}
use lib.Dec.{ltb}
use borrow.Author.Tests.{lt-ltb, ltb-true}
use native.Mathlib.Omega.{arith}
use native.Mathlib.Numerals.{add-one}
use Rattle.base.proofs.Bools.{and_left, and_right}
use Rattle.code.specs.declared.Op.{Op}
use Rattle.code.specs.declared.Op.TheVariants.{Acquire, Release, Assign, Jump, Finish, Unknown}
use Rattle.section.specs.declared.Fault.{Fault}
use Rattle.section.specs.declared.Fault.TheVariants.{Malformed}
use Rattle.code.specs.Op.{op_of}
use Rattle.section.specs.Check.{Verdict, Code, held_before, level, first_of, form_of, judged, use_of, passes}
use Rattle.code.specs.Form.{in_range, in_place, well_formed, lock_ok, held_after}
use Rattle.rules.specs.Inner.Looked.{lands, level_in}
use Rattle.code.proofs.Ranges.{lock-ok}
use Rattle.section.proofs.First.{first_step}

-- ---- what cause 5 leaves

-- the lock is one of the 64
pub formed-lock : (own n i w : ℕ) → well_formed own n i w ≡ true → lock_ok (op_of w) ≡ true
unfolding well_formed
formed-lock own n i w h = lock-ok own w (and_left (in_range own w) (in_place n i (op_of w)) h)

private-lands : (n i : ℕ) (x : Op) → in_place n i x ≡ true → lands n x ≡ true
private-lands n i (Acquire a) h = refl
private-lands n i (Release a) h = refl
private-lands n i (Assign a e) h = refl
private-lands n i (Jump a b) h = and_right (ltb i b) (ltb b n) h
private-lands n i Finish h = refl
private-lands n i Unknown h = refl

-- and a jump's target a step of the section
pub formed-lands : (own n i w : ℕ) → well_formed own n i w ≡ true → lands n (op_of w) ≡ true
unfolding well_formed
formed-lands own n i w h = private-lands n i (op_of w) (and_right (in_range own w) (in_place n i (op_of w)) h)

pub lands-wider : (n k : ℕ) (x : Op) → n ≤ k → lands n x ≡ true → lands k x ≡ true
lands-wider n k (Acquire a) l h = refl
lands-wider n k (Release a) l h = refl
lands-wider n k (Assign a e) l h = refl
lands-wider n k (Jump a b) l h = let g = ltb-true b n h in lt-ltb b k (omega arith)
lands-wider n k Finish l h = refl
lands-wider n k Unknown l h = refl

-- ---- the held set looked up

pub looked-up :
    (code : Code) (held : List ℕ) (n h : ℕ) (x : Op) → ((j : ℕ) → j < n → get_or held j 0 ≡ held_before code j) → lands n x ≡ true
    → level_in held h x ≡ level code h x
looked-up code held n h (Acquire a) s l = refl
looked-up code held n h (Release a) s l = refl
looked-up code held n h (Assign a e) s l = refl
looked-up code held n h (Jump a b) s l = rw (s b (ltb-true b n l))
looked-up code held n h Finish s l = refl
looked-up code held n h Unknown s l = refl

-- the held set after one more step, with the code's way to count
pub held_next : (code : Code) (i : ℕ) → held_before code (i + 1) ≡ held_after (held_before code i) (op_of (code i))
unfolding held_before
held_next code i = rw (add-one i)

-- ---- the first refusal, from the step that a loop has reached

pub passed_is : (v : Verdict) → passes v ≡ true → v ≡ Ok tt
passed_is (Ok u) h = refl
passed_is (Err f) h = absurd (false≢true h)

-- a refusal is no pass
pub refused-not : (v : Verdict) → passes v ≡ false → v ≡ Ok tt → ⊥
refused-not v h e = false≢true (sym h ∙ ap passes e)

pub first_on : (f : ℕ → Verdict) (n i : ℕ) → i < n → f i ≡ Ok tt → first_of f i (n - i) ≡ first_of f (i + 1) (n - (i + 1))
first_on f n i h p = rw (first_step f i n h, p)

pub first_stops : (f : ℕ → Verdict) (n i : ℕ) (x : Fault) → i < n → f i ≡ Err x → first_of f i (n - i) ≡ Err x
first_stops f n i x h e = rw (first_step f i n h, e)

-- ---- one step

pub use-by : (code : Code) (i h : ℕ) (x : Op) → h ≡ held_before code i → x ≡ op_of (code i) → use_of code i ≡ judged i h x (level code h x)
unfolding use_of
use-by code i h x p q = rw (p, q)

pub form-fails : (own n : ℕ) (code : Code) (i : ℕ) → well_formed own n i (code i) ≡ false → form_of own n code i ≡ Err (Malformed i)
unfolding form_of
form-fails own n code i h = rw h
