-- Held sets: the set before a step from the set before the last one, by the instruction between them; that it depends only on the words
-- before the step; and that a word has room for it.
use Prim.Native.Nat.{ℕ, zero, suc, ◌^◌, ◌<◌}
use mathlib.Core.Path.{◌≡◌, refl, ap, ◌∙◌}
use native.Mathlib.Omega.{arith}
use mathlib.Core.Bool.{true}
use Rattle.mask.specs.Mask.{with, without}
use Rattle.mask.proofs.Sets.{with-small, without-small}
use Rattle.code.specs.declared.Expr.{Expr}
use Rattle.code.specs.declared.Op.{Op}
use Rattle.code.specs.declared.Op.TheVariants.{Acquire, Release, Assign, Jump, Finish, Unknown}
use Rattle.code.specs.Op.{op_of}
use Rattle.section.specs.Check.{Code, held_before}
use Rattle.code.specs.Form.{in_range, held_after}
use Rattle.code.proofs.Ranges.{acquire-range}

-- ---- step by step

pub held-zero : (code : Code) → held_before code 0 ≡ 0
unfolding held_before
held-zero code = refl

pub held-step : (code : Code) (i : ℕ) → held_before code (suc i) ≡ held_after (held_before code i) (op_of (code i))
unfolding held_before
held-step code i = refl

private-after : (code : Code) (i : ℕ) (x : Op) → op_of (code i) ≡ x → held_before code (suc i) ≡ held_after (held_before code i) x
private-after code i x o = held-step code i ∙ ap (held_after (held_before code i)) o

pub after-acquire : (code : Code) (i a : ℕ) → op_of (code i) ≡ Acquire a → held_before code (suc i) ≡ with (held_before code i) a
unfolding held_after
after-acquire code i a o = private-after code i (Acquire a) o

pub after-release : (code : Code) (i a : ℕ) → op_of (code i) ≡ Release a → held_before code (suc i) ≡ without (held_before code i) a
unfolding held_after
after-release code i a o = private-after code i (Release a) o

pub after-assign : (code : Code) (i a : ℕ) (e : Expr) → op_of (code i) ≡ Assign a e → held_before code (suc i) ≡ held_before code i
unfolding held_after
after-assign code i a e o = private-after code i (Assign a e) o

pub after-jump : (code : Code) (i a b : ℕ) → op_of (code i) ≡ Jump a b → held_before code (suc i) ≡ held_before code i
unfolding held_after
after-jump code i a b o = private-after code i (Jump a b) o

-- ---- the words before the step

pub held-cong : (code code' : Code) (i : ℕ) → ((j : ℕ) → j < i → code j ≡ code' j) → held_before code i ≡ held_before code' i
unfolding held_before
held-cong code code' zero h = refl
held-cong code code' (suc i) h = rw (held-cong code code' i (λ j l. h j (omega arith)), h i (omega arith))

-- ---- a word has room for them

after_small : (h : ℕ) (x : Op) → h < 2 ^ 64 → ((a : ℕ) → x ≡ Acquire a → a < 64) → held_after h x < 2 ^ 64
unfolding held_after
after_small h (Acquire a) s l = with-small h a s (l a refl)
after_small h (Release a) s l = without-small h a s
after_small h (Assign a e) s l = s
after_small h (Jump a b) s l = s
after_small h Finish s l = s
after_small h Unknown s l = s

pub held_small : (own : ℕ) (code : Code) (i : ℕ) → ((j : ℕ) → j < i → in_range own (code j) ≡ true) → held_before code i < 2 ^ 64
unfolding held_before
held_small own code zero h = omega arith
held_small own code (suc i) h =
    after_small (held_before code i) (op_of (code i)) (held_small own code i (λ j l. h j (omega arith)))
    (λ a o. acquire-range own (code i) a (h i (omega arith)) o)
