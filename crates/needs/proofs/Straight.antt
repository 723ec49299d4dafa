-- Where no jump lies ahead, the fewest turns are the most (`one-without-jumps`): which way counts is asked at a jump alone. By induction on the steps
-- from the end.
use Prim.Native.Nat.{ℕ, zero, suc, ◌-◌, ◌<◌, ◌≤◌}
use mathlib.Core.Path.{◌≡◌, refl, sym, ap}
use mathlib.Core.Bool.{false, false≢true}
use mathlib.Core.List.{List}
use native.Mathlib.Omega.{arith}
use lib.ListN.{get_or}
use Rattle.code.specs.declared.Op.{Op}
use Rattle.code.specs.declared.Op.TheVariants.{Acquire, Release, Assign, Jump, Finish, Unknown}
use Rattle.code.specs.Op.{op_of}
use Rattle.section.specs.Check.{Code}
use Rattle.needs.specs.From.{lesser, larger, onward, ahead, needs_by}
use Rattle.needs.specs.Ways.{is_jump, OneWithoutJumps}

onward-one : (i : ℕ) (x : Op) (rest : List ℕ) → is_jump x ≡ false → onward lesser i x rest ≡ onward larger i x rest
onward-one i (Acquire a) rest h = refl
onward-one i (Release a) rest h = refl
onward-one i (Assign a e) rest h = refl
onward-one i (Jump a b) rest h = absurd (false≢true (sym h))
onward-one i Finish rest h = refl
onward-one i Unknown rest h = refl

module _ (n : ℕ) (code : Code) where
  ahead-one : (k : ℕ) → k ≤ n → ((j : ℕ) → n - k ≤ j → j < n → is_jump (op_of (code j)) ≡ false) → ahead lesser n code k ≡ ahead larger n code k
  unfolding ahead
  ahead-one zero l h = refl
  ahead-one (suc k) l h =
      rw (
        ahead-one k (omega arith) (λ j a b. h j (omega arith) b),
        onward-one (n - suc k) (op_of (code (n - suc k))) (ahead larger n code k) (h (n - suc k) (omega arith) (omega arith)),
      )

pub one-without-jumps : (own n : ℕ) (code : Code) → OneWithoutJumps own n code
unfolding OneWithoutJumps needs_by
one-without-jumps own n code i h = ap (λ (l : List ℕ). get_or l 0 0) (ahead-one n code (n - i) (omega arith) (λ j a b. h j (omega arith) b))
