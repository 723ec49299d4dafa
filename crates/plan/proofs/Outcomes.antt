-- Laws of outcomes: of one of two (`either`); of a release's lock turn, which stores or passes (`unlock-either`). What its report says of the
-- owner word: it is freed exactly where the word names the worker (`found`, `named-freed`).
use Prim.Native.Nat.{ℕ, ◌+◌}
use mathlib.Core.Path.{◌≡◌, refl}
use mathlib.Core.Logic.{◌≢◌}
use mathlib.Core.Bool.{Bool, true, false, cond}
use lib.Dec.{eqb}
use borrow.Author.Tests.{eqb-true, eqb-false, eq-eqb}
use Rattle.image.specs.Place.{lock, Memory}
use Rattle.worklog.specs.declared.Passing.{Passing}
use Rattle.working.specs.Cursor.{on}
use Rattle.plan.specs.declared.Report.{Report}
use Rattle.plan.specs.declared.Report.TheVariants.{Freed, AlreadyFree, Others}
use Rattle.plan.specs.Report.{report_of}
use Rattle.plan.specs.Turn.{Outcome, stored, passed, unlock_by, unlock_turn}

pub either : (P : Outcome → Type 0) (b : Bool) (x y : Outcome) → (b ≡ true → P x) → (b ≡ false → P y) → P (cond b x y)
either P true x y p q = p refl
either P false x y p q = q refl

module _ (d word : ℕ) where
  pub named-freed : word ≡ d + 1 → report_of d word ≡ Freed
  named-freed e = rw (eq-eqb word (d + 1) e)

  -- what the report says of the word
  abbrev pub Found : Report → Type 0
  Found Freed = word ≡ d + 1
  Found AlreadyFree = (word ≢ d + 1) × (word ≡ 0)
  Found Others = (word ≢ d + 1) × (word ≢ 0)

  pub found : Found (report_of d word)
  found = by (eqb word (d + 1)) refl (eqb word 0) refl
    where
      by : (b : Bool) → eqb word (d + 1) ≡ b → (z : Bool) → eqb word 0 ≡ z → Found (cond b Freed (cond z AlreadyFree Others))
      by true e z f = eqb-true _ _ e
      by false e true f = (eqb-false _ _ e, eqb-true _ _ f)
      by false e false f = (eqb-false _ _ e, eqb-false _ _ f)

pub unlock-either :
    (n : ℕ) (rd : Memory) (d a s : ℕ) (P : Outcome → Type 0) → P (stored (lock a) 0 (on s 5)) → ((why : Passing) → P (passed why (on s 5)))
    → P (unlock_turn n rd d a s)
unlock-either n rd d a s P frees passes = by (report_of d (rd (lock a)))
  where
    by : (r : Report) → P (unlock_by n rd d a s r)
    by Freed = frees
    by AlreadyFree = passes _
    by Others = passes _
