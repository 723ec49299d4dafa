-- A turn at a step of a valid section is never refused: each test before it passes, so that it is what the step's instruction
-- does. Further, what a valid section says of the step behind an instruction that is no finish.
use Prim.Native.Nat.{ℕ, suc, ◌-◌, ◌<◌}
use mathlib.Core.Path.{◌≡◌, sym, ap, ◌∙◌}
use mathlib.Core.Bool.{true, false, false≢true}
use native.Mathlib.Omega.{arith}
use native.Mathlib.Decide.{ℕ_discrete}
use lib.Dec.{ltb}
use borrow.Author.Tests.{le-leb, lt-ltb}
use Rattle.image.specs.declared.Field.TheVariants.{Count}
use Rattle.image.specs.Place.{field, Memory}
use Rattle.code.specs.declared.Op.{Op}
use Rattle.code.specs.declared.Op.TheVariants.{Finish}
use Rattle.code.specs.Table.{turns_of}
use Rattle.code.specs.Op.{op_of, is_finish}
use Rattle.section.specs.Check.{Code, held_before}
use Rattle.code.specs.Form.{well_formed}
use Rattle.section.specs.Valid.{Valid}
use Rattle.section.proofs.Facts.{valid-passed, check-parts}
use Rattle.code.proofs.Ranges.{op_turns, turns-op}
use Rattle.working.specs.Cursor.{on}
use Rattle.worklog.specs.Log.{code_in}
use Rattle.plan.specs.Turn.{op_turn, ready, turn_at}

-- ---- the tests before a turn

module _ (n : ℕ) (rd : Memory) (d s t : ℕ) (x : Op) (v : Valid n (rd (field Count d)) (code_in n rd d)) (l : s < rd (field Count d))
    (o : op_of (code_in n rd d s) ≡ x) (m : t < op_turns x) where
  ready_at : ready n rd d s t ≡ true
  unfolding ready
  ready_at =
      let c = rd (field Count d) in
      let w = code_in n rd d s in
      let form : well_formed n c s w ≡ true = (check-parts n c (code_in n rd d) (valid-passed n c (code_in n rd d) v)).2 s l in
      let turns : ltb t (turns_of w) ≡ true = rw (turns-op w x o) (lt-ltb t (op_turns x) m) in
      rw (le-leb 3 c v.least, le-leb c 64 v.most, lt-ltb s c l, form, turns)

  -- a turn is what its instruction does
  pub turn-op : turn_at n rd d (on s t) ≡ op_turn n rd d s t x
  unfolding turn_at
  turn-op = rw (ready_at, o)

-- ---- the step behind

module _ (own n : ℕ) (code : Code) (v : Valid own n code) where
  -- only a finish is last
  pub step-behind : (s : ℕ) (x : Op) → s < n → op_of (code s) ≡ x → is_finish x ≡ false → suc s < n
  step-behind s x l o f = by (ℕ_discrete (suc s) n)
    where
      by : Dec (suc s ≡ n) → suc s < n
      by (yes e) =
          let q : s ≡ n - 1 = omega arith in
          let z : op_of (code s) ≡ Finish = rw q v.last in
          absurd (false≢true (sym f ∙ ap is_finish (sym o ∙ z)))
      by (no e) = omega arith

  -- a finish holds nothing
  pub finish-free : (s : ℕ) → s < n → op_of (code s) ≡ Finish → held_before code s ≡ 0
  finish-free s l o =
      let q : s ≡ n - 1 = omega (arith, v.only-last s l o) in
      rw q v.ends-free
