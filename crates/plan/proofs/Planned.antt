-- What the plan of a turn rests on: the cases of the definitions that go by the number of a turn, for a turn that is known
-- only by what it is not; and what a cursor that is ready says of its instruction.
use Prim.Native.Nat.{ℕ, suc, zero, ◌-◌, ◌<◌}
use mathlib.Core.Path.{◌≡◌, refl}
use mathlib.Core.Bool.{Bool, true, false, cond, ◌&&◌, false≢true}
use mathlib.Core.Logic.{◌≢◌}
use native.Mathlib.Omega.{arith}
use lib.Dec.{leb, ltb}
use borrow.Author.Tests.{leb-true, ltb-true, lt-ltb}
use Rattle.image.specs.declared.Field.TheVariants.{Count}
use Rattle.image.specs.declared.Field.{Field}
use Rattle.image.specs.Place.{Place, cell, field, own, Memory}
use Rattle.image.specs.Image.{index_of}
use Rattle.code.specs.declared.Op.{Op}
use Rattle.code.specs.Table.{turns_of}
use Rattle.code.specs.Op.{op_of}
use Rattle.code.specs.Inner.Fits.{fits}
use Rattle.code.specs.Form.{well_formed}
use Rattle.code.proofs.Ranges.{formed-range, in-range, turns-most}
use Rattle.working.specs.Cursor.{on}
use Rattle.worklog.specs.Log.{operand, code_in}
use Rattle.worklog.specs.declared.Plan.TheVariants.{Store}
use Rattle.plan.specs.Turn.{logged, op_turn, ready, turn_at}
use Rattle.worklog.specs.Inner.Logged.{logged_plan}
use Rattle.plan.specs.Inner.Plan.{store_plan, plan_of}

-- ---- stores at no owner word

-- the code says a store at this place by its index
abbrev pub Indexed : ℕ → Place → Type 0
Indexed n p = (v s t : ℕ) → store_plan n p v s t ≡ Store (index_of n p) v s t

pub field-indexed : (n : ℕ) (f : Field) (d : ℕ) → Indexed n (field f d)
field-indexed n f d v s t = refl

pub operand-indexed : (n d a : ℕ) → Indexed n (operand d a)
unfolding operand
operand-indexed n d a v s t = by (ltb a 512)
  where
    by : (b : Bool) → store_plan n (cond b (cell a) (own d (a - 512))) v s t ≡ Store (index_of n (cond b (cell a) (own d (a - 512)))) v s t
    by true = refl
    by false = refl

-- ---- turns by their number

module _ (n : ℕ) (rd : Memory) (d s t : ℕ) where
  -- a logged store at a place that is no owner word, as the code says it
  pub logged-plan :
      (p : Place) (v ns nt j : ℕ) → Indexed n p → plan_of n (logged n rd d s t p v (on ns nt) j) ≡ logged_plan n rd d s t (index_of n p) v ns nt j
  logged-plan p v ns nt zero x = refl
  logged-plan p v ns nt (suc zero) x = refl
  logged-plan p v ns nt (suc (suc zero)) x = refl
  logged-plan p v ns nt (suc (suc (suc j))) x = x _ ns nt

  -- its value matters at turn 1 alone
  pub value-plan : (i v ns nt j : ℕ) → j ≢ 1 → logged_plan n rd d s t i v ns nt j ≡ logged_plan n rd d s t i 0 ns nt j
  value-plan i v ns nt zero a = refl
  value-plan i v ns nt (suc zero) a = absurd (a refl)
  value-plan i v ns nt (suc (suc zero)) a = refl
  value-plan i v ns nt (suc (suc (suc j))) a = refl

-- each of five tests
private-tests : (p q r s t : Bool) → (p && q && r && s && t) ≡ true → (p ≡ true) × (q ≡ true) × (r ≡ true) × (s ≡ true) × (t ≡ true)
private-tests true true true true true e = (refl, refl, refl, refl, refl)
private-tests true true true true false e = absurd (false≢true e)
private-tests true true true false t e = absurd (false≢true e)
private-tests true true false s t e = absurd (false≢true e)
private-tests true false r s t e = absurd (false≢true e)
private-tests false q r s t e = absurd (false≢true e)

-- ---- a cursor that is ready

pub record Ready (n : ℕ) (rd : Memory) (d s t : ℕ) : Type 0 where
  pub step : s < 64
  pub turn : t < 6
  pub has : t < turns_of (code_in n rd d s)
  pub form : fits n (op_of (code_in n rd d s))

pub ready-says : (n : ℕ) (rd : Memory) (d s t : ℕ) → ready n rd d s t ≡ true → Ready n rd d s t
unfolding ready
ready-says n rd d s t e =
    let k = rd (field Count d) in
    let w = code_in n rd d s in
    let h = private-tests (leb 3 k) (leb k 64) (ltb s k) (well_formed n k s w) (ltb t (turns_of w)) e in
    record {
      step = omega (arith, leb-true k 64 h.1, ltb-true s k h.2);
      turn = omega (arith, ltb-true t (turns_of w) h.4, turns-most w);
      has = ltb-true t (turns_of w) h.4;
      form = in-range n w (formed-range n k s w h.3);
    }

-- it is ready at each turn that its instruction has
pub ready-turn : (n : ℕ) (rd : Memory) (d s t u : ℕ) → ready n rd d s t ≡ true → u < turns_of (code_in n rd d s) → ready n rd d s u ≡ true
unfolding ready
ready-turn n rd d s t u e l =
    let k = rd (field Count d) in
    let w = code_in n rd d s in
    let h = private-tests (leb 3 k) (leb k 64) (ltb s k) (well_formed n k s w) (ltb t (turns_of w)) e in
    rw (h.0, h.1, h.2, h.3) (lt-ltb u (turns_of w) l)

-- its instruction, read as the word w and decoded as x
module _ (n : ℕ) (rd : Memory) (d s t w : ℕ) (x : Op) (e : ready n rd d s t ≡ true) (f : w ≡ code_in n rd d s) (g : op_of w ≡ x) where
  pub ready-fits : fits n x × (s < 64) × (t < 6)
  ready-fits = let r = ready-says n rd d s t e in (rw (← g, f) r.form, r.step, r.turn)

  -- its turn is the instruction's
  pub ready-op : turn_at n rd d (on s t) ≡ op_turn n rd d s t x
  unfolding turn_at
  ready-op = rw (e, ← f, g)
