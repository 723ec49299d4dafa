-- How the code says the outcome of an open worker that is not refused: the index in place of the place, or the lock whose owner word it is, and
-- the cursor after it by its two numbers. The last two cases, which are no such outcome's, are there for totality; nothing is done at them.
use Rattle.std.specs.Prelude.{ℕ, cond, eqb}
use Rattle.image.specs.Place.{Place, cell, lock, field, own, step}
use Rattle.image.specs.Image.{index_of}
use Rattle.working.specs.Cursor.{step_no, turn_no}
use Rattle.worklog.specs.declared.Plan.{Plan}
use Rattle.worklog.specs.declared.Plan.TheVariants.{Store, Take, Free, Pass, Wait}
use Rattle.plan.specs.Turn.{Outcome, stored, passed, waiting, resting, refused}

-- a store of v at a place, with the step and turn after it
abbrev pub store_plan : ℕ → Place → ℕ → ℕ → ℕ → Plan
store_plan n (cell x) v s t = Store (index_of n (cell x)) v s t
store_plan n (lock b) v s t = cond (eqb v 0) (Free b s t) (Take b v s t)
store_plan n (field f d) v s t = Store (index_of n (field f d)) v s t
store_plan n (own d i) v s t = Store (index_of n (own d i)) v s t
store_plan n (step d i) v s t = Store (index_of n (step d i)) v s t

abbrev pub plan_of : ℕ → Outcome → Plan
plan_of n (stored p v c) = store_plan n p v (step_no c) (turn_no c)
plan_of n (passed y c) = Pass y (step_no c) (turn_no c)
plan_of n (waiting b) = Wait b
plan_of n resting = Wait 0
plan_of n (refused r) = Wait 0
