-- The cases of a logged store, for a turn that is known only by what it is not.
use Rattle.std.proofs.Common.{◌≡◌, ℕ, zero, suc, ◌<◌, refl, arith}
use Rattle.image.specs.Place.{field, Memory}
use Rattle.worklog.specs.declared.Plan.TheVariants.{Store}
use Rattle.worklog.specs.Log.{active_val}
use Rattle.worklog.specs.Inner.Logged.{logged_plan}

module _ (n : ℕ) (rd : Memory) (d s t : ℕ) where
  -- from turn 3 on it stores the logged value at its target
  pub target-plan : (i v ns nt j : ℕ) → 2 < j → logged_plan n rd d s t i v ns nt j ≡ Store i (rd (field (active_val n rd d) d)) ns nt
  target-plan i v ns nt zero l = absurd (omega arith)
  target-plan i v ns nt (suc zero) l = absurd (omega arith)
  target-plan i v ns nt (suc (suc zero)) l = absurd (omega arith)
  target-plan i v ns nt (suc (suc (suc j))) l = refl
