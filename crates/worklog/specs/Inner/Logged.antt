-- Turn j of a logged store, as the code says it.
use Rattle.std.specs.Prelude.{ℕ, zero, suc, ◌+◌}
use Rattle.image.specs.declared.Field.TheVariants.{Pc}
use Rattle.image.specs.Place.{field, Memory}
use Rattle.image.specs.Image.{index_of}
use Rattle.worklog.specs.declared.Plan.{Plan}
use Rattle.worklog.specs.declared.Plan.TheVariants.{Store}
use Rattle.worklog.specs.Log.{spare_addr, spare_val, active_val, switched}

-- at any index: address, value, pc, target
abbrev pub logged_plan : (n : ℕ) (rd : Memory) (d s t target v ns nt j : ℕ) → Plan
logged_plan n rd d s t target v ns nt zero = Store (index_of n (field (spare_addr n rd d) d)) target s (t + 1)
logged_plan n rd d s t target v ns nt (suc zero) = Store (index_of n (field (spare_val n rd d) d)) v s (t + 1)
logged_plan n rd d s t target v ns nt (suc (suc zero)) = Store (index_of n (field Pc d)) (switched n rd d s) s (t + 1)
logged_plan n rd d s t target v ns nt (suc (suc (suc j))) = Store target (rd (field (active_val n rd d) d)) ns nt
