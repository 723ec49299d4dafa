-- `repair::storing::store_locks` meets its contract. The loop's invariant: what the locks that are left leave of the image
-- and the stores left, as they are now, is what all of the set leave of the first ones.
use Prim.Native.Nat.{ℕ, ◌-◌, ◌<◌, ◌^◌}
use mathlib.Core.Path.{◌≡◌}
use lib.ListN.{length}
use Rattle.image.specs.Image.{put_all}
use Rattle.repair.specs.Plan.{rows}
use Rattle.repair.specs.Repair.{lock_slot}
use Rattle.repair.proofs.storing.store_locks.Given as goal

abbrev pub invariant-loop-rest : goal.invariant-loop-rest
invariant-loop-rest l = (l.rest < 2 ^ 64) × (length l.image ≡ length l.initial.image)
    × ((n : ℕ) → put_all n l.k l.image (rows (lock_slot l.rest l.value) 0 64) ≡ put_all n l.initial.k l.initial.image (rows (lock_slot l.set l.value) 0 64))
    × (l.k - length (rows (lock_slot l.rest l.value) 0 64) ≡ l.initial.k - length (rows (lock_slot l.set l.value) 0 64))

abbrev pub decreases-loop-rest : goal.decreases-loop-rest
decreases-loop-rest l = l.rest
