-- `repair::storing::store_relocks` meets its contract. The loop's invariant: what the locks of the workers from d on leave of
-- the image and the stores left, as they are now, is what those of all workers leave of the first ones.
use Prim.Native.Nat.{ℕ, ◌+◌, ◌-◌, ◌*◌}
use mathlib.Core.Path.{◌≡◌}
use lib.ListN.{length}
use Rattle.image.specs.Image.{put_all}
use Rattle.repair.specs.Plan.{rows}
use Rattle.repair.specs.Repair.{slot_at}
use Rattle.repair.proofs.storing.store_relocks.Given as goal

abbrev pub invariant-loop-d : goal.invariant-loop-d
invariant-loop-d l = (length l.image ≡ length l.initial.image)
    × ((n : ℕ) → put_all n l.left l.image (rows (slot_at l.fn.r) (80 + 64 * l.d) (512 - 64 * l.d))
    ≡ put_all n l.initial.left l.initial.image (rows (slot_at l.fn.r) 80 512))
    × (l.left - length (rows (slot_at l.fn.r) (80 + 64 * l.d) (512 - 64 * l.d)) ≡ l.initial.left - length (rows (slot_at l.fn.r) 80 512))
