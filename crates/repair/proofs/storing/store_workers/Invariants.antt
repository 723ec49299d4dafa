-- `repair::storing::store_workers` meets its contract. The loop's invariant: what the rows from worker d on leave of the
-- image and the stores left, as they are now, is what all of them leave of the first ones.
use Prim.Native.Nat.{ℕ, ◌-◌}
use mathlib.Core.Path.{◌≡◌}
use mathlib.Core.List.{List}
use lib.ListN.{length}
use Rattle.image.specs.Place.{Store}
use Rattle.image.specs.Image.{put_all}
use Rattle.repair.specs.Plan.{rows}
use Rattle.repair.specs.Repair.{Slots}
use Rattle.repair.proofs.storing.store_workers.Given as goal

abbrev pub invariant-loop-d : goal.invariant-loop-d
invariant-loop-d g l = (length l.image ≡ length l.initial.image)
    × ((n : ℕ) (f : ℕ → List Store) → Slots n f (λ d s. goal.F-post g l.slot d s)
    → (put_all n l.left l.image (rows f l.d (8 - l.d)) ≡ put_all n l.initial.left l.initial.image (rows f 0 8))
    × (l.left - length (rows f l.d (8 - l.d)) ≡ l.initial.left - length (rows f 0 8)))
