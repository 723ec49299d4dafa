-- `owed::union` meets its contract.
use Prim.Native.Nat.{ℕ, ◌+◌}
use mathlib.Core.Path.{◌≡◌, refl}
use native.Mathlib.Numerals.{add-one}
use native.Mathlib.Omega.{arith}
use lib.Bits.{bit_or}
use lib.ListN.{length}
use Rattle.mask.specs.Mask.{union}
use Rattle.owed.specs.Inner.Shared.{sets_in}
use Rattle.owed.proofs.union.Goals as goal

union-next : (sets : ℕ → ℕ) (d : ℕ) → union sets (d + 1) ≡ bit_or (union sets d) (sets d)
unfolding union
union-next sets d = rw (add-one d)

pub loop-set-init : goal.loop-set-init
unfolding union
loop-set-init c = refl

pub loop-set-preserved : goal.loop-set-preserved
loop-set-preserved c = let L = c.loop-set in rw (union-next (sets_in c.args.sets.now) L.set-index, ← L.invariant)

pub returns : goal.returns
returns c =
    let L = c.loop-set in
    let e : L.set-index ≡ length c.args.sets.now = omega arith in
    rw (← e) L.invariant
