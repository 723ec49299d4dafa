-- `owed::shared` meets its contract.
use borrow.Author.Tests.{ltb-true, ltb-false}
use mathlib.Core.Path.{◌≡◌, sym, ◌∙◌}
use native.Mathlib.Omega.{arith}
use lib.Count.{trailing_le}
use lib.ListN.{length}
use Rattle.owed.specs.Owed.{claimants}
use Rattle.owed.specs.Inner.Shared.{sets_in}
use Rattle.mask.proofs.Lowest.{low_below, low-has}
use Rattle.owed.proofs.Sharing.{none_has, once-next, twice-next, shared-is}
use Rattle.owed.proofs.shared.Goals as goal

pub loop-set-init : goal.loop-set-init
loop-set-init c = let s = sets_in c.args.sets.now in (λ b. none_has s b 0, λ b. none_has s b 1)

pub loop-set-preserved : goal.loop-set-preserved
loop-set-preserved c =
    let s = sets_in c.args.sets.now in
    let L = c.loop-set in
    let i = L.set-index in
    (λ b. once-next s i b L.once (L.invariant.0 b), λ b. twice-next s i b L.once (L.invariant.0 b) L.twice (L.invariant.1 b))

pub overflow_cast-result : goal.overflow_cast-result
overflow_cast-result c = let l = trailing_le 64 c.loop-set.twice in omega arith

pub returns : goal.returns
returns c =
    let L = c.loop-set in
    let sets = c.args.sets.now in
    let e : L.set-index ≡ length sets = omega arith in
    let f = rw e at L.invariant.1 in
    let s = sets_in sets in
    shared-is s (length sets) _ 64 0 (omega arith) (
      trailing_le 64 L.twice,
      (λ b g l. ltb-false 1 (claimants s b (length sets)) (sym (f b) ∙ low_below 64 L.twice b l)),
      λ l. ltb-true 1 _ (sym (f _) ∙ low-has 64 L.twice l),
    )
