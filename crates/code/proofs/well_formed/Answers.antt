-- `code::well_formed` meets its contract: first the range, then the position.
use mathlib.Core.Path.{sym, ◌∙◌}
use Rattle.code.specs.Form.{well_formed}
use Rattle.code.proofs.Ranges.{range-kind}
use Rattle.code.proofs.well_formed.Goals as goal

pub in_place-requires : goal.in_place-requires
in_place-requires c =
    let k = range-kind _ _ (sym c.in_range.ensures ∙ c.if-in_range.true) in
    (k.0, k.1, c.requires)

pub returns-then-in_range : goal.returns-then-in_range
unfolding well_formed
returns-then-in_range c = simp (sym c.in_range.ensures ∙ c.if-in_range.true) c.in_place.ensures

pub returns-else-in_range : goal.returns-else-in_range
unfolding well_formed
returns-else-in_range c = simp (sym c.in_range.ensures ∙ c.if-in_range.false) c.if-in_range.false
