-- `record::span_in` meets its contract: the words loaded need what the record's do.
use mathlib.Core.Path.{◌∙◌}
use native.Mathlib.Omega.{arith}
use Rattle.needs.proofs.Resumed.{first-passable, first-span}
use Rattle.needs.proofs.record.span_in.Goals as goal

pub span_from-requires : goal.span_from-requires
span_from-requires c =
    let A = c.args in
    first-passable _ _ A.k _ c.load_steps.ensures (omega arith) A.own A.from c.requires.3 c.requires.2

pub returns : goal.returns
returns c = c.span_from.ensures ∙ first-span _ _ c.args.k _ c.load_steps.ensures (omega arith) c.args.from
