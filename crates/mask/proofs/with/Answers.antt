-- `mask::with` meets its contract, by the law of the machine's `|` with one bit.
use Rattle.mask.proofs.Laws.{one_shl, or-bit}
use Rattle.mask.proofs.with.Goals as goal

pub returns : goal.returns
returns c = rw (one_shl c.args.b c.requires) (or-bit c.args.m c.args.b)
