-- `owed::covers` meets its contract: a set is covered where it is the intersection.
use native.Mathlib.Omega.{arith}
use Rattle.owed.proofs.Covering.{covers-and}
use Rattle.owed.proofs.covers.Goals as goal

pub returns : goal.returns
returns c = covers-and c.args.big c.args.small (omega arith)
