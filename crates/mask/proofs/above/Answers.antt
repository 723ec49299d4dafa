-- `mask::above` meets its contract.
use native.Mathlib.Omega.{arith}
use lib.Count.{leading_le}
use Rattle.mask.proofs.Highest.{above-leading}
use Rattle.mask.proofs.above.Goals as goal

pub overflow_cast-result : goal.overflow_cast-result
overflow_cast-result c = let l = leading_le 64 c.args.m in omega arith

pub overflow_sub-result : goal.overflow_sub-result
overflow_sub-result c = let l = leading_le 64 c.args.m in omega arith

pub returns : goal.returns
returns c = above-leading c.args.m c.args.a c.ranges.m.fits
