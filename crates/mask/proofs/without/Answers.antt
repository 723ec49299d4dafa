-- `mask::without` meets its contract, by the law of the machine's `&` with all bits but one.
use mathlib.Core.Path.{◌≡◌, ◌∙◌}
use Prim.Native.Nat.{◌+◌, ◌-◌, ◌^◌}
use native.Mathlib.Omega.{arith}
use lib.Bits.{bit_and, and_comm}
use lib.Pow.{pow-lt}
use Rattle.std.proofs.lemmas.Nat.{and-not}
use Rattle.mask.proofs.Laws.{one_shl, off-bit}
use Rattle.mask.proofs.without.Goals as goal

pub returns : goal.returns
returns c =
    let m = c.args.m in
    let p = 2 ^ c.args.b in
    let e : bit_and (2 ^ 64 - 1 - p) m + bit_and p m ≡ m = and-not 64 p m (pow-lt c.requires) c.ranges.m.fits in
    let l : bit_and m (2 ^ 64 - 1 - p) ≡ m - bit_and m p = rw (and_comm m (2 ^ 64 - 1 - p), and_comm m p) (omega (arith, e)) in
    rw (one_shl c.args.b c.requires) (l ∙ off-bit m c.args.b)
