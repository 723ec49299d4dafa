-- `frames::digits::number` meets its contract. The loop's invariant: the number so far has as many digits as were read, and with
-- the digits that are left it is the whole.
use Rattle.std.proofs.Common.{◌≡◌, ◌<◌, ◌-◌, ◌+◌, ◌^◌}
use Rattle.frames.specs.Hex.{hex_from, hex_at}
use Rattle.frames.proofs.digits.number.Given as goal

abbrev pub invariant-loop-b : goal.invariant-loop-b
invariant-loop-b l = (l.v < 16 ^ l.b-index) × (hex_from l.line (l.at + l.b-index) (l.n - l.b-index) l.v ≡ hex_at l.line l.at l.n)
