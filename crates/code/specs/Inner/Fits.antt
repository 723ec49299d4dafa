-- An instruction whose operands are in their ranges: what cause 5 leaves of one, said of the instruction.
use Rattle.std.specs.Prelude.{ℕ, ◌+◌, ◌<◌}
use Rattle.code.specs.declared.Expr.{Expr}
use Rattle.code.specs.declared.Expr.TheVariants.{Literal, Sum, Difference, Less}
use Rattle.code.specs.declared.Op.{Op}
use Rattle.code.specs.declared.Op.TheVariants.{Acquire, Release, Assign, Jump, Finish, Unknown}

-- the operands of an expression are in their ranges, with this number of own words
abbrev pub ranged : ℕ → Expr → Type 0
ranged own (Literal b c) = (b < 65536) × (c < 65536)
ranged own (Sum b c) = (b < 512 + own) × (c < 512 + own)
ranged own (Difference b c) = (b < 512 + own) × (c < 512 + own)
ranged own (Less b c) = (b < 512 + own) × (c < 512 + own)

-- the operands of an instruction are
abbrev pub fits : ℕ → Op → Type 0
fits own (Acquire a) = a < 64
fits own (Release a) = a < 64
fits own (Assign a e) = (a < 512 + own) × ranged own e
fits own (Jump a b) = (a < 512 + own) × (b < 64)
fits own Finish = Unit {0}
fits own Unknown = ⊥
