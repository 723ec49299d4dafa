-- Cause 5 by the instruction that a word says: each has its row of the table.
use Rattle.std.specs.Prelude.{ℕ, ◌+◌, Bool, cond, ◌&&◌, List, [], ◌∷◌, get_or, leb, eqb}
use Rattle.code.specs.declared.Expr.{Expr}
use Rattle.code.specs.declared.Expr.TheVariants.{Literal, Sum, Difference, Less}
use Rattle.code.specs.declared.Op.{Op}
use Rattle.code.specs.declared.Op.TheVariants.{Acquire, Release, Assign, Jump, Finish, Unknown}
use Rattle.code.specs.Table.{table, field_a, field_b, field_c}

-- the largest value of a field whose entry is e
abbrev pub most : ℕ → ℕ → ℕ
most own e = cond (eqb e 511) (511 + own) e

-- each field is in its range, by a row
abbrev pub in_row : ℕ → ℕ → List ℕ → Bool
in_row own w r = leb (field_a w) (most own (get_or r 0 0)) && leb (field_b w) (most own (get_or r 1 0)) && leb (field_c w) (most own (get_or r 2 0))

-- the row of an assignment
abbrev pub expr_row : Expr → List ℕ
expr_row (Literal b c) = get_or table 2 []
expr_row (Sum b c) = get_or table 3 []
expr_row (Difference b c) = get_or table 4 []
expr_row (Less b c) = get_or table 5 []

-- and of an instruction; zeros where there is none
abbrev pub op_row : Op → List ℕ
op_row (Acquire a) = get_or table 0 []
op_row (Release a) = get_or table 1 []
op_row (Assign a e) = expr_row e
op_row (Jump a b) = get_or table 6 []
op_row Finish = get_or table 7 []
op_row Unknown = 0 ∷ 0 ∷ 0 ∷ 0 ∷ []
