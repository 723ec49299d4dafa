-- The instructions, how a word says one, and what an expression gives.
use Rattle.std.specs.Prelude.{ℕ, suc, zero, ◌+◌, ◌*◌, ◌-◌, ◌^◌, min, Bool, true, false, cond, ltb}
use Rattle.code.specs.declared.Expr.{Expr}
use Rattle.code.specs.declared.Expr.TheVariants.{Literal, Sum, Difference, Less}
use Rattle.code.specs.declared.Op.{Op}
use Rattle.code.specs.declared.Op.TheVariants.{Acquire, Release, Assign, Jump, Finish, Unknown}
use Rattle.code.specs.Table.{kind_of, field_a, field_b, field_c}

-- kinds 1 to 8 in order. (Document 01: take, drop, four assignments, skip, end.)
abbrev pub by_kind : ℕ → ℕ → ℕ → ℕ → Op
by_kind zero a b c = Unknown
by_kind (suc zero) a b c = Acquire a
by_kind (suc (suc zero)) a b c = Release a
by_kind (suc (suc (suc zero))) a b c = Assign a (Literal b c)
by_kind (suc (suc (suc (suc zero)))) a b c = Assign a (Sum b c)
by_kind (suc (suc (suc (suc (suc zero))))) a b c = Assign a (Difference b c)
by_kind (suc (suc (suc (suc (suc (suc zero)))))) a b c = Assign a (Less b c)
by_kind (suc (suc (suc (suc (suc (suc (suc zero))))))) a b c = Jump a b
by_kind (suc (suc (suc (suc (suc (suc (suc (suc zero)))))))) a b c = Finish
by_kind (suc (suc (suc (suc (suc (suc (suc (suc (suc k))))))))) a b c = Unknown

-- the instruction that a word says
unfoldable pub op_of : ℕ → Op
op_of w = by_kind (kind_of w) (field_a w) (field_b w) (field_c w)

abbrev pub is_finish : Op → Bool
is_finish (Acquire a) = false
is_finish (Release a) = false
is_finish (Assign a e) = false
is_finish (Jump a b) = false
is_finish Finish = true
is_finish Unknown = false

-- what an expression of two words gives of what they hold; a literal has none. A sum stops at the largest word, a difference at 0
-- (document 02, 5/14: a total never goes below nothing and never starts over)
unfoldable pub of_two : Expr → ℕ → ℕ → ℕ
of_two (Literal b c) x y = 0
of_two (Sum b c) x y = min (x + y) (2 ^ 64 - 1)
of_two (Difference b c) x y = x - y
of_two (Less b c) x y = cond (ltb x y) 1 0

-- what an expression gives, its operands read by f
unfoldable pub eval : (ℕ → ℕ) → Expr → ℕ
eval f (Literal b c) = 65536 * b + c
eval f (Sum b c) = of_two (Sum b c) (f b) (f c)
eval f (Difference b c) = of_two (Difference b c) (f b) (f c)
eval f (Less b c) = of_two (Less b c) (f b) (f c)
