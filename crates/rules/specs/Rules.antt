-- Causes 6, 7 and 8: each the test of an instruction with h held before it. Cause 9 looks at the section, and stands with the check.
use Rattle.std.specs.Prelude.{ℕ, ◌/◌, Bool, true, false, cond, ◌&&◌, ◌||◌, not, leb, eqb}
use Rattle.mask.specs.Mask.{has, above}
use Rattle.code.specs.declared.Expr.{Expr}
use Rattle.code.specs.declared.Expr.TheVariants.{Literal, Sum, Difference, Less}
use Rattle.code.specs.declared.Op.{Op}
use Rattle.code.specs.declared.Op.TheVariants.{Acquire, Release, Assign, Jump, Finish, Unknown}

-- word number x is an own word, or its lock is held
abbrev pub covered : ℕ → ℕ → Bool
covered h x = leb 512 x || has h (x / 8)

abbrev pub covered_in : ℕ → Expr → Bool
covered_in h (Literal b c) = true
covered_in h (Sum b c) = covered h b && covered h c
covered_in h (Difference b c) = covered h b && covered h c
covered_in h (Less b c) = covered h b && covered h c

-- cause 6: the first step acquires, a later one holds something, a finish holds nothing
abbrev pub begins : Op → Bool
begins (Acquire a) = true
begins (Release a) = false
begins (Assign a e) = false
begins (Jump a b) = false
begins Finish = false
begins Unknown = false

abbrev pub goes_on : ℕ → Op → Bool
goes_on h (Acquire a) = not (eqb h 0)
goes_on h (Release a) = not (eqb h 0)
goes_on h (Assign a e) = not (eqb h 0)
goes_on h (Jump a b) = not (eqb h 0)
goes_on h Finish = eqb h 0
goes_on h Unknown = false

abbrev pub bracketed : ℕ → ℕ → Op → Bool
bracketed i h x = cond (eqb i 0) (begins x) (goes_on h x)

-- cause 7: an acquire is above all that is held, a release's lock is held
abbrev pub ordered : ℕ → Op → Bool
ordered h (Acquire a) = above h a
ordered h (Release a) = has h a
ordered h (Assign a e) = true
ordered h (Jump a b) = true
ordered h Finish = true
ordered h Unknown = true

-- cause 8: every cell that is read or written has its lock held
abbrev pub guarded : ℕ → Op → Bool
guarded h (Acquire a) = true
guarded h (Release a) = true
guarded h (Assign a e) = covered h a && covered_in h e
guarded h (Jump a b) = covered h a
guarded h Finish = true
guarded h Unknown = true
