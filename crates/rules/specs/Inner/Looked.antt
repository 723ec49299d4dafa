-- Cause 9 with the held set before each step in a list: a jump's target is looked up there.
use Rattle.std.specs.Prelude.{ℕ, Bool, true, List, get_or, ltb, eqb}
use Rattle.code.specs.declared.Op.{Op}
use Rattle.code.specs.declared.Op.TheVariants.{Acquire, Release, Assign, Jump, Finish, Unknown}

-- a jump's target is a step of n
abbrev pub lands : ℕ → Op → Bool
lands n (Acquire a) = true
lands n (Release a) = true
lands n (Assign a e) = true
lands n (Jump a b) = ltb b n
lands n Finish = true
lands n Unknown = true

-- cause 9, the target's held set looked up
abbrev pub level_in : List ℕ → ℕ → Op → Bool
level_in held h (Acquire a) = true
level_in held h (Release a) = true
level_in held h (Assign a e) = true
level_in held h (Jump a b) = eqb (get_or held b 0) h
level_in held h Finish = true
level_in held h Unknown = true
