-- What the quick test of a section hands from step to step: the furthest step that a jump so far names. Below it no step may acquire or release, so
-- that the held set is the same at a jump and at its target.
use Rattle.std.specs.Prelude.{ℕ, Bool, true, cond, ◌&&◌, leb, ltb}
use Rattle.code.specs.declared.Op.{Op}
use Rattle.code.specs.declared.Op.TheVariants.{Acquire, Release, Assign, Jump, Finish, Unknown}
use Rattle.rules.specs.Rules.{bracketed, ordered, guarded}

-- the furthest step that a jump names, with one instruction more
abbrev pub furthest : ℕ → Op → ℕ
furthest until (Acquire a) = until
furthest until (Release a) = until
furthest until (Assign a e) = until
furthest until (Jump a b) = cond (ltb until b) b until
furthest until Finish = until
furthest until Unknown = until

-- an instruction at step i that changes the held set stands where every jump before it has come to its target
abbrev pub settled : ℕ → ℕ → Op → Bool
settled until i (Acquire a) = leb until i
settled until i (Release a) = leb until i
settled until i (Assign a e) = true
settled until i (Jump a b) = true
settled until i Finish = true
settled until i Unknown = true

-- causes 6, 7 and 8, and that
abbrev pub fair : ℕ → ℕ → ℕ → Op → Bool
fair until i h x = bracketed i h x && ordered h x && guarded h x && settled until i x
