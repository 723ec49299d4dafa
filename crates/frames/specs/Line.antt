-- What a line's bytes say. (Document 01, 'Frame lines'; document 02, 7/14.)
use Rattle.std.specs.Prelude.{ℕ, zero, suc, ◌+◌, ◌-◌, ◌*◌, ◌/◌, ◌%◌, List, [], ◌∷◌, Option, Some, None, cond, length, drop, ltb, eqb}
use Rattle.frames.specs.declared.Frame.{Frame}
use Rattle.frames.specs.declared.Frame.TheVariants.{Submit, Turns, Recover, Rounds, Malformed}
use Rattle.frames.specs.Hex.{all_hex, hex_at}

-- what the first line says: a number of workers; None where it is malformed
abbrev pub Opening : Type 0
Opening = Option ℕ

-- the first line: the number of workers in two digits
unfoldable pub first_of : List ℕ → Opening
first_of l = cond (eqb (length l) 2) (cond (all_hex l) (Some (hex_at l 0 2)) None) None

-- ---- later lines, by their first two digits

-- 01, worker (2), number (16), arguments (8 × 16), instructions (16 each)
unfoldable pub submit_frame : List ℕ → Frame
submit_frame l = cond (ltb (length l) 148) Malformed (cond (eqb ((length l - 148) % 16) 0) (Submit (hex_at l 2 2) (hex_at l 4 16)) Malformed)

-- 02, worker (2), turns (4)
unfoldable pub turns_frame : List ℕ → Frame
turns_frame l = cond (eqb (length l) 8) (Turns (hex_at l 2 2) (hex_at l 4 4)) Malformed

-- 03
unfoldable pub recover_frame : List ℕ → Frame
recover_frame l = cond (eqb (length l) 2) Recover Malformed

-- 04, rounds (4)
unfoldable pub rounds_frame : List ℕ → Frame
rounds_frame l = cond (eqb (length l) 6) (Rounds (hex_at l 2 4)) Malformed

unfoldable pub by_kind : List ℕ → ℕ → Frame
by_kind l k =
    cond (eqb k 1) (submit_frame l) (cond (eqb k 2) (turns_frame l) (cond (eqb k 3) (recover_frame l) (cond (eqb k 4) (rounds_frame l) Malformed)))

-- malformed: more than 4,096 digits, another character, no first two digits, others, or another length
unfoldable pub frame_of : List ℕ → Frame
frame_of l = cond (ltb 4096 (length l)) Malformed (cond (all_hex l) (cond (ltb (length l) 2) Malformed (by_kind l (hex_at l 0 2))) Malformed)

-- ---- the rest of a submit

abbrev pub arguments_of : List ℕ → List ℕ
arguments_of l =
    hex_at l 20 16 ∷ hex_at l 36 16 ∷ hex_at l 52 16 ∷ hex_at l 68 16 ∷ hex_at l 84 16 ∷ hex_at l 100 16 ∷ hex_at l 116 16 ∷ hex_at l 132 16 ∷ []

-- the digits after the arguments; none where the line is shorter
abbrev pub steps_part : List ℕ → List ℕ
steps_part l = drop 148 l

-- k words of a steps' part from word i on
unfoldable pub words_from : List ℕ → ℕ → ℕ → List ℕ
words_from p i zero = []
words_from p i (suc k) = hex_at p (16 * i) 16 ∷ words_from p (i + 1) k

abbrev pub words_of : List ℕ → List ℕ
words_of p = words_from p 0 (length p / 16)
