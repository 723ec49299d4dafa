-- The lines of a day as calls: a submit; so many turns of a worker; a run of so many rounds; and for 03 a call cut after no store, and the recovery. The call
-- that is cut is a recovery, which makes no turn.
-- (Document 01, 'Frame lines'; document 02, 7/14.)
use Rattle.std.specs.Prelude.{ℕ, List, [], ◌∷◌, ◌++◌, Bool, true, false, cond, replicate}
use Rattle.frames.specs.declared.Frame.{Frame}
use Rattle.frames.specs.declared.Frame.TheVariants.{Submit, Turns, Recover, Rounds, Malformed}
use Rattle.frames.specs.Line.{frame_of, arguments_of, steps_part, words_of}
use Rattle.claims.specs.Calls.{Move, whole, cut, submits, turns, runs, recovers}

abbrev pub frame_moves : List ℕ → Frame → List Move
frame_moves l (Submit d k) = whole (submits d k (arguments_of l) (words_of (steps_part l))) ∷ []
frame_moves l (Turns d k) = replicate k (whole (turns d))
frame_moves l Recover = cut 0 recovers ∷ whole recovers ∷ []
frame_moves l (Rounds r) = whole (runs r) ∷ []
frame_moves l Malformed = []

abbrev pub is_malformed : Frame → Bool
is_malformed (Submit d k) = false
is_malformed (Turns d k) = false
is_malformed Recover = false
is_malformed (Rounds r) = false
is_malformed Malformed = true

-- of the lines behind the first, up to one that is malformed
unfoldable pub moves_of : List (List ℕ) → List Move
moves_of [] = []
moves_of (l ∷ ls) = cond (is_malformed (frame_of l)) [] (frame_moves l (frame_of l) ++ moves_of ls)
