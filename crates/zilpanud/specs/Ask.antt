-- The questions about a worker: when they are refused, and what they answer.
use Rattle.std.specs.Prelude.{ℕ, cond, eqb, Result, Ok, Err}
use Rattle.image.specs.Image.{Image}
use Rattle.working.specs.declared.Cursors.{Cursors}
use Rattle.working.specs.declared.Refusal.{Refusal}
use Rattle.asking.specs.declared.Standing.{Standing}
use Rattle.asking.specs.declared.Standing.TheVariants.{NotBegun, Begun, Finished as StandsFinished}
use Rattle.edition.specs.Edition.{mark, own_words}
use Rattle.working.specs.Cursor.{is_idle, cursor_at}
use Rattle.asking.specs.Asking.{standing_of, ask_code as asked, finished_of}
use Rattle.needs.specs.Left.{Left, left_of}

-- the number that a question about worker d returns: causes 10 and 1, or 0
abbrev pub ask_code : Image → ℕ → ℕ
ask_code m d = asked mark own_words m d

-- what it answers: 0 where it is refused
unfoldable pub told : Image → ℕ → ℕ → ℕ
told m d v = cond (eqb (ask_code m d) 0) v 0

-- 1 for an idle worker
unfoldable pub idle_bit : Cursors → ℕ → ℕ
idle_bit c d = cond (is_idle (cursor_at c d)) 1 0

-- the number of the last section that worker d finished; 0 where it is refused
abbrev pub finished_no : Image → ℕ → ℕ
finished_no m d = finished_of mark own_words m d

-- the number that a standing crosses as; 0 where it is refused
abbrev pub standing_no : Result Standing Refusal → ℕ
standing_no (Ok NotBegun) = 0
standing_no (Ok Begun) = 1
standing_no (Ok StandsFinished) = 2
standing_no (Err r) = 0

-- how worker d stands to section k, as a number
abbrev pub stands : Image → ℕ → ℕ → ℕ
stands m d k = standing_no (standing_of mark own_words m d k)

-- what worker d's section still needs after a recovery; this question is refused with cause 12, too
abbrev pub still_needing : Image → ℕ → Left
still_needing m d = left_of mark own_words m d
