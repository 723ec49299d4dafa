-- What a whole line prints, the turns it makes and what it leaves: as documents 01 and 02 say it for turns, rounds and recoveries (`turns_line`, `rounds_line`,
-- `stores_line`), and as the pieces of `Play` put together (`pieces`). proofs/Whole.antt and proofs/WholeRounds.antt show that they are the same.
use Rattle.std.specs.Prelude.{ℕ, zero, suc, ◌+◌, List, [], ◌∷◌, ◌++◌, Some, None, cond, replicate}
use Rattle.image.specs.Place.{Store}
use Rattle.image.specs.Image.{Image, index_of, workers, header_ok}
use Rattle.working.specs.declared.Cursors.{Cursors}
use Rattle.working.specs.declared.Refusal.TheVariants.{Image as ImageRefused}
use Rattle.working.specs.Cursor.{is_idle, cursor_at}
use Rattle.working.specs.Refusal.{cause_of}
use Rattle.edition.specs.Edition.{mark, own_words}
use Rattle.turn.specs.declared.Answer.{Answer}
use Rattle.turn.specs.Call.{is_refused}
use Rattle.plan.specs.Turn.{Outcome}
use Rattle.turn.specs.Call.{outcome, outcome_at, answer_of, leaves}
use Rattle.run.specs.Run.{any_open}
use Rattle.frames.specs.Print.{Printed, line, refusal}
use Rattle.lines.specs.declared.Made.{Made}
use Rattle.lines.specs.Answers.{turn_prints}
use Rattle.lines.specs.Play.{Stage, uncut, go_on}

-- a turn that was made: whose it was, and its answer
pub record Took : Type 0 where
  pub worker : ℕ
  pub answer : Answer

abbrev pub took : ℕ → Answer → Took
took d a = record { worker = d; answer = a }

-- the lines printed, the turns made, and what is left; a refused turn is not made
pub record Output : Type 0 where
  pub lines : List Printed
  pub turns : List Took
  pub image : Image
  pub cursors : Cursors

abbrev pub output : List Printed → List Took → Image → Cursors → Output
output ps ts m c = record { lines = ps; turns = ts; image = m; cursors = c }

abbrev pub shown : Printed → List Printed
shown None = []
shown (Some l) = Some l ∷ []

-- something printed and some turns before the rest
abbrev pub onto : Printed → List Took → Output → Output
onto p ts o = output (shown p ++ o.lines) (ts ++ o.turns) o.image o.cursors

-- ---- 02: so many turns of worker d, one after the other; a refused one ends the line

abbrev pub turn_then : (Image → Cursors → Output) → Image → Cursors → ℕ → Outcome → Output
turn_then more m c d o =
    let w = leaves own_words (uncut m c) d o in
    let a = answer_of own_words o in
    cond (is_refused a) (output (shown (turn_prints m a)) [] m c) (onto (turn_prints w.image a) (took d a ∷ []) (more w.image w.cursors))

unfoldable pub turns_line : ℕ → Image → Cursors → ℕ → Output
turns_line zero m c d = output [] [] m c
turns_line (suc k) m c d = turn_then (λ m' c'. turns_line k m' c' d) m c d (outcome mark own_words (uncut m c) d)

-- ---- 04: so many rounds, each a turn of each open worker by rising number, until all are idle; a refused turn ends the line

-- the turns of k workers from d on, and then the rest
unfoldable pub round_line : (Image → Cursors → Output) → ℕ → ℕ → Image → Cursors → Output
round_line more zero d m c = more m c
round_line more (suc k) d m c =
    cond (is_idle (cursor_at c d)) (round_line more k (d + 1) m c) (turn_then (round_line more k (d + 1)) m c d (outcome_at own_words (uncut m c) d))

-- of D workers
unfoldable pub rounds_over : ℕ → ℕ → Image → Cursors → Output
rounds_over zero D m c = output [] [] m c
rounds_over (suc r) D m c = cond (any_open D 0 c) (round_line (rounds_over r D) D 0 m c) (output [] [] m c)

unfoldable pub rounds_line : ℕ → Image → Cursors → Output
rounds_line zero m c = output [] [] m c
rounds_line (suc r) m c = cond (header_ok mark own_words m) (rounds_over (suc r) (workers m) m c) (output (shown (refusal (cause_of ImageRefused))) [] m c)

-- ---- 03: the stores of a recovery, in their order

abbrev pub stores_line : List Store → List Printed
stores_line [] = []
stores_line (s ∷ ss) = line (index_of own_words s.place) s.value ∷ stores_line ss

-- ---- the pieces of a line put together

-- the turns that a piece made
abbrev pub turns_in : Made → List Took
turns_in t = replicate t.times (took t.worker t.answer)

unfoldable pub pieces : ℕ → Stage → Output
pieces zero s = output [] [] s.image s.played.cursors
pieces (suc f) s = onto (go_on s).played.printed (turns_in (go_on s).played.made) (pieces f (go_on s))
