-- What the lines of a day do, as documents 01 and 02 say it: each whole, one after the other, the first and then the others; after a malformed line, or a
-- first line whose D formatting refuses, no more. What is printed and the sums of a day are read off this.
use Rattle.std.specs.Prelude.{ℕ, suc, List, [], ◌∷◌, ◌++◌, Some, None, cond, ◌&&◌, length, eqb, leb}
use Rattle.image.specs.Image.{Image}
use Rattle.working.specs.declared.Cursors.{Cursors}
use Rattle.working.specs.Cursor.{all_idle}
use Rattle.working.specs.Refusal.{cause_of}
use Rattle.working.specs.declared.Refusal.TheVariants.{Image as ImageRefused}
use Rattle.formatting.specs.Format.{formatted}
use Rattle.recovery.specs.Recovery.{Recovered, recovery}
use Rattle.recovery.specs.Recover.{answer_of as recovery_answer, cursors_of, recovery_leaves, stores_of}
use Rattle.edition.specs.Edition.{mark, own_words}
use Rattle.frames.specs.declared.Frame.{Frame}
use Rattle.frames.specs.declared.Frame.TheVariants.{Submit, Turns, Recover, Rounds, Malformed}
use Rattle.frames.specs.Line.{Opening, first_of, frame_of}
use Rattle.frames.specs.Print.{malformed, refusal}
use Rattle.lines.specs.Play.{Stage, submit_stage}
use Rattle.lines.specs.Answers.{recover_prints}
use Rattle.lines.specs.Whole.{Output, output, shown, turns_line, rounds_line, stores_line}

-- a line: what it does, and the cause for which no line follows, or 0
pub record Line : Type 0 where
  pub output : Output
  pub ends : ℕ

abbrev pub goes_on : Output → Line
goes_on o = record { output = o; ends = 0 }

-- only its refusal is printed
abbrev pub ends_at : Image → Cursors → ℕ → Line
ends_at m c cause = record { output = output (shown (refusal cause)) [] m c; ends = cause }

-- ---- a later line

abbrev pub submit_whole : Stage → Output
submit_whole s = output (shown s.played.printed) [] s.image s.played.cursors

abbrev pub recover_whole : Image → Recovered → Output
recover_whole m g =
    output (shown (recover_prints (recovery_answer g)) ++ stores_line (stores_of g)) [] (recovery_leaves own_words 18446744073709551615 m g) (cursors_of g)

abbrev pub line_whole : Image → Cursors → List ℕ → Frame → Line
line_whole m c l (Submit d k) = goes_on (submit_whole (submit_stage m c l d k))
line_whole m c l (Turns d k) = goes_on (turns_line k m c d)
line_whole m c l Recover = goes_on (recover_whole m (recovery mark own_words m))
line_whole m c l (Rounds r) = goes_on (rounds_line r m c)
line_whole m c l Malformed = ends_at m c malformed

-- ---- the first

abbrev pub first_whole : Opening → Line
first_whole None = ends_at [] all_idle malformed
first_whole (Some D) = cond (leb 1 D && leb D 8) (goes_on (output [] [] (formatted mark own_words D) all_idle)) (ends_at [] all_idle (cause_of ImageRefused))

-- a line is the first where there is no image yet
unfoldable pub whole_line : Image → Cursors → List ℕ → Line
whole_line m c l = cond (eqb (length m) 0) (first_whole (first_of l)) (line_whole m c l (frame_of l))

-- ---- all of them

-- what they do, the cause that ended it, or 0, and how many were read
pub record Reading : Type 0 where
  pub output : Output
  pub ends : ℕ
  pub read : ℕ

abbrev pub reading : Output → ℕ → ℕ → Reading
reading o e k = record { output = o; ends = e; read = k }

-- one output behind the other
abbrev pub behind : Output → Output → Output
behind o q = output (o.lines ++ q.lines) (o.turns ++ q.turns) q.image q.cursors

-- the lines that follow, by the image and the cursors that they find
abbrev pub followed : Line → (Image → Cursors → Reading) → Reading
followed x more =
    let y = more x.output.image x.output.cursors in
    cond (eqb x.ends 0) (reading (behind x.output y.output) y.ends (suc y.read)) (reading x.output x.ends 1)

unfoldable pub lines_whole : List (List ℕ) → Image → Cursors → Reading
lines_whole [] m c = reading (output [] [] m c) 0 0
lines_whole (l ∷ ls) m c = followed (whole_line m c l) (lines_whole ls)
