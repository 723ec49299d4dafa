-- What a call is lent and leaves, as the engine's world: an image, the working record as two arrays and a mask, and the stores left; and
-- what each call answers and leaves there, in the edition of images that the library serves.
use Rattle.std.specs.Prelude.{ℕ, List, [], ◌∷◌, length}
use Rattle.image.specs.Image.{Image}
use Rattle.section.specs.Check.{Verdict, code_of, check}
use Rattle.section.specs.Sets.{sets_answer, sets_leave}
use Rattle.tally.specs.declared.Tally.{Tally}
use Rattle.turn.specs.declared.Answer.{Answer}
use Rattle.edition.specs.Edition.{mark, own_words}
use Rattle.needs.specs.Path.{Along, along_of}
use Rattle.needs.specs.From.{Needed, needs_of}
use Rattle.working.specs.World.{World, world}
use Rattle.turn.specs.Call.{answer_of, leaves, outcome}
use Rattle.formatting.specs.Format.{Formatted, format_answer, format_leaves, format_left}
use Rattle.intake.specs.Submit.{Submitted, submit_answer, submit_leaves}
use Rattle.working.specs.Cursor.{cursors, all_idle}
use Rattle.run.specs.Run.{Course, run_of}
use Rattle.soundness.specs.Answer.{Answer as Recovery}
use Rattle.recovery.specs.Recovery.{recovery}
use Rattle.recovery.specs.Recover.{answer_of as recovery_answer, cursors_of, recovery_leaves, recovery_left}

abbrev pub lent : Image → List ℕ → List ℕ → ℕ → ℕ → World
lent image step turn held left = world image (cursors step turn held) left

-- ---- formatting, of which the record lent does not matter

abbrev pub formatting : Image → ℕ → Formatted
formatting m D = format_answer own_words m D

abbrev pub formats_to : Image → ℕ → ℕ → World
formats_to m D left = world (format_leaves mark own_words left m D (formatting m D)) all_idle (format_left own_words left D (formatting m D))

-- ---- the check

abbrev pub checking : List ℕ → Verdict
checking words = check own_words (length words) (code_of words)

-- ---- the pass over the held sets: its answer, and word j of those lent for them

abbrev pub giving : List ℕ → Verdict
giving words = sets_answer own_words (length words) (code_of words)

abbrev pub gives_to : List ℕ → ℕ → ℕ
gives_to words j = sets_leave own_words (length words) (code_of words) j

-- ---- the turns of a section: along a path, and from a step on

abbrev pub following : List ℕ → List ℕ → Along
following words path = along_of own_words (length words) (code_of words) path

abbrev pub needing : List ℕ → ℕ → Needed
needing words step = needs_of own_words (length words) (code_of words) step

-- ---- submitting

abbrev pub submitting : World → ℕ → ℕ → List ℕ → Submitted
submitting w d number words = submit_answer mark own_words w d number words

abbrev pub submits_to : World → ℕ → ℕ → List ℕ → List ℕ → World
submits_to w d number args words = submit_leaves own_words w d number args words (submitting w d number words)

-- ---- a turn

abbrev pub turning : World → ℕ → Answer
turning w d = answer_of own_words (outcome mark own_words w d)

abbrev pub turns_to : World → ℕ → World
turns_to w d = leaves own_words w d (outcome mark own_words w d)

-- ---- a run: its end, the world after it, and its tally as five numbers

abbrev pub running : World → ℕ → Course
running w rounds = run_of mark own_words w rounds

abbrev pub counts : Tally → List ℕ
counts t = t.turns ∷ t.waits ∷ t.stores ∷ t.free ∷ t.others ∷ []

-- ---- recovery, of which the record lent does not matter

abbrev pub recovering : Image → Recovery
recovering m = recovery_answer (recovery mark own_words m)

abbrev pub recovers_to : Image → ℕ → World
recovers_to m left =
    let x = recovery mark own_words m in
    world (recovery_leaves own_words left m x) (cursors_of x) (recovery_left left x)
