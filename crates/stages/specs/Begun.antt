-- A line begun, the first or another. It leaves a stage of `lines`: the image, which has no words before the first line, and where the
-- playing of the line stands; a line whose job is `Stop` ends the day.
use Rattle.std.specs.Prelude.{ℕ, List, [], Some, None, cond, ◌&&◌, length, eqb, leb}
use Rattle.working.specs.Cursor.{all_idle}
use Rattle.working.specs.Refusal.{cause_of}
use Rattle.working.specs.declared.Refusal.TheVariants.{Image as ImageRefused}
use Rattle.formatting.specs.Format.{formatted}
use Rattle.repair.specs.Repair.{no_repair}
use Rattle.edition.specs.Edition.{mark, own_words}
use Rattle.frames.specs.Line.{Opening, first_of}
use Rattle.frames.specs.Print.{malformed, refusal}
use Rattle.lines.specs.declared.Job.TheVariants.{Next, Stop}
use Rattle.lines.specs.declared.Played.{Played}
use Rattle.lines.specs.Play.{Stage, stage, played, no_turn, begin}

-- with nothing printed, the next line follows
unfoldable pub fresh : Played
fresh = played all_idle None Next no_repair no_turn

-- a refusal of the first line ends the day
unfoldable pub ended : ℕ → Played
ended cause = played all_idle (refusal cause) Stop no_repair no_turn

-- the image is formatted for so many workers
unfoldable pub format_stage : ℕ → Stage
format_stage D = cond (leb 1 D && leb D 8) (stage (formatted mark own_words D) fresh) (stage [] (ended (cause_of ImageRefused)))

abbrev pub opened : Opening → Stage
opened None = stage [] (ended malformed)
opened (Some D) = format_stage D

-- the first line, or another
unfoldable pub line_on : Stage → List ℕ → Stage
line_on s l = cond (eqb (length s.image) 0) (opened (first_of l)) (begin s.image s.played.cursors l)
