-- A day of frame lines, piece by piece. Where it stands is a stage of `lines`: the image, which has no words before the first line, and
-- where the playing of a line stands; a line whose job is `Stop` ends the day. A piece is one turn or one printed store of a line, or the
-- next line begun; it prints one line of 22 bytes at most.
use Rattle.std.specs.Prelude.{ℕ, zero, suc, ◌+◌, ◌-◌, ◌*◌, List, [], ◌++◌, Bool, true, false, Some, None, cond, ◌&&◌, length, leb}
use Rattle.frames.specs.Print.{Printed}
use Rattle.lines.specs.declared.Job.{Job}
use Rattle.lines.specs.declared.Job.TheVariants.{Turns, Rounds, Stores, Next, Stop}
use Rattle.lines.specs.declared.Played.{Played}
use Rattle.lines.specs.Play.{Stage, stage, go_on}
use Rattle.buffers.specs.Input.{line_of, rest_of, complete}
use Rattle.buffers.specs.Output.{bytes_of}
use Rattle.stages.specs.Begun.{fresh, line_on}

-- ---- a piece

-- the input that is left, and the stage
pub record Point : Type 0 where
  pub input : List ℕ
  pub stage : Stage

abbrev pub point : List ℕ → Stage → Point
point l s = record { input = l; stage = s }

-- the start of a day: no image yet
abbrev pub dawn : List ℕ → Point
dawn l = point l (stage [] fresh)

-- whether there is a piece to be made: `more` says that more input may come
abbrev pub ready_for : Bool → List ℕ → Job → Bool
ready_for more l (Turns w k) = true
ready_for more l (Rounds d r) = true
ready_for more l (Stores i) = true
ready_for more l Next = complete more l
ready_for more l Stop = false

abbrev pub ready : Bool → Point → Bool
ready more q = ready_for more q.input q.stage.played.job

abbrev pub piece_for : Bool → Point → Job → Point
piece_for more q (Turns w k) = point q.input (go_on q.stage)
piece_for more q (Rounds d r) = point q.input (go_on q.stage)
piece_for more q (Stores i) = point q.input (go_on q.stage)
piece_for more q Next = cond (complete more q.input) (point (rest_of q.input) (line_on q.stage (line_of q.input))) q
piece_for more q Stop = q

abbrev pub piece : Bool → Point → Point
piece more q = piece_for more q q.stage.played.job

-- ---- pieces, one after the other

-- where the day stands then, and the bytes put out
pub record Progress : Type 0 where
  pub point : Point
  pub out : List ℕ

abbrev pub progress : Point → List ℕ → Progress
progress q bs = record { point = q; out = bs }

abbrev pub after : List ℕ → Progress → Progress
after bs p = progress p.point (bs ++ p.out)

-- f pieces at most, until there is none to be made, or no room for 22 bytes in the output
unfoldable pub advance : ℕ → Bool → ℕ → Point → Progress
advance zero more room q = progress q []
advance (suc f) more room q =
    let bs = bytes_of (piece more q).stage.played.printed in
    cond (leb 22 room && ready more q) (after bs (advance f more (room - length bs) (piece more q))) (progress q [])

-- no more pieces than these: a byte of input for a line at least, and 655,360 for the rounds of a line at most, ten for each: its turns, and its end
abbrev pub job_pieces : Job → ℕ
job_pieces (Turns w k) = k + 1
job_pieces (Rounds d r) = 10 * r + (9 - d) + 1
job_pieces (Stores i) = 592 - i + 1
job_pieces Next = 0
job_pieces Stop = 0

abbrev pub pieces_left : Point → ℕ
pieces_left q = 655361 * length q.input + job_pieces q.stage.played.job

-- as many as are left
abbrev pub whole : Bool → ℕ → Point → Progress
whole more room q = advance (pieces_left q) more room q

-- ---- the end of a day

-- the cause of a printed refusal
abbrev pub cause_in : Printed → ℕ
cause_in None = 0
cause_in (Some l) = l.value

abbrev pub ends_by : Printed → Job → ℕ
ends_by x (Turns w k) = 0
ends_by x (Rounds d r) = 0
ends_by x (Stores i) = 0
ends_by x Next = 0
ends_by x Stop = cause_in x

-- the cause for which a line has ended its day, or 0
abbrev pub ends_of : Played → ℕ
ends_of p = ends_by p.printed p.job
