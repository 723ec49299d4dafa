-- `sums::playing::line` meets its contract. The loop's invariant: from the line begun to where it stands (`Goes`); the pieces of its job fall.
use Rattle.pieces.specs.Pieces.{job_pieces}
use Rattle.sums.proofs.Lines.{Goes}
use Rattle.sums.proofs.playing.line.Given as goal

abbrev pub invariant-loop-image : goal.invariant-loop-image
invariant-loop-image l = Goes l.initial.image l.image l.initial.s l.s l.initial.sums l.sums

abbrev pub decreases-loop-image : goal.decreases-loop-image
decreases-loop-image l = job_pieces l.s.played.job
