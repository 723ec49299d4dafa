-- `pieces::run_on` meets its contract. The loop's invariant is that contract, so far; the pieces of the line's job fall.
use Rattle.pieces.specs.Pieces.{job_pieces}
use Rattle.pieces.specs.Pieced.{RunsOn}
use Rattle.pieces.proofs.Runs.{run_at}
use Rattle.pieces.proofs.run_on.Given as goal

abbrev pub invariant-loop-image : goal.invariant-loop-image
invariant-loop-image l = RunsOn l.initial.image l.image l.initial.out l.out l.fn.used l.fn.d (run_at l.fn.d.words l.p l.to)

abbrev pub decreases-loop-image : goal.decreases-loop-image
decreases-loop-image l = job_pieces l.p.job
