-- `day::advance` meets its contract. The loop's invariant is `Going` of proofs/Going.antt; the pieces left fall with each turn of it.
use Rattle.std.proofs.Common.{drop}
use Rattle.pieces.specs.Pieces.{pieces_left}
use Rattle.pieces.specs.Pieced.{point_of}
use Rattle.day.proofs.Going.{Going}
use Rattle.day.proofs.advance.Given as goal

abbrev pub invariant-loop-out : goal.invariant-loop-out
invariant-loop-out l = Going l.initial.image l.image l.input l.initial.out l.out l.more l.fn.d l.s

abbrev pub decreases-loop-out : goal.decreases-loop-out
decreases-loop-out l = pieces_left (point_of (drop l.s.taken l.input) l.image l.s.day)
