-- `stretch::whole::instructions_of` meets its contract: its loop keeps `Walking`, and goes on by the next instruction.
use Rattle.stretch.proofs.Walking.{Walking}
use Rattle.stretch.proofs.whole.instructions_of.Given as goal

abbrev pub invariant-loop-turn : goal.invariant-loop-turn
invariant-loop-turn l = Walking l.own l.d l.s l.k l.rounds l.held l.initial.image l.initial.stores l.image l.stores l.step l.turn l.locks l.passes l.rest

abbrev pub decreases-loop-turn : goal.decreases-loop-turn
decreases-loop-turn l = l.rest
