-- A turn's count adds at most one to each number of a tally (`counted-most`).
use Prim.Native.Nat.{◌+◌, ◌≤◌}
use native.Mathlib.Omega.{arith}
use Rattle.tally.specs.declared.Tally.{Tally}
use Rattle.worklog.specs.declared.Passing.TheVariants.{Jump, AlreadyFree, Others}
use Rattle.turn.specs.declared.Answer.{Answer}
use Rattle.turn.specs.declared.Answer.TheVariants.{Stored, Passed, Waiting, Idle, Refused}
use Rattle.turn.specs.Counted.{counted}

pub counted-most : (a : Answer) (t : Tally)
    → ((counted a t).turns ≤ t.turns + 1)
    × ((counted a t).waits ≤ t.waits + 1)
    × ((counted a t).stores ≤ t.stores + 1)
    × ((counted a t).free ≤ t.free + 1)
    × ((counted a t).others ≤ t.others + 1)
counted-most (Stored i) t = (omega arith, omega arith, omega arith, omega arith, omega arith)
counted-most (Passed Jump) t = (omega arith, omega arith, omega arith, omega arith, omega arith)
counted-most (Passed AlreadyFree) t = (omega arith, omega arith, omega arith, omega arith, omega arith)
counted-most (Passed Others) t = (omega arith, omega arith, omega arith, omega arith, omega arith)
counted-most (Waiting b) t = (omega arith, omega arith, omega arith, omega arith, omega arith)
counted-most Idle t = (omega arith, omega arith, omega arith, omega arith, omega arith)
counted-most (Refused r) t = (omega arith, omega arith, omega arith, omega arith, omega arith)
