-- `path::along`: with the turns so far, the steps of the path that are left give the whole path's answer. A step has at most six turns.
use Rattle.std.proofs.Common.{◌≡◌, ◌*◌, ◌≤◌, length, drop}
use Rattle.section.specs.Check.{code_of}
use Rattle.needs.specs.Path.{along_of}
use Rattle.needs.proofs.Steps.{along_from}
use Rattle.needs.proofs.path.along.Given as goal

abbrev pub invariant-loop-i : goal.invariant-loop-i
invariant-loop-i l = (l.turns ≤ 6 * l.i-index)
    × (along_from l.own (length l.words) (code_of l.words) l.turns (drop l.i-index l.path) ≡ along_of l.own (length l.words) (code_of l.words) l.path)
