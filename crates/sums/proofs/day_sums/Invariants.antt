-- `sums::day_sums` meets its contract: each line takes one of those left, and at the end none is.
use Rattle.std.proofs.Common.{◌≡◌, ◌-◌, true, ◌&&◌, eqb, ltb, length, sym, refl, ◌∙◌, arith, rules, ltb-true, eqb-true}
use Rattle.edition.specs.Edition.{largest}
use Rattle.base.proofs.Bools.{and_left, and_right}
use Rattle.sums.specs.Sums.{sums, sums_of, count, numbers}
use Rattle.sums.specs.Inner.Playing.{Stands}
use Rattle.sums.proofs.Days.{stands-start, stands-over}
use Rattle.sums.proofs.day_sums.Given as goal

abbrev pub invariant-loop-image : goal.invariant-loop-image
invariant-loop-image l = (length l.image ≡ largest) × Stands l.bytes l.image l.s l.sums

abbrev pub decreases-loop-image : goal.decreases-loop-image
decreases-loop-image l = length l.bytes - l.s.from
