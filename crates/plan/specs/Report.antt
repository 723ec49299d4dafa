-- What a release finds in its lock's owner word. (Document 02, 1/14: dropping says whose bay it was.)
use Rattle.std.specs.Prelude.{ℕ, ◌+◌, cond, eqb}
use Rattle.plan.specs.declared.Report.{Report}
use Rattle.plan.specs.declared.Report.TheVariants.{Freed, AlreadyFree, Others}

-- d: the worker that releases; any other word than d + 1 and 0 is another's, also one that names no worker
abbrev pub report_of : ℕ → ℕ → Report
report_of d word = cond (eqb word (d + 1)) Freed (cond (eqb word 0) AlreadyFree Others)
