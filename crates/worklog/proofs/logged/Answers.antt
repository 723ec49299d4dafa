-- `worklog::logged` meets its contract: from turn 3 on the target's store, before it a word of the record.
use Rattle.std.proofs.Common.{rules}
use Rattle.worklog.proofs.Logging.{target-plan}
use Rattle.worklog.proofs.logged.Goals as goal

pub returns-then-j-gt2 : goal.returns-then-j-gt2
returns-then-j-gt2 c = rw (target-plan _ _ _ _ _ _ _ _ _ _ c.if-j-gt2.true, ← c.logged_value.ensures)

pub returns : goal.returns
returns c = let A = c.args in c.record_word-w.ensures A.t A.ns A.nt
