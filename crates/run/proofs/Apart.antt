-- The ends of a run lie apart by their numbers: 32 or more where the rounds are spent, and nowhere else; where all are idle it is 0, and where the run is
-- halted a cause.
use mathlib.Core.Path.{◌≡◌, refl}
use mathlib.Core.Bool.{Bool, true, false, not}
use lib.Dec.{ltb}
use borrow.Author.Tests.{lt-ltb}
use Rattle.working.specs.Refusal.{cause_of}
use Rattle.turn.proofs.Apart.{cause-below}
use Rattle.run.specs.declared.End.{End}
use Rattle.run.specs.declared.End.TheVariants.{AllIdle, Spent, Halted}
use Rattle.run.specs.Codes.{end_code}

abbrev pub is_spent : End → Bool
is_spent AllIdle = false
is_spent Spent = true
is_spent (Halted r) = false

pub end-apart : (e : End) → is_spent e ≡ not (ltb (end_code e) 32)
end-apart AllIdle = refl
end-apart Spent = refl
end-apart (Halted r) = rw (lt-ltb (cause_of r) 32 (cause-below r))
