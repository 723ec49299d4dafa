-- `run::alone::settle` meets its contract: set twice is set once.
use lib.Seq.{set-set}
use Rattle.working.specs.Cursor.{set_at}
use Rattle.run.proofs.alone.settle.Goals as goal

pub returns-then-s-ne0 : goal.returns-then-s-ne0
unfolding set_at
returns-then-s-ne0 c = λ r e. rw e (simp set-set)
