-- `soundness::records::load_steps` meets its contract. The loop's invariant: the words up to this one are loaded.
use mathlib.Core.List.{◌++◌}
use mathlib.Core.Path.{◌≡◌}
use lib.ListN.{drop}
use Rattle.image.specs.Image.{at}
use Rattle.worklog.specs.Log.{code_in}
use Rattle.soundness.specs.Inner.Reading.{loaded}
use Rattle.soundness.proofs.records.load_steps.Given as goal

abbrev pub invariant-loop-i : goal.invariant-loop-i
invariant-loop-i l = l.word-items ++ drop l.k l.fn.words ≡ loaded (code_in l.own (at l.own l.image) l.d) l.fn.words l.i
