-- `frames::reading::words` meets its contract. The loop's invariant: the words put so far, and those that are left, are the whole, and what is
-- behind them is as it was.
use Rattle.std.proofs.Common.{◌≡◌, ◌-◌, ◌++◌, take, drop}
use Rattle.frames.specs.Line.{words_from, words_of}
use Rattle.frames.proofs.reading.words.Given as goal

abbrev pub invariant-loop-i : goal.invariant-loop-i
invariant-loop-i l = (take l.i l.out ++ words_from l.part l.i (l.n - l.i) ≡ words_of l.part) × (drop l.n l.out ≡ drop l.n l.initial.out)
