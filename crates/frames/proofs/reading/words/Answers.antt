-- `frames::reading::words` meets its contract. The loop's invariant: the words put so far, and those that are left, are the whole, and what is
-- behind them is as it was.
use Rattle.std.proofs.Common.{◌≡◌, ◌/◌, length, take, arith, refl, sym, ◌∙◌, take-append-drop, drop-set-lt}
use Rattle.frames.specs.Line.{words_of}
use Rattle.frames.proofs.Numbers.{words_step, words-end, words-all}
use Rattle.frames.proofs.reading.words.Goals as goal

pub loop-i-init : goal.loop-i-init
loop-i-init c = (words-all c.args.part.now _ c.args.out.now, refl)

pub loop-i-preserved : goal.loop-i-preserved
loop-i-preserved c =
    let L = c.loop-i in
    let p = c.args.part.now in (
      words_step p (length p / 16) L.out L.i _ (omega (arith, L.auto.out)) c.loop-i-test.true c.number.ensures ∙ L.invariant.0,
      drop-set-lt (length p / 16) L.out L.i _ c.loop-i-test.true ∙ L.invariant.1,
    )

pub returns-clause-words : goal.returns-clause-words
returns-clause-words c =
    let L = c.loop-i in
    let p = c.args.part.now in
    let n = length p / 16 in
    let e : L.i ≡ n = omega arith in
    let w : take n L.out ≡ words_of p = rw e at (sym (words-end p n L.out L.i c.loop-i-test.false) ∙ L.invariant.0) in
    rw (← w, ← L.invariant.1) (sym (take-append-drop n L.out))
