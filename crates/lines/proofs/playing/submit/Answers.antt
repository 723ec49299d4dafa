-- `lines::playing::submit` meets its contract, by that of the engine's submit: the words put in the space are those of the steps'
-- part.
use borrow.Author.Rules.{rules}
use mathlib.Core.Path.{◌≡◌, sym, ap, ◌∙◌}
use native.Mathlib.Omega.{arith}
use lib.ListN.{length, take, length-drop}
use lib.Seq.{length-take-le}
use Rattle.frames.specs.Line.{steps_part, words_of}
use Rattle.frames.proofs.Numbers.{words-first}
use Rattle.lines.proofs.playing.submit.Goals as goal

pub words-n-requires : goal.words-n-requires
words-n-requires c =
    let l = c.args.line.now in
    omega (arith, length-drop 148 l, ap length c.steps_part.ensures)

pub slice_bounds-space-end : goal.slice_bounds-space-end
slice_bounds-space-end c =
    let k : length c.words-n.new.out ≡ 246 = c.words-n.auto.out in
    omega (
      arith,
      length-drop 148 c.args.line.now,
      ap length
          c.steps_part.ensures,
      c.words-n.ensures.count,
      k,
    )

pub slice_bounds-submit-end : goal.slice_bounds-submit-end
slice_bounds-submit-end c =
    let k : length c.words-n.new.out ≡ 246 = c.words-n.auto.out in
    sym (length-take-le _ _ (omega (
      arith,
      length-drop 148 c.args.line.now,
      ap length
          c.steps_part.ensures,
      c.words-n.ensures.count,
      k,
    )))

pub returns : goal.returns
returns c =
    let W = c.words-n in
    let s = c.submit-e in
    let A = c.args in
    let P = c.steps_part in
    let e : take W.result W.new.out ≡ words_of (steps_part A.line.now) = rw (W.ensures.count, W.ensures.words)
    (words-first P.result.now _ ∙ ap words_of P.ensures) in
    rw (
      c.new.ensures,
      c.answered.ensures,
      ← e,
      ← c.arguments-args.ensures,
      ← s.ensures.after,
      ← s.ensures.answer,
    )
