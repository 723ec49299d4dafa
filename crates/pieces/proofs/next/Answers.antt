-- `pieces::next` meets its contract: the part of the input from there on has the line, and what is behind it.
use Rattle.std.proofs.Common.{◌≡◌, ◌+◌, ◌-◌, ◌≤◌, min, length, take, drop, length-drop, length-take-le, sym, ap, ◌∙◌, arith}
use Rattle.buffers.specs.Input.{line_of}
use Rattle.buffers.proofs.Lines.{part-rest, line-front, rest-behind}
use Rattle.pieces.proofs.Parts.{next-none, next-made}
use Rattle.pieces.proofs.next.Goals as goal

pub returns-then-not-complete : goal.returns-then-not-complete
returns-then-not-complete c =
    let A = c.args in
    let n = A.input.now in
    let l = part-rest n A.from c.requires.0 in
    let e = sym c.complete.ensures ∙ c.if-not-complete.true in
    next-none A.image.now n A.d A.from A.more c.requires.0 c.requires.1.words (rw (c.line_end-end.ensures.place, l) at e)

pub slice_bounds-line-end : goal.slice_bounds-line-end
slice_bounds-line-end c = sym (length-take-le _ _ c.line_end-end.ensures.bound)

pub returns : goal.returns
returns c =
    let A = c.args in
    let n = A.input.now in
    let l = part-rest n A.from c.requires.0 in
    let E = c.line_end-end in
    let e = sym c.complete.ensures ∙ c.if-not-complete.false in
    let L = c.line in
    let rest = drop A.from n in
    let d : E.result ≡ length (line_of rest) = rw l at E.ensures.place in
    let t : take E.result (take (length n - A.from) rest) ≡ line_of rest = rw (l, d) (line-front rest) in
    rw c.min.ensures
    (next-made A.image.now n A.d A.from A.more L.new.image L.result _ (rw (E.ensures.place, l) at e) (rw t at L.ensures.stage) L.ensures.buffer
    (omega (arith, length-drop A.from n)) (rest-behind n A.from E.result _ d (ap length l)))
