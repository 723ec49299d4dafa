-- `sums::playing::Stand::next` meets its contract: the part of the input from there on has the line, and what is behind it.
use Rattle.std.proofs.Common.{◌≡◌, ◌+◌, ◌-◌, ◌^◌, ◌<◌, ◌≤◌, min, length, take, drop, sym, refl, ap, arith, length-drop, length-take-le, rules}
use Rattle.buffers.specs.Input.{line_of}
use Rattle.buffers.proofs.Lines.{part-rest, line-front, rest-behind}
use Rattle.sums.proofs.Days.{stands-next}
use Rattle.sums.proofs.playing.Stand.next.Goals as goal

pub slice_bounds-line-end : goal.slice_bounds-line-end
slice_bounds-line-end c = sym (length-take-le _ _ c.line_end-end.ensures.bound)

pub returns : goal.returns
returns c =
    let A = c.args in
    let s = A.self in
    let n = A.bytes.now in
    let rest = drop s.from n in
    let l = part-rest n s.from c.requires.2.inside in
    let E = c.line_end-end in
    let L = c.line in
    let d : E.result ≡ length (line_of rest) = rw l at E.ensures.place in
    let t : take E.result (take (length n - s.from) rest) ≡ line_of rest = rw (l, d) (line-front rest) in
    let k = length-drop s.from n in
    let m = ap length l in
    record {
      further = omega arith;
      stands = stands-next n A.image.now L.new.image s _ _ _ c.requires.2 c.requires.0 c.requires.1 (rw t at L.ensures) refl
          (rw c.min.ensures (rest-behind n s.from E.result _ d m)) (omega arith) (omega arith) L.auto.image;
    }
