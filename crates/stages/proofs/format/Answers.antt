-- `stages::format` meets its contract: an image of any number of workers fits, and is formatted whatever stood there.
use Prim.Native.Nat.{◌≤◌}
use mathlib.Core.Path.{◌≡◌, sym, ◌∙◌}
use mathlib.Core.List.{◌++◌}
use native.Mathlib.Omega.{arith}
use lib.ListN.{length, take, drop, take-append-drop}
use lib.Seq.{length-take-le}
use Rattle.stages.proofs.Words.{words-most, format-done, format-refused}
use Rattle.stages.proofs.Buffers.{front-words, front-buffered, same-buffered}
use Rattle.stages.proofs.format.Goals as goal

pub slice_bounds-format-end : goal.slice_bounds-format-end
slice_bounds-format-end c = omega (arith, words-most c.args.workers, c.image_words-n.ensures)

pub slice_bounds-format-end-2 : goal.slice_bounds-format-end-2
slice_bounds-format-end-2 c = sym (length-take-le _ _ (omega (arith, words-most c.args.workers, c.image_words-n.ensures)))

pub returns-in-Ok : goal.returns-in-Ok
returns-in-Ok c =
    let F = c.format-c in
    let W = c.image_words-n in
    let A = c.args in
    let h : W.result ≤ length A.image.now = omega (arith, words-most A.workers, W.ensures, c.requires) in
    record {
      stage = rw (c.begun.ensures, front-words A.image.now F.new.image W.result h F.auto.image)
          (format-done _ A.workers _ (sym F.ensures.answer ∙ c.in-Ok.is) F.ensures.image);
      buffer = rw c.begun.ensures (front-buffered A.image.now F.new.image W.result h F.auto.image 0 (omega arith));
    }

pub returns-in-Err : goal.returns-in-Err
returns-in-Err c =
    let F = c.format-c in
    let W = c.image_words-n in
    let A = c.args in
    let m = A.image.now in
    let h : W.result ≤ length m = omega (arith, words-most A.workers, W.ensures, c.requires) in
    let e = sym F.ensures.answer ∙ c.in-Err.is in
    let k : F.new.image ≡ take W.result m = rw e at F.ensures.image in
    let same : F.new.image ++ drop W.result m ≡ m = rw k (take-append-drop W.result m) in
    record {
      stage = rw (c.refused.ensures, c.cause.ensures) (format-refused _ A.workers _ (length-take-le _ _ h ∙ W.ensures) e);
      buffer = rw (c.refused.ensures, same) (same-buffered m 0 (omega arith));
    }
