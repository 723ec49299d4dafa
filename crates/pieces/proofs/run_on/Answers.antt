-- `pieces::run_on` meets its contract: one turn or store more.
use native.Mathlib.Omega.{arith}
use Rattle.std.proofs.Common.{◌≡◌, true, sym, ◌∙◌}
use Prim.Native.Nat.{◌-◌}
use mathlib.Core.List.{◌++◌}
use lib.ListN.{drop}
use lib.Seq.{length-take-le}
use Rattle.lines.specs.Play.{is_going}
use Rattle.stages.proofs.Buffers.{front-words, front-buffered}
use Rattle.pieces.proofs.Runs.{day_at, run_at, runs-start, run-less, runs-next}
use Rattle.pieces.proofs.run_on.Goals as goal

pub loop-image-init : goal.loop-image-init
loop-image-init c = runs-start c.args.image.now c.args.out.now c.args.used c.args.d c.requires.0 c.requires.1

pub slice_bounds-go_on-end : goal.slice_bounds-go_on-end
slice_bounds-go_on-end c = c.loop-image.invariant.keeps.words

pub slice_bounds-go_on-end-in-loop-image : goal.slice_bounds-go_on-end-in-loop-image
slice_bounds-go_on-end-in-loop-image c = sym (length-take-le _ _ c.loop-image.invariant.keeps.words)

pub loop-image-smaller : goal.loop-image-smaller
loop-image-smaller c =
    let A = c.args in
    let L = c.loop-image in
    let G = c.go_on-p in
    let n = A.d.words in
    let inside = L.invariant.keeps.words in
    let going : is_going L.p.job ≡ true = sym c.is_going.ensures ∙ c.loop-image-test.true in
    run-less A.image.now L.image A.out.now L.out A.used A.d (run_at n L.p L.to) L.invariant (G.new.image ++ drop n L.image) (day_at n G.result) going
    (rw (front-words L.image G.new.image n inside G.auto.image) G.ensures)

pub loop-image-preserved : goal.loop-image-preserved
loop-image-preserved c =
    let A = c.args in
    let L = c.loop-image in
    let G = c.go_on-p in
    let P = c.print-to in
    let n = A.d.words in
    let inside = L.invariant.keeps.words in
    let going : is_going L.p.job ≡ true = sym c.is_going.ensures ∙ c.loop-image-test.true in
    runs-next A.image.now L.image A.out.now L.out A.used A.d (run_at n L.p L.to) L.invariant (G.new.image ++ drop n L.image) (day_at n G.result) going
    (rw (front-words L.image G.new.image n inside G.auto.image) G.ensures)
    (front-buffered L.image G.new.image n inside G.auto.image n (omega arith))
    P.new.out P.result c.if-out-to-ge22.true P.ensures P.auto.out
