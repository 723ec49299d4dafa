-- `soundness::records::load_steps` meets its contract.
use Prim.Native.Nat.{suc, ◌+◌, ◌<◌}
use mathlib.Core.Path.{◌≡◌, sym, ap, ◌∙◌}
use native.Mathlib.Omega.{arith}
use lib.ListN.{length, drop}
use lib.Seq.{length-take-le}
use Rattle.std.proofs.lemmas.List.{take-append-drop, set-append_left}
use Rattle.image.specs.Image.{at}
use Rattle.worklog.specs.Log.{code_in}
use Rattle.soundness.specs.Inner.Reading.{loaded}
use Rattle.soundness.proofs.records.load_steps.Goals as goal

pub loop-i-init : goal.loop-i-init
unfolding loaded
loop-i-init c = take-append-drop c.args.k c.args.words.now

pub loop-i-preserved : goal.loop-i-preserved
unfolding loaded
loop-i-preserved c =
    let L = c.loop-i in
    let e : L.i + 1 ≡ suc L.i = omega arith in
    let h : L.i < length L.word-items = omega arith in
    rw (e, ← L.invariant, ← c.read_step.ensures) (sym (set-append_left L.word-items (drop c.args.k c.args.words.now) L.i _ h))

pub returns : goal.returns
returns c =
    let A = c.args in
    let L = c.loop-i in
    let done : L.i ≡ A.k = omega (arith, length-take-le A.k A.words.now (omega arith)) in
    L.invariant ∙ ap (loaded (code_in A.own (at A.own A.image.now) A.d) A.words.now) done
