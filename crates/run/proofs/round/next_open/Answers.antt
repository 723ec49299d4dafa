-- `run::round::next_open` meets its contract.
use Prim.Native.Nat.{max}
use mathlib.Core.Path.{◌≡◌, sym, ◌∙◌}
use native.Mathlib.Omega.{arith}
use Rattle.run.proofs.Next.{next_here, next_past, next-end}
use Rattle.run.proofs.round.next_open.Goals as goal

pub returns-then-not-idle : goal.returns-then-not-idle
returns-then-not-idle c = sym (next_here _ _ _ c.loop-k-test.true (sym c.if-not-idle.ensures)) ∙ c.loop-k.invariant.same

pub loop-k-preserved : goal.loop-k-preserved
loop-k-preserved c =
    record { most = omega arith; same = sym (next_past _ _ _ c.loop-k-test.true (sym c.if-not-idle.ensures)) ∙ c.loop-k.invariant.same }

pub returns : goal.returns
returns c =
    let L = c.loop-k in
    let q : max c.args.d c.args.n ≡ L.k = omega arith in
    c.max.ensures ∙ q ∙ sym (next-end c.args.c _ _ c.loop-k-test.false) ∙ L.invariant.same
