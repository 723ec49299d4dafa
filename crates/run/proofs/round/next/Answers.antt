-- `run::round::next` meets its contract: its tests are the definition's, and the worker found is open.
use Prim.Native.Nat.{◌-◌, ◌<◌, ◌≤◌}
use mathlib.Core.Path.{◌≡◌, sym, ◌∙◌}
use native.Mathlib.Omega.{arith}
use Rattle.image.specs.Image.{workers}
use Rattle.image.proofs.Header.{header-workers, header-inside}
use Rattle.working.specs.World.{world}
use Rattle.run.specs.Round.{next_in}
use Rattle.run.proofs.Next.{next-open, next-from, next-refused, next-over, next-turn}
use Rattle.run.proofs.round.next.Goals as goal

pub returns-then-not-header_ok : goal.returns-then-not-header_ok
returns-then-not-header_ok c =
    let A = c.args in
    let x = next-refused A.e.mark A.e.own (world A.image.now A.c A.left.now) A.d (sym c.header_ok.ensures ∙ c.if-not-header_ok.true) in
    record { worker = sym x.worker; answer = rw x.outcome; after = rw x.outcome }

pub next_open-k-requires : goal.next_open-k-requires
next_open-k-requires c = rw c.workers-n.ensures (header-workers _ _ _ (sym c.header_ok.ensures ∙ c.if-not-header_ok.false)).1

pub returns-then-n-k : goal.returns-then-n-k
returns-then-n-k c =
    let A = c.args in
    let w = world A.image.now A.c A.left.now in
    let n = c.workers-n.ensures in
    let k : c.next_open-k.result ≡ next_in w A.d = c.next_open-k.ensures ∙ rw n in
    let h : workers A.image.now ≤ next_in w A.d = rw (n, k) at c.if-n-k.true in
    let x = next-over A.e.mark A.e.own w A.d (sym c.header_ok.ensures ∙ c.if-not-header_ok.false) h in
    record { worker = k ∙ sym x.worker; answer = rw x.outcome; after = rw x.outcome }

pub open_turn-t-requires : goal.open_turn-t-requires
open_turn-t-requires c =
    let A = c.args in
    let w = world A.image.now A.c A.left.now in
    let n = c.workers-n.ensures in
    let e = sym c.header_ok.ensures ∙ c.if-not-header_ok.false in
    let k : c.next_open-k.result ≡ next_in w A.d = c.next_open-k.ensures ∙ rw n in
    let h : next_in w A.d < workers A.image.now = rw (n, k) at c.if-n-k.false in
    rw k (
      header-inside _ _ _ (next_in w A.d) A.e.few e h,
      next-open A.c (workers A.image.now - A.d) A.d (omega (arith, h, next-from A.c (workers A.image.now - A.d) A.d)),
    )

pub returns : goal.returns
returns c =
    let A = c.args in
    let w = world A.image.now A.c A.left.now in
    let n = c.workers-n.ensures in
    let k : c.next_open-k.result ≡ next_in w A.d = c.next_open-k.ensures ∙ rw n in
    let h : next_in w A.d < workers A.image.now = rw (n, k) at c.if-n-k.false in
    let x = next-turn A.e.mark A.e.own w A.d (sym c.header_ok.ensures ∙ c.if-not-header_ok.false) h in
    let T = c.open_turn-t.ensures in
    record { worker = k ∙ sym x.worker; answer = T.answer ∙ rw (x.outcome, k); after = T.after ∙ rw (x.outcome, k) }
