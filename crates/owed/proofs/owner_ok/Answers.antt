-- `owed::owner_ok` meets its contract: 0, or the worker that the word names.
use Prim.Native.Nat.{◌-◌}
use borrow.Author.Tests.{lt-ltb, le-ltb, lt-leb}
use native.Mathlib.Omega.{arith}
use Rattle.image.specs.Image.{at, workers}
use Rattle.image.proofs.Apart.{length-ge}
use Rattle.owed.proofs.Sharing.{owner-named}
use Rattle.owed.proofs.owner_ok.Goals as goal

pub read_lock-w-requires : goal.read_lock-w-requires
read_lock-w-requires c = (c.requires.2, rw c.requires.3 (length-ge c.args.own (workers c.args.image.now)))

pub returns-then-w-eq0 : goal.returns-then-w-eq0
returns-then-w-eq0 c = rw (← c.read_lock-w.ensures c.args.own, c.if-w-eq0.true)

pub returns-then-w-workers : goal.returns-then-w-workers
returns-then-w-workers c =
    let A = c.args in
    let w = c.read_lock-w in
    let D = workers A.image.now in
    rw (
      ← w.ensures A.own,
      owner-named A.own (at A.own A.image.now) D A.b w.result c.if-w-eq0.false,
      lt-ltb (w.result - 1) D (omega arith),
      ← c.read_field.ensures,
    )
    c.has.ensures

pub returns-else-w-workers : goal.returns-else-w-workers
returns-else-w-workers c =
    let A = c.args in
    let w = c.read_lock-w in
    let D = workers A.image.now in
    rw (← w.ensures A.own, owner-named A.own (at A.own A.image.now) D A.b w.result c.if-w-eq0.false, le-ltb (w.result - 1) D (omega arith))
    (lt-leb w.result c.workers.result c.if-w-workers.false)
