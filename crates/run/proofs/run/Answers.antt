-- `run::run` meets its contract: the header test, then the rounds over the workers that the header names.
use mathlib.Core.Path.{sym, ◌∙◌}
use Rattle.image.proofs.Header.{header-true}
use Rattle.working.specs.World.{world}
use Rattle.run.proofs.Rounds.{run-refused, run-rounds}
use Rattle.run.proofs.run.Goals as goal

pub returns-then-not-header_ok : goal.returns-then-not-header_ok
returns-then-not-header_ok c =
    let A = c.args in
    let w = world A.image.now A.c A.left.now in
    rw (run-refused A.e.mark A.e.own w A.rounds (sym c.header_ok.ensures ∙ c.if-not-header_ok.true), c.zero.ensures)

pub rounds_of-requires : goal.rounds_of-requires
rounds_of-requires c =
    let A = c.args in
    let n = c.workers-n.ensures in
    let h = header-true A.e.mark A.e.own A.image.now (sym c.header_ok.ensures ∙ c.if-not-header_ok.false) in
    (A.e.few, n, rw n h.few, rw n h.size)

pub returns : goal.returns
returns c =
    let A = c.args in
    let w = world A.image.now A.c A.left.now in
    let e = sym c.header_ok.ensures ∙ c.if-not-header_ok.false in
    rw (run-rounds A.e.mark A.e.own w A.rounds e, ← c.workers-n.ensures) c.rounds_of.ensures
