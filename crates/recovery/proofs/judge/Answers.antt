-- `recovery::judge` meets its contract: its tests are the definition's, in the same order, each past those before it.
use mathlib.Core.Path.{sym, ◌∙◌}
use Rattle.std.proofs.lemmas.Result.{err_from_is_err_and}
use Rattle.image.proofs.Header.{header-true}
use Rattle.recovery.proofs.Answers.{by-header, by-record, by-lock, sets-are}
use Rattle.recovery.proofs.judge.Goals as goal

pub returns-then-not-header_ok : goal.returns-then-not-header_ok
returns-then-not-header_ok c =
    let e = c.args.e in
    by-header e.mark e.own c.args.image.now (sym c.header_ok.ensures ∙ c.if-not-header_ok.true)

pub records-requires : goal.records-requires
records-requires c =
    let e = c.args.e in
    let t = header-true e.mark e.own c.args.image.now (sym c.header_ok.ensures ∙ c.if-not-header_ok.false) in
    (e.few, t.few, t.size)

pub returns-in_err-sets : goal.returns-in_err-sets
returns-in_err-sets c =
    let e = c.args.e in
    let p = err_from_is_err_and c.from_residual.result c.from_residual.ensures.1 in
    let h = sym c.header_ok.ensures ∙ c.if-not-header_ok.false in
    rw (p.1, p.2) (by-record e.mark e.own c.args.image.now h c.records.result c.records.ensures _ c.in_err-sets.was)

pub locks-requires : goal.locks-requires
locks-requires c =
    let e = c.args.e in
    let m = c.args.image.now in
    let h = sym c.header_ok.ensures ∙ c.if-not-header_ok.false in
    let t = header-true e.mark e.own m h in
    (e.few, t.few, sets-are e.mark e.own m h c.records.result c.records.ensures c.in_ok-sets.sets c.in_ok-sets.was, t.size)

pub returns-in_err-locks : goal.returns-in_err-locks
returns-in_err-locks c =
    let e = c.args.e in
    let p = err_from_is_err_and c.from_residual-in_err-locks.result c.from_residual-in_err-locks.ensures.1 in
    let h = sym c.header_ok.ensures ∙ c.if-not-header_ok.false in
    let l = by-lock e.mark e.own c.args.image.now h c.records.result c.records.ensures c.in_ok-sets.sets c.in_ok-sets.was _ c.locks.ensures in
    rw (p.1, p.2) (rw c.in_err-locks.was at l)

pub returns : goal.returns
returns c =
    let e = c.args.e in
    let h = sym c.header_ok.ensures ∙ c.if-not-header_ok.false in
    let l = by-lock e.mark e.own c.args.image.now h c.records.result c.records.ensures c.in_ok-sets.sets c.in_ok-sets.was _ c.locks.ensures in
    rw c.in_ok-locks.was at l
