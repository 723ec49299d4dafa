-- `soundness::records::owed_at_pc` meets its contract: the definition's tests in their order, at the step that the pc names; past all
-- of them the owed set is that of the instruction there.
use Prim.Native.Nat.{◌%◌, ◌-◌}
use borrow.Author.Tests.{eq-eqb, le-leb, lt-leb, le-ltb}
use mathlib.Core.Path.{sym, ◌∙◌}
use native.Mathlib.Omega.{arith}
use Rattle.image.specs.Image.{at}
use Rattle.code.proofs.Ranges.{in-range, lock-ok}
use Rattle.owed.specs.Owed.{owed}
use Rattle.soundness.specs.Sound.{pc_ok}
use Rattle.soundness.proofs.Legible.{pc-rest, section-step, pc-tests, owed-begun}
use Rattle.soundness.proofs.records.owed_at_pc.Goals.{then-p-lt1-via-then-p-lt1, then-p-lt1-via-else-p-lt1+then-read_field-p}
use Rattle.soundness.proofs.records.owed_at_pc.Goals as goal

pub returns-then-pc-eq0 : goal.returns-then-pc-eq0
unfolding pc_ok owed
returns-then-pc-eq0 c =
    let pc = c.read_field-pc in
    rw (← pc.ensures, eq-eqb pc.result 0 c.if-pc-eq0.true, ← c.read_field-owned.ensures) c.then_some.ensures

pub returns-then-p-lt1 : goal.returns-then-p-lt1
returns-then-p-lt1 c =
    let A = c.args in
    let pc = c.read_field-pc in
    let p = pc.result % 9223372036854775808 in
    let tests = pc-tests A.own (at A.own A.image.now) A.d pc.result pc.ensures c.if-pc-eq0.false in
    elim c.then-p-lt1.branch [
      | then-p-lt1-via-then-p-lt1 w ↦ rw (tests, lt-leb 1 p w.if-p-lt1.true)
      | then-p-lt1-via-else-p-lt1+then-read_field-p w ↦
          let k = w.read_field in
          rw (tests, le-leb 1 p w.if-p-lt1.false, ← k.ensures, le-ltb (p - 1) k.result w.if-read_field-p.true)
    ]

pub read_step-requires : goal.read_step-requires
read_step-requires c =
    let A = c.args in
    (c.requires.0, (section-step A.own (at A.own A.image.now) A.d c.requires.1 _ _ c.read_field.ensures c.if-read_field-p.false).0)

pub offset_bounds-held-s : goal.offset_bounds-held-s
offset_bounds-held-s c =
    let A = c.args in
    let r = section-step A.own (at A.own A.image.now) A.d c.requires.1 _ _ c.read_field.ensures c.if-read_field-p.false in
    omega (arith, r.0)

pub bounds-held-s : goal.bounds-held-s
bounds-held-s c =
    let A = c.args in
    let r = section-step A.own (at A.own A.image.now) A.d c.requires.1 _ _ c.read_field.ensures c.if-read_field-p.false in
    omega (arith, r.0, c.requires.2)

pub held_after-next-requires : goal.held_after-next-requires
held_after-next-requires c =
    let A = c.args in
    let r = section-step A.own (at A.own A.image.now) A.d c.requires.1 _ _ c.read_field.ensures c.if-read_field-p.false in
    rw (c.op_of-x.ensures, c.read_step.ensures) (lock-ok A.own _ r.1)

pub entry_ok-requires : goal.entry_ok-requires
entry_ok-requires c =
    let A = c.args in
    let rd = at A.own A.image.now in
    let pc = c.read_field-pc in
    let k = c.read_field in
    let l = rw k.ensures at c.if-read_field-p.false in
    let r = section-step A.own rd A.d c.requires.1 _ _ k.ensures c.if-read_field-p.false in
    let t = pc-rest A.own rd A.d pc.result pc.ensures c.if-pc-eq0.false c.if-p-lt1.false k.result k.ensures c.if-read_field-p.false in
    let q = t _ _ _ _ c.read_step.ensures c.op_of-x.ensures (c.requires.3 _ l) c.held_after-next.ensures in
    (c.requires.0, rw (c.op_of-x.ensures, c.read_step.ensures) (in-range A.own _ r.1), q.0)

pub returns-then-not-entry_ok : goal.returns-then-not-entry_ok
returns-then-not-entry_ok c =
    let A = c.args in
    let rd = at A.own A.image.now in
    let pc = c.read_field-pc in
    let k = c.read_field in
    let l = rw k.ensures at c.if-read_field-p.false in
    let t = pc-rest A.own rd A.d pc.result pc.ensures c.if-pc-eq0.false c.if-p-lt1.false k.result k.ensures c.if-read_field-p.false in
    let q = t _ _ _ _ c.read_step.ensures c.op_of-x.ensures (c.requires.3 _ l) c.held_after-next.ensures in
    rw (q.1, sym c.entry_ok.ensures ∙ c.if-not-entry_ok.true)

pub returns : goal.returns
returns c =
    let A = c.args in
    let rd = at A.own A.image.now in
    let pc = c.read_field-pc in
    let k = c.read_field in
    let l = rw k.ensures at c.if-read_field-p.false in
    let t = pc-rest A.own rd A.d pc.result pc.ensures c.if-pc-eq0.false c.if-p-lt1.false k.result k.ensures c.if-read_field-p.false in
    let q = t _ _ _ _ c.read_step.ensures c.op_of-x.ensures (c.requires.3 _ l) c.held_after-next.ensures in
    let owned = c.read_field-owned in
    let o = owed-begun A.own rd A.d pc.result pc.ensures c.if-pc-eq0.false _ _ _ c.read_step.ensures c.op_of-x.ensures q.0 in
    rw (q.1, sym c.entry_ok.ensures ∙ c.if-not-entry_ok.false, o, ← owned.ensures, ← c.owned_ok.ensures, ← c.owed_by.ensures) c.then_some-2.ensures
