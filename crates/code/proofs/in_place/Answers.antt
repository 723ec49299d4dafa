-- `code::in_place` meets its contract: the definition's case of the kind.
use borrow.Author.Tests.{lt-ltb, le-ltb}
use Prim.Native.Nat.{◌≤◌, ◌<◌}
use mathlib.Core.Path.{◌≡◌, sym, ◌∙◌}
use native.Mathlib.Omega.{arith}
use Rattle.code.specs.Table.{kind_of}
use Rattle.code.proofs.Decoding.{place-finish, place-jumps, place-inner}
use Rattle.code.proofs.in_place.Goals as goal

pub returns-then-k-lt7 : goal.returns-then-k-lt7
returns-then-k-lt7 c =
    let e = c.kind_of-k.ensures in
    let p = c.requires in
    sym (place-inner _ _ _ p.0 p.1 (λ q. omega (arith, c.if-k-lt7.true, e, q)) (λ q. omega (arith, c.if-k-lt7.true, e, q)))

pub returns-then-k-eq8 : goal.returns-then-k-eq8
returns-then-k-eq8 c = sym (place-finish _ _ _ (sym c.kind_of-k.ensures ∙ c.if-k-eq8.true))

pub returns-then-i-b : goal.returns-then-i-b
returns-then-i-b c =
    let c = c in
    let b = c.field_b-b.result in
    let seven : kind_of c.args.w ≡ 7 = omega (arith, c.requires.1, c.kind_of-k.ensures, c.if-k-lt7.false, c.if-k-eq8.false) in
    let h : c.args.i < b = omega arith in
    rw (place-jumps _ _ _ seven, ← c.field_b-b.ensures) (simp (lt-ltb c.args.i b h))

pub returns-else-i-b : goal.returns-else-i-b
returns-else-i-b c =
    let c = c in
    let b = c.field_b-b.result in
    let seven : kind_of c.args.w ≡ 7 = omega (arith, c.requires.1, c.kind_of-k.ensures, c.if-k-lt7.false, c.if-k-eq8.false) in
    let h : b ≤ c.args.i = omega arith in
    rw (place-jumps _ _ _ seven, ← c.field_b-b.ensures) (simp (le-ltb c.args.i b h))
