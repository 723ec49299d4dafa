-- `soundness::records::empty_sound` meets its contract: a record with no section is sound where nothing is named and nothing owned.
use mathlib.Core.Path.{sym, ap, ◌∙◌}
use borrow.Author.Tests.{ne_eqb}
use lib.Dec.{eqb}
use Prim.Native.Nat.{ℕ}
use Rattle.image.specs.Image.{at}
use Rattle.soundness.proofs.Single.{empty-named, empty-free}
use Rattle.soundness.proofs.records.empty_sound.Goals as goal

pub returns-then-read_field-eq0 : goal.returns-then-read_field-eq0
returns-then-read_field-eq0 c =
    let rd = at c.args.own c.args.image.now in
    ap (λ (x : ℕ). eqb x 0) c.read_field-then-read_field-eq0.ensures
    ∙ sym (empty-free c.args.own rd c.args.d c.requires.1 (sym c.read_field.ensures ∙ c.if-read_field-eq0.true))

pub returns-else-read_field-eq0 : goal.returns-else-read_field-eq0
returns-else-read_field-eq0 c =
    let rd = at c.args.own c.args.image.now in
    let no = c.if-read_field-eq0.false in
    rw (ne_eqb c.read_field.result 0 no) (sym (empty-named c.args.own rd c.args.d c.requires.1 (λ z. no (c.read_field.ensures ∙ z))))
