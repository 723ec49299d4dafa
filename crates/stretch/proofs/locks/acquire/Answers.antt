-- `stretch::locks::acquire` meets its contract: its stores are those of `acquire-begins`, or of `acquire-turns`.
use mathlib.Core.Path.{sym, ◌∙◌}
use native.Mathlib.Omega.{arith}
use Rattle.image.proofs.Stores.{inside-front}
use Rattle.stretch.proofs.Running.{fetched_fits, inside_store}
use Rattle.stretch.proofs.ByKind.{acquire-begins, acquire-turns}
use Rattle.stretch.proofs.Counting.{made-stores}
use Rattle.stretch.proofs.locks.acquire.Goals as goal

pub read_lock-requires : goal.read_lock-requires
read_lock-requires c =
    let f = c.requires in
    (fetched_fits _ _ _ _ _ f, rw (c.store_inside.ensures.image, c.field_index-intent.ensures) (inside-front _ _ _ (inside_store _ _ _ _ _ _ f.inside)))

pub returns-then-read_lock-ne0-clause-made : goal.returns-then-read_lock-ne0-clause-made
returns-then-read_lock-ne0-clause-made c =
    let e = c.store_inside.ensures in
    made-stores 1
    (λ y. rw (e.image, e.left, c.with-wants.ensures, c.read_field.ensures, c.field_index-intent.ensures) (acquire-begins _ _ _ _ _ _ y _ c.requires))
    (omega arith)
    (omega arith)

pub take-requires : goal.take-requires
take-requires c =
    let f = c.requires in
    (rw (c.store_inside.ensures.image, c.field_index-intent.ensures) (inside_store _ _ _ _ _ _ f.inside), fetched_fits _ _ _ _ _ f)

pub returns-clause-made : goal.returns-clause-made
returns-clause-made c =
    let e = c.store_inside.ensures in
    let first = rw (c.with-wants.ensures, c.read_field.ensures, c.field_index-intent.ensures) at e.image in
    let free = sym (c.read_lock.ensures _) ∙ c.if-read_lock-ne0.false in
    made-stores 6
    (λ y. rw (c.with.ensures, c.take.ensures.image, c.take.ensures.left, e.left) (acquire-turns _ _ _ _ _ _ y _ c.requires _ first free))
    (omega arith)
    (omega arith)
