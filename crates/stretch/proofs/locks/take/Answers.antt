-- `stretch::locks::take` meets its contract: the owner word by its callee, and the logged store of the mask read behind it.
use Rattle.image.specs.Inner.Inside.{Inside}
use Rattle.image.proofs.Stores.{inside-front, lock-lt}
use Rattle.stretch.proofs.Running.{inside_store, field_lt}
use Rattle.stretch.proofs.locks.take.Goals as goal

pub store_inside-requires : goal.store_inside-requires
store_inside-requires c =
    lock-lt c.args.image.now _ c.requires.1 (inside-front _ _ _ c.requires.0) (c.lock_index.ensures 0)

pub read_field-requires : goal.read_field-requires
read_field-requires c =
    rw (c.store_inside.ensures.image, c.lock_index.ensures c.args.own) (inside_store _ _ _ _ _ _ c.requires.0)

pub stores-requires : goal.stores-requires
stores-requires c =
    let inside : Inside c.args.own c.store_inside.new.image c.args.d = rw (c.store_inside.ensures.image, c.lock_index.ensures c.args.own)
    (inside_store _ _ _ _ _ _ c.requires.0) in
    (inside, field_lt _ _ _ _ inside c.field_index.ensures)
