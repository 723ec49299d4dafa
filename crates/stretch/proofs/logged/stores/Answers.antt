-- `stretch::logged::stores` meets its contract: each store by its callee, of words read before the first.
use mathlib.Core.Path.{◌≡◌, sym, ◌∙◌}
use native.Mathlib.Omega.{arith}
use borrow.Author.Tests.{lt-ltb}
use Rattle.image.specs.Place.{field}
use Rattle.image.specs.Image.{at, index_of}
use Rattle.image.proofs.Apart.{index-small}
use Rattle.worklog.specs.Log.{spare_val}
use Rattle.worklog.proofs.Switching.{spare-behind}
use Rattle.stretch.proofs.Running.{field_lt}
use Prim.Native.Nat.{◌<◌}
use Rattle.stretch.proofs.logged.stores.Goals as goal

pub value_index-value-requires : goal.value_index-value-requires
value_index-value-requires c =
    let d : c.args.d < 8 = omega (arith, c.requires.0.below, c.requires.0.most) in
    omega (arith, c.field_index-address.ensures, index-small c.args.own (field c.spare.result.addr c.args.d) c.requires.0.few (lt-ltb _ 8 d))

pub store_inside-requires : goal.store_inside-requires
store_inside-requires c = field_lt _ _ _ _ c.requires.0 c.field_index-address.ensures

pub store_inside-requires-2 : goal.store_inside-requires-2
store_inside-requires-2 c =
    let A = c.args in
    let value : c.value_index-value.result ≡ index_of A.own (field (spare_val A.own (at A.own A.image.now) A.d) A.d) =
    c.value_index-value.ensures ∙ (rw (c.field_index-address.ensures, c.spare.ensures.addr) (sym (spare-behind _ _ _))) in
    rw c.store_inside.auto.image (field_lt _ _ _ _ c.requires.0 value)

pub store_inside-requires-3 : goal.store_inside-requires-3
store_inside-requires-3 c =
    rw (c.store_inside-2.auto.image, c.store_inside.auto.image) (field_lt _ _ _ _ c.requires.0 c.field_index.ensures)

pub returns-clause-image : goal.returns-clause-image
returns-clause-image c =
    rw (
      c.store_inside-4.ensures.image,
      c.store_inside-3.ensures.image,
      c.store_inside-3.ensures.left,
      c.store_inside-2.ensures.image,
      c.store_inside-2.ensures.left,
      c.store_inside.ensures.image,
      c.store_inside.ensures.left,
      c.field_index.ensures,
      c.switched-pc.ensures,
      c.value_index-value.ensures,
      c.field_index-address.ensures,
      c.spare.ensures.addr,
      ← spare-behind _ _ _,
    )
