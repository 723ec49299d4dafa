use Rattle.image.proofs.Stores.{inside-lt, read_at}
use Rattle.image.specs.Place.{field}
use borrow.Author.Tests.{lt-ltb}
-- `image::read_field` meets its contract: the word at the index of a place of the image.
use Rattle.image.proofs.read_field.Goals as goal

pub load_inside-requires : goal.load_inside-requires
load_inside-requires c =
    inside-lt c.args.own c.args.image.now c.args.d (field c.args.f c.args.d) c.requires (lt-ltb _ _ c.requires.below)
    c.field_index.ensures

pub returns : goal.returns
returns c =
    read_at c.args.own c.args.image.now (field c.args.f c.args.d) c.field_index.ensures c.load_inside.ensures
    (lt-ltb _ _ c.requires.below)
