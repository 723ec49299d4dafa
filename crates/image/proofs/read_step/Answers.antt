use Rattle.image.proofs.Stores.{inside-lt, read_at}
use Rattle.image.specs.Place.{step}
use Rattle.base.proofs.Bools.{and_both}
use borrow.Author.Tests.{lt-ltb}
-- `image::read_step` meets its contract: the word at the index of a place of the image.
use Rattle.image.proofs.read_step.Goals as goal

pub load_inside-requires : goal.load_inside-requires
load_inside-requires c =
    inside-lt c.args.own c.args.image.now c.args.d (step c.args.d c.args.i) c.requires.0
    (and_both _ _ (lt-ltb _ _ c.requires.0.below) (lt-ltb _ _ c.requires.1)) c.step_index.ensures

pub returns : goal.returns
returns c =
    read_at c.args.own c.args.image.now (step c.args.d c.args.i) c.step_index.ensures c.load_inside.ensures
    (and_both _ _ (lt-ltb _ _ c.requires.0.below) (lt-ltb _ _ c.requires.1))
