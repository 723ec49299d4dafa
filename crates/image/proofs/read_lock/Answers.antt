use Rattle.image.proofs.Stores.{lock-lt, read_at}
use Rattle.image.specs.Place.{lock}
use borrow.Author.Tests.{lt-ltb}
-- `image::read_lock` meets its contract: the word at the index of a place of the image.
use Rattle.image.proofs.read_lock.Goals as goal

pub load_inside-requires : goal.load_inside-requires
load_inside-requires c = lock-lt c.args.image.now c.args.b c.requires.0 c.requires.1 (c.lock_index.ensures 0)

pub returns : goal.returns
returns c = λ n. read_at n c.args.image.now (lock c.args.b) (c.lock_index.ensures n) c.load_inside.ensures (lt-ltb _ _ c.requires.0)
