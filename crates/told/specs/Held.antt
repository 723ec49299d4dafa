-- How many locks are held, by the mask in the working record alone. (Document 02, 2/14: how many bays are held.)
use Rattle.std.specs.Prelude.{ℕ, ◌<◌, ◌≡◌, Bool, false, not, eqb}
use Rattle.mask.specs.Mask.{has, how_many}
use Rattle.image.specs.Place.{lock}
use Rattle.image.specs.Image.{Image, at}
use Rattle.working.specs.World.{World}
use Rattle.working.specs.Cursor.{locks_held}
use Rattle.claims.specs.Calls.{ends_cut}
use Rattle.claims.specs.Claims.{Always, after}

-- mark: word 0 of an image; n: own words in a record
module _ (mark n : ℕ) where
  -- lock b's owner word is not 0
  abbrev pub has_owner : Image → ℕ → Bool
  has_owner m b = not (eqb (at n m (lock b)) 0)

  -- the mask has just the locks that have an owner, so that its ones are their number
  pub record Masked (w : World) : Type 0 where
    pub bits : (b : ℕ) → b < 64 → has w.cursors.held b ≡ has_owner w.image b
    pub number : locks_held w.cursors ≡ how_many (has_owner w.image) 64

  -- after any list of calls and cuts whose last call is not cut, refused ones among them
  unfoldable pub LocksCounted : Type 0
  LocksCounted = Always mark n (λ m xs. ends_cut false xs ≡ false → Masked (after mark n m xs).world)
