-- What the code of one turn of a round says of what it did: inner to the run.
use Rattle.std.specs.Prelude.{ℕ, ◌≡◌, true, false, Option, Some, None}
use Rattle.image.specs.Image.{Image, at}
use Rattle.working.specs.declared.Cursors.{Cursors}
use Rattle.working.specs.Cursor.{set_at, holding}
use Rattle.working.specs.World.{world}
use Rattle.working.specs.Inner.At.{At}
use Rattle.plan.specs.Turn.{ready}
use Rattle.turn.specs.declared.Acted.{Acted}
use Rattle.turn.specs.Inner.Acting.{did_lock, did_held, Acts}

-- n: own words in a record; the image was m with so many stores left, and is v: worker d's turn at step s, turn t has been made, or it is not ready, and
-- nothing is stored
abbrev pub Lapped : ℕ → Image → ℕ → Image → ℕ → ℕ → ℕ → ℕ → Option Acted → Type 0
Lapped n m left v rest d s t (Some r) =
    (ready n (at n m) d s t ≡ true)
    × did_lock r.did
    × ((c : Cursors) → At c d s t → Acts n (world m c left) d r.did (world v (holding (did_held r.did c.held) (set_at c d r.step r.turn)) rest))
Lapped n m left v rest d s t None = (ready n (at n m) d s t ≡ false) × (v ≡ m) × (rest ≡ left)
