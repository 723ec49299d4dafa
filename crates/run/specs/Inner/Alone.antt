-- One worker alone: when it is, and what its turns, as many as fit in the rounds left, leave.
use Rattle.std.specs.Prelude.{ℕ, ◌+◌, ◌<◌, ◌≡◌, true, false, ◌≢◌}
use Rattle.image.specs.Image.{Image, at}
use Rattle.tally.specs.declared.Tally.{Tally}
use Rattle.tally.specs.Inner.Passes.{with_turns}
use Rattle.working.specs.declared.Cursors.{Cursors}
use Rattle.working.specs.Cursor.{is_idle, cursor_at}
use Rattle.plan.specs.Turn.{ready}
use Rattle.stretch.specs.declared.Stretch.{Stretch}
use Rattle.stretch.specs.declared.Walk.{Walk}
use Rattle.stretch.specs.Inner.Single.{single, Turns}

-- of n workers each but d is idle
abbrev pub Alone : ℕ → ℕ → Cursors → Type 0
Alone n d c = (i : ℕ) → i < n → i ≢ d → is_idle (cursor_at c i) ≡ true

-- a stretch with whole instructions more
abbrev pub went_on : Stretch → Walk → Stretch
went_on x y =
    record { turns = x.turns + y.turns; step = y.step; turn = y.turn; held = y.held; tally = with_turns y.turns y.passes x.tally }

-- the image was m with so many stores left and worker d at step s, turn t, with the locks held and the tally so far, and is v: turns one after another have
-- been made, or its next is refused, and all is as it was; n: own words in a record
pub record WentAlone (n d s t h : ℕ) (y : Tally) (m : Image) (left : ℕ) (v : Image) (rest : ℕ) (r : Stretch) : Type 0 where
  pub made : Turns n d r.turns (single m left s t h y) (single v rest r.step r.turn r.held r.tally)
  pub refused : r.turns ≡ 0 → ready n (at n m) d s t ≡ false
  pub stays : r.turns ≡ 0 → (v ≡ m) × (rest ≡ left) × (r.step ≡ s) × (r.turn ≡ t)
