-- What the code says of one turn made as it is, or of as many waits: a stretch of turns.
use Rattle.std.specs.Prelude.{ℕ, ◌≤◌, ◌≡◌, true, false, Option, Some, None}
use Rattle.image.specs.Image.{Image, at}
use Rattle.tally.specs.declared.Tally.{Tally}
use Rattle.plan.specs.Turn.{ready}
use Rattle.turn.specs.declared.Did.{Did}
use Rattle.turn.specs.declared.Did.TheVariants.{Stored, Took, Freed, Passed, Waiting}
use Rattle.stretch.specs.declared.Stretch.{Stretch}
use Rattle.stretch.specs.Inner.Single.{single, Turns}

-- how many more of so many rounds a turn alone takes: none, or all where it waits
abbrev pub more_by : Did → ℕ → ℕ
more_by (Stored i) r = 0
more_by (Took b) r = 0
more_by (Freed b) r = 0
more_by (Passed why) r = 0
more_by (Waiting b) r = r

-- the image was m with so many stores left and worker d at step s, turn t, with the locks held and the tally so far, and is v
pub record Stretched (n d s t h : ℕ) (y : Tally) (m : Image) (left : ℕ) (v : Image) (rest : ℕ) (r : Stretch) : Type 0 where
  pub some : 1 ≤ r.turns
  pub made : Turns n d r.turns (single m left s t h y) (single v rest r.step r.turn r.held r.tally)

-- the same where the turn may not be ready: then there is none, and nothing is stored
abbrev pub Attempted : ℕ → ℕ → ℕ → ℕ → ℕ → Tally → Image → ℕ → Image → ℕ → Option Stretch → Type 0
Attempted n d s t h y m left v rest (Some r) = (ready n (at n m) d s t ≡ true) × Stretched n d s t h y m left v rest r
Attempted n d s t h y m left v rest None = (ready n (at n m) d s t ≡ false) × (v ≡ m) × (rest ≡ left)
