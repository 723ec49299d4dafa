-- One worker's turns one after another: what they change, what one of them leaves of it, and so many of them in sequence.
use Rattle.std.specs.Prelude.{ℕ, suc, ◌-◌, ◌≡◌, true}
use Rattle.image.specs.Image.{Image, index_of, at, put}
use Rattle.tally.specs.declared.Tally.{Tally}
use Rattle.working.specs.Cursor.{on, step_no, turn_no}
use Rattle.plan.specs.Turn.{Outcome, stored, passed, waiting, resting, refused, ready, turn_at}
use Rattle.turn.specs.declared.Answer.TheVariants.{Stored, Passed, Waiting}
use Rattle.turn.specs.Call.{held_by}
use Rattle.turn.specs.Counted.{counted}

-- what a worker's turns change: the image, the stores left, the worker's step and turn as the working record has them, the locks held, and the tally
pub record Single : Type 0 where
  pub image : Image
  pub left : ℕ
  pub step : ℕ
  pub turn : ℕ
  pub held : ℕ
  pub tally : Tally

abbrev pub single : Image → ℕ → ℕ → ℕ → ℕ → Tally → Single
single m k s t h y = record { image = m; left = k; step = s; turn = t; held = h; tally = y }

-- what an outcome leaves of it; n: own words in a record
abbrev pub after : ℕ → Single → Outcome → Single
after n a (stored p v c) =
    single (put a.left a.image (index_of n p) v) (a.left - 1) (step_no c) (turn_no c) (held_by p v a.held) (counted (Stored (index_of n p)) a.tally)
after n a (passed why c) = single a.image a.left (step_no c) (turn_no c) a.held (counted (Passed why) a.tally)
after n a (waiting b) = single a.image a.left a.step a.turn a.held (counted (Waiting b) a.tally)
after n a resting = a
after n a (refused r) = a

-- so many turns of worker d, one after another, each of them ready
module _ (n d : ℕ) where
  pub data Turns : ℕ → Single → Single → Type 0 where
    none : (a : Single) → Turns 0 a a
    then : (k : ℕ) (a b : Single) → ready n (at n a.image) d a.step a.turn ≡ true
        → Turns k (after n a (turn_at n (at n a.image) d (on a.step a.turn))) b → Turns (suc k) a b
