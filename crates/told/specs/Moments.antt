-- Every turn of a list of calls, cut ones too, with the world in which it is made; and who may change a cell.
use Rattle.std.specs.Prelude.{ℕ, suc, zero, ◌+◌, ◌/◌, ◌-◌, ◌^◌, ◌<◌, ◌≡◌, ◌≢◌, List, [], ◌∷◌, ◌++◌, Bool, true, false, cond}
use Rattle.image.specs.declared.Field.TheVariants.{Pc}
use Rattle.image.specs.Place.{cell, lock, field}
use Rattle.image.specs.Image.{Image, at, workers, cells_of, header_ok}
use Rattle.working.specs.Cursor.{Cursor}
use Rattle.plan.specs.Turn.{stored}
use Rattle.turn.specs.Call.{outcome_at, outcome}
use Rattle.run.specs.Run.{any_open}
use Rattle.claims.specs.Calls.{Traced, Call, submits, turns, runs, recovers, Move, whole, cut, call, move, lent, turned_at, refuses, from}
use Rattle.claims.specs.Claims.{Always}

-- a world, and the worker whose turn is next
pub record Moment : Type 0 where
  pub now : Traced
  pub worker : ℕ

abbrev pub moment : Traced → ℕ → Moment
moment w d = record { now = w; worker = d }

abbrev pub Each : (Moment → Type 0) → List Moment → Type 0
Each P [] = Unit {0}
Each P (x ∷ xs) = P x × Each P xs

-- the call makes no turn
abbrev pub turnless : Call → Bool
turnless (submits d k args ws) = true
turnless (turns d) = false
turnless (runs r) = false
turnless recovers = true

-- mark: word 0 of an image; n: own words in a record
module _ (mark n : ℕ) where
  -- the turns of k workers from d on, and then the rest's; a refused turn ends the run
  unfoldable pub in_round : (Traced → List Moment) → Traced → ℕ → ℕ → List Moment
  in_round rest w d zero = rest w
  in_round rest w d (suc k) = moment w d ∷ cond (refuses mark n (outcome_at n w.world d)) [] (in_round rest (turned_at mark n w d) (d + 1) k)

  unfoldable pub in_rounds : ℕ → ℕ → Traced → List Moment
  in_rounds zero D w = []
  in_rounds (suc r) D w = cond (any_open D 0 w.world.cursors) (in_round (in_rounds r D) w 0 D) []

  unfoldable pub in_call : Call → Traced → List Moment
  in_call (submits d k args ws) w = []
  in_call (turns d) w = moment w d ∷ []
  in_call (runs r) w = cond (header_ok mark n w.world.image) (in_rounds r (workers w.world.image) w) []
  in_call recovers w = []

  unfoldable pub in_move : Move → Traced → List Moment
  in_move (whole c) w = in_call c (lent mark n (2 ^ 64 - 1) w)
  in_move (cut k c) w = in_call c (lent mark n k w)

  unfoldable pub in_list : List Move → Traced → List Moment
  in_list [] w = []
  in_list (x ∷ xs) w = in_move x w ++ in_list xs (move mark n x w)

  -- if the turn changes a cell, its worker's section is begun, and the owner word of the cell's lock names the worker
  abbrev pub Guarded : Moment → Type 0
  Guarded t =
      (x v : ℕ) (c : Cursor) → outcome mark n t.now.world t.worker ≡ stored (cell x) v c → 0 < t.now.world.left
      → (at n t.now.world.image (field Pc t.worker) ≢ 0) × (at n t.now.world.image (lock (x / 8)) ≡ t.worker + 1)

  -- every turn of the list is such, and no other call changes a cell, however many stores it is lent
  pub record Untouched (m : Image) (xs : List Move) : Type 0 where
    pub turns : Each Guarded (in_list xs (from m))
    pub others : (c : Call) → turnless c ≡ true → (w : Traced) → cells_of (call mark n c w).world.image ≡ cells_of w.world.image

  unfoldable pub UntouchedAlways : Type 0
  UntouchedAlways = Always mark n Untouched
