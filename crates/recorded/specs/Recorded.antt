-- A day is a list of calls as in demand 3, so that every claim over such lists holds of it; and what a day then prints and counts.
use Rattle.std.specs.Prelude.{ℕ, suc, ◌≤◌, ◌≡◌, ◌≢◌, List, [], ◌∷◌, Bool, true, false, cond, eqb, Some, Ok}
use Rattle.working.specs.Cursor.{all_idle}
use Rattle.formatting.specs.Format.{formatted}
use Rattle.edition.specs.Edition.{mark, own_words}
use Rattle.recovery.specs.Recovery.{recovery}
use Rattle.recovery.specs.Recover.{answer_of}
use Rattle.frames.specs.Line.{first_of}
use Rattle.buffers.specs.Input.{lines_of}
use Rattle.claims.specs.Calls.{Traced, legal, ends_cut, machine}
use Rattle.claims.specs.Claims.{after}
use Rattle.claims.specs.Events.{Event, taken, moved, waited, recorded, ended, lost}
use Rattle.told.specs.Turns.{All}
use Rattle.frames.specs.Print.{Printed, refusal}
use Rattle.lines.specs.Whole.{Output}
use Rattle.stages.specs.Lines.{lines_whole}
use Rattle.sums.specs.Sums.{wait_on, wait_of, move_of, count}
use Rattle.sums.specs.Day.{day_reading}
use Rattle.recorded.specs.Moves.{moves_of}

-- ---- the events of a list that are turns

-- a turn that waited on lock b, one of worker e that waited, and one of worker e that stored or passed
abbrev pub waited_on : ℕ → Event → Bool
waited_on b (taken x) = false
waited_on b (moved d s) = false
waited_on b (waited d a) = eqb a b
waited_on b (recorded d s) = false
waited_on b (ended d) = false
waited_on b lost = false

abbrev pub waited_by : ℕ → Event → Bool
waited_by e (taken x) = false
waited_by e (moved d s) = false
waited_by e (waited d a) = eqb d e
waited_by e (recorded d s) = false
waited_by e (ended d) = false
waited_by e lost = false

abbrev pub moved_by : ℕ → Event → Bool
moved_by e (taken x) = false
moved_by e (moved d s) = eqb d e
moved_by e (waited d a) = false
moved_by e (recorded d s) = false
moved_by e (ended d) = false
moved_by e lost = false

-- how many events are such
unfoldable pub happened : (Event → Bool) → List Event → ℕ
happened P [] = 0
happened P (e ∷ es) = cond (P e) (suc (happened P es)) (happened P es)

-- ---- a day of D workers, by the lines behind its first

-- what its lines do
abbrev pub played : ℕ → List (List ℕ) → Output
played D ls = (lines_whole ls (formatted mark own_words D) all_idle).output

-- what its calls leave
abbrev pub listed : ℕ → List (List ℕ) → Traced
listed D ls = after mark own_words (formatted mark own_words D) (moves_of ls)

-- what the lines of bytes do whose first line opens an image is that
unfoldable pub DaysOpen : Type 0
DaysOpen =
    (bytes l : List ℕ) (ls : List (List ℕ)) (D : ℕ) → lines_of bytes ≡ l ∷ ls → first_of l ≡ Some D → 1 ≤ D → D ≤ 8
    → (day_reading bytes).output ≡ played D ls

pub record Listed (D : ℕ) (ls : List (List ℕ)) : Type 0 where
  -- the calls are a list as in demand 3, whose last call is not cut
  pub callable : machine (moves_of ls) ≡ true
  pub legal : legal false (moves_of ls) ≡ true
  pub uncut : ends_cut false (moves_of ls) ≡ false
  -- they leave what the lines leave
  pub image : (listed D ls).world.image ≡ (played D ls).image
  pub cursors : (listed D ls).world.cursors ≡ (played D ls).cursors
  -- and their turns are those of the lines, across cuts: what waited on each lock, and of each worker what waited and what did not
  pub waits-on : (b : ℕ) → count (wait_on b) (played D ls).turns ≡ happened (waited_on b) (listed D ls).trace.events
  pub waits-of : (d : ℕ) → count (wait_of d) (played D ls).turns ≡ happened (waited_by d) (listed D ls).trace.events
  pub moves-of : (d : ℕ) → count (move_of d) (played D ls).turns ≡ happened (moved_by d) (listed D ls).trace.events

unfoldable pub DaysAreLists : Type 0
DaysAreLists = (D : ℕ) → 1 ≤ D → D ≤ 8 → (ls : List (List ℕ)) → Listed D ls

-- so a recovery behind any lines is accepted: no 03 prints a refusal
unfoldable pub RecoveriesAccepted : Type 0
RecoveriesAccepted = (D : ℕ) → 1 ≤ D → D ≤ 8 → (ls : List (List ℕ)) → answer_of (recovery mark own_words (played D ls).image) ≡ Ok tt

-- the cause of a turn that is refused where its worker stands, or for its count
abbrev pub halting : ℕ
halting = 11

-- what is printed is no refusal with it
abbrev pub Clear : Printed → Type 0
Clear p = p ≢ refusal halting

-- and no turn of a worker of the image is refused: no line of any bytes prints ffff and 11
unfoldable pub NoneHalted : Type 0
NoneHalted = (bytes : List ℕ) → All Clear (day_reading bytes).output.lines
