-- What is claimed of lists of calls, from an image at rest: demands 2 and 3.
use Rattle.std.specs.Prelude.{ℕ, ◌+◌, ◌-◌, ◌*◌, ◌^◌, ◌≤◌, ◌<◌, ◌≡◌, List, [], ◌∷◌, ◌++◌, Bool, true, false, cond, ◌&&◌, length, get_or, take, ltb, eqb}
use Rattle.std.proofs.Math.Option.{some}
use Rattle.image.specs.declared.Field.TheVariants.{Count, Pc, Intent, Owned, Finished}
use Rattle.image.specs.Place.{lock, field, Store}
use Rattle.image.specs.Image.{Image, at, cells_of, header_ok, workers}
use Rattle.section.specs.Check.{code_of, check, passes}
use Rattle.working.specs.declared.Cursors.{Cursors}
use Rattle.run.specs.declared.End.{End}
use Rattle.run.specs.declared.End.TheVariants.{AllIdle, Spent, Halted}
use Rattle.working.specs.Cursor.{Cursor, idle, on, cursor_at}
use Rattle.turn.specs.Call.{outcome}
use Rattle.formatting.specs.Format.{formatted}
use Rattle.run.specs.Run.{run_of}
use Rattle.recovery.specs.Recovery.{accepted, recovery}
use Rattle.claims.specs.Reference.{Given, given, Job, State, initial, follow, none_left}
use Rattle.claims.specs.Calls.{Traced, refuses, call, lent, play, from}
use Rattle.claims.specs.Calls.{submits, turns, recovers, runs, Move, whole, cut, legal, ends_cut, plain, machine, are_words}

-- uncut runs and turns alone
abbrev pub working : List Move → Bool
working [] = true
working (cut k c ∷ xs) = false
working (whole (submits d k args ws) ∷ xs) = false
working (whole (turns d) ∷ xs) = working xs
working (whole (runs r) ∷ xs) = working xs
working (whole recovers ∷ xs) = false

-- a run was refused
abbrev pub is_halted : End → Bool
is_halted AllIdle = false
is_halted Spent = false
is_halted (Halted r) = true

-- the rounds of the runs among them
abbrev pub rounds_in : List Move → ℕ
rounds_in [] = 0
rounds_in (cut k c ∷ xs) = rounds_in xs
rounds_in (whole (submits d k args ws) ∷ xs) = rounds_in xs
rounds_in (whole (turns d) ∷ xs) = rounds_in xs
rounds_in (whole (runs r) ∷ xs) = r + rounds_in xs
rounds_in (whole recovers ∷ xs) = rounds_in xs

abbrev pub concat : List (List Move) → List Move
concat [] = []
concat (b ∷ bs) = b ++ concat bs

abbrev pub of_worker : ℕ → List Given → List Given
of_worker d [] = []
of_worker d (g ∷ gs) = cond (eqb g.worker d) (g ∷ of_worker d gs) (of_worker d gs)

-- the sections of a list under the numbers that follow k
abbrev pub numbered : ℕ → List Given → List Given
numbered k [] = []
numbered k (g ∷ gs) = given g.worker (k + 1) g.args g.code ∷ numbered (k + 1) gs

-- uncut submits and turns of worker d alone
abbrev pub calls_of : ℕ → List Move → Bool
calls_of d [] = true
calls_of d (cut k c ∷ xs) = false
calls_of d (whole (submits e k args ws) ∷ xs) = eqb e d && calls_of d xs
calls_of d (whole (turns e) ∷ xs) = eqb e d && calls_of d xs
calls_of d (whole (runs r) ∷ xs) = false
calls_of d (whole recovers ∷ xs) = false

-- where a worker with this queue stands between two instructions: before its section's first it is idle
abbrev pub cursor_of : List Job → Cursor
cursor_of [] = idle
cursor_of (j ∷ js) = cond (eqb j.next 0) idle (on j.next 0)

-- from these cells, fed these sections, the reference machine follows this order to its end and leaves those cells
pub record Gives (n D : ℕ) (before : List ℕ) (gs : List Given) (order : List ℕ) (after : List ℕ) : Type 0 where
  pub final : State
  pub followed : follow (initial n D before gs) order ≡ some final
  pub ended : none_left final.queues ≡ true
  pub same : final.cells ≡ after

-- mark: word 0 of an image; n: own words in a record
module _ (mark n : ℕ) where
  -- an image on which no section is under way: what formatting leaves, and any board between sections
  pub record Rested (m : Image) : Type 0 where
    pub header : header_ok mark n m ≡ true
    pub free : (b : ℕ) → b < 64 → at n m (lock b) ≡ 0
    pub empty :
        (d : ℕ) → d < workers m
        → (at n m (field Count d) ≡ 0) × (at n m (field Pc d) ≡ 0) × (at n m (field Intent d) ≡ 0) × (at n m (field Owned d) ≡ 0)

  unfoldable pub FormattedRests : Type 0
  FormattedRests = (D : ℕ) → 1 ≤ D → D ≤ 8 → Rested (formatted mark n D)

  abbrev pub after : Image → List Move → Traced
  after m xs = play mark n xs (from m)

  -- all workers of an image idle
  abbrev pub Idle : ℕ → Cursors → Type 0
  Idle D c = (d : ℕ) → d < D → cursor_at c d ≡ idle

  -- sections that the engine takes: they pass the check
  abbrev pub admissible : ℕ → List Given → Bool
  admissible D [] = true
  admissible D (g ∷ gs) =
      ltb g.worker D && eqb (length g.args) 8 && are_words g.args && are_words g.code
      && passes (check n (length g.code) (code_of g.code))
      && admissible D gs

  -- all workers idle, all locks free, the image at rest, and the cells those of the sections begun, all of them admissible, and of
  -- no other
  pub record Settled (m : Image) (w : Traced) : Type 0 where
    pub idles : Idle (workers m) w.world.cursors
    pub rests : Rested w.world.image
    pub admits : admissible (workers m) w.trace.begun ≡ true
    pub gives : Gives n (workers m) (cells_of m) w.trace.begun w.trace.order (cells_of w.world.image)

  -- with a recovery, if a cut ends the list
  abbrev pub mended : List Move → List Move
  mended xs = cond (ends_cut false xs) (xs ++ (whole recovers ∷ [])) xs

  -- what a run of r rounds made now, and lent enough, answers
  abbrev pub run_end : Traced → ℕ → End
  run_end w r = (run_of mark n (lent mark n (2 ^ 64 - 1) w).world r).end

  pub record Durable (m : Image) (xs : List Move) : Type 0 where
    -- a recovery made now would be accepted
    pub accepts : (ss : List Store) × (cs : Cursors) × (recovery mark n (after m xs).world.image ≡ accepted ss cs)
    -- the image has as many workers as before; unless a cut has just come, no turn of one of them and no run would be refused
    pub as_many : workers (after m xs).world.image ≡ workers m
    pub turn-made : ends_cut false xs ≡ false → (d : ℕ) → d < workers m → refuses mark n (outcome mark n (after m xs).world d) ≡ false
    pub run-made : ends_cut false xs ≡ false → (r : ℕ) → is_halted (run_end (after m xs) r) ≡ false
    -- 384 rounds for each worker, in one run or several, with any turns among them, settle it, and the last run says so
    pub settles : (ys : List Move) → working ys ≡ true → 384 * workers m ≤ rounds_in ys → Settled m (after m (mended xs ++ ys))
    pub says-idle : (ys : List Move) (r : ℕ) → working ys ≡ true → 384 * workers m ≤ rounds_in ys + r → run_end (after m (mended xs ++ ys)) r ≡ AllIdle

  -- from any image at rest, after any list of calls and cuts with a recovery after each cut
  abbrev pub Always : (Image → List Move → Type 0) → Type 0
  Always P = (m : Image) → Rested m → (xs : List Move) → machine xs ≡ true → legal false xs ≡ true → P m xs

  -- demand 3
  unfoldable pub DurableAlways : Type 0
  DurableAlways = Always Durable

  -- demand 2, first half: with no cut and no recovery, and all workers idle, the cells are those of the sections taken
  unfoldable pub Linearizable : Type 0
  Linearizable =
      (m : Image) → Rested m → (xs : List Move) → machine xs ≡ true → plain xs ≡ true → Idle (workers m) (after m xs).world.cursors
      → Gives n (workers m) (cells_of m) (after m xs).trace.taken (after m xs).trace.order (cells_of (after m xs).world.image)

  -- a turn call after the other
  unfoldable pub turns_by : List ℕ → Traced → Traced
  turns_by [] w = w
  turns_by (d ∷ ds) w = turns_by ds (call mark n (turns d) w)

  -- a run is turns, each the one that a turn call makes, in any world
  unfoldable pub RunsAreTurns : Type 0
  RunsAreTurns = (r : ℕ) (w : Traced) → (ds : List ℕ) × (call mark n (runs r) w ≡ turns_by ds w)

  -- demand 2, second half: for each entry of the order a block of that worker's turns, after a submit where it was idle;
  -- after each block the cells are the reference machine's, and every worker stands before the machine's next step of its section;
  -- in the end the sections given have been taken, numbered one after the other, and all is idle
  pub record Had (m : Image) (gs : List Given) (order : List ℕ) : Type 0 where
    pub blocks : List (List Move)
    pub one_each : length blocks ≡ length order
    pub by-worker : (i : ℕ) → i < length order → calls_of (get_or order i 0) (get_or blocks i []) ≡ true
    pub words : machine (concat blocks) ≡ true
    pub follows :
        (i : ℕ) → i ≤ length order → (s : State) → follow (initial n (workers m) (cells_of m) gs) (take i order) ≡ some s
        → cells_of (after m (concat (take i blocks))).world.image ≡ s.cells
    pub stands :
        (i : ℕ) → i ≤ length order → (s : State) → follow (initial n (workers m) (cells_of m) gs) (take i order) ≡ some s
        → (d : ℕ) → d < workers m → cursor_at (after m (concat (take i blocks))).world.cursors d ≡ cursor_of (get_or s.queues d [])
    pub entered : (d : ℕ) → d < workers m → of_worker d (after m (concat blocks)).trace.taken ≡ numbered (at n m (field Finished d)) (of_worker d gs)
    pub rests : Idle (workers m) (after m (concat blocks)).world.cursors

  unfoldable pub EveryOrderHad : Type 0
  EveryOrderHad =
      (m : Image) → Rested m → (gs : List Given) → admissible (workers m) gs ≡ true
      → ((d : ℕ) → d < workers m → at n m (field Finished d) + length (of_worker d gs) < 2 ^ 64)
      → (order : List ℕ) (final : State) → follow (initial n (workers m) (cells_of m) gs) order ≡ some final → none_left final.queues ≡ true
      → Had m gs order
