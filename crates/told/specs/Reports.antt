-- Why a release passes. With no cut and no recovery every release frees its lock (`Frees`), and no turn reports (`Quiet`). A release that reports
-- its lock already free or another's is the one that its worker's pc named when the cursors were last lost, and it is the worker's second turn
-- since (`Explained`). So a report on the screen means that power went. Said of the turns of uncut calls: the answers of a cut one count for nothing.
use Rattle.std.specs.Prelude.{ℕ, suc, ◌-◌, ◌%◌, ◌^◌, ◌<◌, ◌≡◌, ◌≢◌, List, [], ◌∷◌, ◌++◌, Bool, true, cond, eqb}
use Rattle.image.specs.declared.Field.TheVariants.{Pc}
use Rattle.image.specs.Place.{lock, field}
use Rattle.image.specs.Image.{Image, at, workers}
use Rattle.code.specs.declared.Op.TheVariants.{Release}
use Rattle.code.specs.Op.{op_of}
use Rattle.worklog.specs.declared.Passing.{Passing}
use Rattle.worklog.specs.declared.Passing.TheVariants.{Jump}
use Rattle.worklog.specs.Log.{code_in}
use Rattle.working.specs.Cursor.{Cursor, on, cursor_at}
use Rattle.plan.specs.Turn.{stored, passed}
use Rattle.turn.specs.Call.{outcome}
use Rattle.claims.specs.Events.{Event, taken, moved, waited, recorded, ended, lost}
use Rattle.claims.specs.Calls.{Traced, step_of, Move, whole, cut, lent, move, from, plain, machine}
use Rattle.claims.specs.Claims.{Rested, Always}
use Rattle.told.specs.Moments.{Moment, Each, in_call}

-- an event of worker d, or a loss
abbrev pub concerns : ℕ → Event → Bool
concerns d (taken g) = eqb g.worker d
concerns d (moved e s) = eqb e d
concerns d (waited e b) = eqb e d
concerns d (recorded e s) = eqb e d
concerns d (ended e) = eqb e d
concerns d lost = true

abbrev pub concerning : ℕ → List Event → List Event
concerning d [] = []
concerning d (e ∷ es) = cond (concerns d e) (e ∷ concerning d es) (concerning d es)

-- the cursors were lost, and of what happened since, this alone concerns worker d
pub record SinceLoss (d : ℕ) (mine es : List Event) : Type 0 where
  pub before : List Event
  pub behind : List Event
  pub split : es ≡ before ++ (lost ∷ behind)
  pub alone : concerning d behind ≡ mine

-- mark: word 0 of an image; n: own words in a record
module _ (mark n : ℕ) where
  -- the turns of a list's uncut calls
  unfoldable pub in_uncut : List Move → Traced → List Moment
  in_uncut [] w = []
  in_uncut (whole c ∷ xs) w = in_call mark n c (lent mark n (2 ^ 64 - 1) w) ++ in_uncut xs (move mark n (whole c) w)
  in_uncut (cut k c ∷ xs) w = in_uncut xs (move mark n (cut k c) w)

  -- if the turn is a release's that reports: the pc names its step, and since the last loss its worker has made the step's target store and
  -- nothing else
  abbrev pub Explained : Moment → Type 0
  Explained t =
      (why : Passing) (c : Cursor) → outcome mark n t.now.world t.worker ≡ passed why c → why ≢ Jump
      → (at n t.now.world.image (field Pc t.worker) % 2 ^ 63 ≡ suc (step_of mark n t.now t.worker))
      × SinceLoss t.worker (moved t.worker (step_of mark n t.now t.worker) ∷ []) t.now.trace.events

  unfoldable pub ReportsExplained : Type 0
  ReportsExplained = Always mark n (λ m xs. Each Explained (in_uncut xs (from m)))

  -- a release's lock turn frees the lock
  abbrev pub Frees : Moment → Type 0
  Frees t =
      (s a : ℕ) → t.worker < workers t.now.world.image → cursor_at t.now.world.cursors t.worker ≡ on s 4
      → op_of (code_in n (at n t.now.world.image) t.worker s) ≡ Release a
      → outcome mark n t.now.world t.worker ≡ stored (lock a) 0 (on s 5)

  -- a turn that passes is a jump
  abbrev pub Quiet : Moment → Type 0
  Quiet t = (why : Passing) (c : Cursor) → outcome mark n t.now.world t.worker ≡ passed why c → why ≡ Jump

  unfoldable pub ReleasesFree : Type 0
  ReleasesFree =
      (m : Image) → Rested mark n m → (xs : List Move) → machine xs ≡ true → plain xs ≡ true → Each (λ t. Frees t × Quiet t) (in_uncut xs (from m))
