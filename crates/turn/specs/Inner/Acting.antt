-- What the code of a turn says of what it did: inner to the turn and to the run.
use Rattle.std.specs.Prelude.{ℕ, ◌-◌, ◌<◌, ◌≡◌, Bool, get_or, Result, Ok, Err}
use Rattle.mask.specs.Mask.{with, without}
use Rattle.image.specs.Place.{lock}
use Rattle.image.specs.Image.{Image, index_of, at, put}
use Rattle.working.specs.declared.Cursors.{Cursors}
use Rattle.working.specs.declared.Refusal.{Refusal}
use Rattle.working.specs.Cursor.{set_at, holding}
use Rattle.working.specs.World.{World, world}
use Rattle.worklog.specs.declared.Plan.{Plan}
use Rattle.worklog.specs.declared.Plan.TheVariants.{Store, Take, Free, Pass, Wait}
use Rattle.plan.specs.Turn.{Outcome, stored, passed, waiting, resting, refused, ready}
use Rattle.plan.specs.Inner.Plan.{plan_of}
use Rattle.turn.specs.declared.Gate.{Gate}
use Rattle.turn.specs.declared.Gate.TheVariants.{Idle, Open}
use Rattle.turn.specs.declared.Answer.{Answer}
use Rattle.turn.specs.declared.Answer.TheVariants.{Stored, Passed, Waiting}
use Rattle.turn.specs.declared.Did.{Did}
use Rattle.turn.specs.declared.Did.TheVariants.{Stored as DidStore, Took, Freed, Passed as DidPass, Waiting as DidWait}
use Rattle.turn.specs.Call.{leaves, outcome_at}

-- what the turn of a plan did
abbrev pub plan_did : Plan → Did
plan_did (Store i v s t) = DidStore i
plan_did (Take b v s t) = Took b
plan_did (Free b s t) = Freed b
plan_did (Pass why s t) = DidPass why
plan_did (Wait b) = DidWait b

-- what it leaves; n: own words in a record
abbrev pub plan_leaves : ℕ → World → ℕ → Plan → World
plan_leaves n w d (Store i v s t) = world (put w.left w.image i v) (set_at w.cursors d s t) (w.left - 1)
plan_leaves n w d (Take b v s t) =
    world (put w.left w.image (index_of n (lock b)) v) (holding (with w.cursors.held b) (set_at w.cursors d s t)) (w.left - 1)
plan_leaves n w d (Free b s t) =
    world (put w.left w.image (index_of n (lock b)) 0) (holding (without w.cursors.held b) (set_at w.cursors d s t)) (w.left - 1)
plan_leaves n w d (Pass why s t) = world w.image (set_at w.cursors d s t) w.left
plan_leaves n w d (Wait b) = w

-- the lock that it names is an image's
abbrev pub did_lock : Did → Type 0
did_lock (DidStore i) = Unit {0}
did_lock (Took b) = b < 64
did_lock (Freed b) = b < 64
did_lock (DidPass why) = Unit {0}
did_lock (DidWait b) = Unit {0}

-- the locks held after it, and what it answers
abbrev pub did_held : Did → ℕ → ℕ
did_held (DidStore i) h = h
did_held (Took b) h = with h b
did_held (Freed b) h = without h b
did_held (DidPass why) h = h
did_held (DidWait b) h = h

abbrev pub did_answer : ℕ → Did → Answer
did_answer n (DidStore i) = Stored i
did_answer n (Took b) = Stored (index_of n (lock b))
did_answer n (Freed b) = Stored (index_of n (lock b))
did_answer n (DidPass why) = Passed why
did_answer n (DidWait b) = Waiting b

-- worker d's turn did this, and left that world
pub record Acts (n : ℕ) (w : World) (d : ℕ) (x : Did) (v : World) : Type 0 where
  pub did : x ≡ plan_did (plan_of n (outcome_at n w d))
  pub after : v ≡ leaves n w d (outcome_at n w d)

-- ---- the tests

-- cause 11 does not hold at the numbers that the record has for worker d
abbrev pub tested : ℕ → Image → Cursors → ℕ → Bool
tested n m c d = ready n (at n m) d (get_or c.step d 0) (get_or c.turn d 0)

-- what they say of an outcome
abbrev pub gate_of : Outcome → Result Gate Refusal
gate_of (stored p v c) = Ok Open
gate_of (passed why c) = Ok Open
gate_of (waiting b) = Ok Open
gate_of resting = Ok Idle
gate_of (refused r) = Err r
