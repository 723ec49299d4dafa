-- Lists of calls, any of them cut, and what they leave. The effects are those of the engine's and the recovery's
-- definitions; beside them a trace is kept of the sections taken and begun and of the order of whole instructions.
use Rattle.std.specs.Prelude.{ℕ, suc, zero, ◌+◌, ◌-◌, ◌^◌, List, [], ◌∷◌, ◌++◌, Bool, true, false, cond, ◌&&◌, ◌||◌, not, length, replicate, ltb, eqb, Ok, Err}
use Rattle.image.specs.declared.Field.TheVariants.{Pc}
use Rattle.image.specs.Place.{offset, Place, cell, lock, field, own, step}
use Rattle.image.specs.Image.{Image, at, workers, header_ok}
use Rattle.working.specs.Cursor.{step_no, cursor_at, all_idle}
use Rattle.worklog.specs.declared.Passing.{Passing}
use Rattle.worklog.specs.declared.Passing.TheVariants.{Jump, AlreadyFree, Others}
use Rattle.plan.specs.Turn.{Outcome, stored, passed, waiting, resting, refused}
use Rattle.working.specs.World.{World, world}
use Rattle.turn.specs.Call.{answer_of, leaves, outcome_at, outcome, is_refused}
use Rattle.intake.specs.Submit.{Submitted, submit_answer, submit_leaves}
use Rattle.run.specs.Run.{any_open}
use Rattle.recovery.specs.Recovery.{Recovered, recovery}
use Rattle.recovery.specs.Recover.{cursors_of, recovery_leaves, recovery_left}
use Rattle.claims.specs.Reference.{Given, given}
use Rattle.claims.specs.Events.{Event, taken, moved, waited, recorded, ended, lost, but}

-- What the claims speak of besides the calls' own effects; no call reads it. The section last taken from each worker, the
-- sections taken and the sections begun so far, newest last, and the order of whole instructions so far: a worker is in it
-- once for each instruction that counts. An instruction counts when the pc that names it is stored (finish: when the pc is
-- set to 0), and the jumps made since the last one count with it. `jumps` has these, for each worker. And the events.
pub record Trace : Type 0 where
  pub last : ℕ → Given
  pub taken : List Given
  pub begun : List Given
  pub jumps : ℕ → ℕ
  pub order : List ℕ
  pub events : List Event

abbrev pub nothing : Given
nothing = given 0 0 [] []

-- nothing traced yet
abbrev pub blank : Trace
blank = record { last = λ d. nothing; taken = []; begun = []; jumps = λ d. 0; order = []; events = [] }

-- the same with more events
abbrev pub noting : Trace → List Event → Trace
noting g es = record { last = g.last; taken = g.taken; begun = g.begun; jumps = g.jumps; order = g.order; events = g.events ++ es }

-- the jumps of cursors that are lost do not count
abbrev pub forgetful : Trace → Trace
forgetful g = record { last = g.last; taken = g.taken; begun = g.begun; jumps = λ d. 0; order = g.order; events = g.events ++ (lost ∷ []) }

-- the jumps since the last instruction that counts, after a turn that passes
abbrev pub jumps_by : Passing → ℕ → ℕ
jumps_by Jump j = suc j
jumps_by AlreadyFree j = j
jumps_by Others j = j

-- worker d passes
abbrev pub passing : Trace → ℕ → Passing → Trace
passing g d why =
    record { last = g.last; taken = g.taken; begun = g.begun; jumps = but g.jumps d (jumps_by why (g.jumps d)); order = g.order; events = g.events }

-- worker d's pc is stored: it was 0, so that the section last taken is begun, or not
abbrev pub recording : Trace → ℕ → Bool → Trace
recording g d starts =
    record {
      last = g.last;
      taken = g.taken;
      begun = cond starts (g.begun ++ (g.last d ∷ [])) g.begun;
      jumps = but g.jumps d 0;
      order = g.order ++ replicate (suc (g.jumps d)) d;
      events = g.events;
    }

-- a section is taken
abbrev pub taking : Trace → Given → Trace
taking g x =
    record {
      last = but g.last x.worker x;
      taken = g.taken ++ (x ∷ []);
      begun = g.begun;
      jumps = but g.jumps x.worker 0;
      order = g.order;
      events = g.events ++ (taken x ∷ []);
    }

abbrev pub is_pc : Place → Bool
is_pc (cell x) = false
is_pc (lock b) = false
is_pc (field f d) = eqb (offset f) (offset Pc)
is_pc (own d i) = false
is_pc (step d i) = false

-- what a list of calls leaves
pub record Traced : Type 0 where
  pub world : World
  pub trace : Trace

abbrev pub traced : World → Trace → Traced
traced w g = record { world = w; trace = g }

pub data Call : Type 0 where
  -- worker, number, arguments, instruction words
  submits : ℕ → ℕ → List ℕ → List ℕ → Call
  turns : ℕ → Call
  runs : ℕ → Call
  recovers : Call

-- a call, uncut or given k stores
pub data Move : Type 0 where
  whole : Call → Move
  cut : ℕ → Call → Move

-- mark: word 0 of an image; n: own words in a record
module _ (mark n : ℕ) where
  -- the step of worker d's cursor
  abbrev pub step_of : Traced → ℕ → ℕ
  step_of w d = step_no (cursor_at w.world.cursors d)

  -- the events of a store by worker d's turn: the turn, and what it makes of the pc
  abbrev pub store_events : Traced → ℕ → Place → ℕ → List Event
  store_events w d p v =
      cond (eqb w.world.left 0) [] (moved d (step_of w d) ∷ cond (is_pc p) (cond (eqb v 0) (ended d) (recorded d (step_of w d)) ∷ []) [])

  -- the trace after worker d's turn with an outcome; a store that is not made leaves none
  abbrev pub turn_trace : Traced → ℕ → Outcome → Trace
  turn_trace w d (stored p v c) =
      noting
      (cond (is_pc p && not (eqb w.world.left 0)) (recording w.trace d (eqb (at n w.world.image (field Pc d)) 0)) w.trace)
      (store_events w d p v)
  turn_trace w d (passed why c) = noting (passing w.trace d why) (moved d (step_of w d) ∷ [])
  turn_trace w d (waiting b) = noting w.trace (waited d b ∷ [])
  turn_trace w d resting = w.trace
  turn_trace w d (refused r) = w.trace

  abbrev pub turn_by : Traced → ℕ → Outcome → Traced
  turn_by w d o = traced (leaves n w.world d o) (turn_trace w d o)

  -- worker d's turn in a run, where the header is right
  unfoldable pub turned_at : Traced → ℕ → Traced
  turned_at w d = turn_by w d (outcome_at n w.world d)

  abbrev pub refuses : Outcome → Bool
  refuses o = is_refused (answer_of n o)

  -- a turn of each of k workers from d on, and then the rest; a refused turn ends the run
  unfoldable pub round : (Traced → Traced) → Traced → ℕ → ℕ → Traced
  round rest w d zero = rest w
  round rest w d (suc k) = cond (refuses (outcome_at n w.world d)) w (round rest (turned_at w d) (d + 1) k)

  unfoldable pub rounds : ℕ → ℕ → Traced → Traced
  rounds zero D w = w
  rounds (suc r) D w = cond (any_open D 0 w.world.cursors) (round (rounds r D) w 0 D) w

  unfoldable pub ran_by : Traced → ℕ → Traced
  ran_by w r = cond (header_ok mark n w.world.image) (rounds r (workers w.world.image) w) w

  abbrev pub submit_trace : Trace → Given → Submitted → Trace
  submit_trace g x (Ok u) = taking g x
  submit_trace g x (Err r) = g

  abbrev pub recovered_by : Traced → Recovered → Traced
  recovered_by w r =
      traced (world (recovery_leaves n w.world.left w.world.image r) (cursors_of r) (recovery_left w.world.left r)) (forgetful w.trace)

  unfoldable pub call : Call → Traced → Traced
  call (submits d k args ws) w =
      let answer = submit_answer mark n w.world d k ws in
      traced (submit_leaves n w.world d k args ws answer) (submit_trace w.trace (given d k args ws) answer)
  call (turns d) w = turn_by w d (outcome mark n w.world d)
  call (runs r) w = ran_by w r
  call recovers w = recovered_by w (recovery mark n w.world.image)

  abbrev pub lent : ℕ → Traced → Traced
  lent k w = traced (world w.world.image w.world.cursors k) w.trace

  -- what a cut leaves: the image; the working record is lost
  abbrev pub after_cut : Traced → Traced
  after_cut w = traced (world w.world.image all_idle 0) (forgetful w.trace)

  -- an uncut call is given more stores than any call makes
  unfoldable pub move : Move → Traced → Traced
  move (whole c) w = call c (lent (2 ^ 64 - 1) w)
  move (cut k c) w = after_cut (call c (lent k w))

  unfoldable pub play : List Move → Traced → Traced
  play [] w = w
  play (x ∷ xs) w = play xs (move x w)

-- at an image that rests, with all workers idle
abbrev pub from : Image → Traced
from m = traced (world m all_idle 0) blank

abbrev pub recovering : Call → Bool
recovering (submits d k args ws) = false
recovering (turns d) = false
recovering (runs r) = false
recovering recovers = true

-- a recovery is the next call after each cut
unfoldable pub legal : Bool → List Move → Bool
legal owing [] = true
legal owing (whole c ∷ xs) = (not owing || recovering c) && legal false xs
legal owing (cut k c ∷ xs) = (not owing || recovering c) && legal true xs

-- whether the list's last call is cut
unfoldable pub ends_cut : Bool → List Move → Bool
ends_cut was [] = was
ends_cut was (whole c ∷ xs) = ends_cut false xs
ends_cut was (cut k c ∷ xs) = ends_cut true xs

-- no cut and no recovery
unfoldable pub plain : List Move → Bool
plain [] = true
plain (whole c ∷ xs) = not (recovering c) && plain xs
plain (cut k c ∷ xs) = false

unfoldable pub are_words : List ℕ → Bool
are_words [] = true
are_words (v ∷ vs) = ltb v (2 ^ 64) && are_words vs

-- every number is one that a caller can hand over
abbrev pub callable : Call → Bool
callable (submits d k args ws) = ltb d (2 ^ 64) && ltb k (2 ^ 64) && eqb (length args) 8 && are_words args && are_words ws
callable (turns d) = ltb d (2 ^ 64)
callable (runs r) = ltb r (2 ^ 16)
callable recovers = true

abbrev pub of_move : Move → Call
of_move (whole c) = c
of_move (cut k c) = c

unfoldable pub machine : List Move → Bool
machine [] = true
machine (x ∷ xs) = callable (of_move x) && machine xs
