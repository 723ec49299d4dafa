-- The turns of a day's lines and the events of its calls say the same (`Told`): on each lock as many waits, and of each worker as many turns that waited
-- and as many that did not. It holds of two lists one behind the other where it holds of each (`told-append`), of a turn by the cases of its outcome
-- (`told-turn`), and of events that are no turns beside no turn (`told-lost`, `told-taken`).
use Prim.Native.Nat.{ℕ, suc, ◌+◌, ◌<◌}
use mathlib.Core.Path.{◌≡◌, refl}
use mathlib.Core.Bool.{Bool, true, false, cond, ◌&&◌, not, and-true, and-false}
use mathlib.Core.List.{List, [], ◌∷◌, ◌++◌, append-nil}
use native.Mathlib.Omega.{arith}
use borrow.Author.Tests.{ne_eqb}
use lib.Dec.{eqb}
use Rattle.image.specs.declared.Field.TheVariants.{Pc}
use Rattle.image.specs.Place.{field}
use Rattle.image.specs.Image.{at, index_of}
use Rattle.edition.specs.Edition.{mark, own_words}
use Rattle.plan.specs.Turn.{Outcome, stored, passed, waiting, resting, refused}
use Rattle.working.specs.declared.Refusal.{Refusal}
use Rattle.worklog.specs.declared.Passing.{Passing}
use Rattle.turn.specs.declared.Answer.TheVariants.{Stored, Passed, Waiting, Idle, Refused}
use Rattle.turn.specs.Call.{answer_of}
use Rattle.claims.specs.Reference.{Given}
use Rattle.claims.specs.Events.{Event, taken, moved, waited, recorded, ended, lost}
use Rattle.claims.specs.Calls.{Traced, Trace, recording, is_pc, step_of, turn_trace}
use Rattle.lines.specs.Whole.{Took, took}
use Rattle.sums.specs.Sums.{wait_on, wait_of, move_of, count}
use Rattle.sums.proofs.Numbers.{count-append}
use Rattle.recorded.specs.Recorded.{waited_on, waited_by, moved_by, happened}

pub record Told (ts : List Took) (es : List Event) : Type 0 where
  pub on : (b : ℕ) → count (wait_on b) ts ≡ happened (waited_on b) es
  pub of : (d : ℕ) → count (wait_of d) ts ≡ happened (waited_by d) es
  pub moves : (d : ℕ) → count (move_of d) ts ≡ happened (moved_by d) es

-- ---- one behind the other

happened-append : (P : Event → Bool) (es fs : List Event) → happened P (es ++ fs) ≡ happened P es + happened P fs
unfolding happened
happened-append P [] fs = omega arith
happened-append P (e ∷ es) fs = by (P e) (happened-append P es fs)
  where
    by : (b : Bool) → happened P (es ++ fs) ≡ happened P es + happened P fs
        → cond b (suc (happened P (es ++ fs))) (happened P (es ++ fs)) ≡ cond b (suc (happened P es)) (happened P es) + happened P fs
    by true e = omega arith
    by false e = e

both : (P : Took → Bool) (Q : Event → Bool) (ts us : List Took) (es fs : List Event) → count P ts ≡ happened Q es → count P us ≡ happened Q fs
    → count P (ts ++ us) ≡ happened Q (es ++ fs)
both P Q ts us es fs e f = omega (arith, count-append P ts us, happened-append Q es fs)

pub told-append : (ts us : List Took) (es fs : List Event) → Told ts es → Told us fs → Told (ts ++ us) (es ++ fs)
told-append ts us es fs a b =
    record {
      on = λ x. both (wait_on x) (waited_on x) ts us es fs (a.on x) (b.on x);
      of = λ d. both (wait_of d) (waited_by d) ts us es fs (a.of d) (b.of d);
      moves = λ d. both (move_of d) (moved_by d) ts us es fs (a.moves d) (b.moves d);
    }

-- ---- no turns

pub told_none : Told [] []
unfolding count happened
told_none = record { on = λ b. refl; of = λ d. refl; moves = λ d. refl }

lost-none : Told [] (lost ∷ [])
unfolding count happened
lost-none = record { on = λ b. refl; of = λ d. refl; moves = λ d. refl }

taken_none : (x : Given) → Told [] (taken x ∷ [])
unfolding count happened
taken_none x = record { on = λ b. refl; of = λ d. refl; moves = λ d. refl }

pub told-lost : (ts : List Took) (es : List Event) → Told ts es → Told ts (es ++ (lost ∷ []))
told-lost ts es t = rw append-nil at (told-append ts [] es (lost ∷ []) t lost-none)

pub told-taken : (ts : List Took) (es : List Event) (x : Given) → Told ts es → Told ts (es ++ (taken x ∷ []))
told-taken ts es x t = rw append-nil at (told-append ts [] es (taken x ∷ []) t (taken_none x))

-- ---- a turn

-- of worker d, stored, with what it makes of the pc
stored-told : (d s i : ℕ) (pc zero : Bool)
    → Told (took d (Stored i) ∷ []) (moved d s ∷ cond pc (cond zero (ended d) (recorded d s) ∷ []) [])
unfolding count happened
stored-told d s i true true = record { on = λ b. refl; of = λ e. rw (and-false (eqb d e)); moves = λ e. rw (and-true (eqb d e)) }
stored-told d s i true false = record { on = λ b. refl; of = λ e. rw (and-false (eqb d e)); moves = λ e. rw (and-true (eqb d e)) }
stored-told d s i false zero = record { on = λ b. refl; of = λ e. rw (and-false (eqb d e)); moves = λ e. rw (and-true (eqb d e)) }

passed-told : (d s : ℕ) (why : Passing) → Told (took d (Passed why) ∷ []) (moved d s ∷ [])
unfolding count happened
passed-told d s why = record { on = λ b. refl; of = λ e. rw (and-false (eqb d e)); moves = λ e. rw (and-true (eqb d e)) }

waited-told : (d a : ℕ) → Told (took d (Waiting a) ∷ []) (waited d a ∷ [])
unfolding count happened
waited-told d a = record { on = λ b. refl; of = λ e. rw (and-true (eqb d e)); moves = λ e. rw (and-false (eqb d e)) }

idle-told : (d : ℕ) → Told (took d Idle ∷ []) []
unfolding count happened
idle-told d = record { on = λ b. refl; of = λ e. rw (and-false (eqb d e)); moves = λ e. rw (and-false (eqb d e)) }

refused-told : (d : ℕ) (r : Refusal) → Told (took d (Refused r) ∷ []) []
unfolding count happened
refused-told d r = record { on = λ b. refl; of = λ e. rw (and-false (eqb d e)); moves = λ e. rw (and-false (eqb d e)) }

-- a pc that is stored is no event by itself
recording-events : (b starts : Bool) (g : Trace) (d : ℕ) → (cond b (recording g d starts) g).events ≡ g.events
recording-events true starts g d = refl
recording-events false starts g d = refl

-- behind other turns
module _ (w : Traced) (d : ℕ) (ts : List Took) (some_left : 0 < w.world.left) (t : Told ts w.trace.events) where
  pub told-turn : (o : Outcome) → Told (ts ++ (took d (answer_of own_words o) ∷ [])) (turn_trace mark own_words w d o).events
  told-turn (stored p v c) =
      let starts = eqb (at own_words w.world.image (field Pc d)) 0 in
      let none : eqb w.world.left 0 ≡ false = ne_eqb w.world.left 0 (λ q. omega arith) in
      rw (recording-events (is_pc p && not (eqb w.world.left 0)) starts w.trace d, none)
      (told-append ts _ w.trace.events _ t (stored-told d (step_of mark own_words w d) (index_of own_words p) (is_pc p) (eqb v 0)))
  told-turn (passed why c) = told-append ts _ w.trace.events _ t (passed-told d (step_of mark own_words w d) why)
  told-turn (waiting b) = told-append ts _ w.trace.events _ t (waited-told d b)
  told-turn resting = rw append-nil at (told-append ts _ w.trace.events [] t (idle-told d))
  told-turn (refused r) = rw append-nil at (told-append ts _ w.trace.events [] t (refused-told d r))
