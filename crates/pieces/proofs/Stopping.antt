-- A line that does not end the day when it is begun does not end it later (`stays_on`): so the cause that ends it is known when it is begun (`on-ends`).
use Prim.Native.Nat.{ℕ, zero, suc, ◌-◌}
use mathlib.Core.Path.{◌≡◌, refl}
use mathlib.Core.Bool.{Bool, true, false, cond}
use native.Mathlib.Omega.{arith}
use lib.Dec.{eqb, ltb}
use Rattle.image.specs.Image.{Image}
use Rattle.turn.specs.declared.Answer.{Answer}
use Rattle.turn.specs.declared.Answer.TheVariants.{Stored, Passed, Waiting, Idle, Refused}
use Rattle.turn.specs.Call.{outcome, answer_of}
use Rattle.run.specs.Round.{next_outcome}
use Rattle.edition.specs.Edition.{mark, own_words}
use Rattle.frames.specs.Print.{Printed}
use Rattle.lines.specs.declared.Job.{Job}
use Rattle.lines.specs.declared.Job.TheVariants.{Turns, Rounds, Stores, Next, Stop}
use Rattle.lines.specs.declared.Played.{Played}
use Rattle.lines.specs.Play.{Stage, uncut, goes_on, turn_stage, round_job, round_stage, slot_stage, is_going, go_on, go_on_job}
use Rattle.pieces.specs.Pieces.{ends_by, ends_of}

-- the line ends the day
abbrev pub is_stop : Job → Bool
is_stop (Turns w k) = false
is_stop (Rounds d r) = false
is_stop (Stores i) = false
is_stop Next = false
is_stop Stop = true

turns-on : (t : Bool) (d k : ℕ) → is_stop (cond t (Turns d k) Next) ≡ false
turns-on true d k = refl
turns-on false d k = refl

turn_on : (m : Image) (p : Played) (d k : ℕ) → is_stop (turn_stage m p d k).played.job ≡ false
unfolding turn_stage
turn_on m p d zero = refl
turn_on m p d (suc k) = turns-on (goes_on (answer_of own_words (outcome mark own_words (uncut m p.cursors) d))) d k

round-job-on : (a : Answer) (from d r : ℕ) → is_stop (round_job a from d r) ≡ false
round-job-on (Stored i) from d r = refl
round-job-on (Passed why) from d r = refl
round-job-on (Waiting b) from d r = refl
round-job-on Idle from d r = by (eqb from 0)
  where
    by : (t : Bool) → is_stop (cond t Next (Rounds 0 (r - 1))) ≡ false
    by true = refl
    by false = refl
round-job-on (Refused e) from d r = refl

round-on : (m : Image) (p : Played) (d r : ℕ) → is_stop (round_stage m p d r).played.job ≡ false
unfolding round_stage
round-on m p d zero = refl
round-on m p d (suc r) = round-job-on (answer_of own_words (next_outcome mark own_words (uncut m p.cursors) d)) d _ (suc r)

slot-on : (m : Image) (p : Played) (i : ℕ) → is_stop (slot_stage m p i).played.job ≡ false
unfolding slot_stage
slot-on m p i = by (ltb i 592) refl
  where
    by : (t : Bool) → ltb i 592 ≡ t → is_stop (slot_stage m p i).played.job ≡ false
    by true e = rw e
    by false e = rw e

pub stays_on : (m : Image) (p : Played) (j : Job) → is_stop j ≡ false → is_stop (go_on_job m p j).played.job ≡ false
stays_on m p (Turns d k) e = turn_on m p d k
stays_on m p (Rounds d r) e = round-on m p d r
stays_on m p (Stores i) e = slot-on m p i
stays_on m p Next e = refl
stays_on m p Stop e = cc

-- ---- the cause

going-ends : (x : Printed) (j : Job) → is_going j ≡ true → ends_by x j ≡ 0
going-ends x (Turns d k) e = refl
going-ends x (Rounds d r) e = refl
going-ends x (Stores i) e = refl
going-ends x Next e = refl
going-ends x Stop e = cc

going_on : (j : Job) → is_going j ≡ true → is_stop j ≡ false
going_on (Turns d k) e = refl
going_on (Rounds d r) e = refl
going_on (Stores i) e = refl
going_on Next e = refl
going_on Stop e = cc

on_none : (x : Printed) (j : Job) → is_stop j ≡ false → ends_by x j ≡ 0
on_none x (Turns d k) e = refl
on_none x (Rounds d r) e = refl
on_none x (Stores i) e = refl
on_none x Next e = refl
on_none x Stop e = cc

-- a line that is gone on with has no cause, before and after
module _ (s : Stage) (e : is_going s.played.job ≡ true) where
  pub was-none : ends_of s.played ≡ 0
  was-none = going-ends s.played.printed s.played.job e

  pub on-ends : ends_of (go_on s).played ≡ 0
  on-ends = on_none (go_on s).played.printed (go_on s).played.job (stays_on s.image s.played s.played.job (going_on s.played.job e))
