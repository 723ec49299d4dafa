-- What the numbers say: a turn's answer is read back from its code and its detail, and 0 is returned where the call is done and nowhere
-- else. That a refusal is told from any other answer is in Apart.antt.
use Prim.Native.Nat.{ℕ, zero, suc, ◌+◌}
use mathlib.Core.Path.{◌≡◌, refl, ◌∙◌}
use mathlib.Core.Bool.{Bool, true, false, cond, true≢false}
use mathlib.Core.List.{List}
use lib.ListN.{length}
use lib.Dec.{eqb, ltb}
use Rattle.std.specs.Prelude.{Ok, Err}
use Rattle.image.specs.declared.Field.TheVariants.{Finished}
use Rattle.image.specs.Place.{Place, lock, field, Memory}
use Rattle.image.specs.Image.{Image, at, workers, header_ok}
use Rattle.code.specs.declared.Op.{Op}
use Rattle.code.specs.declared.Op.TheVariants.{Acquire, Release, Assign, Jump, Finish, Unknown}
use Rattle.section.specs.declared.Fault.TheVariants.{Length, Malformed, Unbracketed, Unordered, Unguarded, Unlevel}
use Rattle.code.specs.Op.{op_of}
use Rattle.section.specs.Check.{Verdict, code_of, check, passes, cause_of as check_cause}
use Rattle.tally.specs.Tally.{none}
use Rattle.working.specs.declared.Refusal.TheVariants.{Image as ImageRefused}
use Rattle.turn.specs.declared.Answer.{Answer}
use Rattle.worklog.specs.declared.Passing.{Passing}
use Rattle.worklog.specs.declared.Passing.TheVariants.{Jump as PassedJump, AlreadyFree, Others}
use Rattle.turn.specs.declared.Answer.TheVariants.{Stored, Passed, Waiting, Idle, Refused}
use Rattle.run.specs.declared.End.{End}
use Rattle.run.specs.declared.End.TheVariants.{AllIdle, Spent, Halted}
use Rattle.edition.specs.Edition.{mark, own_words}
use Rattle.working.specs.Refusal.{cause_of}
use Rattle.turn.specs.Call.{is_refused}
use Rattle.working.specs.Cursor.{Cursor, idle, on, cursor_at}
use Rattle.worklog.specs.Log.{code_in}
use Rattle.plan.specs.Turn.{Outcome, stored, passed, waiting, resting, refused, logged, op_turn, ready, turn_at}
use Rattle.plan.proofs.Outcomes.{either, unlock-either}
use Rattle.working.specs.World.{World}
use Rattle.turn.specs.Call.{outcome_at}
use Rattle.formatting.specs.Format.{formattable, format_answer}
use Rattle.intake.specs.Submit.{Submitted, verdict_answer, is_taken, free, submit_answer}
use Rattle.run.specs.Run.{Counting, counting, Course, Sweep, through, halted, any_open, turned, swept, sweep, after_sweep, rounds_of, run_of}
use Rattle.formatting.specs.Codes.{format_code}
use Rattle.intake.specs.Codes.{submit_code}
use Rattle.intake.proofs.Submission.{verdict-taken}
use Rattle.intake.proofs.Split.{verdict-cause}
use Rattle.turn.specs.Codes.{stored_no, passed_no, waiting_no, turn_code, turn_detail}
use Rattle.run.specs.Codes.{end_code}
use Rattle.soundness.specs.declared.Refusal.TheVariants.{Image as NotAnImage, Record, Lock}
use Rattle.soundness.specs.Answer.{Answer as Recovery}
use Rattle.soundness.specs.Inner.Tests.{is_done}
use Rattle.soundness.specs.Codes.{recover_code}
use Rattle.zilpanud.specs.Lent.{formatting, submitting, running}

-- ---- turns

-- why a turn passed, with this detail
abbrev pub pass_read : ℕ → Passing
pass_read v = cond (eqb v 0) PassedJump (cond (eqb v 1) AlreadyFree Others)

-- the answer with this code and detail, where it is no refusal
unfoldable pub turn_read : ℕ → ℕ → Answer
turn_read k v = cond (eqb k stored_no) (Stored v) (cond (eqb k passed_no) (Passed (pass_read v)) (cond (eqb k waiting_no) (Waiting v) Idle))

pub turn-read : (a : Answer) → is_refused a ≡ false → turn_read (turn_code a) (turn_detail a) ≡ a
unfolding turn_read
turn-read (Stored i) h = refl
turn-read (Passed PassedJump) h = refl
turn-read (Passed AlreadyFree) h = refl
turn-read (Passed Others) h = refl
turn-read (Waiting b) h = refl
turn-read Idle h = refl
turn-read (Refused r) h = absurd (true≢false h)

-- ---- formatting, the check, recovery

pub format-zero : (m : Image) (D : ℕ) → formattable own_words m D ≡ eqb (format_code (formatting m D)) 0
unfolding format_answer
format-zero m D = by (formattable own_words m D)
  where
    by : (b : Bool) → b ≡ eqb (format_code (cond b (Ok tt) (Err ImageRefused))) 0
    by true = refl
    by false = refl

pub check-zero : (v : Verdict) → passes v ≡ eqb (check_cause v) 0
check-zero (Ok u) = refl
check-zero (Err Length) = refl
check-zero (Err (Malformed i)) = refl
check-zero (Err (Unbracketed i)) = refl
check-zero (Err (Unordered i)) = refl
check-zero (Err (Unguarded i)) = refl
check-zero (Err (Unlevel i)) = refl

pub recover-zero : (a : Recovery) → is_done a ≡ eqb (recover_code a) 0
recover-zero (Ok u) = refl
recover-zero (Err NotAnImage) = refl
recover-zero (Err (Record d)) = refl
recover-zero (Err (Lock b)) = refl

-- ---- submitting

-- 0 is the code of this answer exactly if it is taken
abbrev Taking : Submitted → Type 0
Taking a = is_taken a ≡ eqb (submit_code a) 0

private-verdict : (v : Verdict) → Taking (verdict_answer v)
private-verdict v = rw (verdict-cause v) (verdict-taken v ∙ check-zero v)

private-taking : (b : Bool) (x y : Submitted) → Taking x → Taking y → Taking (cond b x y)
private-taking true x y g h = g
private-taking false x y g h = h

pub submit-zero : (w : World) (d k : ℕ) (ws : List ℕ) → is_taken (submitting w d k ws) ≡ eqb (submit_code (submitting w d k ws)) 0
unfolding submit_answer
submit-zero w d k ws =
    private-taking (header_ok mark own_words w.image) _ _
    (private-taking (ltb d (workers w.image)) _ _
    (private-taking (free own_words w d) _ _
    (private-taking (ltb (at own_words w.image (field Finished d)) k) _ _ (private-verdict (check own_words (length ws) (code_of ws))) refl)
    refl)
    refl)
    refl

-- ---- runs: a turn's refusal has a cause, so the refusal that halts a run has one

abbrev Caused : Outcome → Type 0
Caused (stored p v c) = Unit {0}
Caused (passed why c) = Unit {0}
Caused (waiting b) = Unit {0}
Caused resting = Unit {0}
Caused (refused r) = eqb (cause_of r) 0 ≡ false

module _ (n : ℕ) (rd : Memory) (d : ℕ) where
  private-logged : (s t : ℕ) (p : Place) (v : ℕ) (next : Cursor) (j : ℕ) → Caused (logged n rd d s t p v next j)
  private-logged s t p v next zero = tt
  private-logged s t p v next (suc zero) = tt
  private-logged s t p v next (suc (suc zero)) = tt
  private-logged s t p v next (suc (suc (suc j))) = tt

  private-op : (s t : ℕ) (x : Op) → Caused (op_turn n rd d s t x)
  private-op s zero (Acquire a) = tt
  private-op s (suc zero) (Acquire a) = either Caused (eqb (rd (lock a)) 0) _ _ (λ e. tt) (λ e. tt)
  private-op s (suc (suc j)) (Acquire a) = private-logged s (suc (suc j)) _ _ _ j
  private-op s t (Release a) =
      either Caused (ltb t 4) _ _ (λ e. private-logged s t _ _ _ t)
      (λ e. either Caused (eqb t 4) _ _ (λ f. unlock-either n rd d a s Caused tt (λ why. tt)) (λ f. tt))
  private-op s t (Assign a e) = private-logged s t _ _ _ t
  private-op s t (Jump a b) = tt
  private-op s zero Finish = tt
  private-op s (suc zero) Finish = tt
  private-op s (suc (suc t)) Finish = tt
  private-op s t Unknown = refl

  private-turn : (x : Cursor) → Caused (turn_at n rd d x)
  unfolding turn_at
  private-turn idle = tt
  private-turn (on s t) = either Caused (ready n rd d s t) _ _ (λ e. private-op s t (op_of (code_in n rd d s))) (λ e. refl)

abbrev Halting : Sweep → Type 0
Halting (through s) = Unit {0}
Halting (halted r s) = eqb (cause_of r) 0 ≡ false

abbrev pub is_all_idle : End → Bool
is_all_idle AllIdle = true
is_all_idle Spent = false
is_all_idle (Halted r) = false

-- 0 is the code of this end exactly if all are idle
abbrev Ending : Course → Type 0
Ending x = is_all_idle x.end ≡ eqb (end_code x.end) 0

private-ending : (b : Bool) (x y : Course) → Ending x → Ending y → Ending (cond b x y)
private-ending true x y g h = g
private-ending false x y g h = h

module _ (n : ℕ) where
  private-swept : (x : Outcome) (s : Counting) (more : Sweep) → Caused x → Halting more → Halting (swept n x s more)
  private-swept (stored p v c) s more g h = h
  private-swept (passed why c) s more g h = h
  private-swept (waiting b) s more g h = h
  private-swept resting s more g h = h
  private-swept (refused r) s more g h = g

  private-sweep : (k d : ℕ) (s : Counting) → Halting (sweep n k d s)
  unfolding sweep outcome_at
  private-sweep zero d s = tt
  private-sweep (suc k) d s =
      private-swept (outcome_at n s.world d) s _ (private-turn n (at n s.world.image) d (cursor_at s.world.cursors d))
      (private-sweep k (d + 1) (turned n s d))

  private-after : (more : Counting → Course) (x : Sweep) → ((s : Counting) → Ending (more s)) → Halting x → Ending (after_sweep n more x)
  unfolding after_sweep
  private-after more (through s) g h = g s
  private-after more (halted r s) g h = rw h

  private-rounds : (r D : ℕ) (s : Counting) → Ending (rounds_of n r D s)
  unfolding rounds_of
  private-rounds zero D s = private-ending (any_open D 0 s.world.cursors) _ _ refl refl
  private-rounds (suc r) D s =
      private-ending (any_open D 0 s.world.cursors) _ _ (private-after (rounds_of n r D) (sweep n D 0 s) (private-rounds r D) (private-sweep D 0 s)) refl

pub run-zero : (w : World) (rounds : ℕ) → is_all_idle (running w rounds).end ≡ eqb (end_code (running w rounds).end) 0
unfolding run_of
run-zero w rounds =
    private-ending (header_ok mark own_words w.image) _ _ (private-rounds own_words rounds (workers w.image) (counting w none)) refl
