-- The laws of the sums of every day. Each turn of an open worker is in precisely one of the worker's two sums (`in_one`), so that these count its turns
-- (`every-turn-summed`); and the sums of the locks add up to the workers' waits (`waits-add-up`), as every wait of a day is on one of the 64 locks and of one
-- of the eight workers.
use Prim.Native.Nat.{ℕ, zero, suc, ◌+◌}
use mathlib.Core.Path.{◌≡◌, refl, sym, ap, ap₂, ◌∙◌}
use mathlib.Core.List.{List, [], ◌∷◌}
use mathlib.Core.Bool.{Bool, true, false, cond, ◌&&◌, not, false≢true, and-true, and-false}
use native.Mathlib.Omega.{arith}
use borrow.Author.Tests.{lt-leb}
use lib.Dec.{leb, eqb}
use Rattle.turn.specs.declared.Answer.{Answer}
use Rattle.turn.specs.declared.Answer.TheVariants.{Stored, Passed, Waiting, Idle, Refused}
use Rattle.turn.specs.Call.{is_refused}
use Rattle.lines.specs.Play.{makes}
use Rattle.lines.specs.Whole.{Took, took}
use Rattle.sums.specs.Sums.{waits, moves, wait_on, wait_of, move_of, count, sums_of}
use Rattle.sums.specs.Day.{day_turns}
use Rattle.recorded.specs.Laws.{open_of, InOne, EveryTurnSummed, WaitsAddUp}
use Rattle.recorded.proofs.Totals.{number-count, counts, total-counts, none_more, one_more}
use Rattle.recorded.proofs.Kept.{Kept, AllKept, day-kept}

-- ---- a turn is in one sum

private-in-one : (b : Bool) (a : Answer) → (b && makes a) ≡ true → (b && waits a) ≡ not (b && moves a)
private-in-one false a h = absurd (false≢true h)
private-in-one true (Stored i) h = refl
private-in-one true (Passed why) h = refl
private-in-one true (Waiting b) h = refl
private-in-one true Idle h = absurd (false≢true h)
private-in-one true (Refused r) h = absurd (false≢true h)

pub in_one : InOne
unfolding InOne
in_one d t h = private-in-one (eqb t.worker d) t.answer h

-- ---- the two sums count the turns

private-open-step : (b : Bool) (a : Answer) (x y z : ℕ) → x + y ≡ z
    → cond (b && waits a) (suc x) x + cond (b && moves a) (suc y) y ≡ cond (b && makes a) (suc z) z
private-open-step false a x y z h = h
private-open-step true (Stored i) x y z h = omega arith
private-open-step true (Passed why) x y z h = omega arith
private-open-step true (Waiting b) x y z h = omega arith
private-open-step true Idle x y z h = h
private-open-step true (Refused r) x y z h = h

private-open : (d : ℕ) (ts : List Took) → count (wait_of d) ts + count (move_of d) ts ≡ count (open_of d) ts
unfolding count
private-open d [] = refl
private-open d (t ∷ ts) = private-open-step (eqb t.worker d) t.answer _ _ _ (private-open d ts)

private-not-refused : (d : ℕ) (a : Answer) → Kept d a → is_refused a ≡ false
private-not-refused d (Stored i) h = refl
private-not-refused d (Passed why) h = refl
private-not-refused d (Waiting b) h = refl
private-not-refused d Idle h = refl
private-not-refused d (Refused r) h = absurd h

private-none-refused : (ts : List Took) → AllKept ts → count (λ t. is_refused t.answer) ts ≡ 0
unfolding count
private-none-refused [] h = refl
private-none-refused (t ∷ ts) h = rw (private-not-refused t.worker t.answer h.0) (private-none-refused ts h.1)

private-few : (d : ℕ) (a : Answer) → Kept d a → (makes a && leb 8 d) ≡ false
private-few d (Stored i) h = lt-leb 8 d h
private-few d (Passed why) h = lt-leb 8 d h
private-few d (Waiting b) h = lt-leb 8 d h.1
private-few d Idle h = refl
private-few d (Refused r) h = absurd h

private-none-past : (ts : List Took) → AllKept ts → count (λ t. makes t.answer && leb 8 t.worker) ts ≡ 0
unfolding count
private-none-past [] h = refl
private-none-past (t ∷ ts) h = rw (private-few t.worker t.answer h.0) (private-none-past ts h.1)

pub every-turn-summed : EveryTurnSummed
unfolding EveryTurnSummed sums_of
every-turn-summed bytes =
    let ts = day_turns bytes in
    record {
      each = λ d l w m.
          let z : 0 + d ≡ d = omega arith in
          ap₂ ◌+◌ (rw z at (number-count wait_of ts 8 0 d l (rw z w))) (rw z at (number-count move_of ts 8 0 d l (rw z m))) ∙ private-open d ts;
      none-past = private-none-past ts (day-kept bytes);
      none-refused = private-none-refused ts (day-kept bytes);
    }

-- ---- the sums of the locks and of the workers' waits

abbrev private-wait : Took → Bool
private-wait t = waits t.answer

module _ (d : ℕ) (ts : List Took) where
  private-locks-step : (a : Answer) → Kept d a → counts wait_on ts 0 64 ≡ count private-wait ts
      → counts wait_on (took d a ∷ ts) 0 64 ≡ count private-wait (took d a ∷ ts)
  unfolding count
  private-locks-step (Stored i) k h = none_more wait_on (took d (Stored i)) ts 64 0 (λ j l. refl) ∙ h
  private-locks-step (Passed why) k h = none_more wait_on (took d (Passed why)) ts 64 0 (λ j l. refl) ∙ h
  private-locks-step (Waiting b) k h = one_more wait_on (took d (Waiting b)) ts 64 0 b (omega arith) (omega arith) (λ j. refl) ∙ ap suc h
  private-locks-step Idle k h = none_more wait_on (took d Idle) ts 64 0 (λ j l. refl) ∙ h
  private-locks-step (Refused r) k h = absurd k

  -- a turn that did not wait
  private-still : (a : Answer) → waits a ≡ false → counts wait_of (took d a ∷ ts) 0 8 ≡ counts wait_of ts 0 8
  private-still a h = none_more wait_of (took d a) ts 8 0 (λ j l. rw h (and-false (eqb d j)))

  private-waited-step : (a : Answer) → Kept d a → counts wait_of ts 0 8 ≡ count private-wait ts
      → counts wait_of (took d a ∷ ts) 0 8 ≡ count private-wait (took d a ∷ ts)
  unfolding count
  private-waited-step (Stored i) k h = private-still (Stored i) refl ∙ h
  private-waited-step (Passed why) k h = private-still (Passed why) refl ∙ h
  private-waited-step (Waiting b) k h =
      one_more wait_of (took d (Waiting b)) ts 8 0 d (omega arith) (omega arith) (λ j. and-true (eqb d j)) ∙ ap suc h
  private-waited-step Idle k h = private-still Idle refl ∙ h
  private-waited-step (Refused r) k h = absurd k

private-none : (P : ℕ → Took → Bool) (n s : ℕ) → counts P [] s n ≡ 0
unfolding count counts
private-none P zero s = refl
private-none P (suc n) s = rw (private-none P n (s + 1))

private-locks : (ts : List Took) → AllKept ts → counts wait_on ts 0 64 ≡ count private-wait ts
unfolding count
private-locks [] h = private-none wait_on 64 0
private-locks (t ∷ ts) h = private-locks-step t.worker ts t.answer h.0 (private-locks ts h.1)

private-waited : (ts : List Took) → AllKept ts → counts wait_of ts 0 8 ≡ count private-wait ts
unfolding count
private-waited [] h = private-none wait_of 8 0
private-waited (t ∷ ts) h = private-waited-step t.worker ts t.answer h.0 (private-waited ts h.1)

pub waits-add-up : WaitsAddUp
unfolding WaitsAddUp sums_of
waits-add-up bytes l w =
    let ts = day_turns bytes in
    let k = day-kept bytes in
    total-counts wait_on ts 64 0 (λ b z i. l b (omega arith)) ∙ private-locks ts k ∙ sym (private-waited ts k)
    ∙ sym (total-counts wait_of ts 8 0 (λ d z i. w d (omega arith)))
