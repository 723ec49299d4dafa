-- Rounds over the workers: what a turn's answer says of its count and of the round, and one equation for each way that a
-- search for an open worker, a round or a run goes on from the place that it has reached.
use Prim.Native.Nat.{ℕ, zero, suc, ◌+◌, ◌-◌, ◌<◌, ◌≤◌, ◌^◌}
use mathlib.Core.Path.{◌≡◌, refl}
use mathlib.Core.Bool.{true, false, true≢false}
use native.Mathlib.Omega.{arith}
use Rattle.base.proofs.Counting.{left_step, left-none}
use Rattle.image.specs.Image.{workers, header_ok}
use Rattle.tally.specs.declared.Tally.{Tally}
use Rattle.tally.specs.Tally.{none, RoomFor}
use Rattle.turn.specs.declared.Answer.{Answer}
use Rattle.working.specs.declared.Refusal.{Refusal}
use Rattle.working.specs.declared.Refusal.TheVariants.{Image as ImageRefused}
use Rattle.run.specs.declared.End.TheVariants.{AllIdle, Spent, Halted}
use Rattle.plan.specs.Turn.{Outcome, stored, passed, waiting, resting, refused}
use Rattle.turn.specs.Call.{is_refused}
use Rattle.working.specs.World.{World}
use Rattle.turn.specs.Call.{answer_of, leaves, outcome_at}
use Rattle.turn.specs.Counted.{counted}
use Rattle.turn.proofs.Counting.{counted-most}
use Rattle.run.specs.Run.{any_open, Counting, counting, Course, ran, Sweep, through, halted, turned, swept, sweep, after_sweep, rounds_of, run_of}

-- ---- a turn by its answer

-- no number of a tally is above k
pub record Most (k : ℕ) (t : Tally) : Type 0 where
  pub turns : t.turns ≤ k
  pub waits : t.waits ≤ k
  pub stores : t.stores ≤ k
  pub free : t.free ≤ k
  pub others : t.others ≤ k

pub most-none : Most 0 none
most-none = record { turns = omega arith; waits = omega arith; stores = omega arith; free = omega arith; others = omega arith }

pub most-more : (k m : ℕ) {t : Tally} → Most k t → k ≤ m → Most m t
most-more k m b h = record { turns = omega arith; waits = omega arith; stores = omega arith; free = omega arith; others = omega arith }

-- a count adds at most one to each
pub most-counted : (k : ℕ) (a : Answer) {t : Tally} → Most k t → Most (k + 1) (counted a t)
most-counted k a {t} b =
    let m = counted-most a t in
    record { turns = omega (arith, m.0); waits = omega (arith, m.1); stores = omega (arith, m.2); free = omega (arith, m.3); others = omega (arith, m.4) }

pub most-room : (k j : ℕ) {t : Tally} → Most k t → k + j < 2 ^ 64 → RoomFor j t
most-room k j b h = (omega arith, omega arith, omega arith, omega arith, omega arith)

module _ (n : ℕ) where
  -- a turn that is not refused goes on
  swept-on : (o : Outcome) (s : Counting) (more : Sweep) → is_refused (answer_of n o) ≡ false → swept n o s more ≡ more
  swept-on (stored p v c) s more e = refl
  swept-on (passed why c) s more e = refl
  swept-on (waiting b) s more e = refl
  swept-on resting s more e = refl
  swept-on (refused r) s more e = absurd (true≢false e)

  -- what a turn and its count leave is the counted turn
  pub turned-is : (s : Counting) (d : ℕ) (w : World) (a : Answer) (t : Tally)
      → w ≡ leaves n s.world d (outcome_at n s.world d) → a ≡ answer_of n (outcome_at n s.world d) → t ≡ counted a s.tally
      → counting w t ≡ turned n s d
  unfolding turned
  turned-is s d w a t e f g = rw (g, e, f)

-- ---- the workers from d on, of k

module _ (k d : ℕ) (h : d < k) where
  pub sweep-on : (n : ℕ) (s : Counting) → is_refused (answer_of n (outcome_at n s.world d)) ≡ false
      → sweep n (k - d) d s ≡ sweep n (k - (d + 1)) (d + 1) (turned n s d)
  unfolding sweep
  sweep-on n s e = rw (left_step k d h) (swept-on n (outcome_at n s.world d) s (sweep n (k - (d + 1)) (d + 1) (turned n s d)) e)

  pub sweep-halts : (n : ℕ) (s : Counting) (r : Refusal) → outcome_at n s.world d ≡ refused r → sweep n (k - d) d s ≡ halted r s
  unfolding sweep
  sweep-halts n s r e = rw (left_step k d h, e)

-- ---- the rounds from i on, of k

module _ (n D : ℕ) where
  pub rounds-idle : (k : ℕ) (s : Counting) → any_open D 0 s.world.cursors ≡ false → rounds_of n k D s ≡ ran AllIdle s
  unfolding rounds_of
  rounds-idle zero s e = rw e
  rounds-idle (suc k) s e = rw e

  pub rounds-spent : (k i : ℕ) (s : Counting) → k ≤ i → any_open D 0 s.world.cursors ≡ true → rounds_of n (k - i) D s ≡ ran Spent s
  unfolding rounds_of
  rounds-spent k i s h e = rw (left-none k i h, e)

  pub rounds-on : (k i : ℕ) (s : Counting) → i < k → any_open D 0 s.world.cursors ≡ true
      → rounds_of n (k - i) D s ≡ after_sweep n (rounds_of n (k - (i + 1)) D) (sweep n D 0 s)
  unfolding rounds_of
  rounds-on k i s h e = rw (left_step k i h, e)

pub after-through : (n : ℕ) (more : Counting → Course) (s : Counting) → after_sweep n more (through s) ≡ more s
unfolding after_sweep
after-through n more s = refl

pub after-halted : (n : ℕ) (more : Counting → Course) (r : Refusal) (s : Counting) → after_sweep n more (halted r s) ≡ ran (Halted r) s
unfolding after_sweep
after-halted n more r s = refl

-- ---- cause 10, or the rounds

module _ (mark n : ℕ) (w : World) (rounds : ℕ) where
  pub run-refused : header_ok mark n w.image ≡ false → run_of mark n w rounds ≡ ran (Halted ImageRefused) (counting w none)
  unfolding run_of
  run-refused e = rw e

  pub run-rounds : header_ok mark n w.image ≡ true → run_of mark n w rounds ≡ rounds_of n rounds (workers w.image) (counting w none)
  unfolding run_of
  run-rounds e = rw e
