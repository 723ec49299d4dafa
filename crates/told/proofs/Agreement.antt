-- The claims speak of the very effects that the functions' contracts speak of: a traced call leaves the world that the engine's
-- and the recovery's definitions leave. For a submit, a turn and a recovery by definition; a run is worked out turn by turn
-- here, and agrees with the run of the contract.
use Prim.Native.Nat.{ℕ, suc, zero, ◌+◌}
use mathlib.Core.Path.{◌≡◌, refl, ap}
use mathlib.Core.Bool.{Bool, true, false, cond}
use mathlib.Core.List.{List}
use Rattle.tally.specs.Tally.{none}
use Rattle.image.specs.Image.{workers, header_ok}
use Rattle.plan.specs.Turn.{Outcome, stored, passed, waiting, resting, refused}
use Rattle.working.specs.World.{World, world}
use Rattle.turn.specs.Call.{leaves, outcome_at, outcome}
use Rattle.intake.specs.Submit.{submit_answer, submit_leaves}
use Rattle.run.specs.Run.{any_open, Counting, counting, Course, ran, Sweep, turned, swept, sweep, after_sweep, rounds_of, run_of}
use Rattle.recovery.specs.Recovery.{Recovered, accepted, rejected, recovery}
use Rattle.recovery.specs.Recover.{cursors_of, recovery_leaves, recovery_left}
use Rattle.claims.specs.Calls.{Traced, turned_at, refuses, round, rounds, ran_by, call, recovered_by, submits, turns, runs, recovers}

-- one turn
pub turn-agrees : (mark n d : ℕ) (w : Traced) → (call mark n (turns d) w).world ≡ leaves n w.world d (outcome mark n w.world d)
unfolding call
turn-agrees mark n d w = refl

pub submit-agrees : (mark n d k : ℕ) (args ws : List ℕ) (w : Traced)
    → (call mark n (submits d k args ws) w).world ≡ submit_leaves n w.world d k args ws (submit_answer mark n w.world d k ws)
unfolding call
submit-agrees mark n d k args ws w = refl

-- what `recovery::recover` leaves
abbrev recovered_world : ℕ → World → Recovered → World
recovered_world n w r = world (recovery_leaves n w.left w.image r) (cursors_of r) (recovery_left w.left r)

pub recover-agrees : (mark n : ℕ) (w : Traced) → (call mark n recovers w).world ≡ recovered_world n w.world (recovery mark n w.world.image)
unfolding call
recover-agrees mark n w = by (recovery mark n w.world.image)
  where
    by : (r : Recovered) → (recovered_by mark n w r).world ≡ recovered_world n w.world r
    by (accepted ss cs) = refl
    by (rejected r) = refl

module _ (mark n : ℕ) where
  swept-agrees :
      (more : Counting → Course) (o : Outcome) (w x : Traced) (s : Counting) (y : Sweep) → w.world ≡ s.world → x.world ≡ (after_sweep n more y).after.world
      → (cond (refuses mark n o) w x).world ≡ (after_sweep n more (swept n o s y)).after.world
  unfolding after_sweep
  swept-agrees more (stored p v c) w x s y e h = h
  swept-agrees more (passed why c) w x s y e h = h
  swept-agrees more (waiting b) w x s y e h = h
  swept-agrees more resting w x s y e h = h
  swept-agrees more (refused r) w x s y e h = e

  pub turned-agrees : (w : Traced) (s : Counting) (d : ℕ) → w.world ≡ s.world → (turned_at mark n w d).world ≡ (turned n s d).world
  unfolding turned_at turned
  turned-agrees w s d e = ap (λ (v : World). leaves n v d (outcome_at n v d)) e

  -- a round, and what follows it
  round-agrees :
      (rest : Traced → Traced) (more : Counting → Course) → ((v : Traced) (s : Counting) → v.world ≡ s.world → (rest v).world ≡ (more s).after.world)
      → (k d : ℕ) (w : Traced) (s : Counting) → w.world ≡ s.world → (round mark n rest w d k).world ≡ (after_sweep n more (sweep n k d s)).after.world
  unfolding round sweep after_sweep
  round-agrees rest more follows zero d w s e = follows w s e
  round-agrees rest more follows (suc k) d w s e =
      let same : outcome_at n w.world d ≡ outcome_at n s.world d = ap (λ (v : World). outcome_at n v d) e in
      rw same (swept-agrees more (outcome_at n s.world d) w _ s _ e
      (round-agrees rest more follows k (d + 1) (turned_at mark n w d) (turned n s d) (turned-agrees w s d e)))

  rounds-agree : (r D : ℕ) (w : Traced) (s : Counting) → w.world ≡ s.world → (rounds mark n r D w).world ≡ (rounds_of n r D s).after.world
  unfolding rounds rounds_of
  rounds-agree zero D w s e = by (any_open D 0 s.world.cursors)
    where
      by : (b : Bool)
          → w.world ≡ (cond b (ran Rattle.run.specs.declared.End.TheVariants.Spent s) (ran Rattle.run.specs.declared.End.TheVariants.AllIdle s)).after.world
      by true = e
      by false = e
  rounds-agree (suc r) D w s e =
      let same : any_open D 0 w.world.cursors ≡ any_open D 0 s.world.cursors = ap (λ (v : World). any_open D 0 v.cursors) e in
      rw same (by (any_open D 0 s.world.cursors) (round-agrees (rounds mark n r D) (rounds_of n r D) (λ v t q. rounds-agree r D v t q) D 0 w s e))
    where
      by : (b : Bool) → (round mark n (rounds mark n r D) w 0 D).world ≡ (after_sweep n (rounds_of n r D) (sweep n D 0 s)).after.world
          → (cond b (round mark n (rounds mark n r D) w 0 D) w).world ≡ (cond b (after_sweep n (rounds_of n r D) (sweep n D 0 s))
          (ran Rattle.run.specs.declared.End.TheVariants.AllIdle s)).after.world
      by true h = h
      by false h = e

  -- a run
  pub run-agrees : (r : ℕ) (w : Traced) → (call mark n (runs r) w).world ≡ (run_of mark n w.world r).after.world
  unfolding call ran_by run_of
  run-agrees r w = by (header_ok mark n w.world.image)
    where
      by : (b : Bool)
          → (cond b (rounds mark n r (workers w.world.image) w) w).world
          ≡ (cond b (rounds_of n r (workers w.world.image) (counting w.world none))
          (ran (Rattle.run.specs.declared.End.TheVariants.Halted Rattle.working.specs.declared.Refusal.TheVariants.Image) (counting w.world none))
          ).after.world
      by true = rounds-agree r (workers w.world.image) w (counting w.world none) refl
      by false = refl
