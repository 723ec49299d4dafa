-- The tally of a run is the sum over its turns (`runs-tallied`): turn by turn, round by round, along the run of the contract.
use Prim.Native.Nat.{ℕ, suc, zero, ◌+◌}
use mathlib.Core.Path.{◌≡◌, refl, sym, ap, ◌∙◌}
use mathlib.Core.Bool.{Bool, true, false, cond}
use mathlib.Core.List.{List, []}
use Rattle.tally.specs.declared.Tally.{Tally}
use Rattle.tally.specs.Tally.{none}
use Rattle.image.specs.Image.{workers, header_ok}
use Rattle.plan.specs.Turn.{Outcome, stored, passed, waiting, resting, refused}
use Rattle.working.specs.World.{World}
use Rattle.working.specs.declared.Refusal.TheVariants.{Image as ImageRefused}
use Rattle.turn.specs.Call.{answer_of, outcome_at}
use Rattle.run.specs.declared.End.TheVariants.{AllIdle, Spent, Halted}
use Rattle.turn.specs.Counted.{counted}
use Rattle.run.specs.Run.{any_open, Counting, counting, Course, ran, Sweep, turned, swept, sweep, after_sweep, rounds_of}
use Rattle.claims.specs.Calls.{Traced, turned_at, refuses}
use Rattle.told.specs.Moments.{Moment, in_round, in_rounds}
use Rattle.told.specs.Tallies.{tallied, RunsTallied}
use Rattle.told.proofs.Agreement.{turned-agrees}

module _ (mark n : ℕ) where
  tallied-none : (t : Tally) → tallied mark n t [] ≡ t
  unfolding tallied
  tallied-none t = refl

  -- a turn with this outcome, and what follows it
  swept-tallied :
      (more : Counting → Course) (o : Outcome) (s : Counting) (y : Sweep) (xs : List Moment)
      → (after_sweep n more y).after.tally ≡ tallied mark n (counted (answer_of n o) s.tally) xs
      → (after_sweep n more (swept n o s y)).after.tally ≡ tallied mark n (counted (answer_of n o) s.tally) (cond (refuses mark n o) [] xs)
  unfolding after_sweep tallied
  swept-tallied more (stored p v c) s y xs h = h
  swept-tallied more (passed why c) s y xs h = h
  swept-tallied more (waiting b) s y xs h = h
  swept-tallied more resting s y xs h = h
  swept-tallied more (refused r) s y xs h = refl

  round-tallied :
      (rest : Traced → List Moment) (more : Counting → Course)
      → ((v : Traced) (s : Counting) → v.world ≡ s.world → (more s).after.tally ≡ tallied mark n s.tally (rest v))
      → (k d : ℕ) (w : Traced) (s : Counting) → w.world ≡ s.world
      → (after_sweep n more (sweep n k d s)).after.tally ≡ tallied mark n s.tally (in_round mark n rest w d k)
  unfolding in_round sweep after_sweep tallied turned
  round-tallied rest more follows zero d w s e = follows w s e
  round-tallied rest more follows (suc k) d w s e =
      let same : outcome_at n w.world d ≡ outcome_at n s.world d = ap (λ (v : World). outcome_at n v d) e in
      let later = in_round mark n rest (turned_at mark n w d) (d + 1) k in
      swept-tallied more (outcome_at n s.world d) s (sweep n k (d + 1) (turned n s d)) later
      (round-tallied rest more follows k (d + 1) (turned_at mark n w d) (turned n s d) (turned-agrees mark n w s d e))
      ∙ sym (ap (λ (o : Outcome). tallied mark n (counted (answer_of n o) s.tally) (cond (refuses mark n o) [] later)) same)

  rounds-tallied :
      (r D : ℕ) (w : Traced) (s : Counting) → w.world ≡ s.world → (rounds_of n r D s).after.tally ≡ tallied mark n s.tally (in_rounds mark n r D w)
  unfolding rounds_of in_rounds
  rounds-tallied zero D w s e = by (any_open D 0 s.world.cursors)
    where
      by : (b : Bool) → (cond b (ran Spent s) (ran AllIdle s)).after.tally ≡ tallied mark n s.tally []
      by true = rw (tallied-none s.tally)
      by false = rw (tallied-none s.tally)
  rounds-tallied (suc r) D w s e =
      let same : any_open D 0 w.world.cursors ≡ any_open D 0 s.world.cursors = ap (λ (v : World). any_open D 0 v.cursors) e in
      rw same (by (any_open D 0 s.world.cursors) (round-tallied (in_rounds mark n r D) (rounds_of n r D) (λ v t q. rounds-tallied r D v t q) D 0 w s e))
    where
      by :
          (b : Bool) → (after_sweep n (rounds_of n r D) (sweep n D 0 s)).after.tally ≡ tallied mark n s.tally (in_round mark n (in_rounds mark n r D) w 0 D)
          → (cond b (after_sweep n (rounds_of n r D) (sweep n D 0 s)) (ran AllIdle s)).after.tally
          ≡ tallied mark n s.tally (cond b (in_round mark n (in_rounds mark n r D) w 0 D) [])
      by true h = h
      by false h = rw (tallied-none s.tally)

  pub runs-tallied : RunsTallied mark n
  unfolding RunsTallied Rattle.run.specs.Run.run_of Rattle.told.specs.Moments.in_call
  runs-tallied r w = by (header_ok mark n w.world.image)
    where
      by :
          (b : Bool)
          → (cond b (rounds_of n r (workers w.world.image) (counting w.world none)) (ran (Halted ImageRefused) (counting w.world none))).after.tally
          ≡ tallied mark n none (cond b (in_rounds mark n r (workers w.world.image) w) [])
      by true = rounds-tallied r (workers w.world.image) w (counting w.world none) refl
      by false = rw (tallied-none none)
