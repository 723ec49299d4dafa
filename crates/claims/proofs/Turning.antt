-- Turns and runs keep the invariant: with stores to spare a world goes on running; without, the image stands still, and what
-- it stands for is kept. A run is its turns, so what every turn keeps a run keeps.
use Prim.Native.Nat.{ℕ, suc, zero, ◌+◌, ◌<◌, ◌≤◌}
use mathlib.Core.Path.{◌≡◌, refl}
use mathlib.Core.Logic.{◌⊎◌, inl, inr}
use mathlib.Core.Bool.{Bool, true, false, cond, and-false}
use mathlib.Core.List.{List}
use borrow.Author.Tests.{eq-eqb}
use native.Mathlib.Omega.{arith}
use native.Mathlib.Decide.{dec_lt}
use Rattle.image.specs.Place.{Place}
use Rattle.image.specs.Image.{index_of, at}
use Rattle.image.proofs.Stores.{put-none}
use Rattle.working.specs.Cursor.{Cursor, cursor_at}
use Rattle.plan.specs.Turn.{Outcome, stored, passed, waiting, resting, refused, turn_at}
use Rattle.turn.specs.Call.{leaves, outcome_at}
use Rattle.run.specs.Run.{any_open}
use Rattle.claims.specs.Calls.{Traced, is_pc, turn_trace, turn_by, turned_at, refuses, round, rounds}
use Rattle.claims.proofs.LiveCrashed.{live-crashed}
use Rattle.claims.proofs.Worlds.{Running, Frozen, running-turn}

module _ (mark n D : ℕ) (cells : List ℕ) where
  -- ---- with no store left

  pub freezes : (w : Traced) → Running mark n D cells w → w.world.left ≡ 0 → Frozen mark n D cells w
  freezes w r e = record { reached = r.reached; crashed = live-crashed n D _ _ _ _ _ r.live; spent = e }

  pub still :
      (w : Traced) (d : ℕ) (p : Place) (v : ℕ) (c : Cursor) → w.world.left ≡ 0
      → ((turn_trace mark n w d (stored p v c)).begun ≡ w.trace.begun) × ((turn_trace mark n w d (stored p v c)).order ≡ w.trace.order) ×
      ((leaves n w.world d (stored p v c)).image ≡ w.world.image)
  still w d p v c e =
      let none = eq-eqb w.world.left 0 e in
      (rw (none, and-false (is_pc p)), rw (none, and-false (is_pc p)), rw e (put-none w.world.image (index_of n p) v))

  pub frozen-turn : (w : Traced) (d : ℕ) (o : Outcome) → Frozen mark n D cells w → Frozen mark n D cells (turn_by mark n w d o)
  frozen-turn w d (stored p v c) f =
      let s = still w d p v c f.spent in
      let z = f.spent in
      record {
        reached = rw (s.0, s.1, s.2) f.reached;
        crashed = rw s.2 f.crashed;
        spent = omega arith;
      }
  frozen-turn w d (passed why c) f = record { reached = f.reached; crashed = f.crashed; spent = f.spent }
  frozen-turn w d (waiting b) f = record { reached = f.reached; crashed = f.crashed; spent = f.spent }
  frozen-turn w d resting f = f
  frozen-turn w d (refused r) f = f

  -- ---- cut calls: running, or still

  abbrev pub Cutting : Traced → Type 0
  Cutting w = Running mark n D cells w ⊎ Frozen mark n D cells w

  pub cutting-turn : (w : Traced) (d : ℕ) → d < D → Cutting w
      → Cutting (turn_by mark n w d (turn_at n (at n w.world.image) d (cursor_at w.world.cursors d)))
  cutting-turn w d l (inl r) = by (dec_lt 0 w.world.left)
    where
      by : Dec (0 < w.world.left) → Cutting (turn_by mark n w d (turn_at n (at n w.world.image) d (cursor_at w.world.cursors d)))
      by (yes h) = inl (running-turn mark n D cells w d r l h)
      by (no h) = inr (frozen-turn w d (turn_at n (at n w.world.image) d (cursor_at w.world.cursors d)) (freezes w r (omega arith)))
  cutting-turn w d l (inr f) = inr (frozen-turn w d (turn_at n (at n w.world.image) d (cursor_at w.world.cursors d)) f)

  -- ---- a run is its turns

  private-round :
      (P : Traced → Type 0) (t : Bool) (w v : Traced) → P w → (t ≡ false → P v) → P (cond t w v)
  private-round P true w v h k = h
  private-round P false w v h k = k refl

  round_keeps :
      (P : Traced → Type 0) → ((w : Traced) (d : ℕ) → d < D → P w → P (turned_at mark n w d)) → (rest : Traced → Traced) → ((w : Traced) → P w → P (rest w))
      → (k d : ℕ) (w : Traced) → d + k ≤ D → P w → P (round mark n rest w d k)
  unfolding round
  round_keeps P step rest more zero d w l h = more w h
  round_keeps P step rest more (suc k) d w l h =
      private-round P (refuses mark n (outcome_at n w.world d)) w _ h
      (λ e. round_keeps P step rest more k (d + 1) (turned_at mark n w d) (omega arith) (step w d (omega arith) h))

  pub rounds-keep : (P : Traced → Type 0) → ((w : Traced) (d : ℕ) → d < D → P w → P (turned_at mark n w d)) → (r : ℕ) (w : Traced) → P w
      → P (rounds mark n r D w)
  unfolding rounds
  rounds-keep P step zero w h = h
  rounds-keep P step (suc r) w h = by (any_open D 0 w.world.cursors) (round_keeps P step (rounds mark n r D) (rounds-keep P step r) D 0 w (omega arith) h)
    where
      by : (b : Bool) → P (round mark n (rounds mark n r D) w 0 D) → P (cond b (round mark n (rounds mark n r D) w 0 D) w)
      by true x = x
      by false x = h

  pub cutting-turned : (w : Traced) (d : ℕ) → d < D → Cutting w → Cutting (turned_at mark n w d)
  unfolding turned_at outcome_at
  cutting-turned w d l h = cutting-turn w d l h

  -- ---- with stores to spare

  -- a turn takes at most one store off
  pub takes_one : (w : Traced) (d : ℕ) (o : Outcome) → w.world.left ≤ (turn_by mark n w d o).world.left + 1
  takes_one w d (stored p v c) = omega arith
  takes_one w d (passed why c) = omega arith
  takes_one w d (waiting b) = omega arith
  takes_one w d resting = omega arith
  takes_one w d (refused r) = omega arith

  pub running-turned : (w : Traced) (d : ℕ) → d < D → 0 < w.world.left → Running mark n D cells w → Running mark n D cells (turned_at mark n w d)
  unfolding turned_at outcome_at
  running-turned w d l h r = running-turn mark n D cells w d r l h

  pub turned_left : (w : Traced) (d : ℕ) → w.world.left ≤ (turned_at mark n w d).world.left + 1
  unfolding turned_at
  turned_left w d = takes_one w d (outcome_at n w.world d)
