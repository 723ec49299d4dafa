-- A run is a list of turn calls, in any world. Where the header is right, a turn of a run is the one that a turn call makes; no
-- turn changes the header or the number of workers, so this goes on, by induction over the rounds and the workers of a round,
-- until the rounds are spent, nobody is open, or a turn is refused: that one is not made. Where the header is wrong there are none.
use Prim.Native.Nat.{ℕ, suc, zero, ◌+◌, ◌<◌, ◌≤◌}
use mathlib.Core.Path.{◌≡◌, refl, ap, ◌∙◌}
use mathlib.Core.Bool.{Bool, true, false, cond}
use mathlib.Core.List.{List, [], ◌∷◌}
use borrow.Author.Tests.{lt-ltb}
use native.Mathlib.Omega.{arith}
use Rattle.image.specs.Image.{header_ok, workers}
use Rattle.image.proofs.Stores.{header-store, workers-store}
use Rattle.plan.specs.Turn.{Outcome, stored, passed, waiting, resting, refused}
use Rattle.turn.specs.Call.{outcome_at, outcome}
use Rattle.run.specs.Run.{any_open}
use Rattle.claims.specs.Calls.{Traced, turn_by, turned_at, refuses, round, rounds, ran_by, call, turns, runs}
use Rattle.claims.specs.Claims.{turns_by, RunsAreTurns}

module _ (mark n : ℕ) where
  -- one world is left by turn calls from another
  abbrev ByTurns : Traced → Traced → Type 0
  ByTurns w v = (ds : List ℕ) × (v ≡ turns_by mark n ds w)

  no-turns : (w : Traced) → ByTurns w w
  unfolding turns_by
  no-turns w = ([], refl)

  one-turn : (d : ℕ) (w u v : Traced) → u ≡ call mark n (turns d) w → ByTurns u v → ByTurns w v
  unfolding turns_by
  one-turn d w u v e t = (d ∷ t.0, t.1 ∙ ap (turns_by mark n t.0) e)

  -- a right header with D workers
  pub record Headed (D : ℕ) (w : Traced) : Type 0 where
    pub header : header_ok mark n w.world.image ≡ true
    pub many : workers w.world.image ≡ D

  module _ (D : ℕ) where
    pub turn-headed : (w : Traced) (d : ℕ) (o : Outcome) → Headed D w → Headed D (turn_by mark n w d o)
    turn-headed w d (stored p v c) h =
        record {
          header = header-store n mark w.world.left w.world.image p v ∙ h.header;
          many = workers-store n w.world.left w.world.image p v ∙ h.many;
        }
    turn-headed w d (passed why c) h = record { header = h.header; many = h.many }
    turn-headed w d (waiting b) h = record { header = h.header; many = h.many }
    turn-headed w d resting h = h
    turn-headed w d (refused r) h = h

    turned-headed : (w : Traced) (d : ℕ) → Headed D w → Headed D (turned_at mark n w d)
    unfolding turned_at
    turned-headed w d h = turn-headed w d (outcome_at n w.world d) h

    turned-call : (w : Traced) (d : ℕ) → d < D → Headed D w → turned_at mark n w d ≡ call mark n (turns d) w
    unfolding turned_at call outcome
    turned-call w d l h = rw (h.header, h.many, lt-ltb d D l)

    -- a round's turns, and those of the rest
    round-turns :
        (rest : Traced → Traced) → ((w : Traced) → Headed D w → ByTurns w (rest w)) → (k d : ℕ) (w : Traced) → d + k ≤ D → Headed D w
        → ByTurns w (round mark n rest w d k)
    unfolding round
    round-turns rest more zero d w l h = more w h
    round-turns rest more (suc k) d w l h =
        by (refuses mark n (outcome_at n w.world d)) (round-turns rest more k (d + 1) (turned_at mark n w d) (omega arith) (turned-headed w d h))
      where
        by :
            (b : Bool) → ByTurns (turned_at mark n w d) (round mark n rest (turned_at mark n w d) (d + 1) k)
            → ByTurns w (cond b w (round mark n rest (turned_at mark n w d) (d + 1) k))
        by true t = no-turns w
        by false t = one-turn d w (turned_at mark n w d) _ (turned-call w d (omega arith) h) t

    rounds-turns : (r : ℕ) (w : Traced) → Headed D w → ByTurns w (rounds mark n r D w)
    unfolding rounds
    rounds-turns zero w h = no-turns w
    rounds-turns (suc r) w h = by (any_open D 0 w.world.cursors) (round-turns (rounds mark n r D) (rounds-turns r) D 0 w (omega arith) h)
      where
        by : (b : Bool) → ByTurns w (round mark n (rounds mark n r D) w 0 D) → ByTurns w (cond b (round mark n (rounds mark n r D) w 0 D) w)
        by true t = t
        by false t = no-turns w

  run-turns : (r : ℕ) (w : Traced) → ByTurns w (call mark n (runs r) w)
  unfolding call ran_by
  run-turns r w = by (header_ok mark n w.world.image) refl
    where
      by : (b : Bool) → header_ok mark n w.world.image ≡ b → ByTurns w (cond b (rounds mark n r (workers w.world.image) w) w)
      by true e = rounds-turns (workers w.world.image) r w (record { header = e; many = refl })
      by false e = no-turns w

pub runs-are-turns : (mark n : ℕ) → RunsAreTurns mark n
unfolding RunsAreTurns
runs-are-turns mark n = run-turns mark n
