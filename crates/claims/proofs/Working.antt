-- Uncut runs and turns alone (`working`): a world that runs goes on running, and rounds enough leave every worker idle. A turn
-- lowers the sum of ranks or leaves it, a run lowers it by its rounds or leaves nobody open, and where nobody is open neither
-- opens a worker: so much is `Nearer`, which is carried over a list by induction.
use Prim.Native.Nat.{ℕ, suc, zero, ◌+◌, ◌*◌, ◌<◌, ◌≤◌}
use mathlib.Core.Path.{◌≡◌, refl}
use mathlib.Core.Logic.{◌⊎◌, inl, inr, ⊎_elim}
use mathlib.Core.Bool.{Bool, true, false, false≢true}
use mathlib.Core.List.{List, [], ◌∷◌}
use lib.Dec.{ltb}
use borrow.Author.Tests.{ltb-true}
use native.Mathlib.Omega.{arith}
use Rattle.image.specs.Image.{at}
use Rattle.working.specs.Cursor.{cursor_at}
use Rattle.plan.specs.Turn.{turn_at}
use Rattle.turn.specs.Call.{outcome_at, outcome}
use Rattle.run.specs.Run.{any_open}
use Rattle.claims.specs.Calls.{Traced, turn_by, turned_at, rounds, submits, turns, runs, recovers, Move, whole, cut, call, lent, move, play}
use Rattle.claims.specs.Claims.{working, rounds_in}
use Rattle.claims.proofs.Progress.{rank_sum-most}
use Rattle.claims.proofs.Worlds.{Running}
use Rattle.claims.proofs.Settling.{sum, Spare, spare-turn, sum-turn, settles, no-rank-idle}
use Rattle.claims.proofs.Played.{plenty, spare-lent, ran-is, outcome-below, outcome-above}
use Rattle.claims.proofs.Cursors.{idle-all}

rounds-idle : (mark n D r : ℕ) (w : Traced) → any_open D 0 w.world.cursors ≡ false → rounds mark n r D w ≡ w
unfolding rounds
rounds-idle mark n D zero w h = refl
rounds-idle mark n D (suc r) w h = rw h

module _ (mark n D : ℕ) (cells : List ℕ) where
  -- from w to v, with k rounds: the sum is less by k, or nobody is open; and nobody is where nobody was
  pub record Nearer (k : ℕ) (w v : Traced) : Type 0 where
    pub running : Running mark n D cells v
    pub gone : (sum n D v + k ≤ sum n D w) ⊎ (any_open D 0 v.world.cursors ≡ false)
    pub closed : any_open D 0 w.world.cursors ≡ false → any_open D 0 v.world.cursors ≡ false

  nearer-none : (w : Traced) → Running mark n D cells w → Nearer 0 w w
  nearer-none w r = record { running = r; gone = inl (omega arith); closed = λ e. e }

  -- one after the other, the rounds in all by their sum
  pub nearer-both : (i j k : ℕ) (w v u : Traced) → i + j ≡ k → Nearer i w v → Nearer j v u → Nearer k w u
  nearer-both i j k w v u s a b =
      record {
        running = b.running;
        gone = ⊎_elim (λ x. ⊎_elim (λ y. inl (omega arith)) (λ y. inr y) b.gone) (λ x. inr (b.closed x)) a.gone;
        closed = λ e. b.closed (a.closed e);
      }

  -- the stores lent do not matter
  nearer-lent : (j k : ℕ) (w v : Traced) → Nearer k (lent mark n j w) v → Nearer k w v
  unfolding sum
  nearer-lent j k w v x = record { running = x.running; gone = x.gone; closed = x.closed }

  -- ---- a turn

  -- of a worker of the image
  turned-nearer : (w : Traced) (d : ℕ) → d < D → Spare mark n D cells w → Nearer 0 w (turned_at mark n w d)
  unfolding turned_at outcome_at turn_at
  turned-nearer w d l s =
      let t = spare-turn mark n D cells w d s l in
      let less = sum-turn mark n D cells w d t in
      record {
        running = t.spare.running;
        gone = inl (omega arith);
        closed = λ e. rw (idle-all D 0 w.world.cursors e d (omega arith) (omega arith)) e;
      }

  turn-nearer : (w : Traced) (d : ℕ) → Spare mark n D cells w → Nearer 0 w (turn_by mark n w d (outcome mark n w.world d))
  unfolding turned_at outcome_at
  turn-nearer w d s = by (ltb d D) refl
    where
      by : (b : Bool) → ltb d D ≡ b → Nearer 0 w (turn_by mark n w d (outcome mark n w.world d))
      by true h = rw (outcome-below mark n D cells w d s.running.reached (ltb-true d D h)) (turned-nearer w d (ltb-true d D h) s)
      by false h = rw (outcome-above mark n D cells w d s.running.reached h) (nearer-none w s.running)

  -- ---- a run

  rounds-nearer : (w : Traced) (r : ℕ) → Spare mark n D cells w → Nearer r w (rounds mark n r D w)
  rounds-nearer w r s =
      let x = settles mark n D cells r w s in
      record { running = x.spare.running; gone = x.gone; closed = λ e. rw (rounds-idle mark n D r w e) e }

  -- ---- the calls, and lists of them

  spare-move : (w : Traced) → Running mark n D cells w → Spare mark n D cells (lent mark n (plenty mark n D cells) w)
  spare-move w r = spare-lent mark n D cells w (plenty mark n D cells) r (omega arith)

  move-turn : (d : ℕ) (w : Traced) → Running mark n D cells w → Nearer 0 w (move mark n (whole (turns d)) w)
  unfolding move call
  move-turn d w r = nearer-lent (plenty mark n D cells) 0 w _ (turn-nearer (lent mark n (plenty mark n D cells) w) d (spare-move w r))

  pub move-run : (r : ℕ) (w : Traced) → Running mark n D cells w → Nearer r w (move mark n (whole (runs r)) w)
  unfolding move call
  move-run r w h =
      rw (ran-is mark n D cells (lent mark n (plenty mark n D cells) w) r h.reached)
      (nearer-lent (plenty mark n D cells) r w _ (rounds-nearer (lent mark n (plenty mark n D cells) w) r (spare-move w h)))

  pub working-nearer : (ys : List Move) (w : Traced) → working ys ≡ true → Running mark n D cells w → Nearer (rounds_in ys) w (play mark n ys w)
  unfolding play
  working-nearer [] w h r = nearer-none w r
  working-nearer (whole (submits d k args ws) ∷ ys) w h r = absurd (false≢true h)
  working-nearer (whole (turns d) ∷ ys) w h r =
      let v = move mark n (whole (turns d)) w in
      let a = move-turn d w r in
      nearer-both 0 (rounds_in ys) (rounds_in ys) w v (play mark n ys v) (omega arith) a (working-nearer ys v h a.running)
  working-nearer (whole (runs k) ∷ ys) w h r =
      let v = move mark n (whole (runs k)) w in
      let a = move-run k w r in
      nearer-both k (rounds_in ys) (k + rounds_in ys) w v (play mark n ys v) refl a (working-nearer ys v h a.running)
  working-nearer (whole recovers ∷ ys) w h r = absurd (false≢true h)
  working-nearer (cut k c ∷ ys) w h r = absurd (false≢true h)

  -- with as many rounds as 384 a worker, nobody is open
  pub nearer-idle : (k : ℕ) (w v : Traced) → Running mark n D cells w → Nearer k w v → 384 * D ≤ k → any_open D 0 v.world.cursors ≡ false
  unfolding sum
  nearer-idle k w v r x l =
      let most = rank_sum-most n D (at n w.world.image) (cursor_at w.world.cursors) r.locks w.trace.jumps w.trace.last r.live in
      ⊎_elim (λ y. no-rank-idle mark n D cells v x.running (omega arith)) (λ y. y) x.gone

  pub working-running : (ys : List Move) (w : Traced) → working ys ≡ true → Running mark n D cells w → Running mark n D cells (play mark n ys w)
  working-running ys w h r = (working-nearer ys w h r).running

  pub working-idle :
      (ys : List Move) (w : Traced) → working ys ≡ true → Running mark n D cells w → 384 * D ≤ rounds_in ys
      → any_open D 0 (play mark n ys w).world.cursors ≡ false
  working-idle ys w h r l = nearer-idle (rounds_in ys) w (play mark n ys w) r (working-nearer ys w h r) l
