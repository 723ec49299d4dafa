-- The working record has one way to say that a worker is idle (`Neat`): step 0 for every idle worker, and every worker past the image's is idle.
-- Lists keep it: a turn and a submission place one worker's cursor, and a recovery writes all eight. So where all workers are idle and no lock is
-- held, the record is the one that a list starts with (`neat-idle`).
use Prim.Native.Nat.{ℕ, ◌<◌, ◌≤◌}
use mathlib.Core.Path.{◌≡◌, sym, ap, ◌∙◌}
use mathlib.Core.List.{List}
use lib.ListN.{length, get_or, replicate, get_or-replicate}
use lib.Seq.{ext_get_or, get_or-set_same, get_or-set_other}
use borrow.Author.Tests.{eqb-true, lt-ltb, le-ltb}
use native.Mathlib.Omega.{arith}
use native.Mathlib.Decide.{ℕ_discrete, dec_lt}
use Rattle.std.specs.Prelude.{Ok}
use Rattle.image.specs.Place.{Memory}
use Rattle.image.specs.Inner.Same.{upd}
use Rattle.image.specs.Image.{at, workers}
use Rattle.image.proofs.Header.{header-workers}
use Rattle.working.specs.declared.Cursors.{Cursors}
use Rattle.working.specs.Cursor.{Cursor, idle, on, is_idle, step_no, cursor_at, set_at, holding, placed, all_idle}
use Rattle.working.proofs.Placed.{Full, sayable, idle-by, placed_same, placed-other, held-cursor}
use Rattle.plan.specs.Turn.{Outcome, stored, passed, waiting, resting, refused}
use Rattle.resuming.specs.Resumed.{resumed_all}
use Rattle.claims.specs.Calls.{Traced, turn_by}
use Rattle.claims.proofs.Turns.{Stepped}
use Rattle.claims.proofs.RecoveryImage.{resumed-turn, resumed-step, resumed-cursor}
use Rattle.claims.proofs.Worlds.{Running, few, phase-sayable}
use Rattle.claims.proofs.Settling.{steps}
use Rattle.claims.proofs.Called.{TakenAs, accepts, dl}
use Rattle.claims.proofs.Cursors.{idle-at}
use Rattle.claims.proofs.Moves.{args-full}
use Rattle.claims.proofs.Played.{Worth}
use Rattle.told.proofs.Keeping.{next_turn, Keeps, submitted, recovered}
use Rattle.told.proofs.FromRest.{Any}

pub record Neat (D : ℕ) (c : Cursors) : Type 0 where
  pub step : (e : ℕ) → e < 8 → get_or c.step e 0 ≡ step_no (cursor_at c e)
  pub past : (e : ℕ) → D ≤ e → e < 8 → cursor_at c e ≡ idle

-- ---- one cursor placed

module _ (D : ℕ) (c : Cursors) (d : ℕ) (x : Cursor) (f : Full c) (small : D ≤ 8) (l : d < D) (say : sayable x) (z : Neat D c) where
  step-placed : (e : ℕ) → e < 8 → get_or (placed c d x).step e 0 ≡ step_no (cursor_at (placed c d x) e)
  unfolding set_at
  step-placed e u = by (ℕ_discrete e d)
    where
      by : Dec (e ≡ d) → get_or (placed c d x).step e 0 ≡ step_no (cursor_at (placed c d x) e)
      by (yes q) =
          rw (q, placed_same c d x f (omega arith) say) (get_or-set_same c.step d (step_no x) 0 (rw f.steps (omega arith)))
      by (no q) = rw (placed-other c d e x q) (get_or-set_other c.step d e (step_no x) 0 q ∙ z.step e u)

  placed-neat : Neat D (placed c d x)
  placed-neat = record { step = step-placed; past = λ e p u. placed-other c d e x (λ q. omega arith) ∙ z.past e p u }

held-neat : (D h : ℕ) (c : Cursors) → Neat D c → Neat D (holding h c)
held-neat D h c z = record { step = λ e u. rw (held-cursor h c e) (z.step e u); past = λ e p u. held-cursor h c e ∙ z.past e p u }

-- ---- a recovery

module _ (n : ℕ) (rd : Memory) (D : ℕ) (small : D ≤ 8) where
  resumed-past : (e : ℕ) → D ≤ e → e < 8 → cursor_at (resumed_all n rd D) e ≡ idle
  unfolding cursor_at
  resumed-past e p u = rw (resumed-turn n rd D e u, le-ltb e D p)

  pub resumed-neat : Neat D (resumed_all n rd D)
  resumed-neat = record { step = λ e u. by e u (dec_lt e D); past = resumed-past }
    where
      by : (e : ℕ) → e < 8 → Dec (e < D) → get_or (resumed_all n rd D).step e 0 ≡ step_no (cursor_at (resumed_all n rd D) e)
      by e u (yes q) = rw (resumed-cursor n rd D e q small) (resumed-step n rd D e u ∙ (rw (lt-ltb e D q)))
      by e u (no q) = rw (resumed-past e (omega arith) u) (resumed-step n rd D e u ∙ (rw (le-ltb e D (omega arith))))

-- ---- lists

module _ (mark n D : ℕ) (cells : List ℕ) where
  abbrev pub NeatIn : Traced → Type 0
  NeatIn w = Neat D w.world.cursors

  turned-neat :
      (w : Traced) (d : ℕ) (r : Running mark n D cells w) → d < D → (o : Outcome)
      → Stepped n (at n w.world.image) d (w.trace.last d) (r.locks d) (w.trace.jumps d) o → NeatIn w → NeatIn (turn_by mark n w d o)
  turned-neat w d r l (stored p v c) (h, t, ph) z =
      held-neat D _ (placed w.world.cursors d c)
      (placed-neat D w.world.cursors d c r.full (few mark n D cells w r.reached) l
      (phase-sayable n (upd (at n w.world.image) p v) d (w.trace.last d) c h _ ph) z)
  turned-neat w d r l (passed why c) ph z =
      placed-neat D w.world.cursors d c r.full (few mark n D cells w r.reached) l
      (phase-sayable n (at n w.world.image) d (w.trace.last d) c (r.locks d) _ ph) z
  turned-neat w d r l (waiting b) s z = z
  turned-neat w d r l resting s z = z
  turned-neat w d r l (refused x) s z = z

  submitted-neat :
      (w : Traced) (d k : ℕ) (args ws : List ℕ) → 8 ≤ n → length args ≡ 8 → Running mark n D cells w → TakenAs mark n w.world d k ws
      → NeatIn w → NeatIn (submitted mark n w d k args ws (Ok tt))
  submitted-neat w d k args ws wide eight r t z =
      placed-neat D w.world.cursors d (on 0 0) r.full (few mark n D cells w r.reached) (dl mark n D cells w d k args ws wide eight r t)
      (λ q. omega arith) z

  recovered-neat : (w : Traced) → Worth mark n D cells w → NeatIn (recovered mark n w)
  recovered-neat w k =
      let m = w.world.image in
      rw (accepts mark n D cells m _ _ k, ← k.reached.many) (resumed-neat n (at n m) (workers m) (header-workers mark n m k.reached.header).1)

  pub neat-keeps : 8 ≤ n → Keeps mark n D cells NeatIn (λ (w : Traced). Unit {0}) Any
  neat-keeps wide =
      record {
        turn = λ w d r l fed z. turned-neat w d r l (next_turn n w d) (steps mark n D cells w d r l) z;
        still = λ w d o z c. tt;
        worth = λ w x. tt;
        lend = λ k w x. x;
        lend-cut = λ k w c. tt;
        submit = λ w d k args ws r h t left a x. submitted-neat w d k args ws wide (args-full d k args ws h) r t x;
        submit-cut = λ w j d k args ws r h t a x. tt;
        recover = λ w k left a c. recovered-neat w k;
        recover-cut = λ w j k a c. tt;
        cut_off = λ w c. tt;
      }

-- ---- all idle

idle-step : (e : ℕ) → e < 8 → get_or all_idle.step e 0 ≡ step_no (cursor_at all_idle e)
unfolding all_idle
idle-step e u = rw (idle-at e) (get_or-replicate 8 e 0 0 u)

pub start-neat : (D : ℕ) → Neat D all_idle
start-neat D = record { step = idle-step; past = λ e p u. idle-at e }

-- a record by its three parts
record_is : (c : Cursors) (s t : List ℕ) (h : ℕ) → c.step ≡ s → c.turn ≡ t → c.held ≡ h → c ≡ record { step = s; turn = t; held = h }
record_is c s t h a b e = rw (← a, ← b, ← e)

pub neat-idle : (D : ℕ) (c : Cursors) → Full c → Neat D c → ((d : ℕ) → d < D → cursor_at c d ≡ idle) → c.held ≡ 0 → c ≡ all_idle
unfolding all_idle
neat-idle D c f z i h =
    record_is c (replicate 8 0) (replicate 8 255) 0
    (ext_get_or 0 _ _ f.steps (λ e l. let u = below f.steps e l in step-0 e u ∙ sym (get_or-replicate 8 e 0 0 u)))
    (ext_get_or 255 _ _ f.turns (λ e l. let u = below f.turns e l in turn-255 e u ∙ sym (get_or-replicate 8 e 255 255 u)))
    h
  where
    below : {k : ℕ} → k ≡ 8 → (e : ℕ) → e < k → e < 8
    below q e l = omega arith

    idle-each : (e : ℕ) → e < 8 → Dec (e < D) → cursor_at c e ≡ idle
    idle-each e u (yes q) = i e q
    idle-each e u (no q) = z.past e (omega arith) u

    step-0 : (e : ℕ) → e < 8 → get_or c.step e 0 ≡ 0
    step-0 e u = z.step e u ∙ ap step_no (idle-each e u (dec_lt e D))

    turn-255 : (e : ℕ) → e < 8 → get_or c.turn e 255 ≡ 255
    turn-255 e u = eqb-true _ 255 (sym (idle-by c e) ∙ ap is_idle (idle-each e u (dec_lt e D)))
