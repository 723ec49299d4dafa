-- Lists of calls: whatever is called and cut, in whatever order, a world that runs goes on running, and a cut leaves an image
-- that the next recovery accepts and from which it runs on.
use Prim.Native.Nat.{ℕ, ◌-◌, ◌^◌, ◌<◌, ◌≤◌}
use mathlib.Core.Path.{◌≡◌, refl}
use mathlib.Core.Logic.{inl, inr}
use mathlib.Core.Bool.{Bool, true, false, ◌||◌, not, false≢true}
use mathlib.Core.List.{List, [], ◌∷◌}
use lib.ListN.{length}
use lib.Dec.{ltb}
use borrow.Author.Tests.{ltb-true, lt-ltb}
use native.Mathlib.Omega.{arith}
use Rattle.std.specs.Prelude.{Ok, Err}
use Rattle.base.proofs.Bools.{and_left, and_right}
use Rattle.image.specs.Image.{at, workers}
use Rattle.working.specs.declared.Refusal.TheVariants.{Worker}
use Rattle.working.specs.Cursor.{cursor_at}
use Rattle.plan.specs.Turn.{refused, turn_at}
use Rattle.turn.specs.Call.{outcome_at, outcome}
use Rattle.intake.specs.Submit.{Submitted, submit_answer, submit_leaves}
use Rattle.recovery.specs.Recovery.{recovery}
use Rattle.claims.specs.Reference.{given}
use Rattle.claims.specs.Calls.{Traced, traced, turn_by, ran_by, rounds, submit_trace, recovered_by, Call, submits, turns, runs, recovers, Move, whole, cut}
use Rattle.claims.specs.Calls.{call, lent, move, play, recovering, legal, ends_cut, callable, machine}
use Rattle.claims.proofs.LiveCrashed.{live-crashed}
use Rattle.claims.proofs.Progress.{rank_sum-most}
use Rattle.claims.proofs.Worlds.{Reached, Running, Frozen, few, running-turn}
use Rattle.claims.proofs.Turning.{Cutting, cutting-turn, cutting-turned, rounds-keep}
use Rattle.claims.proofs.Settling.{sum, Spare, settles}
use Rattle.claims.proofs.Called.{Recoverable, recover-cut, recover-whole, accepts, taken_as, submit-cut, submit-whole}
use Rattle.claims.proofs.Moves.{args-full}

module _ (mark n D : ℕ) (cells : List ℕ) where
  -- after a cut: the image is worth what a recovery takes it for
  abbrev pub Worth : Traced → Type 0
  Worth w = Recoverable mark n D cells w.world.image w.trace.begun w.trace.order

  pub running-worth : (w : Traced) → Running mark n D cells w → Worth w
  running-worth w r = record { reached = r.reached; crashed = live-crashed n D _ _ _ _ _ r.live }

  pub frozen-worth : (w : Traced) → Frozen mark n D cells w → Worth w
  frozen-worth w f = record { reached = f.reached; crashed = f.crashed }

  cutting-worth : (w : Traced) → Cutting mark n D cells w → Worth w
  cutting-worth w (inl r) = running-worth w r
  cutting-worth w (inr f) = frozen-worth w f

  -- the number of stores lent does not matter to a world that runs
  pub running-lent : (k : ℕ) (w : Traced) → Running mark n D cells w → Running mark n D cells (lent mark n k w)
  running-lent k w r = record { reached = r.reached; full = r.full; locks = r.locks; live = r.live }

  -- ---- turns

  pub outcome-below : (w : Traced) (d : ℕ) → Reached mark n D cells w.world.image w.trace.begun w.trace.order → d < D
      → outcome mark n w.world d ≡ turn_at n (at n w.world.image) d (cursor_at w.world.cursors d)
  unfolding outcome outcome_at
  outcome-below w d r l = let e : ltb d (workers w.world.image) ≡ true = rw r.many (lt-ltb d D l) in rw (r.header, e)

  pub outcome-above : (w : Traced) (d : ℕ) → Reached mark n D cells w.world.image w.trace.begun w.trace.order → ltb d D ≡ false
      → outcome mark n w.world d ≡ refused Worker
  unfolding outcome
  outcome-above w d r l = rw (r.header, r.many, l)

  pub turn-whole : (w : Traced) (d : ℕ) → Running mark n D cells w → 0 < w.world.left → Running mark n D cells (turn_by mark n w d (outcome mark n w.world d))
  turn-whole w d r l = by (ltb d D) refl
    where
      by : (b : Bool) → ltb d D ≡ b → Running mark n D cells (turn_by mark n w d (outcome mark n w.world d))
      by true h = rw (outcome-below w d r.reached (ltb-true d D h)) (running-turn mark n D cells w d r (ltb-true d D h) l)
      by false h = rw (outcome-above w d r.reached h) r

  turn-cut : (w : Traced) (d : ℕ) → Running mark n D cells w → Worth (turn_by mark n w d (outcome mark n w.world d))
  turn-cut w d r = by (ltb d D) refl
    where
      by : (b : Bool) → ltb d D ≡ b → Worth (turn_by mark n w d (outcome mark n w.world d))
      by true h = rw (outcome-below w d r.reached (ltb-true d D h)) (cutting-worth _ (cutting-turn mark n D cells w d (ltb-true d D h) (inl r)))
      by false h = rw (outcome-above w d r.reached h) (running-worth w r)

  -- ---- runs

  pub spare-lent : (w : Traced) (k : ℕ) → Running mark n D cells w → 3072 ≤ k → Spare mark n D cells (lent mark n k w)
  unfolding sum
  spare-lent w k r l =
      let most = rank_sum-most n D (at n w.world.image) (cursor_at w.world.cursors) r.locks w.trace.jumps w.trace.last r.live in
      let small = few mark n D cells w r.reached in
      record { running = running-lent k w r; stores = omega arith }

  pub ran-is : (w : Traced) (r : ℕ) → Reached mark n D cells w.world.image w.trace.begun w.trace.order → ran_by mark n w r ≡ rounds mark n r D w
  unfolding ran_by
  ran-is w r h = rw (h.header, h.many)

  run-cut : (w : Traced) (r : ℕ) → Running mark n D cells w → Worth (ran_by mark n w r)
  run-cut w r h =
      rw (ran-is w r h.reached) (cutting-worth _
      (rounds-keep mark n D cells (Cutting mark n D cells) (λ v d l c. cutting-turned mark n D cells v d l c) r w (inl h)))

  -- ---- each call, uncut

  abbrev pub plenty : ℕ
  plenty = 2 ^ 64 - 1

  submit-call : (w : Traced) (d k : ℕ) (args ws : List ℕ) → 8 ≤ n → n ≤ 64 → length args ≡ 8 → plenty ≤ w.world.left → Running mark n D cells w
      → Running mark n D cells (traced (submit_leaves n w.world d k args ws (submit_answer mark n w.world d k ws))
      (submit_trace mark n w.trace (given d k args ws) (submit_answer mark n w.world d k ws)))
  submit-call w d k args ws wide narrow full l r = by (submit_answer mark n w.world d k ws) refl
    where
      by : (a : Submitted) → submit_answer mark n w.world d k ws ≡ a
          → Running mark n D cells (traced (submit_leaves n w.world d k args ws a) (submit_trace mark n w.trace (given d k args ws) a))
      by (Ok tt) e = submit-whole mark n D cells w d k args ws wide full r (taken_as mark n w.world d k ws e) w.world.left (omega arith)
      by (Err x) e = r

  submit-cut-call : (w : Traced) (d k : ℕ) (args ws : List ℕ) → 8 ≤ n → length args ≡ 8 → Running mark n D cells w
      → Worth (traced (submit_leaves n w.world d k args ws (submit_answer mark n w.world d k ws))
      (submit_trace mark n w.trace (given d k args ws) (submit_answer mark n w.world d k ws)))
  submit-cut-call w d k args ws wide full r = by (submit_answer mark n w.world d k ws) refl
    where
      by : (a : Submitted) → submit_answer mark n w.world d k ws ≡ a
          → Worth (traced (submit_leaves n w.world d k args ws a) (submit_trace mark n w.trace (given d k args ws) a))
      by (Ok tt) e = submit-cut mark n D cells w d k args ws wide full r (taken_as mark n w.world d k ws e) w.world.left
      by (Err x) e = running-worth w r

  recover-call : (w : Traced) → Worth w → plenty ≤ w.world.left → Running mark n D cells (recovered_by mark n w (recovery mark n w.world.image))
  recover-call w k l =
      rw (accepts mark n D cells w.world.image w.trace.begun w.trace.order k)
      (recover-whole mark n D cells w.world.image w.trace.begun w.trace.order k w.world.left (omega arith) w.trace refl refl)

  recover-cut-call : (w : Traced) → Worth w → Worth (recovered_by mark n w (recovery mark n w.world.image))
  recover-cut-call w k =
      rw (accepts mark n D cells w.world.image w.trace.begun w.trace.order k)
      (recover-cut mark n D cells w.world.image w.trace.begun w.trace.order k w.world.left)

  -- a call of a world that runs
  pub whole-call : (c : Call) (w : Traced) → 8 ≤ n → n ≤ 64 → callable c ≡ true → plenty ≤ w.world.left → Running mark n D cells w
      → Running mark n D cells (call mark n c w)
  unfolding call
  whole-call (submits d k args ws) w wide narrow h l r = submit-call w d k args ws wide narrow (args-full d k args ws h) l r
  whole-call (turns d) w wide narrow h l r = turn-whole w d r (omega arith)
  whole-call (runs t) w wide narrow h l r =
      rw (ran-is w t r.reached) (settles mark n D cells t w (spare-lent w w.world.left r (omega arith))).spare.running
  whole-call recovers w wide narrow h l r = recover-call w (running-worth w r) l

  pub cut-call : (c : Call) (w : Traced) → 8 ≤ n → callable c ≡ true → Running mark n D cells w → Worth (call mark n c w)
  unfolding call
  cut-call (submits d k args ws) w wide h r = submit-cut-call w d k args ws wide (args-full d k args ws h) r
  cut-call (turns d) w wide h r = turn-cut w d r
  cut-call (runs t) w wide h r = run-cut w t r
  cut-call recovers w wide h r = recover-cut-call w (running-worth w r)

  -- ---- lists

  -- running, or cut with a recovery owing
  abbrev pub Good : Bool → Traced → Type 0
  Good false w = Running mark n D cells w
  Good true w = Worth w

  pub recovers-only : (b : Bool) (c : Call) → (not b || recovering c) ≡ true → b ≡ true → c ≡ recovers
  recovers-only true (submits d k args ws) h e = absurd (false≢true h)
  recovers-only true (turns d) h e = absurd (false≢true h)
  recovers-only true (runs r) h e = absurd (false≢true h)
  recovers-only true recovers h e = refl
  recovers-only false c h e = absurd (false≢true e)

  recovered : (w : Traced) → Worth w → plenty ≤ w.world.left → Running mark n D cells (call mark n recovers w)
  unfolding call
  recovered w k l = recover-call w k l

  recovered-cut : (w : Traced) → Worth w → Worth (call mark n recovers w)
  unfolding call
  recovered-cut w k = recover-cut-call w k

  pub whole-good : (b : Bool) (c : Call) (w : Traced) → 8 ≤ n → n ≤ 64 → callable c ≡ true → (not b || recovering c) ≡ true → Good b w
      → Running mark n D cells (move mark n (whole c) w)
  unfolding move
  whole-good false c w wide narrow h l g = whole-call c (lent mark n plenty w) wide narrow h (omega arith) (running-lent plenty w g)
  whole-good true c w wide narrow h l g =
      rw (recovers-only true c l refl) (recovered (lent mark n plenty w) (record { reached = g.reached; crashed = g.crashed }) (omega arith))

  -- what a cut leaves is worth what the image is
  pub cut-good : (b : Bool) (k : ℕ) (c : Call) (w : Traced) → 8 ≤ n → callable c ≡ true → (not b || recovering c) ≡ true → Good b w
      → Worth (move mark n (cut k c) w)
  unfolding move
  cut-good false k c w wide h l g = let x = cut-call c (lent mark n k w) wide h (running-lent k w g) in record { reached = x.reached; crashed = x.crashed }
  cut-good true k c w wide h l g =
      let x = recovered-cut (lent mark n k w) (record { reached = g.reached; crashed = g.crashed }) in
      rw (recovers-only true c l refl) (record { reached = x.reached; crashed = x.crashed })

  pub play-good : (b : Bool) (xs : List Move) (w : Traced) → 8 ≤ n → n ≤ 64 → machine xs ≡ true → legal b xs ≡ true → Good b w
      → Good (ends_cut b xs) (play mark n xs w)
  unfolding play legal ends_cut machine
  play-good b [] w wide narrow h l g = g
  play-good b (whole c ∷ xs) w wide narrow h l g =
      play-good false xs (move mark n (whole c) w) wide narrow (and_right (callable c) (machine xs) h) (and_right (not b || recovering c) (legal false xs) l)
      (whole-good b c w wide narrow (and_left (callable c) (machine xs) h) (and_left (not b || recovering c) (legal false xs) l) g)
  play-good b (cut k c ∷ xs) w wide narrow h l g =
      play-good true xs (move mark n (cut k c) w) wide narrow (and_right (callable c) (machine xs) h) (and_right (not b || recovering c) (legal true xs) l)
      (cut-good b k c w wide (and_left (callable c) (machine xs) h) (and_left (not b || recovering c) (legal true xs) l) g)
