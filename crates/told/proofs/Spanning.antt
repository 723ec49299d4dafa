-- Every call keeps every worker on its passage, and a cut leaves every passage anchored (`spanning-keeps`): so of every section that is over the turns
-- are exact, after any list of calls and cuts (`turns-exact`).
use Prim.Native.Nat.{ℕ, suc, ◌+◌, ◌%◌, ◌^◌, ◌<◌, ◌≤◌}
use mathlib.Core.Path.{◌≡◌, refl, sym, ap, fun_ext, ◌∙◌}
use mathlib.Core.Logic.{◌≢◌, ◌⊎◌, inl, inr}
use mathlib.Core.Bool.{true}
use mathlib.Core.List.{List, [], ◌∷◌, ◌++◌}
use lib.ListN.{length}
use borrow.Author.Tests.{eq-eqb, ne_eqb}
use native.Mathlib.Omega.{arith}
use native.Mathlib.Decide.{ℕ_discrete}
use Rattle.std.specs.Prelude.{Ok}
use Rattle.image.specs.declared.Field.TheVariants.{Count, Pc}
use Rattle.image.specs.Place.{Place, field, step, Memory}
use Rattle.image.specs.Image.{at, workers}
use Rattle.code.specs.declared.Op.{Op}
use Rattle.code.specs.declared.Op.TheVariants.{Acquire, Release, Assign, Jump, Finish, Unknown}
use Rattle.code.specs.Table.{turns_of}
use Rattle.code.specs.Op.{op_of}
use Rattle.code.proofs.Ranges.{turns-op}
use Rattle.working.specs.Cursor.{Cursor, idle, on, cursor_at}
use Rattle.worklog.specs.Log.{code_in}
use Rattle.plan.specs.Turn.{Outcome, stored, passed, waiting, resting, refused}
use Rattle.owed.specs.Owed.{named_step, named_op}
use Rattle.resuming.specs.Resumed.{target_turn, resumed}
use Rattle.needs.specs.Left.{resumed_turns}
use Rattle.claims.specs.Reference.{Given, given}
use Rattle.claims.specs.Events.{Event, taken, moved, waited, lost, but}
use Rattle.claims.specs.Calls.{Traced, step_of, turn_by, after_cut}
use Rattle.claims.specs.Claims.{of_worker}
use Rattle.claims.proofs.Invariant.{op_at, logs_held, Named}
use Rattle.claims.proofs.LiveTurn.{but_same, but-other}
use Rattle.claims.proofs.Worlds.{Running}
use Rattle.claims.proofs.Settling.{steps}
use Rattle.claims.proofs.Turning.{still}
use Rattle.claims.proofs.Stages.{stays, plan-kept}
use Rattle.claims.proofs.Covers.{crashed-parts}
use Rattle.claims.proofs.Accepted.{ok_named, ok-entry}
use Rattle.claims.proofs.Entries.{named_step_lem}
use Rattle.claims.proofs.RecoveryImage.{recovery-at}
use Rattle.claims.proofs.Submission.{aside}
use Rattle.claims.proofs.Called.{TakenAs, accepts, crash}
use Rattle.claims.proofs.Played.{Worth}
use Rattle.claims.proofs.Moves.{args-full}
use Rattle.told.specs.Turns.{fresh, Passage, passage, turned, losing, heed_all, passage_of}
use Rattle.told.proofs.Keeping.{next_turn, Fed, submitted, recovered, Keeps}
use Rattle.told.proofs.Behind.{turn_memory, turn_cursor, turned-memory, turned-cursors}
use Rattle.told.proofs.Behind.{submitted-aside, submitted-cursors, recovered-fixed, recovered-cursors}
use Rattle.told.proofs.FromRest.{Any}
use Rattle.told.proofs.Writes.{turn-writes}
use Rattle.told.proofs.Accounting.{events_by, events-by, own-by}
use Rattle.told.proofs.Strides.{phase-stride}
use Rattle.told.proofs.Pacing.{Anchored, turned-anchored}
use Rattle.told.proofs.Strode.{taken-anchored, off-same, lost-anchored, lost-paced}
use Rattle.told.proofs.Passages.{heed-none, heed-append, heed-aside, heed-moved, heed-waited, heed-taken, heed-lost}
use Rattle.told.proofs.OnTrack.{anchor-same, track-same, paths_in, Steady}
use Rattle.told.proofs.TurnTrack.{own-track, other-track}

-- a logged instruction that is resumed at its target store has so many turns left
resumed-turns : (n : ℕ) (rd : Memory) (d s : ℕ) (x : Op) → logs_held n rd d s x → (w : ℕ) → op_of w ≡ x → turns_of w ≡ resumed_turns x + target_turn x
resumed-turns n rd d s (Acquire a) h w o = turns-op w (Acquire a) o
resumed-turns n rd d s (Release a) h w o = turns-op w (Release a) o
resumed-turns n rd d s (Assign a e) h w o = turns-op w (Assign a e) o
resumed-turns n rd d s (Jump a b) h w o = absurd h
resumed-turns n rd d s Finish h w o = absurd h
resumed-turns n rd d s Unknown h w o = absurd h

module _ (mark n D : ℕ) (cells : List ℕ) where
  abbrev memory : Traced → Memory
  memory w = at n w.world.image

  abbrev pub Spanning : Traced → Type 0
  Spanning w = (e : ℕ) → e < D → Steady mark n D cells w e (memory w) (cursor_at w.world.cursors e)

  -- of what a cut leaves: worker e of a world, with this memory and this passage
  abbrev Tied : Traced → ℕ → Memory → Passage → Type 0
  Tied w e rd c = Anchored (rd (field Pc e)) (rd (field Count e)) (code_in n rd e) (paths_in mark n D cells w e) (of_worker e w.trace.begun) c

  abbrev pub Moored : Traced → Type 0
  Moored w = (e : ℕ) → e < D → Tied w e (memory w) (passage_of e w.trace.events)

  -- ---- a turn

  turn-spanning :
      (w : Traced) (d : ℕ) → Running mark n D cells w → d < D → Fed w (next_turn n w d) → Spanning w → Spanning (turn_by mark n w d (next_turn n w d))
  turn-spanning w d r dl fed x e l =
      rw (turned-memory mark n D cells w d r dl fed, turned-cursors mark n D cells w d r dl e l) (by (ℕ_discrete e d))
    where
      by : Dec (e ≡ d) → Steady mark n D cells (turn_by mark n w d (next_turn n w d)) e (turn_memory (memory w) (next_turn n w d))
          (but (cursor_at w.world.cursors) d (turn_cursor (cursor_at w.world.cursors d) (next_turn n w d)) e)
      by (yes i) =
          rw (i, but_same (cursor_at w.world.cursors) d (turn_cursor (cursor_at w.world.cursors d) (next_turn n w d)))
          (own-track mark n D cells w d r dl (cursor_at w.world.cursors d) (next_turn n w d)
          (phase-stride n (memory w) d (w.trace.last d) (r.locks d) (w.trace.jumps d) (cursor_at w.world.cursors d) (r.live.phase d dl)) refl
          (steps mark n D cells w d r dl) fed (x d dl))
      by (no i) =
          rw (but-other (cursor_at w.world.cursors) d (turn_cursor (cursor_at w.world.cursors d) (next_turn n w d)) e i)
          (other-track mark n D cells w d r dl e i (next_turn n w d) (cursor_at w.world.cursors e) (steps mark n D cells w d r dl)
          (turn-writes n (memory w) d (w.trace.last d) (cursor_at w.world.cursors d) (r.locks d) (w.trace.jumps d) (r.live.phase d dl)) fed (x e l))

  -- ---- with no store left

  -- events that are worker d's alone, and make this of its passage
  still-moored :
      (w v : Traced) (d : ℕ) (es : List Event) → v.world.image ≡ w.world.image → v.trace.begun ≡ w.trace.begun → v.trace.order ≡ w.trace.order
      → v.trace.events ≡ w.trace.events ++ es
      → ((e : ℕ) → (c : Passage) → Tied w e (memory w) c → Tied w e (memory w) (heed_all e c es))
      → Moored w → Moored v
  still-moored w v d es m b o t f x e l =
      rw (m, b, o, t, heed-append e (passage 0 _ []) w.trace.events es) (f e (passage_of e w.trace.events) (x e l))

  -- any turn leaves its worker's passage anchored, and the others' as they are
  any-events :
      (w : Traced) (d : ℕ) (o : Outcome) (e : ℕ) (c : Passage)
      → (d ≡ e → heed_all e c (events_by mark n w d o) ≡ turned c c.now) ⊎ (d ≡ e → heed_all e c (events_by mark n w d o) ≡ c)
      → Tied w e (memory w) c → Tied w e (memory w) (heed_all e c (events_by mark n w d o))
  any-events w d o e c f a = by (ℕ_discrete e d) f
    where
      by :
          Dec (e ≡ d) → (d ≡ e → heed_all e c (events_by mark n w d o) ≡ turned c c.now) ⊎ (d ≡ e → heed_all e c (events_by mark n w d o) ≡ c)
          → Tied w e (memory w) (heed_all e c (events_by mark n w d o))
      by (no i) g = rw (heed-aside e c (events_by mark n w d o) (own-by mark n w d o e i)) a
      by (yes i) (inl g) =
          rw (g (sym i))
          (turned-anchored (memory w (field Pc e)) (memory w (field Count e)) (code_in n (memory w) e) _ _ 0 (w.trace.last e) c.ends c.now c.spans a)
      by (yes i) (inr g) = rw (g (sym i)) a

  still-spanning : (w : Traced) (d : ℕ) (o : Outcome) → w.world.left ≡ 0 → Moored w → Moored (turn_by mark n w d o)
  still-spanning w d (stored p v c) z x =
      let s = still mark n D cells w d p v c z in
      still-moored w (turn_by mark n w d (stored p v c)) d [] s.2 s.0 s.1
      (events-by mark n w d (stored p v c) ∙ ap (λ (l : List Event). w.trace.events ++ l) (rw (eq-eqb w.world.left 0 z)))
      (λ e b a. rw (heed-none e b) a) x
  still-spanning w d (passed why c) z x =
      still-moored w (turn_by mark n w d (passed why c)) d (moved d (step_of mark n w d) ∷ []) refl refl refl refl
      (λ e b a. any-events w d (passed why c) e b (inl (λ i. rw i (heed-moved e b _))) a) x
  still-spanning w d (waiting b) z x =
      still-moored w (turn_by mark n w d (waiting b)) d (waited d b ∷ []) refl refl refl refl
      (λ e k a. any-events w d (waiting b) e k (inr (λ i. rw i (heed-waited e k b))) a) x
  still-spanning w d resting z x = x
  still-spanning w d (refused r) z x = x

  -- ---- a submission

  module _
      (w : Traced) (d k : ℕ) (args ws : List ℕ) (wide : 8 ≤ n) (eight : length args ≡ 8) (r : Running mark n D cells w)
      (t : TakenAs mark n w.world d k ws) where
    abbrev behind : Traced
    behind = submitted mark n w d k args ws (Ok tt)

    abbrev section : Given
    section = given d k args ws

    kept : (q : Place) → aside d q ≡ true → memory behind q ≡ memory w q
    kept = submitted-aside mark n D cells w d k args ws wide eight r t

    passage-taken :
        passage_of d behind.trace.events ≡ passage (passage_of d w.trace.events).ends (fresh section 0) (passage_of d w.trace.events).spans
    passage-taken = heed-append d _ w.trace.events (taken section ∷ []) ∙ heed-taken d (passage_of d w.trace.events) section refl

    submitted-own : Tied w d (memory w) (passage_of d w.trace.events) → Tied behind d (memory behind) (passage_of d behind.trace.events)
    submitted-own a =
        let c = passage_of d w.trace.events in
        rw (kept (field Pc d) refl, passage-taken)
        (taken-anchored (memory w (field Pc d)) (memory w (field Count d)) (memory behind (field Count d)) (code_in n (memory w) d)
        (code_in n (memory behind) d) _ _ t.pc c.ends c.now c.spans section a)

    submitted-other : (e : ℕ) → e ≢ d → (x : Cursor) → Steady mark n D cells w e (memory w) x → Steady mark n D cells behind e (memory behind) x
    submitted-other e i x a =
        let h = ne_eqb e d i in
        let none = heed-append e _ w.trace.events (taken section ∷ [])
        ∙ heed-aside e (passage_of e w.trace.events) (taken section ∷ []) (rw (ne_eqb d e (λ q. i (sym q)))) in
        rw (none, but-other w.trace.jumps d 0 e i, but-other w.trace.last d section e i)
        (track-same n (memory w) (memory behind) e (kept (field Pc e) refl) (kept (field Count e) (rw h)) (fun_ext (λ j. kept (step e j) (rw h)))
        _ _ _ _ _ x a)

    pub submitted-spanning : Spanning w → Spanning behind
    submitted-spanning x e l = rw (submitted-cursors mark n D cells w d k args ws wide eight r t e l) (by (ℕ_discrete e d))
      where
        by : Dec (e ≡ d) → Steady mark n D cells behind e (memory behind) (but (cursor_at w.world.cursors) d (on 0 0) e)
        by (yes i) =
            rw (i, but_same (cursor_at w.world.cursors) d (on 0 0), but_same w.trace.last d section)
            (record { anchor = submitted-own (x d (rw i at l)).anchor; pace = rw passage-taken (refl, refl) })
        by (no i) = rw (but-other (cursor_at w.world.cursors) d (on 0 0) e i) (submitted-other e i (cursor_at w.world.cursors e) (x e l))

    pub submitted-moored : Spanning w → Moored behind
    submitted-moored x e l = (submitted-spanning x e l).anchor

  -- ---- a loss

  pub passage-lost :
      (w v : Traced) (e : ℕ) → v.trace.events ≡ w.trace.events ++ (lost ∷ [])
      → passage_of e v.trace.events
      ≡ (let c = passage_of e w.trace.events in passage c.ends (losing c.now) c.spans)
  passage-lost w v e t = ap (passage_of e) t ∙ (heed-append e _ w.trace.events (lost ∷ []) ∙ heed-lost e (passage_of e w.trace.events))

  cut-moored : (w : Traced) → Moored w → Moored (after_cut mark n w)
  cut-moored w x e l =
      let c = passage_of e w.trace.events in
      rw (passage-lost w (after_cut mark n w) e refl)
      (lost-anchored (memory w (field Pc e)) (memory w (field Count e)) (code_in n (memory w) e) _ _ c.ends c.now c.spans (x e l))

  module _ (w : Traced) (k : Worth mark n D cells w) where
    abbrev mended : Traced
    mended = recovered mark n w

    fixed : (q : Place) → stays q ≡ true → memory mended q ≡ memory w q
    fixed = recovered-fixed mark n D cells w k

    counts-kept : (e : ℕ) → (memory mended (field Count e) ≡ memory w (field Count e)) ⊎ ((memory w (field Pc e) ≡ 0) × (memory mended (field Count e) ≡ 0))
    counts-kept e =
        let m = w.world.image in
        let c = crash mark n D cells m _ _ k in
        rw (accepts mark n D cells m _ _ k, recovery-at mark n m k.reached.header w.world.left)
        ((plan-kept n (workers m) (at n m) (crashed-parts n (workers m) (at n m) c) w.world.left).count e)

    -- a begun section stays in its record
    pub recovered-held : (e : ℕ) → Tied w e (memory w) (passage_of e w.trace.events) → Tied w e (memory mended) (passage_of e w.trace.events)
    recovered-held e a = by (counts-kept e)
      where
        code : code_in n (memory mended) e ≡ code_in n (memory w) e
        code = fun_ext (λ j. fixed (step e j) refl)

        by :
            (memory mended (field Count e) ≡ memory w (field Count e)) ⊎ ((memory w (field Pc e) ≡ 0) × (memory mended (field Count e) ≡ 0))
            → Tied w e (memory mended) (passage_of e w.trace.events)
        by (inl q) = anchor-same n (memory w) (memory mended) e (fixed (field Pc e) refl) q code _ _ _ a
        by (inr (z, q)) =
            let c = passage_of e w.trace.events in
            rw (fixed (field Pc e) refl) (off-same (memory w (field Pc e)) _ _ _ _ _ _ z c.ends c.now c.spans a)

    recovered-moored : Moored w → Moored mended
    recovered-moored x e l =
        let c = passage_of e w.trace.events in
        rw (passage-lost w mended e refl)
        (lost-anchored (memory mended (field Pc e)) (memory mended (field Count e)) (code_in n (memory mended) e) _ _ c.ends c.now c.spans
        (recovered-held e (x e l)))

    -- where a begun section goes on
    module _ (e : ℕ) (l : e < D) where
      abbrev rd : Memory
      rd = memory w

      resumed-off : rd (field Pc e) ≡ 0 → resumed n rd e ≡ idle
      unfolding resumed
      resumed-off z = rw z

      pub resumed-on : (s : ℕ) → rd (field Pc e) % 2 ^ 63 ≡ suc s → resumed n rd e ≡ on s (target_turn (named_op n rd e))
      unfolding resumed
      resumed-on s q = rw (ne_eqb (rd (field Pc e)) 0 (λ z. omega arith), named_step_lem n rd e s q)

      entry : (s : ℕ) → rd (field Pc e) % 2 ^ 63 ≡ suc s → Named n rd e (named_step n rd e)
      entry s q =
          let c = crashed-parts n D rd k.crashed in
          ok-entry n rd e (ok_named n rd e (c.pc e l) (ne_eqb (rd (field Pc e)) 0 (λ z. omega arith)))

      pub entry-turns : (s : ℕ) → rd (field Pc e) % 2 ^ 63 ≡ suc s
          → turns_of (rd (step e s)) ≡ resumed_turns (op_of (rd (step e s))) + target_turn (named_op n rd e)
      unfolding named_op
      entry-turns s q =
          let f = named_step_lem n rd e s q in
          rw f (resumed-turns n rd e s (op_at n rd e s) (rw f at (entry s q).logs) (rd (step e s)) refl)

    -- the count of a begun section stays
    pub begun-below : (e : ℕ) → e < D → (s : ℕ) → memory w (field Pc e) % 2 ^ 63 ≡ suc s → s < memory mended (field Count e)
    begun-below e l s q = by (counts-kept e)
      where
        by :
            (memory mended (field Count e) ≡ memory w (field Count e)) ⊎ ((memory w (field Pc e) ≡ 0) × (memory mended (field Count e) ≡ 0))
            → s < memory mended (field Count e)
        by (inl c) =
            let f = named_step_lem n (memory w) e s q in
            let b = (entry e l s q).below in
            omega arith
        by (inr (z, c)) = absurd (omega arith)

    recovered-spanning : Moored w → Spanning mended
    recovered-spanning x e l =
        let c = passage_of e w.trace.events in
        let pc = fixed (field Pc e) refl in
        rw (recovered-cursors mark n D cells w k e l)
        (record {
          anchor = recovered-moored x e l;
          pace =
              rw (passage-lost w mended e refl)
              (lost-paced (memory mended (field Pc e)) (memory mended (field Count e)) (code_in n (memory mended) e) _ _ c.ends c.now c.spans
              (w.trace.last e) (resumed n (memory w) e) (target_turn (named_op n (memory w) e)) (recovered-held e (x e l)) (λ z. resumed-off e l (sym pc ∙ z))
              (λ s q.
              let was : memory w (field Pc e) % 2 ^ 63 ≡ suc s = rw (← pc) q in
              (begun-below e l s was, resumed-on e l s was, rw (fixed (step e s) refl) (entry-turns e l s was))));
        })

  -- ---- every call

  pub spanning-keeps : 8 ≤ n → Keeps mark n D cells Spanning Moored Any
  spanning-keeps wide =
      record {
        turn = turn-spanning;
        still = still-spanning;
        worth = λ w x e l. (x e l).anchor;
        lend = λ k w x. x;
        lend-cut = λ k w x. x;
        submit = λ w d k args ws r h t left a x. submitted-spanning w d k args ws wide (args-full d k args ws h) r t x;
        submit-cut = λ w j d k args ws r h t a x. submitted-moored w d k args ws wide (args-full d k args ws h) r t x;
        recover = λ w k left a x. recovered-spanning w k x;
        recover-cut = λ w j k a x. recovered-moored w k x;
        cut_off = cut-moored;
      }
