-- Every call keeps the steps that turns named those of the paths (`treads-keep`): so of every section that is over the steps gone through are the reference
-- machine's, one by one, after any list of calls and cuts (`steps-exact`).
use Prim.Native.Nat.{ℕ, suc, ◌%◌, ◌^◌, ◌<◌, ◌≤◌}
use mathlib.Core.Path.{◌≡◌, refl, sym, ap, ◌∙◌}
use mathlib.Core.Logic.{◌≢◌}
use mathlib.Core.Bool.{true, ◌||◌, and-false}
use mathlib.Core.List.{List, [], ◌∷◌, ◌++◌}
use lib.ListN.{length}
use borrow.Author.Tests.{eq-eqb, ne_eqb}
use native.Mathlib.Omega.{arith}
use native.Mathlib.Decide.{ℕ_discrete}
use Rattle.std.specs.Prelude.{Ok}
use Rattle.image.specs.declared.Field.TheVariants.{Count, Pc, Number}
use Rattle.image.specs.Place.{Place, cell, field, own, step, Memory}
use Rattle.image.specs.Inner.Same.{same_field}
use Rattle.image.specs.Image.{at, workers, cells_of}
use Rattle.working.specs.Cursor.{Cursor, on, cursor_at}
use Rattle.worklog.specs.Log.{code_in}
use Rattle.plan.specs.Turn.{Outcome, stored, passed, waiting, resting, refused}
use Rattle.owed.specs.Owed.{named_op}
use Rattle.resuming.specs.Resumed.{target_turn, resumed}
use Rattle.claims.specs.Reference.{Given, given}
use Rattle.claims.specs.Events.{Event, taken, moved, waited, lost, but}
use Rattle.claims.specs.Calls.{Traced, step_of, turn_by, after_cut, from}
use Rattle.claims.specs.Claims.{of_worker, after}
use Rattle.claims.proofs.Frame.{Agree}
use Rattle.claims.proofs.LiveTurn.{but_same, but-other}
use Rattle.claims.proofs.Worlds.{Running}
use Rattle.claims.proofs.Settling.{steps}
use Rattle.claims.proofs.Turning.{still}
use Rattle.claims.proofs.Submission.{aside}
use Rattle.claims.proofs.Called.{TakenAs}
use Rattle.claims.proofs.Played.{Worth}
use Rattle.claims.proofs.Moves.{args-full}
use Rattle.told.specs.Paths.{Paths}
use Rattle.told.specs.Turns.{Now, nowhere, fresh, going, closing, Passage, passage, losing, heed_all, passage_of}
use Rattle.told.specs.Treads.{Trail, trail, tread_all, trail_of, Both, StepExact, StepsExact}
use Rattle.told.proofs.Keeping.{next_turn, Fed, submitted, recovered, Keeps}
use Rattle.told.proofs.Behind.{turn_memory, turn_cursor, turned-memory, turned-cursors}
use Rattle.told.proofs.Behind.{submitted-aside, submitted-cursors, recovered-fixed, recovered-cursors}
use Rattle.told.proofs.FromRest.{Any, kept-list}
use Rattle.told.proofs.Writes.{turn-writes}
use Rattle.told.proofs.Accounting.{events-by}
use Rattle.told.proofs.Strides.{phase-stride}
use Rattle.told.proofs.Passages.{heed-none, heed-append, heed-aside, heed-moved, heed-waited, heed-taken}
use Rattle.told.proofs.OnTrack.{paths_in}
use Rattle.told.proofs.Spanning.{Spanning, Moored, spanning-keeps, recovered-held, begun-below, entry-turns, resumed-on, passage-lost}
use Rattle.told.proofs.Turns.{rested-spanning}
use Rattle.told.proofs.Trails.{Fits, CutAt, cut_at, stepped-overs, stepped-cut, lost-treads, both-map}
use Rattle.told.proofs.TrailEvents.{tread-none, tread-one, tread-append, tread-aside, tread-moved}
use Rattle.told.proofs.TrailTurn.{agreed, Treading, own-treads, other-treads}

losing-cut : (P : Paths) (x : Now) → CutAt P [] (losing x)
losing-cut P nowhere = tt
losing-cut P (fresh g t) = tt
losing-cut P (going g b s t) = tt
losing-cut P (closing k g b t) = tt

module _ (mark n D : ℕ) (cells : List ℕ) where
  abbrev memory : Traced → Memory
  memory w = at n w.world.image

  abbrev Run : Traced → Type 0
  Run w = (e : ℕ) → e < D → Treading mark n D cells w e (memory w) (cursor_at w.world.cursors e)

  -- of what a cut leaves
  abbrev CutTrod : Paths → Trail → Passage → Type 0
  CutTrod P t c = CutAt P t.steps c.now × Both (Fits P) c.spans t.overs

  abbrev Cut : Traced → Type 0
  Cut w = (e : ℕ) → e < D → CutTrod (paths_in mark n D cells w e) (trail_of e w.trace.events) (passage_of e w.trace.events)

  record TreadsRun (w : Traced) : Type 0 where
    spanning : Spanning mark n D cells w
    run : Run w

  record TreadsCut (w : Traced) : Type 0 where
    moored : Moored mark n D cells w
    cut : Cut w

  run-cut : (w : Traced) → Run w → Cut w
  run-cut w x e l = (cut_at _ _ _ (cursor_at w.world.cursors e) _ (passage_of e w.trace.events).now (x e l).at, (x e l).overs)

  -- ---- a turn

  turn-run :
      (w : Traced) (d : ℕ) → Running mark n D cells w → d < D → Fed w (next_turn n w d) → Spanning mark n D cells w → Run w
      → Run (turn_by mark n w d (next_turn n w d))
  turn-run w d r dl fed s x e l =
      rw (turned-memory mark n D cells w d r dl fed, turned-cursors mark n D cells w d r dl e l) (by (ℕ_discrete e d))
    where
      cs : ℕ → Cursor
      cs = cursor_at w.world.cursors

      by : Dec (e ≡ d) → Treading mark n D cells (turn_by mark n w d (next_turn n w d)) e (turn_memory (memory w) (next_turn n w d))
          (but (cursor_at w.world.cursors) d (turn_cursor (cursor_at w.world.cursors d) (next_turn n w d)) e)
      by (yes i) =
          rw (i, but_same (cursor_at w.world.cursors) d (turn_cursor (cursor_at w.world.cursors d) (next_turn n w d)))
          (own-treads mark n D cells w d r dl (s d dl) (x d dl) (cursor_at w.world.cursors d) (next_turn n w d)
          (phase-stride n (memory w) d (w.trace.last d) (r.locks d) (w.trace.jumps d) (cursor_at w.world.cursors d) (r.live.phase d dl)) refl refl
          (steps mark n D cells w d r dl) fed)
      by (no i) =
          rw (but-other (cursor_at w.world.cursors) d (turn_cursor (cursor_at w.world.cursors d) (next_turn n w d)) e i)
          (other-treads mark n D cells w d r dl e l i (next_turn n w d) (steps mark n D cells w d r dl)
          (turn-writes n (memory w) d (w.trace.last d) (cursor_at w.world.cursors d) (r.locks d) (w.trace.jumps d) (r.live.phase d dl))
          fed (s e l) (x e l))

  -- ---- with no store left

  still-by :
      (w v : Traced) (es : List Event) → v.trace.begun ≡ w.trace.begun → v.trace.order ≡ w.trace.order → v.trace.events ≡ w.trace.events ++ es
      → ((e : ℕ) (P : Paths) (t : Trail) (c : Passage) → CutTrod P t c → CutTrod P (tread_all e c t es) (heed_all e c es)) → Cut w → Cut v
  still-by w v es b o t f x e l =
      rw (b, o, t, heed-append e (passage 0 nowhere []) w.trace.events es, tread-append e (passage 0 nowhere []) (trail [] []) w.trace.events es)
      (f e (paths_in mark n D cells w e) (trail_of e w.trace.events) (passage_of e w.trace.events) (x e l))

  moved-cut : (d s e : ℕ) (P : Paths) (t : Trail) (c : Passage) → CutTrod P t c → CutTrod P (tread_all e c t (moved d s ∷ [])) (heed_all e c (moved d s ∷ []))
  moved-cut d s e P t c (a, o) = by (ℕ_discrete d e)
    where
      by : Dec (d ≡ e) → CutTrod P (tread_all e c t (moved d s ∷ [])) (heed_all e c (moved d s ∷ []))
      by (yes i) =
          rw (i, heed-moved e c s, tread-moved e c t s)
          (stepped-cut P c.ends c.now c.spans t.steps t.overs s a, stepped-overs P c.ends c.now c.spans t.steps t.overs s a o)
      by (no i) =
          rw (heed-aside e c (moved d s ∷ []) (rw (ne_eqb d e i)), tread-aside e c t (moved d s ∷ []) (rw (ne_eqb d e i))) (a, o)

  waited-cut : (d b e : ℕ) (P : Paths) (t : Trail) (c : Passage) → CutTrod P t c
      → CutTrod P (tread_all e c t (waited d b ∷ [])) (heed_all e c (waited d b ∷ []))
  waited-cut d b e P t c k = by (ℕ_discrete d e)
    where
      by : Dec (d ≡ e) → CutTrod P (tread_all e c t (waited d b ∷ [])) (heed_all e c (waited d b ∷ []))
      by (yes i) = rw (i, heed-waited e c b, tread-one e c t (waited e b)) k
      by (no i) = rw (heed-aside e c (waited d b ∷ []) (rw (ne_eqb d e i)), tread-aside e c t (waited d b ∷ []) (rw (ne_eqb d e i))) k

  still-cut : (w : Traced) (d : ℕ) (o : Outcome) → w.world.left ≡ 0 → Cut w → Cut (turn_by mark n w d o)
  still-cut w d (stored p v c) z x =
      let s = still mark n D cells w d p v c z in
      still-by w (turn_by mark n w d (stored p v c)) [] s.0 s.1
      (events-by mark n w d (stored p v c) ∙ ap (λ (l : List Event). w.trace.events ++ l) (rw (eq-eqb w.world.left 0 z)))
      (λ e P t b a. rw (heed-none e b, tread-none e b t) a) x
  still-cut w d (passed why c) z x =
      still-by w (turn_by mark n w d (passed why c)) (moved d (step_of mark n w d) ∷ []) refl refl refl (λ e P t b a. moved-cut d _ e P t b a) x
  still-cut w d (waiting b) z x = still-by w (turn_by mark n w d (waiting b)) (waited d b ∷ []) refl refl refl (λ e P t c a. waited-cut d b e P t c a) x
  still-cut w d resting z x = x
  still-cut w d (refused r) z x = x

  -- ---- a submission

  module _
      (w : Traced) (d k : ℕ) (args ws : List ℕ) (wide : 8 ≤ n) (eight : length args ≡ 8) (r : Running mark n D cells w)
      (t : TakenAs mark n w.world d k ws) where
    abbrev behind : Traced
    behind = submitted mark n w d k args ws (Ok tt)

    abbrev new : Given
    new = given d k args ws

    kept : (q : Place) → aside d q ≡ true → memory behind q ≡ memory w q
    kept = submitted-aside mark n D cells w d k args ws wide eight r t

    agree : (e locks : ℕ) → e ≢ d → Agree (memory w) (memory behind) e locks
    agree e locks i =
        record {
          fields = λ f. kept (field f e) (rw (ne_eqb e d i, and-false (same_field f Number || same_field f Count)));
          steps = λ j. kept (step e j) (rw (ne_eqb e d i));
          owns = λ j. kept (own e j) (rw (ne_eqb e d i));
          cells = λ y a b. kept (cell y) refl;
        }

    submitted-run : Spanning mark n D cells w → Run w → Run behind
    submitted-run s x e l = rw (submitted-cursors mark n D cells w d k args ws wide eight r t e l) (by (ℕ_discrete e d))
      where
        by : Dec (e ≡ d) → Treading mark n D cells behind e (memory behind) (but (cursor_at w.world.cursors) d (on 0 0) e)
        by (yes i) =
            let c = passage_of d w.trace.events in
            let u = trail_of d w.trace.events in
            let pass = heed-append d (passage 0 nowhere []) w.trace.events (taken new ∷ []) ∙ heed-taken d c new refl in
            let treads : trail_of d (w.trace.events ++ (taken new ∷ [])) ≡ trail [] u.overs =
            tread-append d (passage 0 nowhere []) (trail [] []) w.trace.events (taken new ∷ []) ∙ (tread-one d c u (taken new) ∙ rw (eq-eqb d d refl)) in
            rw (i, but_same (cursor_at w.world.cursors) d (on 0 0), pass, treads) (record { at = refl; overs = (x d (rw i at l)).overs })
        by (no i) =
            let c = passage_of e w.trace.events in
            let u = trail_of e w.trace.events in
            let none = heed-append e (passage 0 nowhere []) w.trace.events (taken new ∷ [])
            ∙ heed-aside e c (taken new ∷ []) (rw (ne_eqb d e (λ q. i (sym q)))) in
            let same = tread-append e (passage 0 nowhere []) (trail [] []) w.trace.events (taken new ∷ [])
            ∙ tread-aside e c u (taken new ∷ []) (rw (ne_eqb d e (λ q. i (sym q)))) in
            rw (but-other (cursor_at w.world.cursors) d (on 0 0) e i, none, same, but-other w.trace.jumps d 0 e i)
            (agreed n (memory w) (memory behind) e (w.trace.last e) (cursor_at w.world.cursors e) (r.locks e) (w.trace.jumps e) (r.live.phase e l)
            (agree e (r.locks e) i) (paths_in mark n D cells w e) (of_worker e w.trace.begun) c u (s e l).anchor (x e l))

  -- ---- a loss

  trail-lost :
      (w v : Traced) (e : ℕ) → v.trace.events ≡ w.trace.events ++ (lost ∷ [])
      → trail_of e v.trace.events ≡ trail [] (trail_of e w.trace.events).overs
  trail-lost w v e t =
      ap (trail_of e) t
      ∙ (tread-append e (passage 0 nowhere []) (trail [] []) w.trace.events (lost ∷ [])
      ∙ tread-one e (passage_of e w.trace.events) (trail_of e w.trace.events) lost)

  lost-cut :
      (w v : Traced) → v.trace.begun ≡ w.trace.begun → v.trace.order ≡ w.trace.order → v.trace.events ≡ w.trace.events ++ (lost ∷ [])
      → Cut w → Cut v
  lost-cut w v b o t x e l =
      rw (b, o, passage-lost mark n D cells w v e t, trail-lost w v e t)
      (losing-cut (paths_in mark n D cells w e) (passage_of e w.trace.events).now, (x e l).1)

  recovered-run : (w : Traced) → Worth mark n D cells w → Moored mark n D cells w → Cut w → Run (recovered mark n w)
  recovered-run w k m x e l =
      let v = recovered mark n w in
      let c = passage_of e w.trace.events in
      let pc = recovered-fixed mark n D cells w k (field Pc e) refl in
      rw (recovered-cursors mark n D cells w k e l, passage-lost mark n D cells w v e refl, trail-lost w v e refl)
      (record {
        at =
            lost-treads (memory v (field Pc e)) (memory v (field Count e)) (code_in n (memory v) e) (paths_in mark n D cells w e) (of_worker e w.trace.begun) 0
            (w.trace.last e) (λ s. []) (λ s. []) [] [] c.ends c.now c.spans (resumed n (memory w) e) (target_turn (named_op n (memory w) e))
            (recovered-held mark n D cells w k e (m e l))
            (λ s q.
            let was : memory w (field Pc e) % 2 ^ 63 ≡ suc s = rw (← pc) q in (
              begun-below mark n D cells w k e l s was,
              resumed-on mark n D cells w k e l s was,
              rw (recovered-fixed mark n D cells w k (step e s) refl) (entry-turns mark n D cells w k e l s was),
            ));
        overs = (x e l).1;
      })

  treads-keep : 8 ≤ n → Keeps mark n D cells TreadsRun TreadsCut Any
  treads-keep wide =
      let K = spanning-keeps mark n D cells wide in
      record {
        turn = λ w d r l fed x. record { spanning = K.turn w d r l fed x.spanning; run = turn-run w d r l fed x.spanning x.run };
        still = λ w d o z x. record { moored = K.still w d o z x.moored; cut = still-cut w d o z x.cut };
        worth = λ w x. record { moored = K.worth w x.spanning; cut = run-cut w x.run };
        lend = λ k w x. record { spanning = K.lend k w x.spanning; run = x.run };
        lend-cut = λ k w x. record { moored = K.lend-cut k w x.moored; cut = x.cut };
        submit = λ w d k args ws r h t left a x.
            record {
              spanning = K.submit w d k args ws r h t left a x.spanning;
              run = submitted-run w d k args ws wide (args-full d k args ws h) r t x.spanning x.run;
            };
        submit-cut = λ w j d k args ws r h t a x.
            record {
              moored = K.submit-cut w j d k args ws r h t a x.spanning;
              cut = run-cut (submitted mark n w d k args ws (Ok tt)) (submitted-run w d k args ws wide (args-full d k args ws h) r t x.spanning x.run);
            };
        recover = λ w k left a x. record { spanning = K.recover w k left a x.moored; run = recovered-run w k x.moored x.cut };
        recover-cut = λ w j k a x. record { moored = K.recover-cut w j k a x.moored; cut = lost-cut w (recovered mark n w) refl refl refl x.cut };
        cut_off = λ w x. record { moored = K.cut_off w x.moored; cut = lost-cut w (after_cut mark n w) refl refl refl x.cut };
      }

pub steps-exact : (mark n : ℕ) → 8 ≤ n → n ≤ 64 → StepsExact mark n
unfolding StepsExact
steps-exact mark n wide narrow m rest xs h l d low =
    let D = workers m in
    let cells = cells_of m in
    let w = after mark n m xs in
    let start : TreadsRun mark n D cells (from m) =
    record {
      spanning = rested-spanning mark n wide narrow m rest;
      run = λ e q. rw (heed-none e (passage 0 nowhere []), tread-none e (passage 0 nowhere []) (trail [] [])) (record { at = tt; overs = tt });
    } in
    let k = kept-list mark n wide narrow m rest (TreadsRun mark n D cells) (TreadsCut mark n D cells) (treads-keep mark n D cells wide) start xs h l in
    both-map (Fits (paths_in mark n D cells w d)) (StepExact mark n m w d) (passage_of d w.trace.events).spans (trail_of d w.trace.events).overs
    (λ x us f. f.1) (k.1.cut d low).1
