-- A turn keeps the steps that its worker's turns named, and the others' (`own-treads`, `other-treads`): as `TurnTrack`, with lists for sums.
use Prim.Native.Nat.{ℕ, suc, ◌+◌, ◌%◌, ◌^◌, ◌<◌, ◌≤◌}
use mathlib.Core.Path.{◌≡◌, refl, sym, ap, subst, fun_ext, ◌∙◌}
use mathlib.Core.Logic.{◌≢◌}
use mathlib.Core.Bool.{Bool, true, false, cond, ◌&&◌}
use mathlib.Core.List.{List, [], ◌∷◌, ◌++◌, append-nil}
use lib.ListN.{replicate, get_or}
use lib.Dec.{eqb, ltb, leb}
use borrow.Author.Tests.{eq-eqb, eqb-true, ltb-true}
use native.Mathlib.Omega.{arith}
use Rattle.base.proofs.Bools.{and_right}
use Rattle.mask.specs.Mask.{has}
use Rattle.image.specs.declared.Field.TheVariants.{Count, Pc}
use Rattle.image.specs.Place.{Place, field, Memory}
use Rattle.image.specs.Inner.Same.{upd}
use Rattle.image.specs.Image.{at}
use Rattle.code.specs.declared.Op.{Op}
use Rattle.code.specs.declared.Op.TheVariants.{Acquire, Finish}
use Rattle.code.specs.Table.{turns_of}
use Rattle.code.specs.Form.{well_formed}
use Rattle.code.specs.Op.{op_of}
use Rattle.code.proofs.Ranges.{turns-op}
use Rattle.section.specs.Check.{Code}
use Rattle.working.specs.declared.Refusal.TheVariants.{Cursor as CursorRefused}
use Rattle.working.specs.Cursor.{Cursor, idle, on, step_no, cursor_at}
use Rattle.worklog.specs.Log.{code_in, switched}
use Rattle.worklog.specs.declared.Passing.{Passing}
use Rattle.worklog.specs.declared.Passing.TheVariants.{Jump as PassedJump, AlreadyFree as PassedFree, Others as PassedOthers}
use Rattle.plan.specs.Turn.{Outcome, stored, passed, waiting, resting, refused, ready, turn_at, op_turn}
use Rattle.claims.specs.Reference.{Given, initial}
use Rattle.claims.specs.Events.{Event, moved, waited, ended}
use Rattle.claims.specs.Calls.{Traced, is_pc, jumps_by, turn_by}
use Rattle.claims.specs.Claims.{of_worker}
use Rattle.claims.proofs.Invariant.{op_at, Phase}
use Rattle.claims.proofs.Frame.{Agree}
use Rattle.claims.proofs.Turns.{Touches, Stepped}
use Rattle.claims.proofs.LiveTurn.{but_same, but-other, agrees, one-owner}
use Rattle.claims.proofs.Switching.{switched-some}
use Rattle.claims.proofs.Worlds.{Running}
use Rattle.told.specs.Paths.{Paths, paths, further, paths_of}
use Rattle.told.specs.Turns.{Span, Now, nowhere, fresh, going, closing, Passage, passage, turned, passage_of}
use Rattle.told.specs.Treads.{Trail, trail, stepped, tread_all, trail_of, Both}
use Rattle.told.proofs.Keeping.{Fed}
use Rattle.told.proofs.Behind.{turn_memory, turn_cursor}
use Rattle.told.proofs.Writes.{Writes, Says}
use Rattle.told.proofs.Telling.{begins-own}
use Rattle.told.proofs.Resuming.{same_step}
use Rattle.told.proofs.Accounting.{events_by, events-by, own-by, touch-code}
use Rattle.told.proofs.Chains.{chain, lands, phase-chain, own-chain}
use Rattle.told.proofs.Walking.{walk-append}
use Rattle.told.proofs.Strides.{is_head, head-pc, Coming, Stride, rested, waits, stores, frees, leaves, closes, jumps, begins, names}
use Rattle.told.proofs.Strides.{finishes, ends}
use Rattle.told.proofs.WalkTurn.{longer, further-on, further-end, walk-later, jumps-rise}
use Rattle.told.proofs.Pacing.{Anchored, Paced}
use Rattle.told.proofs.Strode.{named, finished}
use Rattle.told.proofs.Passages.{heed-moved, heed-waited, heed-named, heed-finished}
use Rattle.told.proofs.OnTrack.{OnTrack, paths_in, plain-store, pc-store}
use Rattle.told.proofs.TrailEvents.{tread-append, tread-one, tread-aside, tread-moved, tread-named, tread-finished}
use Rattle.told.proofs.TurnTrack.{passage-by, first-path, same-begun, named-events, no_finish, path-aside, passage-aside}
use Rattle.told.proofs.Trails.{Fits, TrailAt, CutAt, cut_at, stepped-overs, within-treads, closes-treads, jumps-treads, begins-treads, names-treads}
use Rattle.told.proofs.Trails.{finishes-treads, spread-chain, both-map, fits_more}

-- ---- a turn that is made is one of its instruction

abbrev Made : Outcome → Type 0
Made (stored p v c) = Unit {0}
Made (passed why c) = Unit {0}
Made (waiting b) = Unit {0}
Made resting = Unit {0}
Made (refused r) = ⊥

made-turn : (n : ℕ) (rd : Memory) (d s t : ℕ) (o : Outcome) → turn_at n rd d (on s t) ≡ o → Made o → t < turns_of (code_in n rd d s)
unfolding turn_at ready
made-turn n rd d s t o e m = by (ready n rd d s t) refl e
  where
    count : ℕ
    count = rd (field Count d)

    by : (b : Bool) → ready n rd d s t ≡ b → cond b (op_turn n rd d s t (op_of (code_in n rd d s))) (refused (CursorRefused d)) ≡ o
        → t < turns_of (code_in n rd d s)
    by true h q =
        ltb-true t (turns_of (code_in n rd d s))
        (and_right (leb 3 count && leb count 64 && ltb s count && well_formed n count s (code_in n rd d s)) (ltb t (turns_of (code_in n rd d s))) h)
    by false h q = absurd (subst Made (sym q) m)

-- ---- one worker

pub record Trod (n : ℕ) (rd : Memory) (e : ℕ) (P : Paths) (j : ℕ) (x : Cursor) (t : Trail) (c : Passage) : Type 0 where
  pub at : TrailAt (code_in n rd e) P (λ s. chain n rd e (suc s) j) x t.steps c.now
  pub overs : Both (Fits P) c.spans t.overs

-- other jumps that are the same
trail-hops :
    (pc count : ℕ) (code : Code) (P : Paths) (mine : List Given) (hops hops' : ℕ → List ℕ) (x : Cursor) (T : List ℕ) (e : ℕ) (y : Now) (xs : List Span)
    → ((s : ℕ) → pc % 2 ^ 63 ≡ suc s → hops' s ≡ hops s) → Anchored pc count code P mine (passage e y xs) → TrailAt code P hops x T y
    → TrailAt code P hops' x T y
trail-hops pc count code P mine hops hops' x T e nowhere xs f a h = tt
trail-hops pc count code P mine hops hops' x T e (fresh g u) xs f a h = h
trail-hops pc count code P mine hops hops' x T e (going g b s u) xs f a h = rw (f s a.at.named) h
trail-hops pc count code P mine hops hops' x T e (closing k g b u) xs f a h = h

-- a memory that agrees on what the worker looks at
pub agreed :
    (n : ℕ) (rd rd' : Memory) (e : ℕ) (g : Given) (x : Cursor) (locks j : ℕ) → Phase n rd e g x locks j → Agree rd rd' e locks
    → (P : Paths) (mine : List Given) (c : Passage) (t : Trail) → Anchored (rd (field Pc e)) (rd (field Count e)) (code_in n rd e) P mine c
    → Trod n rd e P j x t c → Trod n rd' e P j x t c
agreed n rd rd' e g x locks j ph A P mine c t a k =
    let code : code_in n rd' e ≡ code_in n rd e = fun_ext A.steps in
    record {
      at =
          subst (λ (f : Code). TrailAt f P (λ s. chain n rd' e (suc s) j) x t.steps c.now) (sym code)
          (trail-hops (rd (field Pc e)) (rd (field Count e)) (code_in n rd e) P mine (λ s. chain n rd e (suc s) j) (λ s. chain n rd' e (suc s) j) x t.steps
          c.ends c.now c.spans (λ s q. phase-chain n rd rd' e g x locks j ph A s q) a k.at);
      overs = k.overs;
    }

module _ (mark n D : ℕ) (cells : List ℕ) where
  abbrev pub Treading : Traced → ℕ → Memory → Cursor → Type 0
  Treading w e rd x =
      Trod n rd e (paths_in mark n D cells w e) (w.trace.jumps e) x (trail_of e w.trace.events) (passage_of e w.trace.events)

module _ (mark n D : ℕ) (cells : List ℕ) (w : Traced) (d : ℕ) (r : Running mark n D cells w) (dl : d < D) where
  abbrev rd : Memory
  rd = at n w.world.image

  abbrev pc : ℕ
  pc = rd (field Pc d)

  abbrev count : ℕ
  count = rd (field Count d)

  abbrev words : Code
  words = code_in n rd d

  abbrev cursor : Cursor
  cursor = cursor_at w.world.cursors d

  abbrev now : Passage
  now = passage_of d w.trace.events

  abbrev steps : Trail
  steps = trail_of d w.trace.events

  abbrev mine : List Given
  mine = of_worker d w.trace.begun

  abbrev way : Paths
  way = paths_in mark n D cells w d

  abbrev last : Given
  last = w.trace.last d

  abbrev jumped : ℕ
  jumped = w.trace.jumps d

  abbrev hops : ℕ → List ℕ
  hops s = chain n rd d (suc s) jumped

  trail-by : (o : Outcome) (es : List Event) (c : Trail) → events_by mark n w d o ≡ es → tread_all d now steps es ≡ c
      → trail_of d (turn_by mark n w d o).trace.events ≡ c
  trail-by o es c e f =
      ap (trail_of d) (events-by mark n w d o) ∙ (tread-append d _ _ w.trace.events (events_by mark n w d o) ∙ (ap (tread_all d now steps) e ∙ f))

  -- a store of neither pc nor count: what is left to show
  plain-treads :
      (p : Place) (v : ℕ) (c : Cursor) (l i t : ℕ) → cursor ≡ on i t → is_head p ≡ false → 0 < w.world.left → Touches n rd d (r.locks d) p v l
      → TrailAt words way (λ s. chain n (upd rd p v) d (suc s) jumped) c (stepped steps i now.now).steps (turned now now.now).now
      → CutAt way steps.steps now.now → Both (Fits way) now.spans steps.overs
      → Treading mark n D cells (turn_by mark n w d (stored p v c)) d (upd rd p v) c
  plain-treads p v c l i t q h left touch a z o =
      let s = plain-store mark n w d p v c left (head-pc p h) in
      let passage = passage-by mark n D cells w d r dl (stored p v c) _ _ s.events (heed-moved d now _) in
      let trail = trail-by (stored p v c) _ _ s.events (tread-moved d now steps _) in
      let i' : step_no cursor ≡ i = ap step_no q in
      rw (s.begun, s.order, s.jumps, passage, trail, i')
      (record {
        at =
            subst
            (λ (f : Code). TrailAt f way (λ s. chain n (upd rd p v) d (suc s) jumped) c (stepped steps i now.now).steps (turned now now.now).now)
            (sym (touch-code n rd d (r.locks d) p v l touch d)) a;
        overs = stepped-overs way now.ends now.now now.spans steps.steps steps.overs i z o;
      })

  -- a turn that passes
  passed-treads :
      (why : Passing) (c : Cursor) (i t : ℕ) → cursor ≡ on i t
      → TrailAt words way (λ s. chain n rd d (suc s) (jumps_by why jumped)) c (stepped steps i now.now).steps (turned now now.now).now
      → CutAt way steps.steps now.now → Both (Fits way) now.spans steps.overs
      → Treading mark n D cells (turn_by mark n w d (passed why c)) d rd c
  passed-treads why c i t q a z o =
      let passage = passage-by mark n D cells w d r dl (passed why c) _ _ refl (heed-moved d now _) in
      let trail = trail-by (passed why c) _ _ refl (tread-moved d now steps _) in
      let i' : step_no cursor ≡ i = ap step_no q in
      rw (passage, trail, i', but_same w.trace.jumps d (jumps_by why jumped))
      (record { at = a; overs = stepped-overs way now.ends now.now now.spans steps.steps steps.overs i z o })

  -- a store of the pc behind which the sections begun are these
  pc-treads :
      (v : ℕ) (c : Cursor) (P : Paths) (gs : List Given) (t : Trail) (b : Passage) → 0 < w.world.left
      → cond (eqb pc 0) (w.trace.begun ++ (last ∷ [])) w.trace.begun ≡ gs
      → paths_of d (initial n D cells gs) (w.trace.order ++ replicate (suc jumped) d) ≡ P
      → trail_of d (turn_by mark n w d (stored (field Pc d) v c)).trace.events ≡ t
      → passage_of d (turn_by mark n w d (stored (field Pc d) v c)).trace.events ≡ b
      → TrailAt words P (λ s. []) c t.steps b.now → Both (Fits P) b.spans t.overs
      → Treading mark n D cells (turn_by mark n w d (stored (field Pc d) v c)) d (upd rd (field Pc d) v) c
  pc-treads v c P gs t b left e q k m a o =
      let s = pc-store mark n w d (field Pc d) v c left refl in
      rw (s.begun, s.order, s.jumps, k, m, e, q, but_same w.trace.jumps d 0) (record { at = a; overs = o })

  -- the path behind the store of a later pc
  later-chain :
      (x : Op) (s i t : ℕ) → Coming n rd d (r.locks d) s i t jumped → op_at n rd d i ≡ x
      → paths_of d (initial n D cells w.trace.begun) (w.trace.order ++ replicate (suc jumped) d) ≡ further (longer way (hops s)) i x
  later-chain x s i t C o =
      let S = r.reached.state in
      let k = walk-later n D rd (cursor_at w.world.cursors) r.locks w.trace.jumps w.trace.last r.live d dl S r.reached.mirrors way
      words (λ y l. refl) s i t jumped C in
      walk-append d (paths [] []) (initial n D cells w.trace.begun) S w.trace.order (replicate (suc jumped) d) r.reached.followed
      ∙ (k.walks ∙ (ap (further (longer way k.steps) i) o ∙ ap (λ (l : List ℕ). further (longer way l) i x) k.chained))

  module _ (x : OnTrack n rd d way mine now jumped last cursor) (y : Trod n rd d way jumped cursor steps now) where
    abbrev cuts : CutAt way steps.steps now.now
    cuts = cut_at words way hops cursor steps.steps now.now y.at

    -- the last turn of all
    ends_at :
        (e : ℕ) (z : Now) (xs : List Span) (i : ℕ) (hops' : ℕ → List ℕ) → pc ≡ 0 → 0 < i → Anchored pc count words way mine (passage e z xs)
        → Paced pc count words way mine jumped last (on i 2) z
        → TrailAt words way hops' idle (stepped steps i z).steps (turned (passage e z xs) z).now
    ends_at e nowhere xs i hops' n l a q = tt
    ends_at e (fresh g t) xs i hops' n l a (q, m) = let (f, h) = same_step q in absurd (omega arith)
    ends_at e (going g b s t) xs i hops' n l a q = let o = a.at.named in absurd (omega arith)
    ends_at e (closing k g b t) xs i hops' n l a q = tt

    pub own-treads :
        (c : Cursor) (o : Outcome) → Stride n rd d last (r.locks d) jumped c o → cursor ≡ c → turn_at n rd d c ≡ o
        → Stepped n rd d last (r.locks d) jumped o → Fed w o → Treading mark n D cells (turn_by mark n w d o) d (turn_memory rd o) (turn_cursor c o)
    own-treads _ _ rested q e st fed = rw q at y
    own-treads _ _ (waits i t b) q e st fed =
        rw (passage-by mark n D cells w d r dl (waiting b) _ _ refl (heed-waited d now b), trail-by (waiting b) _ _ refl (tread-one d now steps (waited d b)))
        (rw q at y)
    own-treads _ _ (stores i t p v h more) q e (l, touch, ph) fed =
        plain-treads p v (on i (t + 1)) l i t q h (fed refl) touch
        (within-treads pc count words way mine jumped last hops (λ s. chain n (upd rd p v) d (suc s) jumped) steps.steps steps.overs
        now.ends now.now now.spans i t (made-turn n rd d i t (stored p v (on i (t + 1))) e tt)
        (λ s z. own-chain n rd d last cursor (r.locks d) jumped (r.live.phase d dl) p v (on i (t + 1)) (rw q e) s z)
        x.anchor (rw q at x.pace) (rw q at y.at))
        cuts y.overs
    own-treads _ _ (frees i) q e st fed =
        passed-treads PassedFree (on i 5) i 4 q
        (within-treads pc count words way mine jumped last hops hops steps.steps steps.overs
        now.ends now.now now.spans i 4 (made-turn n rd d i 4 (passed PassedFree (on i 5)) e tt) (λ s z. refl)
        x.anchor (rw q at x.pace) (rw q at y.at))
        cuts y.overs
    own-treads _ _ (leaves i) q e st fed =
        passed-treads PassedOthers (on i 5) i 4 q
        (within-treads pc count words way mine jumped last hops hops steps.steps steps.overs
        now.ends now.now now.spans i 4 (made-turn n rd d i 4 (passed PassedOthers (on i 5)) e tt) (λ s z. refl)
        x.anchor (rw q at x.pace) (rw q at y.at))
        cuts y.overs
    own-treads _ _ (closes s t p v h N turns none) q e (l, touch, ph) fed =
        plain-treads p v (on (s + 1) 0) l s t q h (fed refl) touch
        (closes-treads pc count words way mine jumped last hops (λ s. chain n (upd rd p v) d (suc s) jumped) steps.steps steps.overs
        now.ends now.now now.spans s t N.pc turns (rw none) x.anchor (rw q at y.at))
        cuts y.overs
    own-treads _ _ (jumps s i k a b C o l) q e st fed =
        let up : s < i = omega (arith, jumps-rise n rd d C.sectioned.valid (suc s) C.leaps) in
        passed-treads PassedJump (on k 0) i 0 q
        (jumps-treads pc count words way mine jumped last hops (λ s. chain n rd d (suc s) (suc jumped)) steps.steps steps.overs
        now.ends now.now now.spans s i k C.named.pc up l (rw (lands n rd d C.leaps)) x.anchor (rw q at y.at))
        cuts y.overs
    own-treads _ _ (begins a z sec H o none) q e st fed =
        let v = switched n rd d 0 in
        let c : 3 ≤ count = sec.valid.least in
        let some : 0 < count = omega arith in
        let P = longer way (0 ∷ []) in
        let left = fed refl in
        let events = named-events mark n D cells w d r dl v 0 4 (on 0 5) q (switched-some n rd d 0) left in
        let path = first-path mark n D cells w d r dl a H.by (H.code 0 some) z o in
        let six : turns_of (words 0) ≡ 6 = turns-op (words 0) (Acquire a) o in
        let six' : turns_of (get_or last.code 0 0) ≡ 6 = rw (H.code 0 some) six in
        pc-treads v (on 0 5) P (w.trace.begun ++ (last ∷ [])) (stepped steps 0 now.now) (named now 0) left (rw (eq-eqb pc 0 z)) (rw none path)
        (trail-by (stored (field Pc d) v (on 0 5)) _ _ events (tread-named d now steps 0 0))
        (passage-by mark n D cells w d r dl (stored (field Pc d) v (on 0 5)) _ _ events (heed-named d now 0 0))
        (begins-treads pc count words way mine jumped last hops (λ s. []) steps.steps steps.overs P now.ends now.now now.spans z refl six six'
        x.anchor (rw q at x.pace) (rw q at y.at))
        (stepped-overs way now.ends now.now now.spans steps.steps steps.overs 0 cuts y.overs)
    own-treads _ _ (names s i t C o) q e st fed =
        let v = switched n rd d i in
        let left = fed refl in
        let P = paths_of d (initial n D cells w.trace.begun) (w.trace.order ++ replicate (suc jumped) d) in
        let op = op_at n rd d i in
        let grows : P ≡ longer (longer way (hops s)) (i ∷ []) =
        later-chain op s i t C refl ∙ further-on (longer way (hops s)) i op (no_finish mark n D cells w d r dl op o) in
        let events = named-events mark n D cells w d r dl v i t (on i (t + 1)) q (switched-some n rd d i) left in
        let up : s < i = omega (arith, jumps-rise n rd d C.sectioned.valid (suc s) C.leaps) in
        let more = made-turn n rd d i t (stored (field Pc d) v (on i (t + 1))) e tt in
        let past : P.ended ≡ way.ended ++ [] = ap (λ (Q : Paths). Q.ended) grows ∙ sym (append-nil way.ended) in
        pc-treads v (on i (t + 1)) P w.trace.begun (stepped steps i now.now) (named now i) left
        (same-begun mark n D cells w d r dl s C.named.pc) refl
        (trail-by (stored (field Pc d) v (on i (t + 1))) _ _ events (tread-named d now steps i i))
        (passage-by mark n D cells w d r dl (stored (field Pc d) v (on i (t + 1))) _ _ events (heed-named d now i i))
        (names-treads pc count words way mine jumped last hops (λ s. []) steps.steps steps.overs P s i t C.named.pc up C.below more
        now.ends now.now now.spans grows (λ ws same. spread-chain n rd d (suc s) ws same C.leaps) x.anchor (rw q at x.pace) (rw q at y.at))
        (both-map (Fits way) (Fits P) (turned now now.now).spans (stepped steps i now.now).overs (fits_more way P [] past)
        (stepped-overs way now.ends now.now now.spans steps.steps steps.overs i cuts y.overs))
    own-treads _ _ (finishes s i C o) q e st fed =
        let left = fed refl in
        let P = paths_of d (initial n D cells w.trace.begun) (w.trace.order ++ replicate (suc jumped) d) in
        let path = (way.under ++ hops s) ++ (i ∷ []) in
        let grows : P ≡ paths (way.ended ++ (path ∷ [])) [] = later-chain Finish s i 1 C o ∙ further-end (longer way (hops s)) i Finish refl in
        let events : events_by mark n w d (stored (field Pc d) 0 (on i 2)) ≡ moved d i ∷ ended d ∷ [] =
        (pc-store mark n w d (field Pc d) 0 (on i 2) left refl).events ∙ rw q in
        let up : s < i = omega (arith, jumps-rise n rd d C.sectioned.valid (suc s) C.leaps) in
        let more = made-turn n rd d i 1 (stored (field Pc d) 0 (on i 2)) e tt in
        let past : P.ended ≡ way.ended ++ (path ∷ []) = ap (λ (Q : Paths). Q.ended) grows in
        pc-treads 0 (on i 2) P w.trace.begun (stepped steps i now.now) (finished now) left (same-begun mark n D cells w d r dl s C.named.pc) refl
        (trail-by (stored (field Pc d) 0 (on i 2)) _ _ events (tread-finished d now steps i))
        (passage-by mark n D cells w d r dl (stored (field Pc d) 0 (on i 2)) _ _ events (heed-finished d now i))
        (finishes-treads pc count words way mine jumped last hops (λ s. []) steps.steps steps.overs P s i 1 C.named.pc up C.below more
        now.ends now.now now.spans grows refl o (λ ws same. spread-chain n rd d (suc s) ws same C.leaps)
        x.anchor (rw q at x.pace) (rw q at y.at))
        (both-map (Fits way) (Fits P) (turned now now.now).spans (stepped steps i now.now).overs (fits_more way P (path ∷ []) past)
        (stepped-overs way now.ends now.now now.spans steps.steps steps.overs i cuts y.overs))
    own-treads _ _ (ends i z l) q e st fed =
        let s = plain-store mark n w d (field Count d) 0 idle (fed refl) refl in
        let passage = passage-by mark n D cells w d r dl (stored (field Count d) 0 idle) _ _ s.events (heed-moved d now _) in
        let trail = trail-by (stored (field Count d) 0 idle) _ _ s.events (tread-moved d now steps _) in
        let i' : step_no cursor ≡ i = ap step_no q in
        rw (s.begun, s.order, s.jumps, passage, trail, i')
        (record {
          at = ends_at now.ends now.now now.spans i _ z l x.anchor (rw q at x.pace);
          overs = stepped-overs way now.ends now.now now.spans steps.steps steps.overs i cuts y.overs;
        })

  -- ---- another's turn

  module _ (e : ℕ) (el : e < D) (i : e ≢ d) where
    trail-aside : (o : Outcome) → trail_of e (turn_by mark n w d o).trace.events ≡ trail_of e w.trace.events
    trail-aside o =
        ap (trail_of e) (events-by mark n w d o)
        ∙ (tread-append e _ _ w.trace.events (events_by mark n w d o) ∙ tread-aside e _ _ (events_by mark n w d o) (own-by mark n w d o e i))

    -- a store, of the pc or not, behind which the memory is this
    store-aside :
        (p : Place) (v : ℕ) (c x : Cursor) → 0 < w.world.left → Writes n rd d last p v → (b : Bool) → is_pc p ≡ b
        → Trod n (upd rd p v) e (paths_in mark n D cells w e) (w.trace.jumps e) x (trail_of e w.trace.events) (passage_of e w.trace.events)
        → Treading mark n D cells (turn_by mark n w d (stored p v c)) e (upd rd p v) x
    store-aside p v c x left says false h k =
        let s = plain-store mark n w d p v c left h in
        rw (s.begun, s.order, s.jumps, passage-aside mark n D cells w d r dl e i (stored p v c), trail-aside (stored p v c)) k
    store-aside p v c x left says true h k =
        let s = pc-store mark n w d p v c left h in
        let m : eqb (rd (field Pc d)) 0 ≡ true → last.worker ≡ d = λ z. begins-own n rd d last p v says h (eqb-true (rd (field Pc d)) 0 z) in
        let b = eqb (rd (field Pc d)) 0 in
        rw (
          s.begun,
          s.order,
          s.jumps,
          passage-aside mark n D cells w d r dl e i (stored p v c),
          trail-aside (stored p v c),
          path-aside mark n D cells w d r dl e i b m (suc jumped),
          but-other w.trace.jumps d 0 e i,
        ) k

    pub other-treads :
        (o : Outcome) → Stepped n rd d last (r.locks d) jumped o → Says n rd d last o → Fed w o
        → OnTrack n rd e (paths_in mark n D cells w e) (of_worker e w.trace.begun) (passage_of e w.trace.events) (w.trace.jumps e) (w.trace.last e)
        (cursor_at w.world.cursors e)
        → Treading mark n D cells w e rd (cursor_at w.world.cursors e)
        → Treading mark n D cells (turn_by mark n w d o) e (turn_memory rd o) (cursor_at w.world.cursors e)
    other-treads (stored p v c) (l, touch, ph) says fed x k =
        let there = cursor_at w.world.cursors e in
        let pass = passage_of e w.trace.events in
        let apart : (b : ℕ) → b < 64 → has (r.locks d) b ≡ true → has (r.locks e) b ≡ true → ⊥ =
        λ b m f g. i (sym (one-owner r.live b d e m dl el f g)) in
        let A = agrees n rd d (r.locks d) p v l touch e (r.locks e) i apart in
        store-aside p v c there (fed refl) says (is_pc p) refl
        (agreed n rd (upd rd p v) e (w.trace.last e) there (r.locks e) (w.trace.jumps e) (r.live.phase e el) A
        (paths_in mark n D cells w e) (of_worker e w.trace.begun) pass (trail_of e w.trace.events) x.anchor k)
    other-treads (passed why c) st says fed x k =
        rw (
          passage-aside mark n D cells w d r dl e i (passed why c),
          trail-aside (passed why c),
          but-other w.trace.jumps d (jumps_by why jumped) e i,
        ) k
    other-treads (waiting b) st says fed x k = rw (passage-aside mark n D cells w d r dl e i (waiting b), trail-aside (waiting b)) k
    other-treads resting st says fed x k = k
    other-treads (refused f) st says fed x k = k
