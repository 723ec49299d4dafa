-- A turn keeps every worker on its passage (`own-track`, `other-track`): its own worker by the stride that it is, the others since nothing that
-- their passage, their paths and their record say is touched.
use Prim.Native.Nat.{ℕ, suc, ◌+◌, ◌%◌, ◌^◌, ◌<◌, ◌≤◌}
use mathlib.Core.Path.{◌≡◌, refl, sym, ap, ◌∙◌}
use mathlib.Core.Logic.{◌≢◌}
use mathlib.Core.Bool.{Bool, true, false, cond}
use mathlib.Core.List.{List, [], ◌∷◌, ◌++◌}
use mathlib.Core.Option.{some}
use lib.ListN.{get_or, replicate}
use lib.Dec.{eqb}
use borrow.Author.Tests.{eq-eqb, ne_eqb, eqb-true}
use native.Mathlib.Omega.{arith}
use Rattle.image.specs.declared.Field.TheVariants.{Count, Pc}
use Rattle.image.specs.Place.{Place, field, step, Memory}
use Rattle.image.specs.Inner.Same.{upd}
use Rattle.image.specs.Image.{at}
use Rattle.image.proofs.Places.{upd_same}
use Rattle.code.specs.Op.{is_finish}
use Rattle.code.specs.declared.Op.{Op}
use Rattle.code.specs.declared.Op.TheVariants.{Acquire, Release, Assign, Jump, Finish, Unknown}
use Rattle.section.specs.Check.{Code}
use Rattle.working.specs.Cursor.{Cursor, idle, on, step_no, cursor_at}
use Rattle.worklog.specs.Log.{code_in, switched}
use Rattle.worklog.specs.declared.Passing.{Passing}
use Rattle.worklog.specs.declared.Passing.TheVariants.{Jump as PassedJump, AlreadyFree as PassedFree, Others as PassedOthers}
use Rattle.plan.specs.Turn.{Outcome, stored, passed, waiting, resting, refused}
use Rattle.claims.specs.Reference.{Given, follow, enqueue, initial}
use Rattle.claims.specs.Events.{Event, moved, recorded, ended}
use Rattle.claims.specs.Calls.{Traced, is_pc, jumps_by, turn_by}
use Rattle.claims.specs.Claims.{of_worker}
use Rattle.claims.proofs.Invariant.{op_at, Sectioned, Lodged}
use Rattle.claims.proofs.Turns.{Touches, Stepped}
use Rattle.claims.proofs.Machine.{initial-more}
use Rattle.claims.proofs.Entries.{apart_of}
use Rattle.claims.proofs.LiveTurn.{but_same, but-other}
use Rattle.claims.proofs.Feeding.{of-snoc-same, of-snoc-other}
use Rattle.claims.proofs.Switching.{switched-some, switched-names}
use Rattle.claims.proofs.Worlds.{Running}
use Rattle.told.specs.Paths.{Paths, paths, further, paths_of, walk}
use Rattle.told.specs.Turns.{Passage, passage, turned, heed_all, passage_of}
use Rattle.told.proofs.Keeping.{Fed}
use Rattle.told.proofs.Behind.{turn_memory, turn_cursor}
use Rattle.told.proofs.Writes.{Writes, Says}
use Rattle.told.proofs.Telling.{begins-own}
use Rattle.told.proofs.Accounting.{events_by, events-by, own-by, touch-code, touch-other}
use Rattle.told.proofs.Walking.{walk-append, walk-other, walk_more}
use Rattle.told.proofs.Strides.{is_head, head-pc, is_logged, Coming, Stride, rested, waits, stores, frees, leaves, closes, jumps, begins, names}
use Rattle.told.proofs.Strides.{finishes, ends}
use Rattle.told.proofs.WalkTurn.{longer, further-on, further-end, walk_first, walk-later, jumps-rise}
use Rattle.told.proofs.Pacing.{Anchored, Paced, turned-anchored, within-paced, closes-paced}
use Rattle.told.proofs.Strode.{named, finished, Adds, jumps-paced, begins-anchored, begins-paced, names-on, finishes-on, ends_on}
use Rattle.told.proofs.Passages.{heed-append, heed-aside, heed-moved, heed-waited, heed-named, heed-finished}
use Rattle.told.proofs.OnTrack.{OnTrack, track-same, paths_in, Steady, plain-store, pc-store}

-- ---- a worker's own turn

module _ (mark n D : ℕ) (cells : List ℕ) (w : Traced) (d : ℕ) (r : Running mark n D cells w) (dl : d < D) where
  abbrev rd : Memory
  rd = at n w.world.image

  abbrev pc : ℕ
  pc = rd (field Pc d)

  abbrev count : ℕ
  count = rd (field Count d)

  abbrev words : Code
  words = code_in n rd d

  abbrev cursor : Cursor
  cursor = cursor_at w.world.cursors d

  abbrev now : Passage
  now = passage_of d w.trace.events

  abbrev mine : List Given
  mine = of_worker d w.trace.begun

  abbrev trail : Paths
  trail = paths_in mark n D cells w d

  abbrev last : Given
  last = w.trace.last d

  abbrev jumped : ℕ
  jumped = w.trace.jumps d

  -- the passage behind a turn
  pub passage-by : (o : Outcome) (es : List Event) (c : Passage) → events_by mark n w d o ≡ es → heed_all d now es ≡ c
      → passage_of d (turn_by mark n w d o).trace.events ≡ c
  passage-by o es c e f =
      ap (passage_of d) (events-by mark n w d o) ∙ (heed-append d _ w.trace.events (events_by mark n w d o) ∙ (ap (heed_all d now) e ∙ f))

  -- a store of neither pc nor count
  plain-track :
      (p : Place) (v : ℕ) (c : Cursor) (l : ℕ) → is_head p ≡ false → 0 < w.world.left → Touches n rd d (r.locks d) p v l
      → OnTrack n rd d trail mine (turned now now.now) jumped last c → Steady mark n D cells (turn_by mark n w d (stored p v c)) d (upd rd p v) c
  plain-track p v c l h left touch x =
      let s = plain-store mark n w d p v c left (head-pc p h) in
      let passage = passage-by (stored p v c) _ _ s.events (heed-moved d now _) in
      rw (s.begun, s.order, s.jumps, s.last, passage)
      (track-same n rd (upd rd p v) d (rw (apart_of is_head (field Pc d) p refl h)) (rw (apart_of is_head (field Count d) p refl h))
      (touch-code n rd d (r.locks d) p v l touch d) trail mine (turned now now.now) jumped last c x)

  -- a turn that passes
  passed-track :
      (why : Passing) (c : Cursor) → OnTrack n rd d trail mine (turned now now.now) (jumps_by why jumped) last c
      → Steady mark n D cells (turn_by mark n w d (passed why c)) d rd c
  passed-track why c x =
      let passage = passage-by (passed why c) _ _ refl (heed-moved d now _) in
      rw (passage, but_same w.trace.jumps d (jumps_by why jumped)) x

  -- a store of the pc behind which the sections begun are these
  module _ (v : ℕ) (c : Cursor) (left : 0 < w.world.left) (P : Paths) (gs : List Given) (b : Passage) where
    pc-track :
        cond (eqb pc 0) (w.trace.begun ++ (last ∷ [])) w.trace.begun ≡ gs
        → paths_of d (initial n D cells gs) (w.trace.order ++ replicate (suc jumped) d) ≡ P
        → passage_of d (turn_by mark n w d (stored (field Pc d) v c)).trace.events ≡ b
        → Anchored v count words P (of_worker d gs) b → Paced v count words P (of_worker d gs) 0 last c b.now
        → Steady mark n D cells (turn_by mark n w d (stored (field Pc d) v c)) d (upd rd (field Pc d) v) c
    pc-track e q k a m =
        let s = pc-store mark n w d (field Pc d) v c left refl in
        rw (s.begun, s.order, s.jumps, s.last, k, e, q, but_same w.trace.jumps d 0)
        (record { anchor = rw (upd_same rd (field Pc d) v) a; pace = rw (upd_same rd (field Pc d) v) m })

  -- ---- the path behind it

  -- with the section last taken fed
  fed-followed : last.worker ≡ d → follow (initial n D cells (w.trace.begun ++ (last ∷ []))) w.trace.order ≡ some (enqueue n r.reached.state last)
  fed-followed m = initial-more n D cells w.trace.begun last w.trace.order r.reached.state r.reached.followed (rw m dl)

  pub first-path :
      (a : ℕ) → last.worker ≡ d → get_or last.code 0 0 ≡ rd (step d 0) → pc ≡ 0 → op_at n rd d 0 ≡ Acquire a
      → paths_of d (initial n D cells (w.trace.begun ++ (last ∷ []))) (w.trace.order ++ (d ∷ [])) ≡ longer trail (0 ∷ [])
  first-path a m code z o =
      let s = r.reached.state in
      let gs = w.trace.begun ++ (last ∷ []) in
      walk-append d (paths [] []) (initial n D cells gs) (enqueue n s last) w.trace.order (d ∷ []) (fed-followed m)
      ∙ (ap (λ (p : Paths). walk d p (enqueue n s last) (d ∷ []))
      (walk_more n D cells w.trace.begun last d (paths [] []) w.trace.order s r.reached.followed (rw m dl))
      ∙ walk_first n D rd (cursor_at w.world.cursors) r.locks w.trace.jumps w.trace.last r.live d dl s r.reached.mirrors trail
      last a m code z o)

  later-path :
      (x : Op) (s i t : ℕ) → Coming n rd d (r.locks d) s i t jumped → op_at n rd d i ≡ x
      → Adds pc count words trail mine jumped last
      (paths_of d (initial n D cells w.trace.begun) (w.trace.order ++ replicate (suc jumped) d)) s i (λ steps. further (longer trail steps) i x)
  later-path x s i t C o ws same =
      let S = r.reached.state in
      let k = walk-later n D rd (cursor_at w.world.cursors) r.locks w.trace.jumps w.trace.last r.live d dl S r.reached.mirrors trail
      ws same s i t jumped C in (
        k.steps,
        walk-append d (paths [] []) (initial n D cells w.trace.begun) S w.trace.order (replicate (suc jumped) d) r.reached.followed
            ∙ (k.walks ∙ ap (further (longer trail k.steps) i) o),
        k.turns,
        k.inside,
      )

  adds_on :
      (P : Paths) (s i : ℕ) (f g : List ℕ → Paths) → ((l : List ℕ) → f l ≡ g l) → Adds pc count words trail mine jumped last P s i f
      → Adds pc count words trail mine jumped last P s i g
  adds_on P s i f g e a ws same = let (l, p, sum, ins) = a ws same in (l, p ∙ e l, sum, ins)

  -- ---- the strides

  pub no_finish : (x : Op) → is_logged x ≡ true → is_finish x ≡ false
  no_finish (Acquire a) h = refl
  no_finish (Release a) h = refl
  no_finish (Assign a e) h = refl
  no_finish (Jump a b) h = refl
  no_finish Finish h = sym h
  no_finish Unknown h = refl

  -- the events of a store that names a step
  pub named-events :
      (v i t : ℕ) (c : Cursor) → cursor ≡ on i t → v ≢ 0 → 0 < w.world.left
      → events_by mark n w d (stored (field Pc d) v c) ≡ moved d i ∷ recorded d i ∷ []
  named-events v i t c q z left = (pc-store mark n w d (field Pc d) v c left refl).events ∙ here
    where
      here : moved d (step_no cursor) ∷ cond (eqb v 0) (ended d) (recorded d (step_no cursor)) ∷ [] ≡ moved d i ∷ recorded d i ∷ []
      here = rw (ne_eqb v 0 z, q)

  begins-track :
      (a : ℕ) → cursor ≡ on 0 4 → 0 < w.world.left → pc ≡ 0 → Sectioned n rd d → Lodged n rd d last → op_at n rd d 0 ≡ Acquire a → jumped ≡ 0
      → OnTrack n rd d trail mine now jumped last (on 0 4)
      → Steady mark n D cells (turn_by mark n w d (stored (field Pc d) (switched n rd d 0) (on 0 5))) d (upd rd (field Pc d) (switched n rd d 0)) (on 0 5)
  begins-track a q left z sec H o none x =
      let v = switched n rd d 0 in
      let c : 3 ≤ count = sec.valid.least in
      let some : 0 < count = omega arith in
      let gs = w.trace.begun ++ (last ∷ []) in
      let P = longer trail (0 ∷ []) in
      let events = named-events v 0 4 (on 0 5) q (switched-some n rd d 0) left in
      let path = first-path a H.by (H.code 0 some) z o in
      let own : of_worker d gs ≡ mine ++ (last ∷ []) = of-snoc-same d w.trace.begun last H.by in
      pc-track v (on 0 5) left P gs (named now 0) (rw (eq-eqb pc 0 z)) (rw none path)
      (passage-by (stored (field Pc d) v (on 0 5)) _ _ events (heed-named d now 0 0))
      (rw own (begins-anchored pc count words trail mine jumped last v P some (rw o) (switched-names n rd d 0 (omega arith)) refl
      H.code now.ends now.now now.spans z x.anchor x.pace))
      (rw own (begins-paced pc count words trail mine jumped last v P some (rw o) (switched-names n rd d 0 (omega arith)) refl
      H.code now.ends now.now now.spans z x.anchor x.pace))

  -- a later step's pc finds the section begun
  pub same-begun : (s : ℕ) → pc % 2 ^ 63 ≡ suc s
      → cond (eqb pc 0) (w.trace.begun ++ (last ∷ [])) w.trace.begun ≡ w.trace.begun
  same-begun s e = rw (ne_eqb pc 0 (λ z. omega arith))

  names-track :
      (s i t : ℕ) → cursor ≡ on i t → 0 < w.world.left → Coming n rd d (r.locks d) s i t jumped → is_logged (op_at n rd d i) ≡ true
      → OnTrack n rd d trail mine now jumped last (on i t)
      → Steady mark n D cells (turn_by mark n w d (stored (field Pc d) (switched n rd d i) (on i (t + 1)))) d (upd rd (field Pc d) (switched n rd d i))
      (on i (t + 1))
  names-track s i t q left C o k =
      let v = switched n rd d i in
      let c : count ≤ 64 = C.sectioned.valid.most in
      let below = C.below in
      let P = paths_of d (initial n D cells w.trace.begun) (w.trace.order ++ replicate (suc jumped) d) in
      let events = named-events v i t (on i (t + 1)) q (switched-some n rd d i) left in
      let up : s < i = omega (arith, jumps-rise n rd d C.sectioned.valid (suc s) C.leaps) in
      let x = op_at n rd d i in
      let adds = adds_on P s i _ _ (λ l. further-on (longer trail l) i x (no_finish x o)) (later-path x s i t C refl) in
      let y = names-on pc count words trail mine jumped last v P s i t C.named.pc up C.below
      (switched-names n rd d i (omega arith)) o adds now.ends now.now now.spans k.anchor k.pace in
      pc-track v (on i (t + 1)) left P w.trace.begun (named now i) (same-begun s C.named.pc) refl
      (passage-by (stored (field Pc d) v (on i (t + 1))) _ _ events (heed-named d now i i)) y.0 y.1

  finishes-track :
      (s i : ℕ) → cursor ≡ on i 1 → 0 < w.world.left → Coming n rd d (r.locks d) s i 1 jumped → op_at n rd d i ≡ Finish
      → OnTrack n rd d trail mine now jumped last (on i 1)
      → Steady mark n D cells (turn_by mark n w d (stored (field Pc d) 0 (on i 2))) d (upd rd (field Pc d) 0) (on i 2)
  finishes-track s i q left C o x =
      let P = paths_of d (initial n D cells w.trace.begun) (w.trace.order ++ replicate (suc jumped) d) in
      let events = (pc-store mark n w d (field Pc d) 0 (on i 2) left refl).events in
      let up : s < i = omega (arith, jumps-rise n rd d C.sectioned.valid (suc s) C.leaps) in
      let adds = adds_on P s i _ _ (λ l. further-end (longer trail l) i Finish refl) (later-path Finish s i 1 C o) in
      let k = finishes-on pc count words trail mine jumped last 0 P s i 1 C.named.pc up C.below
      refl o refl adds now.ends now.now now.spans x.anchor x.pace in
      pc-track 0 (on i 2) left P w.trace.begun (finished now) (same-begun s C.named.pc) refl
      (passage-by (stored (field Pc d) 0 (on i 2)) _ _ events (heed-finished d now _)) k.0 k.1

  pub own-track :
      (c : Cursor) (o : Outcome) → Stride n rd d last (r.locks d) jumped c o → cursor ≡ c → Stepped n rd d last (r.locks d) jumped o → Fed w o
      → OnTrack n rd d trail mine now jumped last c → Steady mark n D cells (turn_by mark n w d o) d (turn_memory rd o) (turn_cursor c o)
  own-track _ _ rested q st fed x = x
  own-track _ _ (waits i t b) q st fed x = rw (passage-by (waiting b) _ _ refl (heed-waited d now b)) x
  own-track _ _ (stores i t p v h more) q (l, touch, ph) fed x =
      plain-track p v (on i (t + 1)) l h (fed refl) touch
      (record {
        anchor = turned-anchored pc count words trail mine jumped last now.ends now.now now.spans x.anchor;
        pace = within-paced pc count words trail mine jumped last now.ends now.now now.spans i t (λ f k. let z = more f in omega arith) x.pace;
      })
  own-track _ _ (frees i) q st fed x =
      passed-track PassedFree (on i 5)
      (record {
        anchor = turned-anchored pc count words trail mine jumped last now.ends now.now now.spans x.anchor;
        pace = within-paced pc count words trail mine jumped last now.ends now.now now.spans i 4 (λ f k. omega arith) x.pace;
      })
  own-track _ _ (leaves i) q st fed x =
      passed-track PassedOthers (on i 5)
      (record {
        anchor = turned-anchored pc count words trail mine jumped last now.ends now.now now.spans x.anchor;
        pace = within-paced pc count words trail mine jumped last now.ends now.now now.spans i 4 (λ f k. omega arith) x.pace;
      })
  own-track _ _ (closes s t p v h N turns none) q (l, touch, ph) fed x =
      plain-track p v (on (s + 1) 0) l h (fed refl) touch
      (record {
        anchor = turned-anchored pc count words trail mine jumped last now.ends now.now now.spans x.anchor;
        pace = closes-paced pc count words trail mine jumped last now.ends now.now now.spans s t N.pc turns none x.anchor x.pace;
      })
  own-track _ _ (jumps s i k a b C o l) q st fed x =
      let up : s < i = omega (arith, jumps-rise n rd d C.sectioned.valid (suc s) C.leaps) in
      passed-track PassedJump (on k 0)
      (record {
        anchor = turned-anchored pc count words trail mine jumped last now.ends now.now now.spans x.anchor;
        pace = jumps-paced pc count words trail mine jumped last now.ends now.now now.spans s i k C.named.pc up l x.anchor x.pace;
      })
  own-track _ _ (begins a z sec H o none) q st fed x = begins-track a q (fed refl) z sec H o none x
  own-track _ _ (names s i t C o) q st fed x = names-track s i t q (fed refl) C o x
  own-track _ _ (finishes s i C o) q st fed x = finishes-track s i q (fed refl) C o x
  own-track _ _ (ends i z l) q st fed x =
      let s = plain-store mark n w d (field Count d) 0 idle (fed refl) refl in
      let passage = passage-by (stored (field Count d) 0 idle) _ _ s.events (heed-moved d now _) in
      let k = ends_on pc count (upd rd (field Count d) 0 (field Count d)) words words trail mine z
      now.ends now.now now.spans jumped last i l x.anchor x.pace in
      rw (s.begun, s.order, s.jumps, s.last, passage) (record { anchor = k.0; pace = k.1 })

  -- ---- another's turn

  module _ (e : ℕ) (i : e ≢ d) where
    -- an order that grows by worker d's instructions, with its section fed before or not
    pub path-aside :
        (starts : Bool) → (starts ≡ true → last.worker ≡ d) → (k : ℕ)
        → paths_of e (initial n D cells (cond starts (w.trace.begun ++ (last ∷ [])) w.trace.begun)) (w.trace.order ++ replicate k d)
        ≡ paths_in mark n D cells w e
    path-aside true m k =
        let s = r.reached.state in
        walk-append e (paths [] []) (initial n D cells (w.trace.begun ++ (last ∷ []))) (enqueue n s last) w.trace.order (replicate k d)
        (fed-followed (m refl))
        ∙ (walk-other e d _ k (enqueue n s last) (λ q. i (sym q))
        ∙ walk_more n D cells w.trace.begun last e (paths [] []) w.trace.order s r.reached.followed (rw (m refl) dl))
    path-aside false m k =
        let s = r.reached.state in
        walk-append e (paths [] []) (initial n D cells w.trace.begun) s w.trace.order (replicate k d) r.reached.followed
        ∙ walk-other e d _ k s (λ q. i (sym q))

    begun-aside :
        (starts : Bool) → (starts ≡ true → last.worker ≡ d)
        → of_worker e (cond starts (w.trace.begun ++ (last ∷ [])) w.trace.begun) ≡ of_worker e w.trace.begun
    begun-aside true m = of-snoc-other e w.trace.begun last (λ q. i (sym q ∙ m refl))
    begun-aside false m = refl

    pub passage-aside : (o : Outcome) → passage_of e (turn_by mark n w d o).trace.events ≡ passage_of e w.trace.events
    passage-aside o =
        ap (passage_of e) (events-by mark n w d o)
        ∙ (heed-append e _ w.trace.events (events_by mark n w d o) ∙ heed-aside e _ (events_by mark n w d o) (own-by mark n w d o e i))

    -- a store, of the pc or not
    store-aside :
        (p : Place) (v : ℕ) (c x : Cursor) → 0 < w.world.left → Writes n rd d last p v → (b : Bool) → is_pc p ≡ b → Steady mark n D cells w e (upd rd p v) x
        → Steady mark n D cells (turn_by mark n w d (stored p v c)) e (upd rd p v) x
    store-aside p v c x left says false h k =
        let s = plain-store mark n w d p v c left h in rw (s.begun, s.order, s.jumps, s.last, passage-aside (stored p v c)) k
    store-aside p v c x left says true h k =
        let s = pc-store mark n w d p v c left h in
        let m : eqb (rd (field Pc d)) 0 ≡ true → last.worker ≡ d = λ z. begins-own n rd d last p v says h (eqb-true (rd (field Pc d)) 0 z) in
        let b = eqb (rd (field Pc d)) 0 in
        rw (
          s.begun,
          s.order,
          s.jumps,
          s.last,
          passage-aside (stored p v c),
          path-aside b m (suc jumped),
          begun-aside b m,
          but-other w.trace.jumps d 0 e i,
        ) k

    pub other-track :
        (o : Outcome) (x : Cursor) → Stepped n rd d last (r.locks d) jumped o → Says n rd d last o → Fed w o → Steady mark n D cells w e rd x
        → Steady mark n D cells (turn_by mark n w d o) e (turn_memory rd o) x
    other-track (stored p v c) x (l, touch, ph) says fed k =
        store-aside p v c x (fed refl) says (is_pc p) refl
        (track-same n rd (upd rd p v) e (touch-other n rd d (r.locks d) p v l touch e i Pc) (touch-other n rd d (r.locks d) p v l touch e i Count)
        (touch-code n rd d (r.locks d) p v l touch e) _ _ _ _ _ x k)
    other-track (passed why c) x st says fed k = rw (passage-aside (passed why c), but-other w.trace.jumps d (jumps_by why jumped) e i) k
    other-track (waiting b) x st says fed k = rw (passage-aside (waiting b)) k
    other-track resting x st says fed k = k
    other-track (refused f) x st says fed k = k
