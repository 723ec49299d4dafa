-- The sections taken and begun are what the events say (`ReadOff`), of each worker the pending one too, and every section taken is
-- admissible: kept by every call, cut or not (`reading-keeps`). A store of the pc that names a step begins what is pending, one that is 0
-- ends what was begun; a cut and a recovery leave nothing pending.
use Prim.Native.Nat.{ℕ, ◌<◌, ◌≤◌}
use mathlib.Core.Path.{◌≡◌, refl, sym, ap, ◌∙◌}
use mathlib.Core.Logic.{◌≢◌}
use mathlib.Core.Bool.{Bool, true, false, cond, ◌&&◌, not, and-false}
use mathlib.Core.List.{List, [], ◌∷◌, ◌++◌, append-nil}
use lib.Dec.{eqb}
use borrow.Author.Tests.{ne_eqb, eq-eqb}
use native.Mathlib.Omega.{arith}
use native.Mathlib.Decide.{ℕ_discrete}
use Rattle.std.specs.Prelude.{Ok}
use Rattle.image.specs.declared.Field.TheVariants.{Pc}
use Rattle.image.specs.Place.{Place, field, Memory}
use Rattle.image.specs.Inner.Same.{upd}
use Rattle.image.specs.Image.{Image, at}
use Rattle.section.specs.Check.{passes}
use Rattle.working.specs.Cursor.{Cursor, on, cursor_at}
use Rattle.plan.specs.Turn.{Outcome, stored, passed, waiting, resting, refused}
use Rattle.claims.specs.Reference.{Given, given}
use Rattle.told.specs.Readings.{taken_in, Reading, learn, read_from, read_off, begun_in}
use Rattle.claims.specs.Events.{Event, taken, moved, waited, recorded, ended, lost, but}
use Rattle.claims.specs.Calls.{Trace, Traced, recording, is_pc, step_of, store_events, turn_by, submits, Move, callable}
use Rattle.claims.specs.Claims.{admissible}
use Rattle.claims.proofs.LiveTurn.{but_same, but-other}
use Rattle.claims.proofs.Entries.{apart_of}
use Rattle.told.proofs.Writes.{Writes, Says, turn-writes}
use Rattle.claims.proofs.Pending.{pend, pend-start, Passes, Pends, pends-turn}
use Rattle.claims.proofs.Worlds.{Running}
use Rattle.claims.proofs.Turning.{still}
use Rattle.claims.proofs.Called.{TakenAs, dl}
use Rattle.claims.proofs.Played.{Worth}
use Rattle.claims.proofs.Moves.{args-full}
use Rattle.told.proofs.Keeping.{next_turn, Fed, submitted, recovered, Keeps}
use Rattle.told.proofs.Behind.{turn_memory, turn_cursor, turned-memory, turned-cursors, submitted-aside, submitted-cursors}
use Rattle.told.proofs.Recorded.{telling_of, aside-of}
use Rattle.told.proofs.Telling.{begun_then, turn-begun, pc-now, pc-writes, recovered-pending}
use Rattle.told.proofs.Admitted.{admitted-append, admitted-taken}
use Rattle.told.proofs.Events.{read-append, read_none, read-cons, taken-append}

-- ---- what a store's events say

-- the events of a store that is made
abbrev said : ℕ → ℕ → Bool → ℕ → List Event
said d s pc v = moved d s ∷ cond pc (cond (eqb v 0) (ended d) (recorded d s) ∷ []) []

store_said : (mark n : ℕ) (w : Traced) (d : ℕ) (p : Place) (v : ℕ) → 0 < w.world.left → store_events mark n w d p v ≡ said d (step_of mark n w d) (is_pc p) v
store_said mark n w d p v l = rw (ne_eqb w.world.left 0 (λ q. omega arith))

-- no store but of the pc says anything of sections
said-other : (r : Reading) (d s v : ℕ) → read_from r (said d s false v) ≡ r
said-other r d s v = read-cons r (moved d s) [] ∙ read_none r

said-ended : (r : Reading) (d s v : ℕ) → v ≡ 0 → read_from r (said d s true v) ≡ r
said-ended r d s v z = rw (eq-eqb v 0 z) (read-cons r (moved d s) (ended d ∷ []) ∙ (read-cons r (ended d) [] ∙ read_none r))

said-recorded : (r : Reading) (d s v : ℕ) → v ≢ 0 → read_from r (said d s true v) ≡ learn r (recorded d s)
said-recorded r d s v z = rw (ne_eqb v 0 z) (read-cons r (moved d s) (recorded d s ∷ []) ∙ (read-cons r (recorded d s) [] ∙ read_none _))

said-taken : (d s : ℕ) (pc : Bool) (v : ℕ) → taken_in (said d s pc v) ≡ []
unfolding taken_in
said-taken d s false v = refl
said-taken d s true v = by (eqb v 0)
  where
    by : (b : Bool) → taken_in (cond b (ended d) (recorded d s) ∷ []) ≡ []
    by true = refl
    by false = refl

-- one event more
read-snoc : (es : List Event) (e : Event) → read_off (es ++ (e ∷ [])) ≡ learn (read_off es) e
read-snoc es e = read-append _ es (e ∷ []) ∙ (read-cons (read_off es) e [] ∙ read_none _)

begun-snoc : (es : List Event) (e : Event) → begun_in (es ++ (e ∷ [])) ≡ (learn (read_off es) e).begun
begun-snoc es e = ap (λ (z : Reading). z.begun) (read-snoc es e)

-- what a store of the pc keeps of the trace
abbrev pub behind_store : Trace → ℕ → Bool → Bool → Trace
behind_store g d pc starts = cond pc (recording g d starts) g

pub store_keeps :
    (g : Trace) (d : ℕ) (pc starts : Bool)
    → ((behind_store g d pc starts).taken ≡ g.taken) × ((behind_store g d pc starts).last ≡ g.last) × ((behind_store g d pc starts).events ≡ g.events)
store_keeps g d true starts = (refl, refl, refl)
store_keeps g d false starts = (refl, refl, refl)

-- an event that says nothing of sections
abbrev Silent : Event → Type 0
Silent e = ((r : Reading) → learn r e ≡ r) × (taken_in (e ∷ []) ≡ [])

silent-moved : (d s : ℕ) → Silent (moved d s)
unfolding taken_in
silent-moved d s = ((λ r. refl), refl)

silent-waited : (d b : ℕ) → Silent (waited d b)
unfolding taken_in
silent-waited d b = ((λ r. refl), refl)

taken-one : (g : Given) → taken_in (taken g ∷ []) ≡ g ∷ []
unfolding taken_in
taken-one g = refl

taken-lost : taken_in (lost ∷ []) ≡ []
unfolding taken_in
taken-lost = refl

-- ---- all workers

module _ (mark n D : ℕ) (cells : List ℕ) where
  pub record ReadOff (w : Traced) : Type 0 where
    pub submits : w.trace.taken ≡ taken_in w.trace.events
    pub begins : w.trace.begun ≡ begun_in w.trace.events
    pub admits : admissible mark n D w.trace.taken ≡ true

  -- the section that worker e has pending, by its pc, its cursor and the one last taken
  abbrev pending_of : ℕ → Cursor → Given → List Given
  pending_of pc c g = cond (pend pc c) (g ∷ []) []

  pub record ReadsOff (w : Traced) : Type 0 where
    pub off : ReadOff w
    pub waits :
        (e : ℕ) → e < D
        → (read_off w.trace.events).pending e
        ≡ pending_of (at n w.world.image (field Pc e)) (cursor_at w.world.cursors e) (w.trace.last e)

  -- one event more that says nothing of sections
  noted-off :
      (w v : Traced) (e : Event) → Silent e → v.trace.taken ≡ w.trace.taken → v.trace.begun ≡ w.trace.begun
      → v.trace.events ≡ w.trace.events ++ (e ∷ []) → ReadOff w → ReadOff v
  noted-off w v e (h, t) a b c x =
      record {
        submits = a ∙ (x.submits ∙ rw (c, taken-append, t, append-nil));
        begins = b ∙ (x.begins ∙ rw (c, begun-snoc w.trace.events e, h (read_off w.trace.events)));
        admits = rw a x.admits;
      }

  -- ---- a turn

  module _ (w : Traced) (d : ℕ) (r : Running mark n D cells w) (dl : d < D) (x : ReadsOff w) where
    abbrev rd : Memory
    rd = at n w.world.image

    abbrev cursors : ℕ → Cursor
    cursors = cursor_at w.world.cursors

    abbrev cursor : Cursor
    cursor = cursors d

    abbrev last : Given
    last = w.trace.last d

    abbrev old : Reading
    old = read_off w.trace.events

    -- what is read behind a store
    private-begins : (b : Bool) → w.trace.begun ++ cond b (last ∷ []) [] ≡ cond b (w.trace.begun ++ (last ∷ [])) w.trace.begun
    private-begins true = refl
    private-begins false = append-nil w.trace.begun

    stored-begun :
        (p : Place) (v : ℕ) (c : Cursor) (s : ℕ) → Writes n rd d last p v → (b : Bool) → is_pc p ≡ b → Passes (rd (field Pc d)) cursor v c b
        → begun_then w.trace.begun last b (eqb (rd (field Pc d)) 0) ≡ (read_from old (said d s b v)).begun
    stored-begun p v c s y false q ps = x.off.begins ∙ ap (λ (z : Reading). z.begun) (sym (said-other old d s v))
    stored-begun p v c s y true q ps = by (ℕ_discrete v 0)
      where
        by : Dec (v ≡ 0) → cond (eqb (rd (field Pc d)) 0) (w.trace.begun ++ (last ∷ [])) w.trace.begun ≡ (read_from old (said d s true v)).begun
        by (yes z) =
            let pc : rd (field Pc d) ≢ 0 = λ e. ((pc-writes n rd d last p v y q).0 e).0 z in
            rw (ne_eqb (rd (field Pc d)) 0 pc, said-ended old d s v z) x.off.begins
        by (no z) =
            rw (said-recorded old d s v z, x.waits d dl, ps.0, ← x.off.begins) (sym (private-begins (eqb (rd (field Pc d)) 0)))

    -- what worker e has pending behind a store
    abbrev pending_then : Place → ℕ → Cursor → ℕ → List Given
    pending_then p v c e = pending_of (upd rd p v (field Pc e)) (but cursors d c e) (w.trace.last e)

    stored-waits :
        (p : Place) (v : ℕ) (c : Cursor) (s : ℕ) → Writes n rd d last p v → (b : Bool) → is_pc p ≡ b → Passes (rd (field Pc d)) cursor v c b
        → (e : ℕ) → e < D → (read_from old (said d s b v)).pending e ≡ pending_then p v c e
    stored-waits p v c s y b q ps e l = by (ℕ_discrete e d) b q ps (ℕ_discrete v 0)
      where
        aside : e ≢ d → (f : Reading) → f.pending e ≡ old.pending e → f.pending e ≡ pending_then p v c e
        aside i f k =
            let a = aside-of n rd d last e i p v y in
            rw (apart_of (telling_of e) (field Pc e) p (eq-eqb e e refl) a, but-other cursors d c e i) (k ∙ x.waits e l)

        by :
            Dec (e ≡ d) → (b : Bool) → is_pc p ≡ b → Passes (rd (field Pc d)) cursor v c b → Dec (v ≡ 0)
            → (read_from old (said d s b v)).pending e ≡ pending_then p v c e
        by (no i) false h k z = aside i (read_from old (said d s false v)) (ap (λ (z : Reading). z.pending e) (said-other old d s v))
        by (no i) true h k (yes z) = aside i (read_from old (said d s true v)) (ap (λ (z : Reading). z.pending e) (said-ended old d s v z))
        by (no i) true h k (no z) =
            aside i (read_from old (said d s true v)) (ap (λ (z : Reading). z.pending e) (said-recorded old d s v z) ∙ rw (ne_eqb e d i))
        by (yes i) false h k z =
            let pc : upd rd p v (field Pc d) ≡ rd (field Pc d) = rw (apart_of is_pc (field Pc d) p refl h) in
            rw (said-other old d s v, i, pc, but_same cursors d c, ← k) (x.waits d dl)
        by (yes i) true h k (yes z) =
            let pc : rd (field Pc d) ≢ 0 = λ e. ((pc-writes n rd d last p v y h).0 e).0 z in
            rw (said-ended old d s v z, i, pc-now n rd d last p v y h, but_same cursors d c, k.1)
            (x.waits d dl ∙ rw (k.0, ne_eqb (rd (field Pc d)) 0 pc))
        by (yes i) true h k (no z) =
            rw (said-recorded old d s v z, i, pc-now n rd d last p v y h, but_same cursors d c, k.1, eq-eqb d d refl)

    still-waits :
        (c : Cursor) → pend (rd (field Pc d)) cursor ≡ pend (rd (field Pc d)) c → (e : ℕ) → e < D
        → old.pending e ≡ pending_of (rd (field Pc e)) (but cursors d c e) (w.trace.last e)
    still-waits c q e l = by (ℕ_discrete e d)
      where
        by : Dec (e ≡ d) → old.pending e ≡ pending_of (rd (field Pc e)) (but cursors d c e) (w.trace.last e)
        by (yes i) = rw (i, but_same cursors d c, ← q) (x.waits d dl)
        by (no i) = rw (but-other cursors d c e i) (x.waits e l)

    -- a turn, by its outcome: the memory and the cursors behind it are known
    outcome-reads :
        (o : Outcome) → Says n rd d last o → Pends (rd (field Pc d)) cursor o → Fed w o → at n (turn_by mark n w d o).world.image ≡ turn_memory rd o
        → ((e : ℕ) → e < D → cursor_at (turn_by mark n w d o).world.cursors e ≡ but cursors d (turn_cursor cursor o) e) → ReadsOff (turn_by mark n w d o)
    outcome-reads (stored p v c) y ps fed m cs =
        let s = step_of mark n w d in
        let es = store_said mark n w d p v (fed refl) in
        let (takens, lasts, events) = store_keeps w.trace d (is_pc p && not (eqb w.world.left 0)) (eqb (rd (field Pc d)) 0) in
        let begins = stored-begun p v c s y (is_pc p) refl ps in
        let more = said d s (is_pc p) v in
        let reads : read_off (w.trace.events ++ more) ≡ read_from old more = read-append _ w.trace.events more in
        record {
          off = record {
            submits = takens ∙ (x.off.submits ∙ rw (es, events, taken-append, said-taken d s (is_pc p) v, append-nil));
            begins = turn-begun mark n w d p v c (fed refl) ∙ (begins ∙ rw (es, events) (ap (λ (z : Reading). z.begun) (sym reads)));
            admits = rw takens x.off.admits;
          };
          waits = λ e l. rw (lasts, m, cs e l, es, events, reads) (stored-waits p v c s y (is_pc p) refl ps e l);
        }
    outcome-reads (passed why c) y ps fed m cs =
        let e = moved d (step_of mark n w d) in
        let q = silent-moved d (step_of mark n w d) in
        record {
          off = noted-off w _ e q refl refl refl x.off;
          waits = λ f l. rw (cs f l, read-snoc w.trace.events e) (still-waits c ps f l);
        }
    outcome-reads (waiting b) y ps fed m cs =
        record {
          off = noted-off w _ (waited d b) (silent-waited d b) refl refl refl x.off;
          waits = λ f l. rw (read-snoc w.trace.events (waited d b)) (x.waits f l);
        }
    outcome-reads resting y ps fed m cs = x
    outcome-reads (refused q) y ps fed m cs = x

    turn-reads : Fed w (next_turn n w d) → ReadsOff (turn_by mark n w d (next_turn n w d))
    turn-reads fed =
        let ph = r.live.phase d dl in
        let says = turn-writes n rd d last cursor (r.locks d) (w.trace.jumps d) ph in
        let pends = pends-turn n rd d last cursor (r.locks d) (w.trace.jumps d) ph in
        outcome-reads (next_turn n w d) says pends fed (turned-memory mark n D cells w d r dl fed) (turned-cursors mark n D cells w d r dl)

  -- with no store left
  still-reads : (w : Traced) (d : ℕ) (o : Outcome) → w.world.left ≡ 0 → ReadOff w → ReadOff (turn_by mark n w d o)
  still-reads w d (stored p v c) z x =
      let none = eq-eqb w.world.left 0 z in
      record {
        submits = rw (none, and-false (is_pc p), append-nil) x.submits;
        begins = rw (none, and-false (is_pc p), append-nil) x.begins;
        admits = rw (none, and-false (is_pc p)) x.admits;
      }
  still-reads w d (passed why c) z x = noted-off w _ (moved d (step_of mark n w d)) (silent-moved d (step_of mark n w d)) refl refl refl x
  still-reads w d (waiting b) z x = noted-off w _ (waited d b) (silent-waited d b) refl refl refl x
  still-reads w d resting z x = x
  still-reads w d (refused r) z x = x

  -- ---- a submission

  module _
      (w : Traced) (d k : ℕ) (args ws : List ℕ) (wide : 8 ≤ n) (h : callable (submits d k args ws) ≡ true) (r : Running mark n D cells w)
      (t : TakenAs mark n w.world d k ws) where
    abbrev behind : Traced
    behind = submitted mark n w d k args ws (Ok tt)

    abbrev section : Given
    section = given d k args ws

    abbrev before : ℕ → List Given
    before = (read_off w.trace.events).pending

    submitted-off : ReadOff w → ReadOff behind
    submitted-off x =
        let l = dl mark n D cells w d k args ws wide (args-full d k args ws h) r t in
        record {
          submits = rw (taken-append, taken-one section, ← x.submits);
          begins = x.begins ∙ sym (begun-snoc w.trace.events (taken section));
          admits = admitted-append mark n D w.trace.taken (section ∷ []) x.admits (admitted-taken mark n D d k args ws l h (ap passes t.passes));
        }

    submitted-waits :
        ReadsOff w → (e : ℕ) → e < D
        → (read_off (w.trace.events ++ (taken section ∷ []))).pending e
        ≡ pending_of (at n behind.world.image (field Pc e)) (cursor_at behind.world.cursors e) (but w.trace.last d section e)
    submitted-waits x e l =
        let eight = args-full d k args ws h in
        let pcs = submitted-aside mark n D cells w d k args ws wide eight r t (field Pc e) refl in
        rw (read-snoc w.trace.events (taken section), pcs, submitted-cursors mark n D cells w d k args ws wide eight r t e l) (by (ℕ_discrete e d))
      where
        by :
            Dec (e ≡ d)
            → but before d (section ∷ []) e
            ≡ pending_of (at n w.world.image (field Pc e)) (but (cursor_at w.world.cursors) d (on 0 0) e) (but w.trace.last d section e)
        by (yes i) =
            let cursor = but_same (cursor_at w.world.cursors) d (on 0 0) in
            let starts = pend-start (at n w.world.image (field Pc d)) 0 t.pc in
            rw (i, but_same before d (section ∷ []), cursor, but_same w.trace.last d section, starts)
        by (no i) =
            let cursor = but-other (cursor_at w.world.cursors) d (on 0 0) e i in
            rw (but-other before d (section ∷ []) e i, cursor, but-other w.trace.last d section e i) (x.waits e l)

  -- ---- cuts and recoveries

  -- an event `lost` more
  lost-off :
      (w v : Traced) → v.trace.taken ≡ w.trace.taken → v.trace.begun ≡ w.trace.begun
      → v.trace.events ≡ w.trace.events ++ (lost ∷ []) → ReadOff w → ReadOff v
  lost-off w v a b c x =
      record {
        submits = a ∙ (x.submits ∙ rw (c, taken-append, taken-lost, append-nil));
        begins = b ∙ (x.begins ∙ rw (c, begun-snoc w.trace.events lost));
        admits = rw a x.admits;
      }

  module _ (w : Traced) (k : Worth mark n D cells w) where
    recovered-off : ReadOff w → ReadOff (recovered mark n w)
    recovered-off = lost-off w (recovered mark n w) refl refl refl

    recovered-reads : ReadOff w → ReadsOff (recovered mark n w)
    recovered-reads x =
        record {
          off = recovered-off x;
          waits = λ e l.
              let none = recovered-pending mark n D cells w k e l in
              rw none (events-lost e);
        }
      where
        events-lost : (e : ℕ) → (read_off (recovered mark n w).trace.events).pending e ≡ []
        events-lost e = rw (read-snoc w.trace.events lost)

  -- ---- every call

  pub reading-keeps : 8 ≤ n → n ≤ 64 → Keeps mark n D cells ReadsOff ReadOff (λ (x : Move) (m : Image). Unit {0})
  reading-keeps wide narrow =
      record {
        turn = λ w d r l fed x. turn-reads w d r l x fed;
        still = still-reads;
        worth = λ w x. x.off;
        lend = λ k w x. record { off = record { submits = x.off.submits; begins = x.off.begins; admits = x.off.admits }; waits = x.waits };
        lend-cut = λ k w x. record { submits = x.submits; begins = x.begins; admits = x.admits };
        submit = λ w d k args ws r h t left a x.
            record { off = submitted-off w d k args ws wide h r t x.off; waits = submitted-waits w d k args ws wide h r t x };
        submit-cut = λ w j d k args ws r h t a x. submitted-off w d k args ws wide h r t x.off;
        recover = λ w k left a x. recovered-reads w k x;
        recover-cut = λ w j k a x. recovered-off w k x;
        cut_off = λ w x. lost-off w _ refl refl refl x;
      }
