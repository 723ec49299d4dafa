-- Every call keeps what the records tell (`telling-keeps`), and of a section which is not begun how its number stands to the finished one:
-- above it, or whatever more a submission has seen to. Worker by worker, the one whose turn or submission it is, and the others.
use Prim.Native.Nat.{ℕ, ◌<◌, ◌≤◌}
use mathlib.Core.Path.{◌≡◌, refl, sym, ap, subst, ◌∙◌}
use mathlib.Core.Logic.{◌≢◌}
use mathlib.Core.Bool.{Bool, true, false, cond, ◌&&◌, not, false≢true}
use mathlib.Core.List.{List, [], ◌∷◌, ◌++◌}
use lib.ListN.{length}
use lib.Dec.{eqb}
use borrow.Author.Tests.{ne_eqb, eq-eqb, eqb-true}
use native.Mathlib.Omega.{arith}
use native.Mathlib.Decide.{ℕ_discrete}
use Rattle.std.specs.Prelude.{Ok}
use Rattle.image.specs.declared.Field.{Field}
use Rattle.image.specs.declared.Field.TheVariants.{Count, Pc, Addr0, Val0, Addr1, Val1, Intent, Owned, Number, Finished}
use Rattle.image.specs.Place.{Place, cell, lock, field, own, step, Memory}
use Rattle.image.specs.Inner.Same.{upd}
use Rattle.image.specs.Image.{Image, at}
use Rattle.image.proofs.Places.{upd_same}
use Rattle.working.specs.Cursor.{Cursor, on, cursor_at}
use Rattle.plan.specs.Turn.{Outcome, stored, passed, waiting, resting, refused}
use Rattle.resuming.specs.Resumed.{resumed}
use Rattle.claims.specs.Reference.{Given}
use Rattle.claims.specs.Events.{but}
use Rattle.claims.specs.Calls.{Traced, is_pc, turn_by, recording, submits, Move, whole}
use Rattle.told.specs.Once.{numbers_of}
use Rattle.claims.proofs.LiveTurn.{but_same, but-other}
use Rattle.told.proofs.Writes.{WritesPc, Writes, Says, turn-writes}
use Rattle.claims.proofs.Pending.{pend, pend-begun, pend-idle, Passes, Pends, pends-turn}
use Rattle.claims.proofs.Stages.{stays}
use Rattle.claims.proofs.Submission.{aside}
use Rattle.claims.proofs.Worlds.{Running}
use Rattle.claims.proofs.Turning.{still}
use Rattle.claims.proofs.Called.{TakenAs}
use Rattle.claims.proofs.Played.{plenty, Worth}
use Rattle.claims.proofs.Moves.{args-full}
use Rattle.told.proofs.Keeping.{next_turn, Fed, submitted, recovered, Keeps}
use Rattle.told.proofs.Behind.{turn_memory, turn_cursor, turned-memory, turned-cursors}
use Rattle.told.proofs.Behind.{submitted-aside, submitted-number, submitted-cursors, recovered-fixed, recovered-cursors}
use Rattle.told.proofs.Numbers.{recorded-numbered, numbers-same, numbers-other}
use Rattle.claims.proofs.Entries.{apart_of}
use Rattle.told.proofs.Recorded.{TellsAt, tells-same, begun_behind, stored-tells, other-tells, fresh_kept, telling_of, aside-of}

-- ---- the sections begun behind a turn

-- a store, by whether it is one of the pc and whether that was 0
abbrev pub begun_then : List Given → Given → Bool → Bool → List Given
begun_then begun g pc starts = cond pc (cond starts (begun ++ (g ∷ [])) begun) begun

pub turn-begun :
    (mark n : ℕ) (w : Traced) (d : ℕ) (p : Place) (v : ℕ) (c : Cursor) → 0 < w.world.left
    → (turn_by mark n w d (stored p v c)).trace.begun ≡ begun_then w.trace.begun (w.trace.last d) (is_pc p) (eqb (at n w.world.image (field Pc d)) 0)
turn-begun mark n w d p v c l = by (is_pc p)
  where
    left_over : eqb w.world.left 0 ≡ false
    left_over = ne_eqb w.world.left 0 (λ q. omega arith)

    by :
        (b : Bool)
        → (cond (b && not (eqb w.world.left 0)) (recording w.trace d (eqb (at n w.world.image (field Pc d)) 0)) w.trace).begun
        ≡ begun_then w.trace.begun (w.trace.last d) b (eqb (at n w.world.image (field Pc d)) 0)
    by true = rw left_over
    by false = refl

pub begun-own :
    (d : ℕ) (begun : List Given) (g : Given) (b : Bool) (pc : ℕ) → (b ≡ true → pc ≡ 0 → g.worker ≡ d)
    → numbers_of d (begun_then begun g b (eqb pc 0)) ≡ begun_behind (numbers_of d begun) pc g.number b
begun-own d begun g false pc mine = refl
begun-own d begun g true pc mine = by (eqb pc 0) refl
  where
    by : (t : Bool) → eqb pc 0 ≡ t → numbers_of d (cond t (begun ++ (g ∷ [])) begun) ≡ cond t (numbers_of d begun ++ (g.number ∷ [])) (numbers_of d begun)
    by true e = numbers-same d begun g (mine refl (eqb-true pc 0 e))
    by false e = refl

pub begun-other :
    (e : ℕ) (begun : List Given) (g : Given) (b : Bool) (pc : ℕ) → (b ≡ true → pc ≡ 0 → g.worker ≢ e)
    → numbers_of e (begun_then begun g b (eqb pc 0)) ≡ numbers_of e begun
begun-other e begun g false pc apart = refl
begun-other e begun g true pc apart = by (eqb pc 0) refl
  where
    by : (t : Bool) → eqb pc 0 ≡ t → numbers_of e (cond t (begun ++ (g ∷ [])) begun) ≡ numbers_of e begun
    by true i = numbers-other e begun g (apart refl (eqb-true pc 0 i))
    by false i = refl

-- a store of a pc is one of the worker's own
pc-field :
    (n : ℕ) (rd : Memory) (d : ℕ) (g : Given) (e : ℕ) (v : ℕ) (f : Field) → Writes n rd d g (field f e) v → is_pc (field f e) ≡ true
    → field f e ≡ field Pc d
pc-field n rd d g e v Count s h = absurd (false≢true h)
pc-field n rd d g e v Pc s h = ap (field Pc) s.0
pc-field n rd d g e v Addr0 s h = absurd (false≢true h)
pc-field n rd d g e v Val0 s h = absurd (false≢true h)
pc-field n rd d g e v Addr1 s h = absurd (false≢true h)
pc-field n rd d g e v Val1 s h = absurd (false≢true h)
pc-field n rd d g e v Intent s h = absurd (false≢true h)
pc-field n rd d g e v Owned s h = absurd (false≢true h)
pc-field n rd d g e v Number s h = absurd (false≢true h)
pc-field n rd d g e v Finished s h = absurd (false≢true h)

pc-place : (n : ℕ) (rd : Memory) (d : ℕ) (g : Given) (p : Place) (v : ℕ) → Writes n rd d g p v → is_pc p ≡ true → p ≡ field Pc d
pc-place n rd d g (cell x) v s h = absurd (false≢true h)
pc-place n rd d g (lock b) v s h = absurd (false≢true h)
pc-place n rd d g (field f e) v s h = pc-field n rd d g e v f s h
pc-place n rd d g (own e i) v s h = absurd (false≢true h)
pc-place n rd d g (step e i) v s h = absurd (false≢true h)

pub pc-now : (n : ℕ) (rd : Memory) (d : ℕ) (g : Given) (p : Place) (v : ℕ) → Writes n rd d g p v → is_pc p ≡ true → upd rd p v (field Pc d) ≡ v
pc-now n rd d g p v s h = rw (pc-place n rd d g p v s h) (upd_same rd (field Pc d) v)

pub pc-writes : (n : ℕ) (rd : Memory) (d : ℕ) (g : Given) (p : Place) (v : ℕ) → Writes n rd d g p v → is_pc p ≡ true → WritesPc n rd d g v
pc-writes n rd d g p v s h = (subst (λ (q : Place). Writes n rd d g q v) (pc-place n rd d g p v s h) s).1

-- the section that it begins is the worker's
pub begins-own : (n : ℕ) (rd : Memory) (d : ℕ) (g : Given) (p : Place) (v : ℕ) → Writes n rd d g p v → is_pc p ≡ true → rd (field Pc d) ≡ 0 → g.worker ≡ d
begins-own n rd d g p v s h z = ((pc-writes n rd d g p v s h).0 z).1

-- where a recovery puts a worker its section is begun, or it has none
resumed-begun : (n : ℕ) (rd : Memory) (e : ℕ) → pend (rd (field Pc e)) (resumed n rd e) ≡ false
unfolding resumed
resumed-begun n rd e = by (ℕ_discrete (rd (field Pc e)) 0)
  where
    by : Dec (rd (field Pc e) ≡ 0) → pend (rd (field Pc e)) (resumed n rd e) ≡ false
    by (yes z) = rw (eq-eqb (rd (field Pc e)) 0 z) (pend-idle (rd (field Pc e)))
    by (no z) = pend-begun (rd (field Pc e)) (resumed n rd e) z

-- ---- which section is pending

module _ (mark n D : ℕ) (cells : List ℕ) where
  -- worker e's section is not begun
  abbrev pub pending : Traced → ℕ → Bool
  pending w e = pend (at n w.world.image (field Pc e)) (cursor_at w.world.cursors e)

  -- none is behind a recovery: it is withdrawn
  pub recovered-pending : (w : Traced) → Worth mark n D cells w → (e : ℕ) → e < D → pending (recovered mark n w) e ≡ false
  recovered-pending w k e l =
      rw (recovered-fixed mark n D cells w k (field Pc e) refl, recovered-cursors mark n D cells w k e l) (resumed-begun n (at n w.world.image) e)

-- ---- all workers

-- start: the finished numbers at the start; Q: how the number of a worker's section that is not begun stands to the finished one
module _ (mark n D : ℕ) (cells : List ℕ) (start : ℕ → ℕ) (Q : ℕ → ℕ → ℕ → Type 0) (above : (e f k : ℕ) → Q e f k → f < k) where
  abbrev pub Tells : Traced → Type 0
  Tells w = (e : ℕ) → e < D → TellsAt n (start e) (numbers_of e w.trace.begun) (at n w.world.image) e

  pub record Telling (w : Traced) : Type 0 where
    pub tells : Tells w
    pub newer : (e : ℕ) → e < D → pending mark n D cells w e ≡ true → Q e (at n w.world.image (field Finished e)) (at n w.world.image (field Number e))

  pending-pc : (pc : ℕ) (c : Cursor) → pend pc c ≡ true → pc ≡ 0
  pending-pc pc c h = by (ℕ_discrete pc 0)
    where
      by : Dec (pc ≡ 0) → pc ≡ 0
      by (yes e) = e
      by (no e) = absurd (false≢true (sym (pend-begun pc c e) ∙ h))

  -- ---- a turn

  module _ (w : Traced) (d : ℕ) (r : Running mark n D cells w) (dl : d < D) (x : Telling w) where
    abbrev rd : Memory
    rd = at n w.world.image

    abbrev cursors : ℕ → Cursor
    cursors = cursor_at w.world.cursors

    abbrev cursor : Cursor
    cursor = cursors d

    abbrev last : Given
    last = w.trace.last d

    -- where the pc was 0 and is stored, the record's number is above the finished one
    abbrev New : Place → Type 0
    New p = rd (field Pc d) ≡ 0 → is_pc p ≡ true → rd (field Finished d) < rd (field Number d)

    -- the sections begun behind a store
    abbrev begun_now : Place → List Given
    begun_now p = begun_then w.trace.begun last (is_pc p) (eqb (rd (field Pc d)) 0)

    -- what a store leaves, worker by worker
    stored_at :
        (p : Place) (v : ℕ) → Writes n rd d last p v → New p → (e : ℕ) → e < D → TellsAt n (start e) (numbers_of e (begun_now p)) (upd rd p v) e
    stored_at p v s new e l = by (ℕ_discrete e d)
      where
        by : Dec (e ≡ d) → TellsAt n (start e) (numbers_of e (begun_now p)) (upd rd p v) e
        by (yes i) =
            rw (i, begun-own d w.trace.begun last (is_pc p) (rd (field Pc d)) (begins-own n rd d last p v s))
            (stored-tells n (start d) (numbers_of d w.trace.begun) rd d last (x.tells d dl) p v s new)
        by (no i) =
            rw (begun-other e w.trace.begun last (is_pc p) (rd (field Pc d)) (λ h z q. i (sym q ∙ begins-own n rd d last p v s h z)))
            (other-tells n (start e) (numbers_of e w.trace.begun) rd d last e i p v s (x.tells e l))

    -- a pc that was 0 is stored only for a section that was pending
    stored-new : (p : Place) (v : ℕ) (c : Cursor) → Passes (rd (field Pc d)) cursor v c (is_pc p) → New p
    stored-new p v c ps z h = above d _ _ (x.newer d dl ((subst (Passes (rd (field Pc d)) cursor v c) h ps).0 ∙ eq-eqb (rd (field Pc d)) 0 z))

    -- and stays so until then
    stored-newer :
        (p : Place) (v : ℕ) (c : Cursor) → Writes n rd d last p v → Passes (rd (field Pc d)) cursor v c (is_pc p) → (e : ℕ) → e < D
        → pend (upd rd p v (field Pc e)) (but cursors d c e) ≡ true → Q e (upd rd p v (field Finished e)) (upd rd p v (field Number e))
    stored-newer p v c s ps e l h = by (ℕ_discrete e d) (is_pc p) refl ps
      where
        by : Dec (e ≡ d) → (b : Bool) → is_pc p ≡ b → Passes (rd (field Pc d)) cursor v c b → Q e (upd rd p v (field Finished e)) (upd rd p v (field Number e))
        by (no i) b q y =
            let t = eq-eqb e e refl in
            let a = aside-of n rd d last e i p v s in
            let old : pend (rd (field Pc e)) (cursors e) ≡ true = rw (apart_of (telling_of e) (field Pc e) p t a, but-other cursors d c e i) at h in
            rw (apart_of (telling_of e) (field Finished e) p t a, apart_of (telling_of e) (field Number e) p t a) (x.newer e l old)
        by (yes i) false q y =
            let pc : upd rd p v (field Pc d) ≡ rd (field Pc d) = rw (apart_of is_pc (field Pc d) p refl q) in
            let old : pend (rd (field Pc d)) cursor ≡ true = y ∙ (rw (i, pc, but_same cursors d c) at h) in
            let k = fresh_kept n rd d last p v s (pending-pc (rd (field Pc d)) cursor old) in
            rw (i, k.0, k.1) (x.newer d dl old)
        by (yes i) true q y =
            let now : upd rd p v (field Pc d) ≡ v = pc-now n rd d last p v s q in
            absurd (false≢true (sym y.1 ∙ (rw (i, now, but_same cursors d c) at h)))

    -- nothing is stored
    still-newer :
        (c : Cursor) → pend (rd (field Pc d)) cursor ≡ pend (rd (field Pc d)) c → (e : ℕ) → e < D → pend (rd (field Pc e)) (but cursors d c e) ≡ true
        → Q e (rd (field Finished e)) (rd (field Number e))
    still-newer c q e l h = by (ℕ_discrete e d)
      where
        by : Dec (e ≡ d) → Q e (rd (field Finished e)) (rd (field Number e))
        by (yes i) = rw i (x.newer d dl (q ∙ (rw (i, but_same cursors d c) at h)))
        by (no i) = x.newer e l (rw (but-other cursors d c e i) at h)

    -- a turn, by its outcome: the memory and the cursors behind it are known
    outcome-telling :
        (o : Outcome) → Says n rd d last o → Pends (rd (field Pc d)) cursor o → Fed w o → at n (turn_by mark n w d o).world.image ≡ turn_memory rd o
        → ((e : ℕ) → e < D → cursor_at (turn_by mark n w d o).world.cursors e ≡ but cursors d (turn_cursor cursor o) e) → Telling (turn_by mark n w d o)
    outcome-telling (stored p v c) s ps fed m cs =
        record {
          tells = λ e l. rw (turn-begun mark n w d p v c (fed refl), m) (stored_at p v s (stored-new p v c ps) e l);
          newer = λ e l h. rw m (stored-newer p v c s ps e l (rw (m, cs e l) at h));
        }
    outcome-telling (passed why c) s ps fed m cs = record { tells = x.tells; newer = λ e l h. still-newer c ps e l (rw (cs e l) at h) }
    outcome-telling (waiting b) s ps fed m cs = record { tells = x.tells; newer = x.newer }
    outcome-telling resting s ps fed m cs = record { tells = x.tells; newer = x.newer }
    outcome-telling (refused q) s ps fed m cs = record { tells = x.tells; newer = x.newer }

    turn-telling : Fed w (next_turn n w d) → Telling (turn_by mark n w d (next_turn n w d))
    turn-telling fed =
        let ph = r.live.phase d dl in
        let says = turn-writes n rd d last cursor (r.locks d) (w.trace.jumps d) ph in
        let pends = pends-turn n rd d last cursor (r.locks d) (w.trace.jumps d) ph in
        outcome-telling (next_turn n w d) says pends fed (turned-memory mark n D cells w d r dl fed) (turned-cursors mark n D cells w d r dl)

  -- with no store left
  still-tells : (w : Traced) (d : ℕ) (o : Outcome) → w.world.left ≡ 0 → Tells w → Tells (turn_by mark n w d o)
  still-tells w d (stored p v c) z t = let s = still mark n D cells w d p v c z in λ e l. rw (s.0, s.2) (t e l)
  still-tells w d (passed why c) z t = t
  still-tells w d (waiting b) z t = t
  still-tells w d resting z t = t
  still-tells w d (refused r) z t = t

  -- ---- a submission

  module _
      (w : Traced) (d k : ℕ) (args ws : List ℕ) (wide : 8 ≤ n) (eight : length args ≡ 8) (r : Running mark n D cells w)
      (t : TakenAs mark n w.world d k ws) (x : Telling w) where
    abbrev behind : Memory
    behind = at n (submitted mark n w d k args ws (Ok tt)).world.image

    kept : (q : Place) → aside d q ≡ true → behind q ≡ at n w.world.image q
    kept = submitted-aside mark n D cells w d k args ws wide eight r t

    submitted-tells : Tells (submitted mark n w d k args ws (Ok tt))
    submitted-tells e l = by (ℕ_discrete e d)
      where
        by : Dec (e ≡ d) → TellsAt n (start e) (numbers_of e w.trace.begun) behind e
        by (yes i) =
            let a = x.tells d (rw i at l) in
            rw i
            (record {
              numbers = rw (kept (field Pc d) refl, kept (field Finished d) refl) (recorded-numbered _ _ _ _ _ a.numbers (behind (field Number d)) t.pc);
              closing = λ z q. absurd (z (kept (field Pc d) refl ∙ t.pc));
            })
        by (no i) =
            let h = ne_eqb e d i in
            tells-same n (start e) (numbers_of e w.trace.begun) (at n w.world.image) behind e
            (kept (field Pc e) refl) (kept (field Number e) (rw h)) (kept (field Finished e) refl) (λ j. kept (step e j) (rw h)) (x.tells e l)

    submitted-newer :
        n ≤ 64 → plenty mark n D cells ≤ w.world.left → Q d (at n w.world.image (field Finished d)) k → (e : ℕ) → e < D
        → pending mark n D cells (submitted mark n w d k args ws (Ok tt)) e ≡ true → Q e (behind (field Finished e)) (behind (field Number e))
    submitted-newer narrow left new e l h = by (ℕ_discrete e d)
      where
        by : Dec (e ≡ d) → Q e (behind (field Finished e)) (behind (field Number e))
        by (yes i) = rw (i, kept (field Finished d) refl, submitted-number mark n D cells w d k args ws wide eight r t narrow left) new
        by (no i) =
            let q = ne_eqb e d i in
            let stays = but-other (cursor_at w.world.cursors) d (on 0 0) e i in
            let old : pending mark n D cells w e ≡ true =
            rw (kept (field Pc e) refl, submitted-cursors mark n D cells w d k args ws wide eight r t e l, stays) at h
            in
            rw (kept (field Finished e) refl, kept (field Number e) (rw q)) (x.newer e l old)

  -- ---- a recovery

  module _ (w : Traced) (k : Worth mark n D cells w) where
    fixed : (q : Place) → stays q ≡ true → at n (recovered mark n w).world.image q ≡ at n w.world.image q
    fixed = recovered-fixed mark n D cells w k

    recovered-begun : (recovered mark n w).trace.begun ≡ w.trace.begun
    recovered-begun = refl

    recovered-tells : Tells w → Tells (recovered mark n w)
    recovered-tells t e l =
        rw recovered-begun
        (tells-same n (start e) (numbers_of e w.trace.begun) (at n w.world.image) _ e
        (fixed (field Pc e) refl) (fixed (field Number e) refl) (fixed (field Finished e) refl) (λ j. fixed (step e j) refl) (t e l))

  -- ---- every call

  -- A: what a submission sees to
  pub telling-keeps :
      (A : Move → Image → Type 0)
      → ((m : Image) (d k : ℕ) (args ws : List ℕ) → A (whole (submits d k args ws)) m → at n m (field Finished d) < k → Q d (at n m (field Finished d)) k)
      → 8 ≤ n → n ≤ 64 → Keeps mark n D cells Telling Tells A
  telling-keeps A new wide narrow =
      record {
        turn = λ w d r l fed x. turn-telling w d r l x fed;
        still = still-tells;
        worth = λ w x. x.tells;
        lend = λ k w x. record { tells = x.tells; newer = x.newer };
        lend-cut = λ k w t. t;
        submit = λ w d k args ws r h t left a x.
            let eight = args-full d k args ws h in
            let q = new w.world.image d k args ws a t.numbered in
            record { tells = submitted-tells w d k args ws wide eight r t x; newer = submitted-newer w d k args ws wide eight r t x narrow left q };
        submit-cut = λ w j d k args ws r h t a x. submitted-tells w d k args ws wide (args-full d k args ws h) r t x;
        recover = λ w k left a t.
            let none = recovered-pending mark n D cells w k in
            record { tells = recovered-tells w k t; newer = λ e l h. absurd (false≢true (sym (none e l) ∙ h)) };
        recover-cut = λ w j k a t. recovered-tells w k t;
        cut_off = λ w t. t;
      }
