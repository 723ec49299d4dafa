-- The sections taken and the sections begun, worker by worker: a worker's sections taken are those begun, in the same order, and
-- then the one that is pending, where one is (`Paired`). Every turn of a world that runs keeps that, by its outcome.
use Prim.Native.Nat.{ℕ, ◌<◌}
use mathlib.Core.Path.{◌≡◌, refl, sym, subst, ◌∙◌}
use mathlib.Core.Logic.{◌≢◌}
use mathlib.Core.Bool.{Bool, true, false, cond}
use mathlib.Core.List.{List, [], ◌∷◌, ◌++◌, append-nil}
use native.Mathlib.Omega.{arith}
use native.Mathlib.Decide.{ℕ_discrete}
use lib.Dec.{eqb}
use borrow.Author.Tests.{ne_eqb, eq-eqb, eqb-true}
use Rattle.image.specs.declared.Field.TheVariants.{Pc}
use Rattle.image.specs.Place.{field, Memory}
use Rattle.image.specs.Inner.Same.{upd}
use Rattle.image.specs.Image.{index_of, at, put}
use Rattle.working.specs.Cursor.{Cursor, cursor_at, placed}
use Rattle.plan.specs.Turn.{Outcome, stored, passed, waiting, resting, refused, turn_at}
use Rattle.working.proofs.Placed.{placed_same, held-cursor, placed-other}
use Rattle.turn.specs.Call.{held_by}
use Rattle.claims.specs.Reference.{Given}
use Rattle.claims.specs.Calls.{Traced, is_pc, turn_by}
use Rattle.claims.specs.Claims.{of_worker}
use Rattle.claims.proofs.Invariant.{Phase}
use Rattle.claims.proofs.Turns.{Stepped}
use Rattle.claims.proofs.AtStore.{memory-store}
use Rattle.claims.proofs.OwnTurn.{own_turn}
use Rattle.claims.proofs.Entries.{apart_of}
use Rattle.claims.proofs.MirrorTurn.{Mirrored, mirror-turn, mirror-counts}
use Rattle.claims.proofs.Worlds.{Running, running-sized, few, touches-valid, phase-sayable}
use Rattle.claims.proofs.Feeding.{of-snoc-same, of-snoc-other}
use Rattle.claims.proofs.Pending.{pend, Passes, Pends, pends-turn}

-- ---- one worker: sections taken and begun, its pc and cursor, its section last taken

unfoldable pub PairedAt : ℕ → List Given → List Given → ℕ → Cursor → Given → Type 0
PairedAt e taken begun pc c g = of_worker e taken ≡ of_worker e begun ++ cond (pend pc c) (g ∷ []) []

pub paired-as : (e : ℕ) (taken begun : List Given) (pc pc' : ℕ) (c c' : Cursor) (g : Given) → PairedAt e taken begun pc c g → pc ≡ pc' → c ≡ c'
    → PairedAt e taken begun pc' c' g
paired-as e taken begun pc pc' c c' g x p q = subst (λ (y : Cursor). PairedAt e taken begun pc' y g) q (subst (λ (y : ℕ). PairedAt e taken begun y c g) p x)

-- what is pending stays so
paired-still : (e : ℕ) (taken begun : List Given) (pc : ℕ) (c c' : Cursor) (g : Given) → PairedAt e taken begun pc c g → pend pc c ≡ pend pc c'
    → PairedAt e taken begun pc c' g
unfolding PairedAt
paired-still e taken begun pc c c' g x p = rw (← p) x

-- nothing is pending
pub paired_none : (e : ℕ) (taken begun : List Given) (pc : ℕ) (c : Cursor) (g : Given) → PairedAt e taken begun pc c g → pend pc c ≡ false
    → of_worker e taken ≡ of_worker e begun
unfolding PairedAt
paired_none e taken begun pc c g x p = x ∙ rw p (append-nil (of_worker e begun))

-- the pc is stored: what was pending is begun
paired-begins :
    (e : ℕ) (taken begun : List Given) (pc : ℕ) (c : Cursor) (g : Given) (v : ℕ) (c' : Cursor) → PairedAt e taken begun pc c g → Passes pc c v c' true
    → (pc ≡ 0 → g.worker ≡ e)
    → PairedAt e taken (cond (eqb pc 0) (begun ++ (g ∷ [])) begun) v c' g
unfolding PairedAt
paired-begins e taken begun pc c g v c' x (p, q) own = by (eqb pc 0) refl (rw p at x)
  where
    by : (b : Bool) → eqb pc 0 ≡ b → of_worker e taken ≡ of_worker e begun ++ cond b (g ∷ []) []
        → of_worker e taken ≡ of_worker e (cond b (begun ++ (g ∷ [])) begun) ++ cond (pend v c') (g ∷ []) []
    by true h y = rw (q, append-nil, of-snoc-same e begun g (own (eqb-true pc 0 h))) y
    by false h y = rw q y

-- a section of another worker is begun, or none
paired-other :
    (e : ℕ) (taken begun : List Given) (pc : ℕ) (c : Cursor) (g h : Given) (d : ℕ) (b : Bool) → e ≢ d → (b ≡ true → h.worker ≡ d)
    → PairedAt e taken begun pc c g
    → PairedAt e taken (cond b (begun ++ (h ∷ [])) begun) pc c g
unfolding PairedAt
paired-other e taken begun pc c g h d true i own x = rw (of-snoc-other e begun h (λ q. i (sym q ∙ own refl))) x
paired-other e taken begun pc c g h d false i own x = x

-- ---- all workers

module _ (mark n D : ℕ) (cells : List ℕ) where
  abbrev pub Paired : Traced → Type 0
  Paired w = (e : ℕ) → e < D → PairedAt e w.trace.taken w.trace.begun (at n w.world.image (field Pc e)) (cursor_at w.world.cursors e)
      (w.trace.last e)

  module _ (w : Traced) (d : ℕ) (r : Running mark n D cells w) (dl : d < D) (some_left : 0 < w.world.left) (paired : Paired w) where
    abbrev rd : Memory
    rd = at n w.world.image

    abbrev cursor : Cursor
    cursor = cursor_at w.world.cursors d

    cursor-now : (rd' : Memory) (c : Cursor) (locks j : ℕ) → Phase n rd' d (w.trace.last d) c locks j → c ≡ cursor_at (placed w.world.cursors d c) d
    cursor-now rd' c locks j ph =
        let k = few mark n D cells w r.reached in
        sym (placed_same w.world.cursors d c r.full (omega arith) (phase-sayable n rd' d (w.trace.last d) c locks j ph))

    -- a turn that leaves the pcs
    still-paired :
        (rd' : Memory) (c : Cursor) → c ≡ cursor_at (placed w.world.cursors d c) d → pend (rd (field Pc d)) cursor ≡ pend (rd (field Pc d)) c
        → ((e : ℕ) → rd (field Pc e) ≡ rd' (field Pc e)) → (e : ℕ) → e < D
        → PairedAt e w.trace.taken w.trace.begun (rd' (field Pc e)) (cursor_at (placed w.world.cursors d c) e) (w.trace.last e)
    still-paired rd' c now p pcs e l = by (ℕ_discrete e d)
      where
        by : Dec (e ≡ d) → PairedAt e w.trace.taken w.trace.begun (rd' (field Pc e)) (cursor_at (placed w.world.cursors d c) e) (w.trace.last e)
        by (yes i) = rw i (paired-as d _ _ _ _ _ _ _ (paired-still d _ _ _ _ c _ (paired d dl) p) (pcs d) now)
        by (no i) = paired-as e _ _ _ _ _ _ _ (paired e l) (pcs e) (sym (placed-other w.world.cursors d e c i))

    -- a store of the pc
    begins-paired :
        (v : ℕ) (c : Cursor) → c ≡ cursor_at (placed w.world.cursors d c) d → Passes (rd (field Pc d)) cursor v c true
        → (rd (field Pc d) ≡ 0 → (w.trace.last d).worker ≡ d) → (e : ℕ) → e < D
        → PairedAt e w.trace.taken (cond (eqb (rd (field Pc d)) 0) (w.trace.begun ++ (w.trace.last d ∷ [])) w.trace.begun)
        (upd rd (field Pc d) v (field Pc e))
        (cursor_at (placed w.world.cursors d c) e) (w.trace.last e)
    begins-paired v c now p own e l = by (ℕ_discrete e d)
      where
        by : Dec (e ≡ d)
            → PairedAt e w.trace.taken (cond (eqb (rd (field Pc d)) 0) (w.trace.begun ++ (w.trace.last d ∷ [])) w.trace.begun)
            (upd rd (field Pc d) v (field Pc e))
            (cursor_at (placed w.world.cursors d c) e) (w.trace.last e)
        by (yes i) =
            let x = paired-begins d w.trace.taken w.trace.begun (rd (field Pc d)) cursor (w.trace.last d) v c (paired d dl) p own in
            rw i (paired-as d _ _ _ _ _ _ _ x (rw (eq-eqb d d refl)) now)
        by (no i) =
            let x = paired-other e w.trace.taken w.trace.begun _ _ _ (w.trace.last d) d (eqb (rd (field Pc d)) 0) i
            (λ h. own (eqb-true (rd (field Pc d)) 0 h)) (paired e l) in
            paired-as e _ _ _ _ _ _ _ x (rw (ne_eqb e d i)) (sym (placed-other w.world.cursors d e c i))

    outcome-paired :
        (o : Outcome) → Stepped n rd d (w.trace.last d) (r.locks d) (w.trace.jumps d) o
        → Mirrored n D rd r.reached.state (w.trace.jumps d) (w.trace.last d) d o
        → Pends (rd (field Pc d)) cursor o → Paired (turn_by mark n w d o)
    outcome-paired (stored p v c) (locks', t, ph) mi x = by (is_pc p) refl x
      where
        left_over : eqb w.world.left 0 ≡ false
        left_over = ne_eqb w.world.left 0 (λ q. omega arith)

        now : c ≡ cursor_at (placed w.world.cursors d c) d
        now = cursor-now (upd rd p v) c locks' (cond (is_pc p) 0 (w.trace.jumps d)) ph

        held : (e : ℕ) → cursor_at (turn_by mark n w d (stored p v c)).world.cursors e ≡ cursor_at (placed w.world.cursors d c) e
        held = held-cursor (held_by p v w.world.cursors.held) (placed w.world.cursors d c)

        memory : at n (put w.world.left w.world.image (index_of n p) v) ≡ upd rd p v
        memory =
            memory-store n D w.world.image (running-sized mark n D cells w r.reached) w.world.left p v
            (touches-valid n D rd d (r.locks d) p v locks' dl t) some_left

        by : (b : Bool) → is_pc p ≡ b → Passes (rd (field Pc d)) cursor v c b → Paired (turn_by mark n w d (stored p v c))
        by true h y e l =
            let k = mirror-counts n D rd r.reached.state (w.trace.jumps d) (w.trace.last d) d p v c h mi in
            rw (h, left_over, memory, held e, k.0) (begins-paired v c now y k.1 e l)
        by false h y e l =
            rw (h, memory, held e) (still-paired (upd rd p v) c now y (λ f. rw (apart_of is_pc (field Pc f) p refl h)) e l)
    outcome-paired (passed why c) ph mi x = still-paired rd c (cursor-now rd c _ _ ph) x (λ e. refl)
    outcome-paired (waiting b) st mi x = paired
    outcome-paired resting st mi x = paired
    outcome-paired (refused q) st mi x = paired

    -- a turn for which a store is left
    pub paired-turn : Paired (turn_by mark n w d (turn_at n rd d cursor))
    paired-turn =
        outcome-paired (turn_at n rd d cursor)
        (own_turn n rd d (w.trace.last d) cursor (r.locks d) (w.trace.jumps d) (r.live.phase d dl) (λ b l h. r.live.locked b d l dl h)
        (λ b l h. (r.live.owner b d l h).1))
        (mirror-turn n D rd (cursor_at w.world.cursors) r.locks w.trace.jumps w.trace.last r.live d dl r.reached.state
        r.reached.mirrors)
        (pends-turn n rd d (w.trace.last d) cursor (r.locks d) (w.trace.jumps d) (r.live.phase d dl))
