-- The invariant of a whole world between calls: running, with the cursors known, or cut, with only the image left; and that
-- every turn keeps it, whether a store is left for it or not.
use Prim.Native.Nat.{ℕ, ◌<◌, ◌≤◌}
use mathlib.Core.Path.{◌≡◌, refl, subst, ◌∙◌, sym, fun_ext}
use mathlib.Core.Bool.{Bool, true, false, cond, ◌&&◌, not}
use mathlib.Core.Option.{some}
use mathlib.Core.List.{List}
use lib.Dec.{eqb, ltb}
use borrow.Author.Tests.{lt-ltb, ne_eqb}
use native.Mathlib.Omega.{arith}
use Rattle.base.proofs.Bools.{and_both}
use Rattle.image.specs.declared.Field.TheVariants.{Pc}
use Rattle.image.specs.Place.{Place, field, valid, Memory}
use Rattle.image.specs.Inner.Same.{upd}
use Rattle.image.specs.Image.{Image, index_of, at, workers, header_ok, put}
use Rattle.image.proofs.Header.{Sized, header-sized, header-workers}
use Rattle.image.proofs.Stores.{header-store, workers-store}
use Rattle.code.specs.declared.Op.{Op}
use Rattle.code.specs.declared.Op.TheVariants.{Acquire, Release, Assign, Jump, Finish, Unknown}
use Rattle.working.specs.Cursor.{Cursor, cursor_at, placed}
use Rattle.plan.specs.Turn.{Outcome, stored, passed, waiting, resting as rests, refused, turn_at}
use Rattle.turn.specs.Call.{leaves}
use Rattle.working.proofs.Placed.{Full, sayable}
use Rattle.resuming.specs.Resumed.{target_turn}
use Rattle.claims.specs.Reference.{Given, State, follow, initial}
use Rattle.claims.specs.Events.{but}
use Rattle.claims.specs.Calls.{Traced, recording, is_pc, jumps_by, turn_trace, turn_by}
use Rattle.claims.proofs.Invariant.{op_at, held_at, Nearing, Phase, resting, fresh, due, unlocking, unlocked, between, ended, Live, Crashed, Mirrors}
use Rattle.claims.proofs.Turns.{Touches, in_record, own_word, own_cell, takes, frees, Stepped, Went}
use Rattle.claims.proofs.LiveTurn.{live-turn, but_same, but-self, live-cursors}
use Rattle.claims.proofs.AtStore.{memory-store}
use Rattle.claims.proofs.OwnTurn.{own_turn}
use Rattle.claims.proofs.MirrorTurn.{Mirrored, mirror-turn, mirror-still, mirror-counts, order-grows}
use Rattle.claims.proofs.Cursors.{full-set, full-held, cursors-placed}

-- the image has D workers, and stands for the state that the reference machine has reached over these cells
pub record Reached (mark n D : ℕ) (cells : List ℕ) (m : Image) (begun : List Given) (order : List ℕ) : Type 0 where
  pub header : header_ok mark n m ≡ true
  pub many : workers m ≡ D
  pub state : State
  pub followed : follow (initial n D cells begun) order ≡ some state
  pub mirrors : Mirrors n D (at n m) state

-- the cursors are known
pub record Running (mark n D : ℕ) (cells : List ℕ) (w : Traced) : Type 0 where
  pub reached : Reached mark n D cells w.world.image w.trace.begun w.trace.order
  pub full : Full w.world.cursors
  pub locks : ℕ → ℕ
  pub live : Live n D (at n w.world.image) (cursor_at w.world.cursors) locks w.trace.jumps w.trace.last

-- only the image counts, and no store is left
pub record Frozen (mark n D : ℕ) (cells : List ℕ) (w : Traced) : Type 0 where
  pub reached : Reached mark n D cells w.world.image w.trace.begun w.trace.order
  pub crashed : Crashed n D (at n w.world.image)
  pub spent : w.world.left ≡ 0

module _ (mark n D : ℕ) (cells : List ℕ) where
  pub running-sized : (w : Traced) → Reached mark n D cells w.world.image w.trace.begun w.trace.order → Sized n D w.world.image
  running-sized w r = subst (λ (k : ℕ). Sized n k w.world.image) r.many (header-sized mark n w.world.image r.header)

  pub few : (w : Traced) → Reached mark n D cells w.world.image w.trace.begun w.trace.order → D ≤ 8
  few w r = subst (λ (k : ℕ). k ≤ 8) r.many (header-workers mark n w.world.image r.header).1

-- ---- small facts

-- a place that a turn's store touches is one of the image's
pub touches-valid : (n D : ℕ) (rd : Memory) (d locks : ℕ) (p : Place) (v locks' : ℕ) → d < D → Touches n rd d locks p v locks' → valid D n p ≡ true
touches-valid n D rd d locks p v locks' l (in_record f w) = lt-ltb d D l
touches-valid n D rd d locks p v locks' l (own_word i w b) = and_both (ltb d D) (ltb i n) (lt-ltb d D l) (lt-ltb i n b)
touches-valid n D rd d locks p v locks' l (own_cell x w b h) = lt-ltb x 512 b
touches-valid n D rd d locks p v locks' l (takes a b h) = lt-ltb a 64 b
touches-valid n D rd d locks p v locks' l (frees a b h) = lt-ltb a 64 b

-- every cursor of a phase can be said in the record
nearing-early : (n : ℕ) (rd : Memory) (d s t h locks : ℕ) (x : Op) → Nearing n rd d s t h locks x → t ≤ 4
nearing-early n rd d s t h locks (Acquire a) m = m.0
nearing-early n rd d s t h locks (Release a) m = let l = m.0 in omega arith
nearing-early n rd d s t h locks (Assign a e) m = let l = m.0 in omega arith
nearing-early n rd d s t h locks (Jump a b) m = let l = m.0 in omega arith
nearing-early n rd d s t h locks Finish m = let l = m.0 in omega arith
nearing-early n rd d s t h locks Unknown z = absurd z

target-early : (x : Op) → target_turn x ≤ 5
target-early (Acquire a) = omega arith
target-early (Release a) = omega arith
target-early (Assign a e) = omega arith
target-early (Jump a b) = omega arith
target-early Finish = omega arith
target-early Unknown = omega arith

pub phase-sayable : (n : ℕ) (rd : Memory) (d : ℕ) (g : Given) (c : Cursor) (locks j : ℕ) → Phase n rd d g c locks j → sayable c
phase-sayable n rd d g c locks j (resting k p i o) = tt
phase-sayable n rd d g c locks j (fresh t l s h p o m) = let e = nearing-early n rd d 0 t 0 l (op_at n rd d 0) m in λ q. omega arith
phase-sayable n rd d g c locks j (due s l k m q) = let e = target-early (op_at n rd d s) in λ r. omega arith
phase-sayable n rd d g c locks j (unlocking s a l k m o w i q) = λ r. omega arith
phase-sayable n rd d g c locks j (unlocked s a l k m o w i q) = λ r. omega arith
phase-sayable n rd d g c locks j (between s k t l jj q m f u z o h y) = let e = nearing-early n rd d k t (held_at n rd d k) l (op_at n rd d k) y in λ r. omega
    arith
phase-sayable n rd d g c locks j (ended s k p o i b q) = λ r. omega arith

-- ---- a turn for which a store is left

module _ (mark n D : ℕ) (cells : List ℕ) (w : Traced) (d : ℕ) (r : Running mark n D cells w) (dl : d < D) (some_left : 0 < w.world.left) where
  abbrev rd : Memory
  rd = at n w.world.image

  -- an image after a store of worker d, with the state it stands for
  stored-reached :
      (p : Place) (v locks' : ℕ) (begun : List Given) (order : List ℕ) (s : State) → Touches n rd d (r.locks d) p v locks'
      → follow (initial n D cells begun) order ≡ some s
      → Mirrors n D (upd rd p v) s → Reached mark n D cells (put w.world.left w.world.image (index_of n p) v) begun order
  stored-reached p v locks' begun order s t f m =
      record {
        header = header-store n mark w.world.left w.world.image p v ∙ r.reached.header;
        many = workers-store n w.world.left w.world.image p v ∙ r.reached.many;
        state = s;
        followed = f;
        mirrors =
            subst (λ (x : Memory). Mirrors n D x s)
            (sym (memory-store n D w.world.image (running-sized mark n D cells w r.reached) w.world.left p v
            (touches-valid n D rd d (r.locks d) p v locks' dl t) some_left)) m;
      }

  -- what a turn leaves of the state that the image stands for
  turn-reached :
      (o : Outcome) → Stepped n rd d (w.trace.last d) (r.locks d) (w.trace.jumps d) o
      → Mirrored n D rd r.reached.state (w.trace.jumps d) (w.trace.last d) d o
      → Reached mark n D cells (leaves n w.world d o).image (turn_trace mark n w d o).begun (turn_trace mark n w d o).order
  turn-reached (stored p v c) (l, t, ph) mi = by (is_pc p) refl
    where
      by : (b : Bool) → is_pc p ≡ b
          → Reached mark n D cells (put w.world.left w.world.image (index_of n p) v)
          (cond (is_pc p && not (eqb w.world.left 0)) (recording w.trace d (eqb (rd (field Pc d)) 0)) w.trace).begun
          (cond (is_pc p && not (eqb w.world.left 0)) (recording w.trace d (eqb (rd (field Pc d)) 0)) w.trace).order
      by true h =
          let ne : eqb w.world.left 0 ≡ false = ne_eqb w.world.left 0 (λ q. omega arith) in
          let k = mirror-counts n D rd r.reached.state (w.trace.jumps d) (w.trace.last d) d p v c h mi in
          rw (h, ne)
          (stored-reached p v l (recording w.trace d (eqb (rd (field Pc d)) 0)).begun (recording w.trace d (eqb (rd (field Pc d)) 0)).order k.2.0 t
          (order-grows n D rd r.reached.state k.2.0 (w.trace.jumps d) (w.trace.last d) d cells w.trace.begun w.trace.order dl k.1
          r.reached.followed k.2.1)
          k.2.2)
      by false h =
          rw h
          (stored-reached p v l w.trace.begun w.trace.order r.reached.state t r.reached.followed
          (mirror-still n D rd r.reached.state (w.trace.jumps d) (w.trace.last d) d p v c h mi))
  turn-reached (passed why c) st mi = r.reached
  turn-reached (waiting b) st mi = r.reached
  turn-reached rests st mi = r.reached
  turn-reached (refused x) st mi = r.reached

  -- the phases, by the record of cursors
  placed-live :
      (rd' : Memory) (c : Cursor) (locks jumps : ℕ → ℕ) (last : ℕ → Given) → Live n D rd' (but (cursor_at w.world.cursors) d c) locks jumps last
      → Live n D rd' (cursor_at (placed w.world.cursors d c)) locks jumps last
  placed-live rd' c locks jumps last L =
      let say = subst (λ (x : Cursor). sayable x) (but_same (cursor_at w.world.cursors) d c)
      (phase-sayable n rd' d (last d) _ (locks d) (jumps d) (L.phase d dl)) in
      live-cursors n D rd' _ (cursor_at (placed w.world.cursors d c)) locks jumps last
      (cursors-placed D w.world.cursors d c r.full (few mark n D cells w r.reached) dl say) L

  -- and what a turn leaves of them
  turn-live :
      (o : Outcome) → Went n D rd (cursor_at w.world.cursors) r.locks w.trace.jumps w.trace.last d o
      → (locks' : ℕ → ℕ) × Live n D (at n (leaves n w.world d o).image) (cursor_at (leaves n w.world d o).cursors) locks' (turn_trace mark n w d o).jumps
      (turn_trace mark n w d o).last
  unfolding cursor_at
  turn-live (stored p v c) (l, t, L) =
      let e = memory-store n D w.world.image (running-sized mark n D cells w r.reached) w.world.left p v
      (touches-valid n D rd d (r.locks d) p v l dl t) some_left in
      let L' = subst (λ (x : Memory). Live n D x (cursor_at (placed w.world.cursors d c)) (but r.locks d l)
      (but w.trace.jumps d (cond (is_pc p) 0 (w.trace.jumps d))) w.trace.last) (sym e)
      (placed-live (upd rd p v) c (but r.locks d l) (but w.trace.jumps d (cond (is_pc p) 0 (w.trace.jumps d))) w.trace.last L)
      in
      (but r.locks d l, by (is_pc p) L')
    where
      left_over : eqb w.world.left 0 ≡ false
      left_over = ne_eqb w.world.left 0 (λ q. omega arith)

      by : (b : Bool)
          → Live n D (at n (put w.world.left w.world.image (index_of n p) v)) (cursor_at (placed w.world.cursors d c)) (but r.locks d l)
          (but w.trace.jumps d (cond b 0 (w.trace.jumps d))) w.trace.last
          → Live n D (at n (put w.world.left w.world.image (index_of n p) v)) (cursor_at (placed w.world.cursors d c)) (but r.locks d l)
          (cond (b && not (eqb w.world.left 0)) (recording w.trace d (eqb (rd (field Pc d)) 0)) w.trace).jumps
          (cond (b && not (eqb w.world.left 0)) (recording w.trace d (eqb (rd (field Pc d)) 0)) w.trace).last
      by true x = rw left_over x
      by false x =
          subst (λ (f : ℕ → ℕ). Live n D (at n (put w.world.left w.world.image (index_of n p) v)) (cursor_at (placed w.world.cursors d c))
          (but r.locks d l) f w.trace.last)
          (fun_ext (but-self w.trace.jumps d)) x
  turn-live (passed why c) L = (r.locks, placed-live rd c r.locks (but w.trace.jumps d (jumps_by why (w.trace.jumps d))) w.trace.last L)
  turn-live (waiting b) h = (r.locks, r.live)
  turn-live rests h = (r.locks, r.live)
  turn-live (refused x) h = (r.locks, r.live)

  turn-full : (o : Outcome) → Full (leaves n w.world d o).cursors
  turn-full (stored p v c) = full-held _ _ (full-set w.world.cursors d _ _ r.full)
  turn-full (passed why c) = full-set w.world.cursors d _ _ r.full
  turn-full (waiting b) = r.full
  turn-full rests = r.full
  turn-full (refused x) = r.full

  -- a turn for which a store is left keeps the world running
  pub running-turn : Running mark n D cells (turn_by mark n w d (turn_at n rd d (cursor_at w.world.cursors d)))
  running-turn =
      let o = turn_at n rd d (cursor_at w.world.cursors d) in
      let st =
      own_turn n rd d (w.trace.last d) (cursor_at w.world.cursors d) (r.locks d) (w.trace.jumps d) (r.live.phase d dl)
      (λ b l h. r.live.locked b d l dl h)
      (λ b l h. (r.live.owner b d l h).1)
      in
      let L = turn-live o (live-turn n D rd (cursor_at w.world.cursors) r.locks w.trace.jumps w.trace.last d o r.live dl st) in
      record {
        reached =
            turn-reached o st (mirror-turn n D rd (cursor_at w.world.cursors) r.locks w.trace.jumps w.trace.last r.live d dl
            r.reached.state r.reached.mirrors);
        full = turn-full o;
        locks = L.0;
        live = L.1;
      }
