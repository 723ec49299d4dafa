-- What stands behind a call, as facts of memories and cursors that whatever else is kept can be read off: the memory and the cursors
-- behind a turn (`turned-memory`, `turned-cursors`), the words that a submission leaves (`submitted-aside`), and those that a recovery
-- does, with the cursors behind it (`recovered-fixed`, `recovered-cursors`).
use Prim.Native.Nat.{ℕ, ◌^◌, ◌-◌, ◌<◌, ◌≤◌}
use mathlib.Core.Path.{◌≡◌, refl, sym, ◌∙◌}
use mathlib.Core.Bool.{true}
use mathlib.Core.List.{List}
use lib.ListN.{length}
use lib.Seq.{take_all}
use native.Mathlib.Omega.{arith}
use Rattle.std.specs.Prelude.{Ok}
use Rattle.image.specs.declared.Field.TheVariants.{Number}
use Rattle.image.specs.Place.{Place, field, Memory}
use Rattle.image.specs.Inner.Same.{upd}
use Rattle.image.specs.Image.{at, workers}
use Rattle.image.proofs.Header.{header-workers}
use Rattle.section.specs.Check.{code_of}
use Rattle.section.proofs.Facts.{check-parts}
use Rattle.working.specs.Cursor.{Cursor, on, cursor_at, placed}
use Rattle.plan.specs.Turn.{Outcome, stored, passed, waiting, resting, refused}
use Rattle.intake.specs.Submit.{submission}
use Rattle.working.proofs.Placed.{sayable, held-cursor}
use Rattle.intake.proofs.Submission.{submission-length}
use Rattle.resuming.specs.Resumed.{resumed}
use Rattle.claims.specs.Events.{but}
use Rattle.claims.specs.Calls.{Traced, turn_by}
use Rattle.claims.proofs.Turns.{Stepped}
use Rattle.claims.proofs.AtStore.{memory-store}
use Rattle.claims.proofs.LiveTurn.{but-self}
use Rattle.claims.proofs.Covers.{crashed-parts}
use Rattle.claims.proofs.Stages.{stays, plan-kept}
use Rattle.claims.proofs.Submission.{Aside, submission-aside}
use Rattle.claims.proofs.Laid.{submission-laid}
use Rattle.claims.proofs.RecoveryImage.{resumed-cursor, recovery-at}
use Rattle.claims.proofs.Worlds.{Running, running-sized, few, touches-valid, phase-sayable}
use Rattle.claims.proofs.Settling.{steps}
use Rattle.claims.proofs.Called.{TakenAs, accepts, crash, submitted-at, dl}
use Rattle.claims.proofs.Cursors.{cursors-placed}
use Rattle.claims.proofs.Played.{Worth}
use Rattle.told.proofs.Keeping.{next_turn, Fed, submitted, recovered}

-- ---- a turn

-- the memory and the worker's cursor, by the turn's outcome
abbrev pub turn_memory : Memory → Outcome → Memory
turn_memory rd (stored p v c) = upd rd p v
turn_memory rd (passed why c) = rd
turn_memory rd (waiting b) = rd
turn_memory rd resting = rd
turn_memory rd (refused r) = rd

abbrev pub turn_cursor : Cursor → Outcome → Cursor
turn_cursor x (stored p v c) = c
turn_cursor x (passed why c) = c
turn_cursor x (waiting b) = x
turn_cursor x resting = x
turn_cursor x (refused r) = x

module _ (mark n D : ℕ) (cells : List ℕ) (w : Traced) (d : ℕ) (r : Running mark n D cells w) (dl : d < D) where
  abbrev rd : Memory
  rd = at n w.world.image

  abbrev cursors : ℕ → Cursor
  cursors = cursor_at w.world.cursors

  memory-by :
      (o : Outcome) → Stepped n rd d (w.trace.last d) (r.locks d) (w.trace.jumps d) o → Fed w o
      → at n (turn_by mark n w d o).world.image ≡ turn_memory rd o
  memory-by (stored p v c) (l, t, ph) fed =
      memory-store n D w.world.image (running-sized mark n D cells w r.reached) w.world.left p v
      (touches-valid n D rd d (r.locks d) p v l dl t) (fed refl)
  memory-by (passed why c) s fed = refl
  memory-by (waiting b) s fed = refl
  memory-by resting s fed = refl
  memory-by (refused x) s fed = refl

  pub turned-memory : Fed w (next_turn n w d) → at n (turn_by mark n w d (next_turn n w d)).world.image ≡ turn_memory rd (next_turn n w d)
  turned-memory fed = memory-by (next_turn n w d) (steps mark n D cells w d r dl) fed

  placed_by : (c : Cursor) → sayable c → (e : ℕ) → e < D → cursor_at (placed w.world.cursors d c) e ≡ but cursors d c e
  placed_by c say e l = sym (cursors-placed D w.world.cursors d c r.full (few mark n D cells w r.reached) dl say e l)

  cursors-by :
      (o : Outcome) → Stepped n rd d (w.trace.last d) (r.locks d) (w.trace.jumps d) o → (e : ℕ) → e < D
      → cursor_at (turn_by mark n w d o).world.cursors e ≡ but cursors d (turn_cursor (cursors d) o) e
  cursors-by (stored p v c) (l, t, ph) e h =
      held-cursor _ (placed w.world.cursors d c) e ∙ placed_by c (phase-sayable n (upd rd p v) d (w.trace.last d) c l _ ph) e h
  cursors-by (passed why c) ph e h = placed_by c (phase-sayable n rd d (w.trace.last d) c (r.locks d) _ ph) e h
  cursors-by (waiting b) s e h = sym (but-self cursors d e)
  cursors-by resting s e h = sym (but-self cursors d e)
  cursors-by (refused x) s e h = sym (but-self cursors d e)

  pub turned-cursors :
      (e : ℕ) → e < D
      → cursor_at (turn_by mark n w d (next_turn n w d)).world.cursors e ≡ but cursors d (turn_cursor (cursors d) (next_turn n w d)) e
  turned-cursors = cursors-by (next_turn n w d) (steps mark n D cells w d r dl)

-- ---- a submission, of any number of stores

module _
    (mark n D : ℕ) (cells : List ℕ) (w : Traced) (d k : ℕ) (args ws : List ℕ) (wide : 8 ≤ n) (eight : length args ≡ 8) (r : Running mark n D cells w)
    (t : TakenAs mark n w.world d k ws) where
  abbrev behind : Memory
  behind = at n (submitted mark n w d k args ws (Ok tt)).world.image

  abbrev before : Memory
  before = at n w.world.image

  -- every word but those of worker d's number, own words, instructions and count
  pub submitted-aside : Aside d before behind
  submitted-aside q h =
      rw (submitted-at mark n D cells w d k args ws wide eight r t w.world.left) (submission-aside n d k args ws before t.count w.world.left q h)

  pub submitted-number : n ≤ 64 → 2 ^ 64 - 1 ≤ w.world.left → behind (field Number d) ≡ k
  submitted-number narrow l =
      let c = (check-parts n (length ws) (code_of ws) t.passes).1 in
      let z = submission-length n d k args ws eight wide in
      rw (submitted-at mark n D cells w d k args ws wide eight r t w.world.left, take_all w.world.left (submission n d k args ws) (omega arith))
      (submission-laid n before d k args ws).number

  pub submitted-cursors :
      (e : ℕ) → e < D → cursor_at (submitted mark n w d k args ws (Ok tt)).world.cursors e ≡ but (cursor_at w.world.cursors) d (on 0 0) e
  submitted-cursors e l =
      let below = dl mark n D cells w d k args ws wide eight r t in
      sym (cursors-placed D w.world.cursors d (on 0 0) r.full (few mark n D cells w r.reached) below (λ z. omega arith) e l)

-- ---- a recovery, of any number of stores

module _ (mark n D : ℕ) (cells : List ℕ) (w : Traced) (k : Worth mark n D cells w) where
  -- every word but owner words, intents and counts
  pub recovered-fixed : (q : Place) → stays q ≡ true → at n (recovered mark n w).world.image q ≡ at n w.world.image q
  recovered-fixed q h =
      let m = w.world.image in
      let c = crash mark n D cells m _ _ k in
      rw (accepts mark n D cells m _ _ k, recovery-at mark n m k.reached.header w.world.left)
      ((plan-kept n (workers m) (at n m) (crashed-parts n (workers m) (at n m) c) w.world.left).fixed q h)

  pub recovered-cursors : (d : ℕ) → d < D → cursor_at (recovered mark n w).world.cursors d ≡ resumed n (at n w.world.image) d
  recovered-cursors d l =
      let m = w.world.image in
      let most = (header-workers mark n m k.reached.header).1 in
      rw (accepts mark n D cells m _ _ k) (resumed-cursor n (at n m) (workers m) d (omega arith) most)
