-- A line of rounds gone on with, a turn at a time, is the whole line of rounds (`rounds-whole`). A piece is the turn of the first open worker from some worker
-- on; the definition goes worker by worker and passes the idle ones by, so that what it does from a worker on is what it does from the first open one
-- (`private-found`), or the rest where there is none (`private-none`). By induction on the pieces: each turn is of a worker above, and a round has at most
-- nine pieces, those of eight workers and the one that finds nobody. No turn changes the header or the number of workers.
use Prim.Native.Nat.{ℕ, zero, suc, ◌+◌, ◌-◌, ◌*◌, ◌<◌, ◌≤◌}
use mathlib.Core.Path.{◌≡◌, refl, sym, ap, ◌∙◌}
use mathlib.Core.Bool.{Bool, true, false, true≢false}
use mathlib.Core.List.{[], ◌∷◌}
use native.Mathlib.Omega.{arith}
use borrow.Author.Tests.{ltb-true, ltb-false, ne_eqb}
use lib.Dec.{ltb}
use Rattle.base.proofs.Counting.{left-all}
use Rattle.image.specs.Place.{Memory}
use Rattle.image.specs.Image.{Image, at, workers, header_ok}
use Rattle.image.proofs.Header.{header-workers}
use Rattle.image.proofs.Stores.{header-store, workers-store}
use Rattle.working.specs.declared.Cursors.{Cursors}
use Rattle.working.specs.declared.Refusal.TheVariants.{Image as ImageRefused}
use Rattle.working.specs.Cursor.{Cursor, idle, on, is_idle, cursor_at}
use Rattle.working.specs.World.{World}
use Rattle.working.specs.Refusal.{cause_of}
use Rattle.edition.specs.Edition.{mark, own_words}
use Rattle.plan.specs.Turn.{Outcome, stored, passed, waiting, resting, refused, ready, turn_at}
use Rattle.turn.specs.Call.{outcome_at, answer_of, leaves}
use Rattle.turn.proofs.Turns.{Made as MadeTurn, made-ready}
use Rattle.repair.specs.declared.Repair.{Repair}
use Rattle.run.specs.Run.{any_open}
use Rattle.run.specs.Round.{next_open}
use Rattle.run.proofs.Next.{Comes, next-from, next-open, next-refused, next-over, next-turn}
use Rattle.std.proofs.Common.{None}
use Rattle.frames.specs.Print.{Printed, refusal}
use Rattle.lines.specs.declared.Job.TheVariants.{Rounds as RoundsLeft}
use Rattle.lines.specs.declared.Made.{Made}
use Rattle.lines.specs.Play.{Stage, stage, played, no_turn, uncut, lapped_by, round_stage}
use Rattle.lines.specs.Whole.{took, Output, output, onto, turn_then, round_line, rounds_over, rounds_line, turns_in, pieces}
use Rattle.lines.proofs.Whole.{next-rests}

-- ---- the turn of an open worker is not idle

abbrev private-Open : Outcome → Type 0
private-Open (stored p v c) = Unit {0}
private-Open (passed why c) = Unit {0}
private-Open (waiting b) = Unit {0}
private-Open resting = ⊥
private-Open (refused r) = Unit {0}

private-made : (o : Outcome) → MadeTurn o → private-Open o
private-made (stored p v c) h = tt
private-made (passed why c) h = tt
private-made (waiting b) h = tt
private-made resting h = absurd h
private-made (refused r) h = tt

private-turn-open : (rd : Memory) (d : ℕ) (x : Cursor) → is_idle x ≡ false → private-Open (turn_at own_words rd d x)
unfolding turn_at
private-turn-open rd d idle e = absurd (true≢false e)
private-turn-open rd d (on s t) e = by (ready own_words rd d s t) refl
  where
    by : (b : Bool) → ready own_words rd d s t ≡ b → private-Open (turn_at own_words rd d (on s t))
    by true q = private-made (turn_at own_words rd d (on s t)) (made-ready own_words rd d s t q)
    by false q = rw q tt

private-opens : (w : World) (d : ℕ) → is_idle (cursor_at w.cursors d) ≡ false → private-Open (outcome_at own_words w d)
unfolding outcome_at
private-opens w d e = private-turn-open (at own_words w.image) d (cursor_at w.cursors d) e

-- ---- the definition from a worker on

module _ (more : Image → Cursors → Output) (m : Image) (c : Cursors) where
  -- is what it is from the first open one on
  private-found : (k d : ℕ) → next_open k d c < d + k
      → round_line more k d m c
      ≡ turn_then (round_line more (d + k - (next_open k d c + 1)) (next_open k d c + 1)) m c (next_open k d c)
      (outcome_at own_words (uncut m c) (next_open k d c))
  unfolding round_line next_open
  private-found zero d h = absurd (omega arith)
  private-found (suc k) d h = by (is_idle (cursor_at c d)) refl (λ g. private-found k (d + 1) g)
    where
      by : (b : Bool) → is_idle (cursor_at c d) ≡ b
          → (next_open k (d + 1) c < d + 1 + k → round_line more k (d + 1) m c
          ≡ turn_then (round_line more (d + 1 + k - (next_open k (d + 1) c + 1)) (next_open k (d + 1) c + 1)) m c (next_open k (d + 1) c)
          (outcome_at own_words (uncut m c) (next_open k (d + 1) c)))
          → round_line more (suc k) d m c
          ≡ turn_then (round_line more (d + suc k - (next_open (suc k) d c + 1)) (next_open (suc k) d c + 1)) m c (next_open (suc k) d c)
          (outcome_at own_words (uncut m c) (next_open (suc k) d c))
      by true e g =
          let z : d + suc k ≡ d + 1 + k = omega arith in
          rw (e, z) (g (omega (arith, rw e at h)))
      by false e g = let z : d + suc k - (d + 1) ≡ k = omega arith in rw (e, z)

  -- or the rest
  private-none : (k d : ℕ) → d + k ≤ next_open k d c → round_line more k d m c ≡ more m c
  unfolding round_line next_open
  private-none zero d h = refl
  private-none (suc k) d h = by (is_idle (cursor_at c d)) refl (λ g. private-none k (d + 1) g)
    where
      by : (b : Bool) → is_idle (cursor_at c d) ≡ b → (d + 1 + k ≤ next_open k (d + 1) c → round_line more k (d + 1) m c ≡ more m c)
          → round_line more (suc k) d m c ≡ more m c
      by true e g = rw e (g (omega (arith, rw e at h)))
      by false e g = absurd (omega (arith, rw e at h))

module _ (c : Cursors) where
  private-any : (k d : ℕ) → next_open k d c < d + k → any_open k d c ≡ true
  unfolding any_open next_open
  private-any zero d h = absurd (omega arith)
  private-any (suc k) d h = by (is_idle (cursor_at c d)) refl (λ g. private-any k (d + 1) g)
    where
      by : (b : Bool) → is_idle (cursor_at c d) ≡ b → (next_open k (d + 1) c < d + 1 + k → any_open k (d + 1) c ≡ true) → any_open (suc k) d c ≡ true
      by true e g = rw e (g (omega (arith, rw e at h)))
      by false e g = rw e

  private-nobody : (k d : ℕ) → d + k ≤ next_open k d c → any_open k d c ≡ false
  unfolding any_open next_open
  private-nobody zero d h = refl
  private-nobody (suc k) d h = by (is_idle (cursor_at c d)) refl (λ g. private-nobody k (d + 1) g)
    where
      by : (b : Bool) → is_idle (cursor_at c d) ≡ b → (d + 1 + k ≤ next_open k (d + 1) c → any_open k (d + 1) c ≡ false) → any_open (suc k) d c ≡ false
      by true e g = rw e (g (omega (arith, rw e at h)))
      by false e g = absurd (omega (arith, rw e at h))

-- ---- what is left of so many rounds, the first of them from a worker on

-- a right header with D workers
record private-Headed (D : ℕ) (m : Image) : Type 0 where
  header : header_ok mark own_words m ≡ true
  many : workers m ≡ D

private-headed : (D : ℕ) (m : Image) (c : Cursors) (d : ℕ) (o : Outcome) → private-Headed D m → private-Headed D (leaves own_words (uncut m c) d o).image
private-headed D m c d (stored p v x) h =
    record { header = header-store own_words mark _ m p v ∙ h.header; many = workers-store own_words _ m p v ∙ h.many }
private-headed D m c d (passed why x) h = h
private-headed D m c d (waiting b) h = h
private-headed D m c d resting h = h
private-headed D m c d (refused r) h = h

abbrev private-left : ℕ → ℕ → ℕ → Image → Cursors → Output
private-left D zero r m c = rounds_over r D m c
private-left D (suc d) zero m c = output [] [] m c
private-left D (suc d) (suc r) m c = round_line (rounds_over r D) (D - suc d) (suc d) m c

private-left-zero : (D d : ℕ) (m : Image) (c : Cursors) → private-left D d 0 m c ≡ output [] [] m c
unfolding rounds_over
private-left-zero D zero m c = refl
private-left-zero D (suc d) m c = refl

private-left-above : (D e r : ℕ) (m : Image) (c : Cursors) → private-left D (e + 1) (suc r) m c ≡ round_line (rounds_over r D) (D - (e + 1)) (e + 1) m c
private-left-above D e r m c = let q : e + 1 ≡ suc e = omega arith in rw q

-- the workers from d on, of D
abbrev private-next : ℕ → ℕ → Cursors → ℕ
private-next D d c = next_open (D - d) d c

module _ (D r : ℕ) (m : Image) (c : Cursors) where
  private-left-line : (d : ℕ) → private-next D d c < D → private-left D d (suc r) m c ≡ round_line (rounds_over r D) (D - d) d m c
  unfolding rounds_over
  private-left-line zero h = let g = rw (left-all D) at h in rw (left-all D, private-any c D 0 (omega arith))
  private-left-line (suc d) h = refl

  -- a turn is found
  private-left-turn : (d : ℕ) → d ≤ D → private-next D d c < D
      → private-left D d (suc r) m c
      ≡ turn_then (round_line (rounds_over r D) (D - (private-next D d c + 1)) (private-next D d c + 1)) m c (private-next D d c)
      (outcome_at own_words (uncut m c) (private-next D d c))
  private-left-turn d l h =
      let z : d + (D - d) ≡ D = omega arith in
      private-left-line d h ∙ (rw z at (private-found (rounds_over r D) m c (D - d) d (rw z h)))

-- ---- the pieces

-- a piece, and those behind it
abbrev private-onto : ℕ → Stage → Output
private-onto f s = onto s.played.printed (turns_in s.played.made) (pieces f s)

module _ (D f r : ℕ) (m : Image) (c : Cursors) (q : Repair) (h : private-Headed D m) where
  -- the piece of a turn of worker e, with what is known of those behind it
  private-turn : (d e : ℕ) (o : Outcome) → private-Open o
      → ((m' : Image) (c' : Cursors) (x : Printed) (t : Made) → private-Headed D m'
      → pieces f (stage m' (played c' x (RoundsLeft (e + 1) (suc r)) q t)) ≡ round_line (rounds_over r D) (D - (e + 1)) (e + 1) m' c')
      → private-onto f (lapped_by m c d e (suc r) q o) ≡ turn_then (round_line (rounds_over r D) (D - (e + 1)) (e + 1)) m c e o
  private-turn d e (stored p v x) k goes =
      let o = stored p v x in
      ap (onto (lapped_by m c d e (suc r) q o).played.printed (took e (answer_of own_words o) ∷ [])) (goes _ _ _ _ (private-headed D m c e o h))
  private-turn d e (passed why x) k goes =
      let o = passed why x in
      ap (onto (lapped_by m c d e (suc r) q o).played.printed (took e (answer_of own_words o) ∷ [])) (goes _ _ _ _ h)
  private-turn d e (waiting b) k goes = ap (onto None (took e (answer_of own_words (waiting b)) ∷ [])) (goes _ _ _ _ h)
  private-turn d e resting k goes = absurd k
  private-turn d e (refused x) k goes = ap (onto (lapped_by m c d e (suc r) q (refused x)).played.printed []) (next-rests f m c _ q _)

  -- the piece that finds nobody: the line is over where none is open at all, else the next round begins
  private-over : (d e : ℕ) → d ≤ D → D ≤ private-next D d c
      → (0 < d → (x : Printed) (t : Made) → pieces f (stage m (played c x (RoundsLeft 0 r) q t)) ≡ rounds_over r D m c)
      → private-onto f (lapped_by m c d e (suc r) q resting) ≡ private-left D d (suc r) m c
  unfolding rounds_over
  private-over zero e l g goes =
      let n = rw (left-all D) at g in
      rw (private-nobody c D 0 (omega arith)) (ap (onto None []) (next-rests f m c _ q _))
  private-over (suc d) e l g goes =
      let z : suc r - 1 ≡ r = omega arith in
      rw (z, ne_eqb (suc d) 0 (λ y. omega arith))
      (ap (onto None []) (goes (omega arith) _ _) ∙ sym (private-none (rounds_over r D) m c (D - suc d) (suc d) (omega arith)))

module _ (D d : ℕ) (m : Image) (c : Cursors) (h : private-Headed D m) where
  private-comes : private-next D d c < D
      → Comes mark own_words (uncut m c) d (private-next D d c) (outcome_at own_words (uncut m c) (private-next D d c))
  private-comes l = rw h.many at (next-turn mark own_words (uncut m c) d h.header (rw h.many l))

  private-ends : D ≤ private-next D d c → Comes mark own_words (uncut m c) d (private-next D d c) resting
  private-ends l = rw h.many at (next-over mark own_words (uncut m c) d h.header (rw h.many l))

-- the next piece of a round that has begun or begins
private-lap : (D f d r : ℕ) (m : Image) (c : Cursors) (x : Printed) (q : Repair) (t : Made) → private-Headed D m → d ≤ D
    → ((e : ℕ) → d ≤ e → e < D → (m' : Image) (c' : Cursors) (y : Printed) (u : Made) → private-Headed D m'
    → pieces f (stage m' (played c' y (RoundsLeft (e + 1) (suc r)) q u)) ≡ private-left D (e + 1) (suc r) m' c')
    → (0 < d → (y : Printed) (u : Made) → pieces f (stage m (played c y (RoundsLeft 0 r) q u)) ≡ rounds_over r D m c)
    → pieces (suc f) (stage m (played c x (RoundsLeft d (suc r)) q t)) ≡ private-left D d (suc r) m c
unfolding pieces round_stage
private-lap D f d r m c x q t h l goes over = by (ltb (private-next D d c) D) refl
  where
    by : (b : Bool) → ltb (private-next D d c) D ≡ b → pieces (suc f) (stage m (played c x (RoundsLeft d (suc r)) q t)) ≡ private-left D d (suc r) m c
    by true e =
        let k = ltb-true _ _ e in
        let n = private-comes D d m c h k in
        let o = private-opens (uncut m c) (private-next D d c) (next-open c (D - d) d (omega arith)) in
        rw (n.worker, n.outcome)
        (private-turn D f r m c q h d (private-next D d c) (outcome_at own_words (uncut m c) (private-next D d c)) o
        (λ m' c' y u g. goes (private-next D d c) (next-from c (D - d) d) k m' c' y u g ∙ private-left-above D (private-next D d c) r m' c')
        ∙ sym (private-left-turn D r m c d l k))
    by false e =
        let k = ltb-false _ _ e in
        let n = private-ends D d m c h k in
        rw (n.worker, n.outcome) (private-over D f r m c q h d (private-next D d c) l k over)

private-laps : (D : ℕ) → D ≤ 8 → (f d r : ℕ) (m : Image) (c : Cursors) (x : Printed) (q : Repair) (t : Made) → private-Headed D m → d ≤ D
    → 10 * r + 10 ≤ f + d → pieces f (stage m (played c x (RoundsLeft d r) q t)) ≡ private-left D d r m c
unfolding pieces round_stage
private-laps D few zero d r m c x q t h l w = absurd (omega arith)
private-laps D few (suc f) d zero m c x q t h l w = ap (onto None []) (next-rests f m c None q no_turn) ∙ sym (private-left-zero D d m c)
private-laps D few (suc f) d (suc r) m c x q t h l w =
    private-lap D f d r m c x q t h l (λ e a b m' c' y u g. private-laps D few f (e + 1) (suc r) m' c' y q u g (omega arith) (omega arith))
    (λ a y u. private-laps D few f 0 r m c y q u h (omega arith) (omega arith))

-- ---- 04 with r rounds

-- an image that fails the test of its header
private-fails : (f r : ℕ) (m : Image) (c : Cursors) (x : Printed) (q : Repair) (t : Made) → header_ok mark own_words m ≡ false
    → pieces (suc f) (stage m (played c x (RoundsLeft 0 (suc r)) q t)) ≡ rounds_line (suc r) m c
unfolding pieces round_stage rounds_line
private-fails f r m c x q t e =
    let n = next-refused mark own_words (uncut m c) 0 e in
    rw (n.worker, n.outcome, e) (ap (onto (refusal (cause_of ImageRefused)) []) (next-rests f m c _ q _))

pub rounds-whole : (r f : ℕ) (m : Image) (c : Cursors) (x : Printed) (q : Repair) (t : Made) → 10 * r + 10 ≤ f
    → pieces f (stage m (played c x (RoundsLeft 0 r) q t)) ≡ rounds_line r m c
unfolding pieces round_stage rounds_line
rounds-whole r zero m c x q t h = absurd (omega arith)
rounds-whole zero (suc f) m c x q t h = ap (onto None []) (next-rests f m c None q no_turn)
rounds-whole (suc r) (suc f) m c x q t h = by (header_ok mark own_words m) refl
  where
    by : (b : Bool) → header_ok mark own_words m ≡ b → pieces (suc f) (stage m (played c x (RoundsLeft 0 (suc r)) q t)) ≡ rounds_line (suc r) m c
    by true e =
        let few = (header-workers mark own_words m e).1 in
        private-laps (workers m) few (suc f) 0 (suc r) m c x q t (record { header = e; many = refl }) (omega arith) (omega arith) ∙ rw e
    by false e = private-fails f r m c x q t e
