-- A line gone on with, piece by piece, is document 01's whole line. Of turns (`turns-whole`): by induction on their number; where
-- a turn waits or is idle the piece counts the rest at once, and `turns-still` says that the turns left out would answer the same, and print and change
-- nothing. Of a recovery (`stores-whole`, `recovery-whole`): slot by slot, and the slots are the stores of the definition.
use Prim.Native.Nat.{ℕ, zero, suc, ◌+◌, ◌-◌, ◌<◌, ◌≤◌}
use mathlib.Core.Path.{◌≡◌, refl, sym, ap, ◌∙◌}
use mathlib.Core.Bool.{Bool, true, false}
use mathlib.Core.List.{List, [], ◌∷◌, ◌++◌, append-nil}
use Rattle.std.proofs.Common.{None}
use native.Mathlib.Omega.{arith}
use borrow.Author.Tests.{ltb-true, ltb-false}
use lib.ListN.{replicate}
use lib.Dec.{ltb}
use Rattle.base.proofs.Counting.{left_step, left-none}
use Rattle.image.specs.Place.{Store}
use Rattle.image.specs.Image.{Image, index_of}
use Rattle.working.specs.declared.Cursors.{Cursors}
use Rattle.edition.specs.Edition.{mark, own_words}
use Rattle.plan.specs.Turn.{Outcome, stored, passed, waiting, resting, refused}
use Rattle.turn.specs.Call.{outcome, answer_of}
use Rattle.repair.specs.declared.Repair.{Repair}
use Rattle.repair.specs.Repair.{slot_at, slot_of}
use Rattle.repair.specs.Plan.{rows}
use Rattle.recovery.specs.Recovery.{recovery}
use Rattle.recovery.specs.Recover.{stores_of}
use Rattle.recovery.specs.Repairs.{repair_by}
use Rattle.repair.proofs.Slots.{single, slot-single}
use Rattle.recovery.proofs.Answers.{stores-are}
use Rattle.frames.specs.Print.{Printed, line}
use Rattle.lines.specs.declared.Job.TheVariants.{Turns as TurnsLeft, Stores, Next}
use Rattle.lines.specs.Answers.{slot_prints}
use Rattle.lines.specs.declared.Made.{Made}
use Rattle.lines.specs.Play.{stage, played, no_turn, uncut, turned_by, turn_stage, slot_stage}
use Rattle.lines.specs.Whole.{Took, took, Output, output, onto, turn_then, turns_line, stores_line, turns_in, pieces}

-- with nothing left to do, nothing more is printed
pub next-rests : (f : ℕ) (m : Image) (c : Cursors) (x : Printed) (r : Repair) (t : Made) → pieces f (stage m (played c x Next r t)) ≡ output [] [] m c
unfolding pieces
next-rests zero m c x r t = refl
next-rests (suc f) m c x r t = ap (onto None []) (next-rests f m c None r no_turn)

-- ---- turns

-- an outcome that leaves everything as it was, and is no refusal
abbrev Still : Outcome → Type 0
Still (stored p v c) = ⊥
Still (passed why c) = ⊥
Still (waiting b) = Unit {0}
Still resting = Unit {0}
Still (refused r) = ⊥

-- the turns that a worker makes with an outcome
abbrev private-same : ℕ → ℕ → Outcome → List Took
private-same k d o = replicate k (took d (answer_of own_words o))

private-then : (o : Outcome) (more : Image → Cursors → Output) (m : Image) (c : Cursors) (d : ℕ) → Still o
    → turn_then more m c d o ≡ onto None (private-same 1 d o) (more m c)
private-then (stored p v c₁) more m c d h = absurd h
private-then (passed why c₁) more m c d h = absurd h
private-then (waiting b) more m c d h = refl
private-then resting more m c d h = refl
private-then (refused r) more m c d h = absurd h

-- more turns of a worker that waits or is idle
pub turns-still : (k : ℕ) (m : Image) (c : Cursors) (d : ℕ) → Still (outcome mark own_words (uncut m c) d)
    → turns_line k m c d ≡ output [] (replicate k (took d (answer_of own_words (outcome mark own_words (uncut m c) d)))) m c
unfolding turns_line
turns-still zero m c d h = refl
turns-still (suc k) m c d h =
    let o = outcome mark own_words (uncut m c) d in
    private-then o (λ m' c'. turns_line k m' c' d) m c d h ∙ ap (onto None (private-same 1 d o)) (turns-still k m c d h)

-- the rest counted at once, by a piece behind which nothing is left
private-rest : (f k : ℕ) (m : Image) (c : Cursors) (x : Printed) (r : Repair) (t : Made) (a : Took) (rest : Output) → rest ≡ output [] (replicate k a) m c
    → onto None (replicate (suc k) a) (pieces f (stage m (played c x Next r t))) ≡ onto None (a ∷ []) rest
private-rest f k m c x r t a rest e =
    ap (onto None (replicate (suc k) a)) (next-rests f m c x r t)
    ∙ ap (λ (l : List Took). output [] l m c) (append-nil (replicate (suc k) a))
    ∙ ap (onto None (a ∷ [])) (sym e)

module _ (f k : ℕ) (m : Image) (c : Cursors) (d : ℕ) (r : Repair) where
  -- the piece of a turn with this outcome, and the pieces behind it
  abbrev private-piece : Outcome → Output
  private-piece o = onto (turned_by m c d k r o).played.printed (turns_in (turned_by m c d k r o).played.made) (pieces f (turned_by m c d k r o))

  private-turn : (o : Outcome)
      → ((m' : Image) (c' : Cursors) (x : Printed) (t : Made) → pieces f (stage m' (played c' x (TurnsLeft d k) r t)) ≡ turns_line k m' c' d)
      → (Still o → turns_line k m c d ≡ output [] (private-same k d o) m c)
      → private-piece o ≡ turn_then (λ m' c'. turns_line k m' c' d) m c d o
  private-turn (stored p v c₁) goes still = ap (onto (turned_by m c d k r (stored p v c₁)).played.printed (private-same 1 d (stored p v c₁))) (goes _ _ _ _)
  private-turn (passed why c₁) goes still = ap (onto (turned_by m c d k r (passed why c₁)).played.printed (private-same 1 d (passed why c₁))) (goes _ _ _ _)
  private-turn (waiting b) goes still = private-rest f k m c _ r _ _ _ (still tt)
  private-turn resting goes still = private-rest f k m c _ r _ _ _ (still tt)
  private-turn (refused e) goes still = ap (onto (turned_by m c d k r (refused e)).played.printed []) (next-rests f m c _ r _)

-- 02 with k turns
pub turns-whole : (k f : ℕ) (m : Image) (c : Cursors) (d : ℕ) (x : Printed) (r : Repair) (t : Made) → k < f
    → pieces f (stage m (played c x (TurnsLeft d k) r t)) ≡ turns_line k m c d
unfolding pieces turn_stage turns_line
turns-whole k zero m c d x r t h = absurd (omega arith)
turns-whole zero (suc f) m c d x r t h = ap (onto None []) (next-rests f m c None r no_turn)
turns-whole (suc k) (suc f) m c d x r t h =
    private-turn f k m c d r (outcome mark own_words (uncut m c) d) (λ m' c' y u. turns-whole k f m' c' d y r u (omega arith)) (turns-still k m c d)

-- ---- a recovery's stores

private-slot : (ss : List Store) (t : Output) → single ss
    → onto (slot_prints (slot_of own_words ss)) [] t ≡ output (stores_line ss ++ t.lines) t.turns t.image t.cursors
private-slot [] t h = refl
private-slot (s ∷ []) t h = refl
private-slot (s ∷ u ∷ ss) t h = absurd h

private-lines : (ss us : List Store) → stores_line (ss ++ us) ≡ stores_line ss ++ stores_line us
private-lines [] us = refl
private-lines (s ∷ ss) us = ap (λ (l : List Printed). line (index_of own_words s.place) s.value ∷ l) (private-lines ss us)

module _ (r : Repair) (i : ℕ) where
  private-step : i < 592 → rows (slot_at r) i (592 - i) ≡ slot_at r i ++ rows (slot_at r) (i + 1) (592 - (i + 1))
  unfolding rows
  private-step h = rw (left_step 592 i h)

  private-end : 592 ≤ i → rows (slot_at r) i (592 - i) ≡ []
  unfolding rows
  private-end h = rw (left-none 592 i h)

-- from slot i on
pub stores-whole : (f i : ℕ) (m : Image) (c : Cursors) (x : Printed) (r : Repair) (t : Made) → 592 - i < f
    → pieces f (stage m (played c x (Stores i) r t)) ≡ output (stores_line (rows (slot_at r) i (592 - i))) [] m c
unfolding pieces slot_stage
stores-whole zero i m c x r t h = absurd (omega arith)
stores-whole (suc f) i m c x r t h = by (ltb i 592) refl (λ b y u. stores-whole f (i + 1) m c y r u (omega arith))
  where
    by : (b : Bool) → ltb i 592 ≡ b
        → (i < 592 → (y : Printed) (u : Made)
        → pieces f (stage m (played c y (Stores (i + 1)) r u)) ≡ output (stores_line (rows (slot_at r) (i + 1) (592 - (i + 1)))) [] m c)
        → pieces (suc f) (stage m (played c x (Stores i) r t)) ≡ output (stores_line (rows (slot_at r) i (592 - i))) [] m c
    by true e more =
        let b = ltb-true i 592 e in
        rw e
        (ap (onto (slot_prints (slot_of own_words (slot_at r i))) []) (more b _ _)
        ∙ private-slot (slot_at r i) _ (slot-single r i)
        ∙ ap (λ (l : List Printed). output l [] m c) (sym (private-lines (slot_at r i) _) ∙ ap stores_line (sym (private-step r i b))))
    by false e more = rw (e, private-end r i (ltb-false i 592 e)) (ap (onto None []) (next-rests f m c None r no_turn))

-- 03, where it is accepted
pub recovery-whole : (f : ℕ) (m m' : Image) (c : Cursors) (x : Printed) (t : Made) → 592 < f
    → pieces f (stage m' (played c x (Stores 0) (repair_by own_words m (recovery mark own_words m)) t))
    ≡ output (stores_line (stores_of (recovery mark own_words m))) [] m' c
recovery-whole f m m' c x t h =
    stores-whole f 0 m' c x _ t h ∙ ap (λ (ss : List Store). output (stores_line ss) [] m' c) (stores-are mark own_words m)
