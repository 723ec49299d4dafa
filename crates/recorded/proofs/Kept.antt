-- Every turn of a day is no refused one; where its worker was open, it is one of the eight, and where it waits, its lock is one of the 64 (`day-kept`): a turn
-- waits at one of the image's locks (`within-turn`); its worker is below the number of an image's workers, which is at most 8; and a
-- refused turn ends its line and is not among the turns made (`private-then`). By induction over the turns of a line, the rounds and the lines.
use Prim.Native.Nat.{ℕ, zero, suc, ◌+◌, ◌<◌, ◌≤◌}
use mathlib.Core.Path.{◌≡◌, refl}
use mathlib.Core.List.{List, [], ◌∷◌, ◌++◌}
use mathlib.Core.Bool.{Bool, true, false, cond, ◌&&◌}
use native.Mathlib.Omega.{arith}
use borrow.Author.Tests.{ltb-true}
use lib.Dec.{leb, ltb, eqb}
use lib.ListN.{length}
use Rattle.std.proofs.Common.{Some, None}
use Rattle.image.specs.Image.{Image, at, workers, header_ok}
use Rattle.image.proofs.Header.{header-workers}
use Rattle.working.specs.declared.Cursors.{Cursors}
use Rattle.working.specs.Cursor.{is_idle, cursor_at, all_idle}
use Rattle.working.specs.World.{World}
use Rattle.plan.specs.Turn.{Outcome, stored, passed, waiting, resting, refused}
use Rattle.plan.proofs.Outcomes.{either}
use Rattle.turn.specs.declared.Answer.{Answer}
use Rattle.turn.specs.declared.Answer.TheVariants.{Stored, Passed, Waiting, Idle, Refused}
use Rattle.turn.specs.Call.{outcome, outcome_at}
use Rattle.turn.proofs.Holding.{Within, within-turn}
use Rattle.run.specs.Run.{any_open}
use Rattle.edition.specs.Edition.{mark, own_words}
use Rattle.frames.specs.declared.Frame.{Frame}
use Rattle.frames.specs.declared.Frame.TheVariants.{Submit, Turns, Recover, Rounds, Malformed}
use Rattle.frames.specs.Line.{Opening, first_of, frame_of}
use Rattle.buffers.specs.Input.{lines_of}
use Rattle.lines.specs.Play.{uncut}
use Rattle.lines.specs.Whole.{Took, Output, turn_then, turns_line, round_line, rounds_over, rounds_line}
use Rattle.stages.specs.Lines.{Line, Reading, reading, behind, followed, line_whole, first_whole, whole_line, lines_whole}
use Rattle.sums.specs.Day.{day_turns}

-- ---- what is kept

abbrev pub Kept : ℕ → Answer → Type 0
Kept d (Stored i) = d < 8
Kept d (Passed why) = d < 8
Kept d (Waiting b) = (b < 64) × (d < 8)
Kept d Idle = Unit {0}
Kept d (Refused r) = ⊥

abbrev pub AllKept : List Took → Type 0
AllKept [] = Unit {0}
AllKept (t ∷ ts) = Kept t.worker t.answer × AllKept ts

private-append : (ts us : List Took) → AllKept ts → AllKept us → AllKept (ts ++ us)
private-append [] us h k = k
private-append (t ∷ ts) us h k = (h.0, private-append ts us h.1 k)

-- ---- a turn

-- with its worker
abbrev private-Bound : ℕ → Outcome → Type 0
private-Bound d (stored p v c) = d < 8
private-Bound d (passed why c) = d < 8
private-Bound d (waiting b) = (b < 64) × (d < 8)
private-Bound d resting = Unit {0}
private-Bound d (refused r) = Unit {0}

private-bound : (d : ℕ) (o : Outcome) → d < 8 → Within o → private-Bound d o
private-bound d (stored p v c) h k = h
private-bound d (passed why c) h k = h
private-bound d (waiting b) h k = (k, h)
private-bound d resting h k = tt
private-bound d (refused r) h k = tt

private-bound-at : (w : World) (d : ℕ) → d < 8 → private-Bound d (outcome_at own_words w d)
unfolding outcome_at
private-bound-at w d h = private-bound d (outcome_at own_words w d) h (within-turn own_words (at own_words w.image) d (cursor_at w.cursors d))

private-bound-any : (w : World) (d : ℕ) → private-Bound d (outcome mark own_words w d)
unfolding outcome
private-bound-any w d =
    either (private-Bound d) (header_ok mark own_words w.image) _ _
    (λ e. either (private-Bound d) (ltb d (workers w.image)) _ _
    (λ g. private-bound-at w d (omega (arith, ltb-true d (workers w.image) g, (header-workers mark own_words w.image e).1))) (λ g. tt))
    (λ e. tt)

-- ---- a line

abbrev private-Fine : (Image → Cursors → Output) → Type 0
private-Fine more = (m : Image) (c : Cursors) → AllKept (more m c).turns

private-then : (more : Image → Cursors → Output) (m : Image) (c : Cursors) (d : ℕ) (o : Outcome) → private-Fine more → private-Bound d o
    → AllKept (turn_then more m c d o).turns
private-then more m c d (stored p v x) f b = (b, f _ _)
private-then more m c d (passed why x) f b = (b, f _ _)
private-then more m c d (waiting a) f b = (b, f _ _)
private-then more m c d resting f b = (tt, f _ _)
private-then more m c d (refused r) f b = tt

private-turns : (k d : ℕ) (m : Image) (c : Cursors) → AllKept (turns_line k m c d).turns
unfolding turns_line
private-turns zero d m c = tt
private-turns (suc k) d m c =
    let w = uncut m c in
    private-then (λ x y. turns_line k x y d) m c d (outcome mark own_words w d) (λ x y. private-turns k d x y) (private-bound-any w d)

private-outputs : (b : Bool) (x y : Output) → (b ≡ true → AllKept x.turns) → (b ≡ false → AllKept y.turns) → AllKept (cond b x y).turns
private-outputs true x y p q = p refl
private-outputs false x y p q = q refl

private-round : (more : Image → Cursors → Output) → private-Fine more → (k d : ℕ) → d + k ≤ 8 → (m : Image) (c : Cursors)
    → AllKept (round_line more k d m c).turns
unfolding round_line
private-round more f zero d h m c = f m c
private-round more f (suc k) d h m c =
    let w = uncut m c in
    let rest : private-Fine (round_line more k (d + 1)) = λ x y. private-round more f k (d + 1) (omega arith) x y in
    private-outputs (is_idle (cursor_at c d)) _ _ (λ e. rest m c)
    (λ e. private-then (round_line more k (d + 1)) m c d (outcome_at own_words w d) rest (private-bound-at w d (omega arith)))

private-over : (r D : ℕ) → D ≤ 8 → (m : Image) (c : Cursors) → AllKept (rounds_over r D m c).turns
unfolding rounds_over
private-over zero D h m c = tt
private-over (suc r) D h m c =
    private-outputs (any_open D 0 c) _ _ (λ e. private-round (rounds_over r D) (λ x y. private-over r D h x y) D 0 (omega arith) m c) (λ e. tt)

private-rounds : (r : ℕ) (m : Image) (c : Cursors) → AllKept (rounds_line r m c).turns
unfolding rounds_line
private-rounds zero m c = tt
private-rounds (suc r) m c =
    private-outputs (header_ok mark own_words m) _ _ (λ e. private-over (suc r) (workers m) (header-workers mark own_words m e).1 m c) (λ e. tt)

private-later : (m : Image) (c : Cursors) (l : List ℕ) (f : Frame) → AllKept (line_whole m c l f).output.turns
private-later m c l (Submit d k) = tt
private-later m c l (Turns d k) = private-turns k d m c
private-later m c l Recover = tt
private-later m c l (Rounds r) = private-rounds r m c
private-later m c l Malformed = tt

private-lines-either : (b : Bool) (x y : Line) → AllKept x.output.turns → AllKept y.output.turns → AllKept (cond b x y).output.turns
private-lines-either true x y p q = p
private-lines-either false x y p q = q

private-first : (o : Opening) → AllKept (first_whole o).output.turns
private-first None = tt
private-first (Some D) = private-lines-either (leb 1 D && leb D 8) _ _ tt tt

private-line : (m : Image) (c : Cursors) (l : List ℕ) → AllKept (whole_line m c l).output.turns
unfolding whole_line
private-line m c l = private-lines-either (eqb (length m) 0) _ _ (private-first (first_of l)) (private-later m c l (frame_of l))

-- ---- a day

private-followed : (x : Line) (more : Image → Cursors → Reading) → AllKept x.output.turns
    → ((m : Image) (c : Cursors) → AllKept (more m c).output.turns) → AllKept (followed x more).output.turns
private-followed x more h f = by (eqb x.ends 0)
  where
    y : Reading
    y = more x.output.image x.output.cursors

    by : (b : Bool)
        → AllKept (cond b (reading (behind x.output y.output) y.ends (suc y.read)) (reading x.output x.ends 1)).output.turns
    by true = private-append x.output.turns y.output.turns h (f _ _)
    by false = h

private-lines : (ls : List (List ℕ)) (m : Image) (c : Cursors) → AllKept (lines_whole ls m c).output.turns
unfolding lines_whole
private-lines [] m c = tt
private-lines (l ∷ ls) m c = private-followed (whole_line m c l) (lines_whole ls) (private-line m c l) (λ x y. private-lines ls x y)

pub day-kept : (bytes : List ℕ) → AllKept (day_turns bytes)
day-kept bytes = private-lines (lines_of bytes) [] all_idle
