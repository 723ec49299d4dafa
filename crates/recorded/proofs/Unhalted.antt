-- No line of a day prints ffff and 11 (`none-halted`). The worlds of its calls run on, as in demand 3, so that no turn of a worker of the image is refused
-- (`turned_clear`), in a run neither (`round-clear`); a recovery is accepted; a submit is refused with other causes (`answer-said`). And what is printed
-- of a store has an index of the image, never ffff (`store-clear`).
use Prim.Native.Nat.{ℕ, zero, suc, ◌+◌, ◌*◌, ◌<◌, ◌≤◌}
use mathlib.Core.Path.{◌≡◌, refl, ap, subst}
use mathlib.Core.Logic.{◌≢◌}
use mathlib.Core.Bool.{Bool, true, false, cond, ◌&&◌}
use mathlib.Core.List.{List, [], ◌∷◌, ◌++◌}
use native.Mathlib.Omega.{arith}
use borrow.Author.Tests.{ltb-true, leb-true}
use lib.Dec.{ltb, leb, eqb}
use lib.ListN.{length}
use Rattle.std.proofs.Common.{Some, None, Ok, Err}
use Rattle.base.proofs.Bools.{and_left, and_right}
use Rattle.image.specs.declared.Field.TheVariants.{Finished}
use Rattle.image.specs.Place.{Place, field, valid, Store}
use Rattle.image.specs.Image.{Image, at, workers, header_ok, cells_of, length_of, index_of}
use Rattle.image.proofs.Apart.{index-lt, record-small}
use Rattle.image.proofs.Lists.{all_valid}
use Rattle.section.specs.declared.Fault.TheVariants.{Length, Malformed as SectionMalformed, Unbracketed, Unordered, Unguarded, Unlevel}
use Rattle.section.specs.Check.{Verdict, code_of, check}
use Rattle.working.specs.declared.Cursors.{Cursors}
use Rattle.working.specs.Cursor.{is_idle, cursor_at, all_idle}
use Rattle.working.specs.World.{World}
use Rattle.formatting.specs.Format.{formatted}
use Rattle.formatting.proofs.Formats.{formatted-header}
use Rattle.working.specs.declared.Refusal.TheVariants.{Worker, Busy, Number as NumberRefused, Image as ImageRefused}
use Rattle.intake.specs.Submit.{Submitted, verdict_answer, free, submit_answer}
use Rattle.worklog.specs.declared.Passing.{Passing}
use Rattle.worklog.specs.declared.Passing.TheVariants.{Jump, AlreadyFree, Others}
use Rattle.plan.specs.Turn.{Outcome, stored, passed, waiting, resting, refused, turn_at}
use Rattle.turn.specs.declared.Answer.TheVariants.{Passed}
use Rattle.turn.specs.Call.{answer_of, is_refused, leaves, outcome, outcome_at}
use Rattle.run.specs.Run.{any_open}
use Rattle.edition.specs.Edition.{mark, own_words}
use Rattle.repair.specs.Plan.{plan}
use Rattle.recovery.specs.Recovery.{recovery}
use Rattle.frames.specs.declared.Frame.{Frame}
use Rattle.frames.specs.declared.Frame.TheVariants.{Submit, Turns, Recover, Rounds, Malformed}
use Rattle.frames.specs.Line.{Opening, first_of, frame_of, steps_part, words_of}
use Rattle.frames.specs.Print.{Printed, line as printed_line, refusal}
use Rattle.frames.proofs.Frames.{times_in, times-most}
use Rattle.buffers.specs.Input.{lines_of}
use Rattle.claims.specs.Calls.{Traced, turn_by, turned_at, play, from}
use Rattle.claims.proofs.Turns.{Stepped}
use Rattle.claims.proofs.Worlds.{Running, running-turn, few, touches-valid}
use Rattle.claims.proofs.Settling.{steps}
use Rattle.claims.proofs.Played.{running-worth, running-lent, outcome-below, outcome-above, turn-whole, Good, play-good}
use Rattle.claims.proofs.Called.{accepts}
use Rattle.claims.proofs.Recovered.{plan-valid}
use Rattle.claims.proofs.Resting.{rested-running}
use Rattle.told.specs.Turns.{All}
use Rattle.told.proofs.WalkTurn.{all_append}
use Rattle.claims.specs.Claims.{FormattedRests}
use Rattle.told.proofs.Demands.{formatting-rests}
use Rattle.lines.specs.Answers.{submit_prints, turn_prints}
use Rattle.lines.specs.Play.{uncut}
use Rattle.lines.specs.Whole.{Took, Output, output, shown, turn_then, turns_line, round_line, rounds_over, rounds_line, stores_line}
use Rattle.stages.specs.Lines.{Line as WholeLine, goes_on, ends_at, recover_whole, behind, followed, line_whole, first_whole}
use Rattle.stages.specs.Lines.{whole_line, Reading, reading, lines_whole}
use Rattle.recorded.specs.Moves.{frame_moves}
use Rattle.recorded.specs.Recorded.{halting, Clear, NoneHalted}
use Rattle.recorded.proofs.Told.{told_none}
use Rattle.recorded.proofs.Turning.{Good as Ready, Ends, same-image, same-cursors, all-lent}
use Rattle.recorded.proofs.Rounds.{turned_left}
use Rattle.recorded.proofs.Machine.{frame-machine, frame-legal, frame-uncut}
use Rattle.recorded.proofs.Days.{later-line, frame-played}

-- ---- what is printed

abbrev AllClear : Output → Type 0
AllClear o = All Clear o.lines

index_in : Printed → ℕ
index_in None = 0
index_in (Some l) = l.at

value_in : Printed → ℕ
value_in None = 0
value_in (Some l) = l.value

index-clear : (i v : ℕ) → i < 65535 → Clear (printed_line i v)
unfolding index_in
index-clear i v h e = let z : i ≡ 65535 = ap index_in e in omega arith

cause-clear : (c : ℕ) → c ≢ halting → Clear (refusal c)
unfolding value_in
cause-clear c h e = h (ap value_in e)

nothing-clear : Clear None
unfolding index_in
nothing-clear e = let z : ◌≡◌ {A = ℕ} 0 65535 = ap index_in e in omega arith

pass-clear : (m : Image) (why : Passing) → Clear (turn_prints m (Passed why))
pass-clear m Jump = nothing-clear
pass-clear m AlreadyFree = index-clear 65534 0 (omega arith)
pass-clear m Others = index-clear 65534 1 (omega arith)

shown-clear : (p : Printed) → Clear p → All Clear (shown p)
shown-clear None h = tt
shown-clear (Some l) h = (h, tt)

either-clear : (b : Bool) (x y : Output) → AllClear x → AllClear y → AllClear (cond b x y)
either-clear true x y h k = h
either-clear false x y h k = k

-- a turn, and what follows it
then-clear : (more : Image → Cursors → Output) (m : Image) (c : Cursors) (d : ℕ) (o : Outcome) → ((v : Image) → Clear (turn_prints v (answer_of own_words o)))
    → AllClear (more (leaves own_words (uncut m c) d o).image (leaves own_words (uncut m c) d o).cursors) → AllClear (turn_then more m c d o)
then-clear more m c d o h k =
    let a = answer_of own_words o in
    let w = leaves own_words (uncut m c) d o in
    either-clear (is_refused a) _ _ (shown-clear (turn_prints m a) (h m))
    (all_append Clear (shown (turn_prints w.image a)) (more w.image w.cursors).lines (shown-clear (turn_prints w.image a) (h w.image)) k)

-- ---- 01

verdict-clear : (v : Verdict) → Clear (submit_prints (verdict_answer v))
verdict-clear (Ok u) = nothing-clear
verdict-clear (Err Length) = cause-clear 4 (omega arith)
verdict-clear (Err (SectionMalformed i)) = cause-clear 5 (omega arith)
verdict-clear (Err (Unbracketed i)) = cause-clear 6 (omega arith)
verdict-clear (Err (Unordered i)) = cause-clear 7 (omega arith)
verdict-clear (Err (Unguarded i)) = cause-clear 8 (omega arith)
verdict-clear (Err (Unlevel i)) = cause-clear 9 (omega arith)

record Said (a : Submitted) : Type 0 where
  clear : Clear (submit_prints a)

said : (a : Submitted) → Clear (submit_prints a) → Said a
said a h = record { clear = h }

said-either : (b : Bool) (x y : Submitted) → Said x → Said y → Said (cond b x y)
said-either true x y h k = h
said-either false x y h k = k

answer-said : (w : World) (d k : ℕ) (ws : List ℕ) → Said (submit_answer mark own_words w d k ws)
unfolding submit_answer
answer-said w d k ws =
    let v = verdict_answer (check own_words (length ws) (code_of ws)) in
    said-either (header_ok mark own_words w.image) _ _
    (said-either (ltb d (workers w.image)) _ _
    (said-either (free own_words w d) _ _
    (said-either (ltb (at own_words w.image (field Finished d)) k) _ _
    (said v (verdict-clear (check own_words (length ws) (code_of ws))))
    (said (Err NumberRefused) (cause-clear 3 (omega arith))))
    (said (Err Busy) (cause-clear 2 (omega arith))))
    (said (Err Worker) (cause-clear 1 (omega arith))))
    (said (Err ImageRefused) (cause-clear 10 (omega arith)))

module _ (D : ℕ) (cells : List ℕ) where
  abbrev Runs : Traced → Type 0
  Runs w = Running mark own_words D cells w

  -- ---- a turn

  store-clear : (p : Place) (v : ℕ) → D ≤ 8 → valid D own_words p ≡ true → Clear (printed_line (index_of own_words p) v)
  unfolding length_of
  store-clear p v most ok = index-clear (index_of own_words p) v (omega (arith, index-lt own_words D p ok, record-small own_words D most (omega arith)))

  turned_clear : (w : Traced) (d : ℕ) → Runs w → d < D → (m : Image) → Clear (turn_prints m (answer_of own_words (outcome_at own_words w.world d)))
  unfolding outcome_at
  turned_clear w d r dl m =
      by (turn_at own_words (at own_words w.world.image) d (cursor_at w.world.cursors d)) (steps mark own_words D cells w d r dl)
    where
      by : (o : Outcome) → Stepped own_words (at own_words w.world.image) d (w.trace.last d) (r.locks d) (w.trace.jumps d) o
          → Clear (turn_prints m (answer_of own_words o))
      by (stored p v c) (l, touch, ph) =
          store-clear p _ (few mark own_words D cells w r.reached)
          (touches-valid own_words D (at own_words w.world.image) d (r.locks d) p v l dl touch)
      by (passed why c) s = pass-clear m why
      by (waiting b) s = nothing-clear
      by resting s = nothing-clear
      by (refused x) s = absurd s

  -- of any worker
  any-clear : (w : Traced) (d : ℕ) → Runs w → (m : Image) → Clear (turn_prints m (answer_of own_words (outcome mark own_words w.world d)))
  unfolding outcome_at
  any-clear w d r m = by (ltb d D) refl
    where
      by : (b : Bool) → ltb d D ≡ b → Clear (turn_prints m (answer_of own_words (outcome mark own_words w.world d)))
      by true h = rw (outcome-below mark own_words D cells w d r.reached (ltb-true d D h)) (turned_clear w d r (ltb-true d D h) m)
      by false h = rw (outcome-above mark own_words D cells w d r.reached h) (cause-clear 1 (omega arith))

  -- ---- 02

  turns-clear : (k d : ℕ) (w : Traced) → Runs w → AllClear (turns_line k w.world.image w.world.cursors d)
  unfolding turns_line outcome outcome_at
  turns-clear zero d w r = tt
  turns-clear (suc k) d w r =
      let v = all-lent w in
      let o = outcome mark own_words v.world d in
      let x = running-lent mark own_words D cells _ w r in
      then-clear (λ m c. turns_line k m c d) w.world.image w.world.cursors d o (any-clear v d x)
      (turns-clear k d (turn_by mark own_words v d o) (turn-whole mark own_words D cells v d x (omega arith)))

  -- ---- 04

  module _
      (need : ℕ) (more : Image → Cursors → Output)
      (goes : (w : Traced) → need ≤ w.world.left → Runs w → AllClear (more w.world.image w.world.cursors)) where
    round-clear : (k d : ℕ) → d + k ≤ D → (w : Traced) → need + k ≤ w.world.left → Runs w
        → AllClear (round_line more k d w.world.image w.world.cursors)
    unfolding round_line turned_at outcome_at
    round-clear zero d l w h r = goes w (omega arith) r
    round-clear (suc k) d l w h r =
        let o = outcome_at own_words w.world d in
        let v = turned_at mark own_words w d in
        either-clear (is_idle (cursor_at w.world.cursors d)) _ _
        (round-clear k (d + 1) (omega arith) w (omega arith) r)
        (then-clear (round_line more k (d + 1)) w.world.image w.world.cursors d o (turned_clear w d r (omega arith))
        (rw (same-image w d (omega arith) o, same-cursors w d (omega arith) o)
        (round-clear k (d + 1) (omega arith) v (omega (arith, turned_left w d)) (running-turn mark own_words D cells w d r (omega arith) (omega arith)))))

  rounds-clear : (r : ℕ) (w : Traced) → 8 * r ≤ w.world.left → Runs w → AllClear (rounds_over r D w.world.image w.world.cursors)
  unfolding rounds_over
  rounds-clear zero w h x = tt
  rounds-clear (suc r) w h x =
      let most = few mark own_words D cells w x.reached in
      either-clear (any_open D 0 w.world.cursors) _ _ (round-clear (8 * r) (rounds_over r D) (rounds-clear r) D 0 (omega arith) w (omega arith) x) tt

  line_clear : (r : ℕ) → r ≤ 65535 → (w : Traced) → Runs w → AllClear (rounds_line r w.world.image w.world.cursors)
  unfolding rounds_line
  line_clear zero h w x = tt
  line_clear (suc r) h w x =
      rw (x.reached.header, x.reached.many) (rounds-clear (suc r) (all-lent w) (omega arith) (running-lent mark own_words D cells _ w x))

  -- ---- 03

  stores-clear : D ≤ 8 → (ss : List Store) → all_valid D own_words ss ≡ true → All Clear (stores_line ss)
  stores-clear most [] h = tt
  stores-clear most (s ∷ ss) h =
      let v = valid D own_words s.place in
      (store-clear s.place s.value most (and_left v (all_valid D own_words ss) h), stores-clear most ss (and_right v (all_valid D own_words ss) h))

  recovery-clear : (w : Traced) → Runs w → AllClear (recover_whole w.world.image (recovery mark own_words w.world.image))
  recovery-clear w x =
      let m = w.world.image in
      let most = few mark own_words D cells w x.reached in
      rw (accepts mark own_words D cells m w.trace.begun w.trace.order (running-worth mark own_words D cells w x), x.reached.many)
      (stores-clear most (plan own_words (at own_words m) D) (plan-valid own_words (at own_words m) D))

  -- ---- lines

  frame-clear : (w : Traced) (l : List ℕ) (f : Frame) → times_in f ≤ 65535 → Runs w → AllClear (line_whole w.world.image w.world.cursors l f).output
  frame-clear w l (Submit d k) h x =
      let a = submit_answer mark own_words (uncut w.world.image w.world.cursors) d k (words_of (steps_part l)) in
      shown-clear (submit_prints a) (answer-said (uncut w.world.image w.world.cursors) d k (words_of (steps_part l))).clear
  frame-clear w l (Turns d k) h x = turns-clear k d w x
  frame-clear w l Recover h x = recovery-clear w x
  frame-clear w l (Rounds r) h x = line_clear r h w x
  frame-clear w l Malformed h x = (cause-clear 14 (omega arith), tt)

  lines_clear : (ls : List (List ℕ)) (w : Traced) (ts : List Took) → Ready ts w → Runs w
      → AllClear (lines_whole ls w.world.image w.world.cursors).output
  unfolding lines_whole
  lines_clear [] w ts g x = tt
  lines_clear (l ∷ ls) w ts g x =
      rw (later-line w.world.image w.world.cursors l g.header)
      (by (rw (← ends.image, ← ends.cursors) (lines_clear ls v (ts ++ line.output.turns) ends.good runs)) (eqb line.ends 0))
    where
      line : WholeLine
      line = line_whole w.world.image w.world.cursors l (frame_of l)

      more : Reading
      more = lines_whole ls line.output.image line.output.cursors

      here : AllClear line.output
      here = frame-clear w l (frame_of l) (times-most l) x

      v : Traced
      v = play mark own_words (frame_moves l (frame_of l)) w

      ends : Ends ts line.output v
      ends = frame-played w ts g l (frame_of l) (times-most l)

      runs : Runs v
      runs =
          let legally = frame-legal l (frame_of l) in
          subst (λ (b : Bool). Good mark own_words D cells b v) (frame-uncut l (frame_of l))
          (play-good mark own_words D cells false (frame_moves l (frame_of l)) w (omega arith) (omega arith) (frame-machine l) legally x)

      by : AllClear more.output → (b : Bool)
          → AllClear (cond b (reading (behind line.output more.output) more.ends (suc more.read)) (reading line.output line.ends 1)).output
      by rest true = all_append Clear line.output.lines more.output.lines here rest
      by rest false = here

-- ---- a day

opened-clear : (o : Opening) (ls : List (List ℕ)) → AllClear (followed (first_whole o) (lines_whole ls)).output
unfolding FormattedRests
opened-clear None ls = (cause-clear 14 (omega arith), tt)
opened-clear (Some D) ls = by (leb 1 D && leb D 8) refl
  where
    m : Image
    m = formatted mark own_words D

    by : (b : Bool) → (leb 1 D && leb D 8) ≡ b
        → AllClear (followed (cond b (goes_on (output [] [] m all_idle)) (ends_at [] all_idle 10)) (lines_whole ls)).output
    by true h =
        let some = leb-true 1 D (and_left (leb 1 D) (leb D 8) h) in
        let most = leb-true D 8 (and_right (leb 1 D) (leb D 8) h) in
        lines_clear (workers m) (cells_of m) ls (from m) [] (record { header = formatted-header mark own_words D some most; told = told_none })
        (rested-running mark own_words m (formatting-rests D some most))
    by false h = (cause-clear 10 (omega arith), tt)

day-clear : (ls : List (List ℕ)) → AllClear (lines_whole ls [] all_idle).output
unfolding lines_whole whole_line
day-clear [] = tt
day-clear (l ∷ ls) = opened-clear (first_of l) ls

pub none-halted : NoneHalted
unfolding NoneHalted
none-halted bytes = day-clear (lines_of bytes)
