-- What a turn and a run answer. A turn answers idle just where its worker is idle: no turn of an instruction rests. A run of a
-- world that runs is never refused, and answers that all are idle just where nobody is open after its rounds, else that they
-- are spent: by the induction that gives the world after it, over the rounds and the workers of a round.
use Prim.Native.Nat.{ℕ, suc, zero, ◌+◌, ◌<◌, ◌≤◌}
use mathlib.Core.Path.{◌≡◌, refl, sym, ap, ◌∙◌}
use mathlib.Core.Logic.{◌↔◌}
use mathlib.Core.Bool.{Bool, true, false, cond, true≢false}
use mathlib.Core.List.{List}
use borrow.Author.Tests.{lt-ltb}
use native.Mathlib.Omega.{arith}
use Rattle.tally.specs.declared.Tally.{Tally}
use Rattle.tally.specs.Tally.{none}
use Rattle.image.specs.Place.{Memory}
use Rattle.image.specs.Image.{at, workers, header_ok}
use Rattle.turn.specs.declared.Answer.TheVariants.{Idle}
use Rattle.run.specs.declared.End.TheVariants.{AllIdle, Spent}
use Rattle.working.specs.Cursor.{idle, cursor_at}
use Rattle.plan.specs.Turn.{Outcome, stored, passed, waiting, resting, refused, turn_at}
use Rattle.working.specs.World.{World}
use Rattle.turn.specs.Call.{answer_of, outcome_at, outcome}
use Rattle.run.specs.Run.{any_open, Counting, counting, Course, ran, Sweep, turned, swept, sweep, after_sweep, rounds_of, run_of}
use Rattle.working.proofs.Placed.{idle-is}
use Rattle.claims.specs.Calls.{Traced, turned_at, refuses, round, rounds, runs, whole, call, lent, move}
use Rattle.claims.specs.Claims.{is_halted, run_end}
use Rattle.claims.proofs.Progress.{is_resting, open-acts}
use Rattle.claims.proofs.Worlds.{Running}
use Rattle.claims.proofs.Settling.{Spare, spare-turn, never-refused}
use Rattle.claims.proofs.Played.{plenty, spare-lent, ran-is}

-- ---- a turn

rests-answer : (n : ℕ) (o : Outcome) → answer_of n o ≡ Idle → is_resting o ≡ true
rests-answer n (stored p v c) e = cc
rests-answer n (passed why c) e = cc
rests-answer n (waiting b) e = cc
rests-answer n resting e = refl
rests-answer n (refused r) e = cc

idle-rests : (n : ℕ) (rd : Memory) (d : ℕ) → turn_at n rd d idle ≡ resting
unfolding turn_at
idle-rests n rd d = refl

-- an idle worker is one whose turn answers idle
pub idle-answers :
    (mark n : ℕ) (w : World) (d : ℕ) → header_ok mark n w.image ≡ true → d < workers w.image
    → (cursor_at w.cursors d ≡ idle) ↔ (answer_of n (outcome mark n w d) ≡ Idle)
unfolding outcome outcome_at
idle-answers mark n w d header l =
    let rd = at n w.image in
    let c = cursor_at w.cursors d in
    let below = lt-ltb d (workers w.image) l in
    (λ e. rw (header, below, e, idle-rests n rd d), λ e. idle-is c (sym (open-acts n rd d c) ∙ rests-answer n (turn_at n rd d c) (rw (header, below) at e)))

-- ---- a run

-- a run that is spent or finds all idle was not refused
pub end-made : (b : Bool) → is_halted (cond b Spent AllIdle) ≡ false
end-made true = refl
end-made false = refl

module _ (mark n : ℕ) where
  -- a turn that is not refused goes on
  swept-on : (o : Outcome) (s : Counting) (more : Sweep) → refuses mark n o ≡ false → swept n o s more ≡ more
  swept-on (stored p v c) s more e = refl
  swept-on (passed why c) s more e = refl
  swept-on (waiting b) s more e = refl
  swept-on resting s more e = refl
  swept-on (refused r) s more e = absurd (true≢false e)

  module _ (D : ℕ) (cells : List ℕ) where
    -- a round, and what follows it
    round-end :
        (rest : Traced → Traced) (more : Counting → Course)
        → ((v : Traced) (t : Tally) → Spare mark n D cells v → (more (counting v.world t)).end ≡ cond (any_open D 0 (rest v).world.cursors) Spent AllIdle)
        → (k d : ℕ) (w : Traced) (t : Tally) → d + k ≤ D → Spare mark n D cells w
        → (after_sweep n more (sweep n k d (counting w.world t))).end ≡ cond (any_open D 0 (round mark n rest w d k).world.cursors) Spent AllIdle
    unfolding round sweep after_sweep turned turned_at
    round-end rest more follows zero d w t l s = follows w t s
    round-end rest more follows (suc k) d w t l s =
        let goes = never-refused mark n D cells w d s.running (omega arith) in
        rw (goes, swept-on (outcome_at n w.world d) (counting w.world t) (sweep n k (d + 1) (turned n (counting w.world t) d)) goes)
        (round-end rest more follows k (d + 1) (turned_at mark n w d) (turned n (counting w.world t) d).tally (omega arith)
        (spare-turn mark n D cells w d s (omega arith)).spare)

    pub end-agrees :
        (r : ℕ) (w : Traced) (t : Tally) → Spare mark n D cells w
        → (rounds_of n r D (counting w.world t)).end ≡ cond (any_open D 0 (rounds mark n r D w).world.cursors) Spent AllIdle
    unfolding rounds rounds_of
    end-agrees zero w t s = by (any_open D 0 w.world.cursors)
      where
        by : (b : Bool) → (cond b (ran Spent (counting w.world t)) (ran AllIdle (counting w.world t))).end ≡ cond b Spent AllIdle
        by true = refl
        by false = refl
    end-agrees (suc r) w t s =
        by (any_open D 0 w.world.cursors) refl (round-end (rounds mark n r D) (rounds_of n r D) (λ v u x. end-agrees r v u x) D 0 w t (omega arith) s)
      where
        by :
            (b : Bool) → any_open D 0 w.world.cursors ≡ b
            → (after_sweep n (rounds_of n r D) (sweep n D 0 (counting w.world t))).end
            ≡ cond (any_open D 0 (round mark n (rounds mark n r D) w 0 D).world.cursors) Spent AllIdle
            → (cond b (after_sweep n (rounds_of n r D) (sweep n D 0 (counting w.world t))) (ran AllIdle (counting w.world t))).end
            ≡ cond (any_open D 0 (cond b (round mark n (rounds mark n r D) w 0 D) w).world.cursors) Spent AllIdle
        by true e h = h
        by false e h = rw e

    run-rounds : (r : ℕ) (w : World) → header_ok mark n w.image ≡ true → workers w.image ≡ D → run_of mark n w r ≡ rounds_of n r D (counting w none)
    unfolding run_of
    run-rounds r w header many = rw (header, many)

    -- a run made now, and lent enough
    pub run_end_lem :
        (r : ℕ) (w : Traced) → Running mark n D cells w
        → run_end mark n w r ≡ cond (any_open D 0 (move mark n (whole (runs r)) w).world.cursors) Spent AllIdle
    unfolding move call
    run_end_lem r w h =
        let v = lent mark n (plenty mark n D cells) w in
        ap (λ (x : Course). x.end) (run-rounds r v.world h.reached.header h.reached.many)
        ∙ rw (ran-is mark n D cells v r h.reached) (end-agrees r v none (spare-lent mark n D cells w (plenty mark n D cells) h (omega arith)))
