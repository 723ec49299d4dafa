-- `run::rounds_of` meets its contract: its loops keep what Laps says of a round and of the rounds, and each way on
-- or out of them is one of its laws, or for a worker alone one of Solo's.
use Prim.Native.Nat.{ℕ, ◌<◌, ◌≤◌}
use mathlib.Core.Path.{◌≡◌, refl, sym, ap, ◌∙◌}
use native.Mathlib.Omega.{arith}
use lib.ListN.{length, length-set}
use borrow.Author.Tests.{not-true, not-false}
use Rattle.working.specs.declared.Cursors.{Cursors}
use Rattle.working.specs.declared.Refusal.TheVariants.{Cursor as CursorRefused}
use Rattle.working.specs.Cursor.{set_at, holding}
use Rattle.working.specs.World.{world}
use Rattle.run.specs.declared.End.TheVariants.{Halted}
use Rattle.run.specs.Run.{Counting, counting, ran}
use Rattle.run.proofs.Idling.{to-most}
use Rattle.working.proofs.Placed.{Full, idle-turn, open_turn}
use Rattle.run.proofs.Laps.{Lap, lap-idle, lap-turn, lap-halts, laps-lap, laps-again, laps-still, laps-idle, laps-spent, laps-halts}
use Rattle.run.proofs.Solo.{laps-alone, settled_same}
use Rattle.run.proofs.rounds_of.Goals.{then-ended-2, else-ended-2}
use Rattle.run.proofs.rounds_of.Goals as goal

-- a worker below the last open one is one of eight
few : {own n to round next d : ℕ} {s₀ s : Counting} → Lap own n to round s₀ s next d → d < to → d < 8
few l h = omega (arith, l.top, l.few, h)

pub open_below-below-requires : goal.open_below-below-requires
open_below-below-requires c = omega (arith, c.open_to-to.ensures c.args.cursors refl, to-most c.args.cursors c.args.n, c.requires.2)

pub loop-d-init : goal.loop-d-init
loop-d-init c = record { shape = refl; lap = laps-lap _ _ _ _ _ _ _ c.rounds.invariant.laps; round = refl; still = λ e. refl }

pub loop-d-preserved-then-t : goal.loop-d-preserved-then-t
loop-d-preserved-then-t c =
    let L = c.loop-d in
    let l = L.invariant.lap in
    let here = c.loop-d-test.true in
    let idle = idle-turn (holding L.held L.c) L.d (rw l.full.turns (few l here)) c.if-t.true in
    record { shape = L.invariant.shape; lap = lap-idle _ _ _ _ _ _ _ _ l here idle; round = L.invariant.round; still = L.invariant.still }

pub rounds-preserved-then-below-eq0 : goal.rounds-preserved-then-below-eq0
unfolding set_at
rounds-preserved-then-below-eq0 c =
    let L = c.loop-d in
    let R = c.rounds in
    let T = c.turns-w in
    let w = T.result in
    let l = L.invariant.lap in
    let lone = c.if-below-eq0.true in
    let here = c.loop-d-test.true in
    let busy = open_turn (holding L.held L.c) L.d (rw l.full.turns (few l here)) c.if-t.false in
    let set = ap (holding w.held) (c.settle.ensures L.c refl) in
    let more = laps-alone _ _ _ R.invariant.laps (R.invariant.alone lone) _ (holding L.held L.c) _ _ (L.invariant.still lone) L.d here busy T.ensures.went.made
    L.invariant.round (omega (arith, c.if-w-eq0.false)) T.ensures.most c.open_with-to.ensures _ set in
    record { shape = T.auto.image ∙ L.invariant.shape ∙ R.invariant.shape; laps = more.0; alone = λ e. more.1 }

pub loop-d-preserved : goal.loop-d-preserved
unfolding set_at
loop-d-preserved c =
    let L = c.loop-d in
    let a = c.in-Some.acted in
    let made = c.in-Some.ensures in
    let l = L.invariant.lap in
    let here = c.loop-d-test.true in
    let inside : L.d < length L.c.turn = rw l.full.turns (few l here) in
    let acts = made.2 (holding L.held L.c) (record { inside = inside; step = refl; turn = refl }) in
    let h = c.held_after-held in
    let full : Full (holding h.result (set_at L.c L.d a.step a.turn)) =
    record { steps = length-set L.c.step L.d a.step ∙ l.full.steps; turns = length-set L.c.turn L.d a.turn ∙ l.full.turns } in
    record {
      shape = c.lap.auto.image ∙ L.invariant.shape;
      lap =
          lap-turn _ _ _ _ _ _ _ _ l _ _ _ _ here full made.0 acts.did (rw (← h.ensures) at acts.after) (c.counted-tally.ensures _)
          c.open_with-next.ensures;
      round = L.invariant.round;
      still = λ e. absurd (c.if-below-eq0.false e);
    }

pub open_below-below-requires-then-ended-2 : goal.open_below-below-requires-then-ended-2
open_below-below-requires-then-ended-2 c =
    let L = c.loop-d in
    let l = L.invariant.lap in
    omega (arith, l.last, to-most (holding L.held L.c) L.d, l.below, l.top, l.few)

pub rounds-preserved : goal.rounds-preserved
rounds-preserved c =
    let L = c.loop-d in
    let R = c.rounds in
    let over : R.to ≤ L.d = omega (arith, L.invariant.lap.below, c.loop-d-test.false) in
    let more : R.round < c.args.rounds = omega (arith, c.if-round-rounds.false, R.invariant.laps.below) in
    let again = laps-again _ _ _ _ _ _ _ R.invariant.laps _ _ _ L.invariant.lap over c.if-to-eq0.false more in
    record {
      shape = L.invariant.shape ∙ R.invariant.shape;
      laps = rw L.invariant.round again;
      alone = λ e. elim c.if-ended-2.branch [
        | then-ended-2 x ↦ sym (x.open_below-below-then-ended-2.ensures (holding L.held L.c) refl) ∙ sym x.below-is ∙ e
        | else-ended-2 x ↦ let z = sym x.below-is ∙ e in
            laps-still _ _ _ _ _ _ _ R.invariant.laps _ _ _ L.invariant.lap over (L.invariant.still z) (R.invariant.alone z)
      ];
    }

pub returns-then-to-eq0 : goal.returns-then-to-eq0
returns-then-to-eq0 c = laps-idle _ _ _ _ _ _ _ c.rounds.invariant.laps c.if-to-eq0.true

pub returns-then-round-rounds : goal.returns-then-round-rounds
returns-then-round-rounds c = laps-spent _ _ _ _ _ _ _ c.rounds.invariant.laps (omega arith) c.if-to-eq0.false

pub returns-then-w-eq0 : goal.returns-then-w-eq0
unfolding set_at
returns-then-w-eq0 c =
    let L = c.loop-d in
    let R = c.rounds in
    let T = c.turns-w in
    let w = T.result in
    let still = T.ensures.went.stays c.if-w-eq0.true in
    let here = c.loop-d-test.true in
    let set = ap (holding L.held) (c.settle.ensures L.c refl) in
    let back = set ∙ ap (holding L.held) (settled_same (holding L.held L.c) L.d still.2 still.3) in
    let halts = lap-halts _ _ _ _ _ _ _ _ L.invariant.lap here c.if-t.false (T.ensures.went.refused c.if-w-eq0.true) in
    let more : R.round < c.args.rounds = omega (arith, c.if-round-rounds.false, R.invariant.laps.below) in
    let ends = laps-halts _ _ _ _ _ _ _ R.invariant.laps _ _ c.if-to-eq0.false more halts in
    rw (still.0, still.1) (ap (λ (k : Cursors). ran (Halted (CursorRefused L.d)) (counting (world L.image k L.left) L.tally)) back ∙ ends)

pub returns-in_default : goal.returns-in_default
returns-in_default c =
    let L = c.loop-d in
    let R = c.rounds in
    let no = c.in_default.ensures in
    let halts = lap-halts _ _ _ _ _ _ _ _ L.invariant.lap c.loop-d-test.true c.if-t.false no.0 in
    let more : R.round < c.args.rounds = omega (arith, c.if-round-rounds.false, R.invariant.laps.below) in
    rw (no.1, no.2) (laps-halts _ _ _ _ _ _ _ R.invariant.laps _ _ c.if-to-eq0.false more halts)
