-- What the loops of a run keep: within a round, that the turns of the workers from d on are left of it; between rounds, that
-- the rounds that are left are those of the whole run. One law for each way that a loop goes on or ends.
use Prim.Native.Nat.{ℕ, ◌+◌, ◌*◌, ◌-◌, ◌<◌, ◌≤◌}
use mathlib.Core.Path.{◌≡◌, refl, sym, ap, ◌∙◌}
use mathlib.Core.Bool.{Bool, true, false, cond}
use mathlib.Core.Logic.{◌≢◌}
use native.Mathlib.Omega.{arith}
use native.Mathlib.Decide.{ℕ_discrete}
use lib.ListN.{get_or}
use lib.Dec.{leb, eqb}
use borrow.Author.Tests.{leb-true, leb-false}
use Rattle.base.proofs.Counting.{left-all}
use Rattle.image.specs.Image.{at}
use Rattle.image.proofs.Header.{Sized}
use Rattle.tally.specs.declared.Tally.{Tally}
use Rattle.turn.specs.declared.Did.{Did}
use Rattle.working.specs.declared.Refusal.TheVariants.{Cursor as CursorRefused}
use Rattle.run.specs.declared.End.TheVariants.{AllIdle, Spent, Halted}
use Rattle.working.specs.Cursor.{is_idle, cursor_at}
use Rattle.working.specs.World.{World}
use Rattle.turn.specs.Call.{answer_of, leaves, outcome_at}
use Rattle.turn.specs.Counted.{counted}
use Rattle.plan.specs.Inner.Plan.{plan_of}
use Rattle.turn.specs.Inner.Acting.{tested, plan_did, did_answer}
use Rattle.run.specs.Run.{open_to, Counting, counting, ran, through, halted, sweep, rounds_of}
use Rattle.working.proofs.Placed.{Full, idle-says}
use Rattle.run.proofs.Staying.{Known, known-turn, sized-leaves}
use Rattle.turn.proofs.Turns.{made_at, refused-at, made-goes, did-answers, leaves-other}
use Rattle.run.proofs.Idling.{Idle, sweep-idle, sweep-rest, to-zero, to-most, to-idle, to_none, to_some, to-cut, to_same, to_below, to-with}
use Rattle.run.proofs.Rounds.{Most, most-more, most-counted, turned-is, sweep-on, sweep-halts}
use Rattle.run.proofs.Rounds.{rounds-idle, rounds-spent, rounds-on, after-through, after-halted}

-- what holds of worker d, and of each other, holds of each
pub by-worker : (P : ℕ → Type 0) (i d : ℕ) → P d → (i ≢ d → P i) → P i
by-worker P i d p q = by (ℕ_discrete i d)
  where
    by : Dec (i ≡ d) → P i
    by (yes e) = rw e p
    by (no e) = q e

-- ---- within a round: from s₀ to s, with the workers below d through, and `next` the last open one of them

pub record Lap (own n to round : ℕ) (s₀ s : Counting) (next d : ℕ) : Type 0 where
  pub below : d ≤ to
  pub top : to ≤ n
  pub few : n ≤ 8
  pub full : Full s.world.cursors
  pub size : Sized own n s.world.image
  pub most : Most (8 * round + d) s.tally
  pub last : next ≡ open_to d s.world.cursors
  pub rest : Idle s.world.cursors to n
  pub known : (e : ℕ) → e < n → (round ≡ 0 → e < d) → Known own s.world e
  pub same : sweep own (n - d) d s ≡ sweep own n 0 s₀

module _ (own n to round : ℕ) (s₀ s : Counting) (next d : ℕ) (l : Lap own n to round s₀ s next d) where
  -- past an idle worker
  pub lap-idle : d < to → is_idle (cursor_at s.world.cursors d) ≡ true → Lap own n to round s₀ s next (d + 1)
  lap-idle h e =
      let rests = idle-says s.world.cursors d (rw l.full.turns (omega (arith, l.top, l.few))) e in
      let here : Known own s.world d = λ a b. absurd (b rests) in
      record {
        below = omega arith;
        top = l.top;
        few = l.few;
        full = l.full;
        size = l.size;
        most = most-more (8 * round + d) (8 * round + (d + 1)) l.most (omega arith);
        last = l.last ∙ sym (to_below s.world.cursors d e);
        rest = l.rest;
        known = λ i a g. by-worker (Known own s.world) i d here (λ q. l.known i a (λ r. omega (arith, g r, q)));
        same = rw (sweep-idle own n d s (omega (arith, l.top)) e) at l.same;
      }

  -- past a turn that is made
  pub lap-turn : (w : World) (x : Did) (t : Tally) (m : ℕ) → d < to → Full w.cursors
      → tested own s.world.image s.world.cursors d ≡ true
      → x ≡ plan_did (plan_of own (outcome_at own s.world d))
      → w ≡ leaves own s.world d (outcome_at own s.world d)
      → t ≡ counted (did_answer own x) s.tally
      → m ≡ cond (eqb (get_or w.cursors.turn d 0) 255) next (d + 1)
      → Lap own n to round s₀ (counting w t) m (d + 1)
  lap-turn w x t m h f test did left count kept =
      let few : d < 8 = omega (arith, l.top, l.few) in
      let made = made_at own s.world d l.full few test in
      let o = outcome_at own s.world d in
      let said : did_answer own x ≡ answer_of own o = ap (did_answer own) did ∙ did-answers own o made in
      let turn = turned-is own s d w (did_answer own x) t left said count in
      let others : (i : ℕ) → i ≢ d → cursor_at w.cursors i ≡ cursor_at s.world.cursors i = λ i q. rw left (leaves-other own s.world d i o q) in
      let below : next ≡ open_to d w.cursors = l.last ∙ sym (to_same s.world.cursors w.cursors d (λ i q. others i (λ r. omega arith))) in
      record {
        below = omega arith;
        top = l.top;
        few = l.few;
        full = f;
        size = rw left (sized-leaves n own s.world d l.full l.size (omega (arith, l.top)) few o);
        most = rw count (most-more (8 * round + d + 1) (8 * round + (d + 1)) (most-counted (8 * round + d) (did_answer own x) l.most) (omega arith));
        last = kept ∙ to-with w.cursors d next (rw f.turns (omega (arith, l.top, l.few))) below;
        rest = λ i a b. rw (others i (λ r. omega arith)) (l.rest i a b);
        known =
            λ i a g. rw left (known-turn n own s.world d l.full l.size (omega (arith, l.top)) few test i
            (λ q. l.known i a (λ r. omega (arith, g r, q))));
        same = rw (sweep-on n d (omega (arith, l.top)) own s (made-goes own o made), ← turn) at l.same;
      }

  -- through all of them
  pub lap-through : to ≤ d → sweep own n 0 s₀ ≡ through s
  lap-through h =
      let q : d ≡ to = omega (arith, l.below) in
      sym l.same ∙ sweep-rest own n d s (omega (arith, l.top)) (rw q l.rest)

  pub lap-last : to ≤ d → next ≡ open_to n s.world.cursors
  lap-last h =
      let q : d ≡ to = omega (arith, l.below) in
      l.last ∙ sym (to-cut s.world.cursors n d (omega (arith, l.top)) (rw q l.rest))

  -- each worker is then known to be ready, or idle
  pub lap-known : to ≤ d → (i : ℕ) → i < n → Known own s.world i
  lap-known h i a = by (leb to i) refl
    where
      by : (b : Bool) → leb to i ≡ b → Known own s.world i
      by true e = λ p q. absurd (q (idle-says s.world.cursors i (rw l.full.turns (omega (arith, l.few))) (l.rest i (leb-true to i e) a)))
      by false e = l.known i a (λ r. omega (arith, leb-false to i e))

  -- halted
  pub lap-halts : d < to → get_or s.world.cursors.turn d 0 ≢ 255 → tested own s.world.image s.world.cursors d ≡ false
      → sweep own n 0 s₀ ≡ halted (CursorRefused d) s
  lap-halts h o e =
      sym l.same
      ∙ sweep-halts n d (omega (arith, l.top)) own s (CursorRefused d) (refused-at own s.world d l.full (omega (arith, l.top, l.few)) o e)

-- ---- between rounds: from s₀ to s, with `to` the last open worker

pub record Laps (own n rounds : ℕ) (s₀ s : Counting) (round to : ℕ) : Type 0 where
  pub below : round ≤ rounds
  pub few : n ≤ 8
  pub full : Full s.world.cursors
  pub size : Sized own n s.world.image
  pub most : Most (8 * round) s.tally
  pub last : to ≡ open_to n s.world.cursors
  pub known : (e : ℕ) → e < n → round ≢ 0 → Known own s.world e
  pub same : rounds_of own (rounds - round) n s ≡ rounds_of own rounds n s₀

module _ (own n rounds : ℕ) (s₀ s : Counting) (round to : ℕ) (l : Laps own n rounds s₀ s round to) where
  -- a round begins
  pub laps-lap : Lap own n to round s s 0 0
  laps-lap =
      record {
        below = omega arith;
        top = rw l.last (to-most s.world.cursors n);
        few = l.few;
        full = l.full;
        size = l.size;
        most = most-more (8 * round) (8 * round + 0) l.most (omega arith);
        last = sym (to-zero s.world.cursors);
        rest = rw l.last (to-idle s.world.cursors n);
        known = λ i a g. l.known i a (λ q. absurd (omega (arith, g q)));
        same = rw left-all;
      }

  -- and ends
  pub laps-again : (v : Counting) (next d : ℕ) → Lap own n to round s v next d → to ≤ d → to ≢ 0 → round < rounds → Laps own n rounds s₀ v (round + 1) next
  laps-again v next d p h o r =
      record {
        below = omega arith;
        few = l.few;
        full = p.full;
        size = p.size;
        most = most-more (8 * round + d) (8 * (round + 1)) p.most (omega (arith, p.below, p.top, p.few));
        last = lap-last own n to round s v next d p h;
        known = λ i a g. lap-known own n to round s v next d p h i a;
        same =
            rw (
              rounds-on own n rounds round s r (to_some s.world.cursors n (λ q. o (l.last ∙ q))),
              lap-through own n to round s v next d p h,
              after-through,
            ) at l.same;
      }

  -- a round that changed nothing leaves one worker alone, where it was before
  pub laps-still : (v : Counting) (next d : ℕ) → Lap own n to round s v next d → to ≤ d → v ≡ s → open_to (to - 1) s.world.cursors ≡ 0
      → open_to (next - 1) v.world.cursors ≡ 0
  laps-still v next d p h e o =
      let q : next ≡ to = lap-last own n to round s v next d p h ∙ ap (λ (x : Counting). open_to n x.world.cursors) e ∙ sym l.last in
      ap (λ (x : Counting). open_to (next - 1) x.world.cursors) e ∙ rw q o

  -- all are idle, the rounds are spent, or a turn is refused
  pub laps-idle : to ≡ 0 → ran AllIdle s ≡ rounds_of own rounds n s₀
  laps-idle o = rw (rounds-idle own n (rounds - round) s (to_none s.world.cursors n (sym l.last ∙ o))) at l.same

  pub laps-spent : rounds ≤ round → to ≢ 0 → ran Spent s ≡ rounds_of own rounds n s₀
  laps-spent h o = rw (rounds-spent own n rounds round s h (to_some s.world.cursors n (λ q. o (l.last ∙ q)))) at l.same

  pub laps-halts : (v : Counting) (d : ℕ) → to ≢ 0 → round < rounds → sweep own n 0 s ≡ halted (CursorRefused d) v
      → ran (Halted (CursorRefused d)) v ≡ rounds_of own rounds n s₀
  laps-halts v d o r e = rw (rounds-on own n rounds round s r (to_some s.world.cursors n (λ q. o (l.last ∙ q))), e, after-halted) at l.same
