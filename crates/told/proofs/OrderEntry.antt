-- One entry of an order that the reference machine allows: the worker's turns, after a submit where it is idle. Of each worker
-- the sections taken, with those that wait, are as before; and none is left before a section's first instruction.
use Prim.Native.Nat.{ℕ, ◌+◌, ◌^◌, ◌<◌, ◌≤◌}
use mathlib.Core.Path.{◌≡◌, refl, ap, subst, ◌∙◌, sym}
use mathlib.Core.Logic.{◌≢◌, inl, inr}
use mathlib.Core.Bool.{true}
use mathlib.Core.Option.{some}
use mathlib.Core.List.{List, [], ◌∷◌, ◌++◌, map, append_assoc}
use lib.ListN.{length, get_or, get_or-eq_default}
use borrow.Author.Tests.{lt-ltb, eq-eqb}
use native.Mathlib.Omega.{arith}
use native.Mathlib.Decide.{dec_lt, ℕ_discrete}
use Rattle.base.proofs.Bools.{and_both}
use Rattle.image.specs.declared.Field.TheVariants.{Finished}
use Rattle.image.specs.Place.{field}
use Rattle.image.specs.Image.{at}
use Rattle.working.specs.Cursor.{idle, on, cursor_at}
use Rattle.claims.specs.Reference.{State, Given, start, advance}
use Rattle.claims.specs.Events.{but}
use Rattle.claims.specs.Calls.{Traced, Move, move, play, machine, callable, submits}
use Rattle.claims.specs.Claims.{calls_of, of_worker}
use Rattle.claims.proofs.LiveTurn.{but_same, but-other, changed}
use Rattle.told.proofs.OrderTurn.{view-few}
use Rattle.told.proofs.OrderLevel.{Idles, Stand, Even, AllBegun, even-view}
use Rattle.told.proofs.OrderBlock.{Block}
use Rattle.told.proofs.OrderStep.{none-some, step_block}
use Rattle.told.proofs.OrderSubmit.{Able, next_number, submit_next, next-room, next-view, next-even}
use Rattle.claims.proofs.Feeding.{of-snoc-same, of-snoc-other}

-- ---- the sections of one worker

-- one more taken, one less waits
kept-one :
    (d : ℕ) (taken rest : List Given) (g : Given) (gs : ℕ → List Given) → g.worker ≡ d → gs d ≡ g ∷ rest → (e : ℕ)
    → of_worker e (taken ++ (g ∷ [])) ++ but gs d rest e ≡ of_worker e taken ++ gs e
kept-one d taken rest g gs by-d waits e = by (ℕ_discrete e d)
  where
    by : Dec (e ≡ d) → of_worker e (taken ++ (g ∷ [])) ++ but gs d rest e ≡ of_worker e taken ++ gs e
    by (yes p) = rw (p, of-snoc-same d taken g by-d, but_same gs d rest, waits, append_assoc (of_worker d taken) (g ∷ []) rest)
    by (no p) =
        rw (of-snoc-other e taken g (λ q. p (sym (sym by-d ∙ q))), but-other gs d rest e p)

-- ---- an entry

pub record EntryHad (mark n D : ℕ) (w : Traced) (d : ℕ) (t : State) (gs : ℕ → List Given) : Type 0 where
  pub moves : List Move
  pub by-worker : calls_of d moves ≡ true
  pub words : machine moves ≡ true
  pub rests : ℕ → List Given
  pub able : (e : ℕ) → e < D → Able n e (rests e)
  pub even : Even mark n D (play mark n moves w) t rests
  pub kept : (e : ℕ) → of_worker e (play mark n moves w).trace.taken ++ rests e ≡ of_worker e w.trace.taken ++ gs e
  pub begun : AllBegun w → AllBegun (play mark n moves w)

block-begun :
    (mark n D : ℕ) (w : Traced) (d : ℕ) (t : State) (gs : ℕ → List Given) → (b : Block mark n D w d t gs)
    → ((e : ℕ) → e ≢ d → cursor_at w.world.cursors e ≢ on 0 0) → AllBegun (play mark n b.moves w)
block-begun mark n D w d t gs b h e = by (ℕ_discrete e d)
  where
    by : Dec (e ≡ d) → cursor_at (play mark n b.moves w).world.cursors e ≢ on 0 0
    by (yes p) = rw p b.begun
    by (no p) = rw (b.others e p) (h e p)

-- an entry is of a worker that has a section
no-queue : (s t : State) (d : ℕ) → get_or s.queues d [] ≡ [] → advance s d ≡ some t → ⊥
unfolding advance
no-queue s t d e h = none-some (rw e at h)

module _
    (mark n D : ℕ) (w : Traced) (s t : State) (gs : ℕ → List Given) (E : Even mark n D w s gs) (able : (e : ℕ) → e < D → Able n e (gs e)) (least : 8 ≤ n)
    (most : n ≤ 64) (d : ℕ)
    (goes : advance s d ≡ some t) where
  entry-worker : d < D
  entry-worker = by (dec_lt d D)
    where
      by : Dec (d < D) → d < D
      by (yes l) = l
      by (no l) = let m = E.level.many in absurd (no-queue s t d (get_or-eq_default s.queues [] (omega arith)) goes)

  from_block : Block mark n D w d t gs → EntryHad mark n D w d t gs
  from_block b =
      record {
        moves = b.moves;
        by-worker = b.by-worker;
        words = b.words;
        rests = gs;
        able = able;
        even = b.even;
        kept = λ e. ap (λ (l : List Given). of_worker e l ++ gs e) b.entered;
        begun = λ h. block-begun mark n D w d t gs b (λ e p. h e);
      }

  -- a submit, and the first instruction's turns
  module _
      (idles : Idles n (at n w.world.image) d (cursor_at w.world.cursors d) (get_or s.queues d []) (gs d)) (g : Given) (rest : List Given)
      (waits : gs d ≡ g ∷ rest) (fits : Able n d (g ∷ rest)) where
    abbrev submitting : Move
    submitting = submit_next mark n D w s gs E d entry-worker least most idles g rest waits fits.0

    abbrev after : Traced
    after = move mark n submitting w

    abbrev after-even : Even mark n D after s (but gs d rest)
    after-even = next-even mark n D w s gs E d entry-worker least most idles g rest waits fits.0

    after-mine : cursor_at after.world.cursors d ≡ on 0 0
    after-mine = (next-view mark n D w s gs E d entry-worker least most idles g rest waits fits.0).mine

    after-entered : after.trace.taken ≡ w.trace.taken ++ (g ∷ [])
    after-entered = (next-view mark n D w s gs E d entry-worker least most idles g rest waits fits.0).entered

    after-others : (e : ℕ) → e ≢ d → cursor_at after.world.cursors e ≡ cursor_at w.world.cursors e
    after-others = (next-view mark n D w s gs E d entry-worker least most idles g rest waits fits.0).others

    submit-block : Stand n (at n after.world.image) d (cursor_at after.world.cursors d) (get_or s.queues d []) (but gs d rest d)
        → Block mark n D after d t (but gs d rest)
    submit-block (inl i) =
        let a : cursor_at after.world.cursors d ≡ on 0 0 = after-mine in
        let b : cursor_at after.world.cursors d ≡ idle = i.cursor in
        let z : ◌≡◌ {A = ℕ} 0 1 = cc in
        absurd (omega arith)
    submit-block (inr W) = step_block mark n D after s t (but gs d rest) after-even d entry-worker W goes

    submit-callable : callable (submits d (next_number mark n D w s gs E d entry-worker least most idles g rest waits fits.0) g.args g.code) ≡ true
    submit-callable =
        let few = view-few mark n D w _ d idle _ _ (even-view mark n D w s gs E d idle idles.cursor) entry-worker in
        let dl = entry-worker in
        let r = next-room mark n D w s gs E d entry-worker least most idles g rest waits fits.0 in
        rw (
          lt-ltb d (2 ^ 64) (omega arith),
          lt-ltb (at n w.world.image (field Finished d) + 1) (2 ^ 64) (omega arith),
          eq-eqb (length g.args) 8
              fits.0.eight,
          fits.0.arg-words,
          fits.0.code-words,
        )

    submit-entry : EntryHad mark n D w d t gs
    unfolding play machine
    submit-entry =
        let b = submit-block (after-even.level.stands d entry-worker) in
        record {
          moves = submitting ∷ b.moves;
          by-worker = rw (eq-eqb d d refl) b.by-worker;
          words = and_both _ (machine b.moves) submit-callable b.words;
          rests = but gs d rest;
          able = λ e l. changed (λ (x : ℕ) (l : List Given). Able n x l) gs d rest fits.1 e (λ h. able e l);
          even = b.even;
          kept =
              λ e. ap (λ (l : List Given). of_worker e l ++ but gs d rest e) (b.entered ∙ after-entered) ∙ kept-one d w.trace.taken rest g gs fits.0.by
              waits e;
          begun = λ h. block-begun mark n D after d t (but gs d rest) b (λ e p. rw (after-others e p) (h e));
        }

  private-entry : Stand n (at n w.world.image) d (cursor_at w.world.cursors d) (get_or s.queues d []) (gs d) → (l : List Given) → gs d ≡ l
      → EntryHad mark n D w d t gs
  private-entry (inl i) [] e = absurd (no-queue s t d (i.queue ∙ ap (map (start n)) e) goes)
  private-entry (inl i) (g ∷ rest) e = submit-entry i g rest e (subst (Able n d) e (able d entry-worker))
  private-entry (inr W) l e = from_block (step_block mark n D w s t gs E d entry-worker W goes)

  pub entry : EntryHad mark n D w d t gs
  entry = private-entry (E.level.stands d entry-worker) (gs d) refl
