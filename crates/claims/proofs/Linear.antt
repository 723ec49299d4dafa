-- Demand 2, first half: with no cut and no recovery every section that is taken is begun, each worker's in the order in which it
-- took them. So where all workers are idle in the end the machine fed the sections taken is the machine fed the sections begun,
-- and the cells are those that it gives. First each call keeps the two lists paired; then lists of calls; last the theorem.
use Prim.Native.Nat.{ℕ, ◌<◌, ◌≤◌}
use mathlib.Core.Path.{◌≡◌, refl, sym, subst}
use mathlib.Core.Logic.{◌≢◌}
use mathlib.Core.Bool.{Bool, true, false, not, false≢true}
use mathlib.Core.List.{List, [], ◌∷◌, ◌++◌}
use native.Mathlib.Omega.{arith}
use native.Mathlib.Decide.{ℕ_discrete}
use lib.ListN.{length}
use lib.Dec.{ltb}
use borrow.Author.Tests.{ltb-true}
use Rattle.std.specs.Prelude.{Ok, Err}
use Rattle.base.proofs.Bools.{and_left, and_right}
use Rattle.image.specs.declared.Field.TheVariants.{Pc}
use Rattle.image.specs.Place.{field}
use Rattle.image.specs.Image.{Image, at, workers, cells_of, put_all}
use Rattle.working.specs.Cursor.{Cursor, on, cursor_at, placed, all_idle}
use Rattle.plan.specs.Turn.{turn_at}
use Rattle.turn.specs.Call.{outcome_at, outcome}
use Rattle.intake.specs.Submit.{Submitted, submission, submit_answer, submit_leaves}
use Rattle.working.proofs.Placed.{placed_same, placed-other}
use Rattle.working.proofs.Placed.{idle-is}
use Rattle.claims.specs.Reference.{Given, given, initial}
use Rattle.claims.specs.Events.{but}
use Rattle.claims.specs.Calls.{Traced, traced, turn_by, turned_at, ran_by, submit_trace, Call, submits, turns, runs, recovers, Move, whole, cut, call, lent}
use Rattle.claims.specs.Calls.{move, play, from, recovering, plain, callable, machine}
use Rattle.claims.specs.Claims.{Idle, Linearizable, after}
use Rattle.claims.proofs.LiveTurn.{but_same, but-other}
use Rattle.claims.proofs.Progress.{is_moving}
use Rattle.claims.proofs.Worlds.{Running, few}
use Rattle.claims.proofs.Turning.{rounds-keep}
use Rattle.claims.proofs.Settling.{Spare, Turn, spare-turn}
use Rattle.claims.proofs.SubmissionImage.{submission-at}
use Rattle.claims.proofs.Unseen.{submission-unseen}
use Rattle.claims.proofs.Called.{TakenAs, taken_as}
use Rattle.claims.proofs.Played.{plenty, running-lent, spare-lent, ran-is, whole-call, outcome-below, outcome-above}
use Rattle.claims.proofs.Resting.{rested-running, idle-gives}
use Rattle.claims.proofs.Feeding.{of-snoc-same, of-snoc-other, initial-same}
use Rattle.claims.proofs.Pending.{pend, pend-idle, pend-start}
use Rattle.claims.proofs.Pairing.{PairedAt, paired-as, paired_none, Paired, paired-turn}
use Rattle.claims.proofs.Cursors.{idle-at}
use Rattle.claims.proofs.Moves.{args-full}

-- ---- a section taken, at one worker

-- its own: nothing was pending, and now it is
paired-taken :
    (e : ℕ) (taken begun : List Given) (pc : ℕ) (c c' : Cursor) (g x : Given) → PairedAt e taken begun pc c g → pend pc c ≡ false → pend pc c' ≡ true
    → x.worker ≡ e
    → PairedAt e (taken ++ (x ∷ [])) begun pc c' x
unfolding PairedAt
paired-taken e taken begun pc c c' g x y none one own =
    let z = paired_none e taken begun pc c g y none in
    rw (of-snoc-same e taken x own, z, one)

paired-aside : (e : ℕ) (taken begun : List Given) (pc : ℕ) (c : Cursor) (g x : Given) → x.worker ≢ e → PairedAt e taken begun pc c g
    → PairedAt e (taken ++ (x ∷ [])) begun pc c g
unfolding PairedAt
paired-aside e taken begun pc c g x i y = rw (of-snoc-other e taken x i) y

module _ (mark n D : ℕ) (cells : List ℕ) where
  -- ---- a submit

  module _ (w : Traced) (d k : ℕ) (args ws : List ℕ) (wide : 8 ≤ n) (full8 : length args ≡ 8) (r : Running mark n D cells w)
      (t : TakenAs mark n w.world d k ws)
      (paired : Paired mark n D cells w) (left : ℕ) where
    abbrev m : Image
    m = w.world.image

    abbrev x : Given
    x = given d k args ws

    -- the pcs stay
    submitted-pcs : (e : ℕ) → e < D → at n m (field Pc e) ≡ at n (put_all n left m (submission n d k args ws)) (field Pc e)
    submitted-pcs e l =
        let a = submission-at mark n m t.header d k args ws t.below wide full8 t.passes left in
        sym (rw a ((submission-unseen n D d k args ws (at n m) t.count t.pc left).pcs e l))

    -- nothing was pending, and the section is now
    taken_own : PairedAt d (w.trace.taken ++ (x ∷ [])) w.trace.begun (at n m (field Pc d)) (on 0 0) x
    taken_own =
        let l : d < D = subst (λ (e : ℕ). d < e) r.reached.many t.below in
        let c = cursor_at w.world.cursors d in
        let none : pend (at n m (field Pc d)) c ≡ false = rw (idle-is c t.idles) (pend-idle (at n m (field Pc d))) in
        paired-taken d w.trace.taken w.trace.begun (at n m (field Pc d)) c (on 0 0) (w.trace.last d) x (paired d l) none
        (pend-start (at n m (field Pc d)) 0 t.pc) refl

    submit-paired :
        (e : ℕ) → e < D
        → PairedAt e (w.trace.taken ++ (x ∷ [])) w.trace.begun (at n (put_all n left m (submission n d k args ws)) (field Pc e))
        (cursor_at (placed w.world.cursors d (on 0 0)) e) (but w.trace.last d x e)
    submit-paired e l = by (ℕ_discrete e d)
      where
        by : Dec (e ≡ d)
            → PairedAt e (w.trace.taken ++ (x ∷ [])) w.trace.begun (at n (put_all n left m (submission n d k args ws)) (field Pc e))
            (cursor_at (placed w.world.cursors d (on 0 0)) e) (but w.trace.last d x e)
        by (yes i) =
            let q = few mark n D cells w r.reached in
            let dl : d < D = rw i at l in
            let now : on 0 0 ≡ cursor_at (placed w.world.cursors d (on 0 0)) d = sym
            (placed_same w.world.cursors d (on 0 0) r.full (omega arith) (λ z. omega arith)) in
            rw (i, but_same w.trace.last d x) (paired-as d _ _ _ _ _ _ _ taken_own (submitted-pcs d dl) now)
        by (no i) =
            rw (but-other w.trace.last d x e i)
            (paired-as e _ _ _ _ _ _ _ (paired-aside e w.trace.taken w.trace.begun _ _ _ x (λ z. i (sym z)) (paired e l)) (submitted-pcs e l)
            (sym (placed-other w.world.cursors d e (on 0 0) i)))

  submit-call :
      (w : Traced) (d k : ℕ) (args ws : List ℕ) → 8 ≤ n → length args ≡ 8 → Running mark n D cells w → Paired mark n D cells w
      → Paired mark n D cells (traced (submit_leaves n w.world d k args ws (submit_answer mark n w.world d k ws))
      (submit_trace mark n w.trace (given d k args ws) (submit_answer mark n w.world d k ws)))
  submit-call w d k args ws wide full r paired = by (submit_answer mark n w.world d k ws) refl
    where
      by : (a : Submitted) → submit_answer mark n w.world d k ws ≡ a
          → Paired mark n D cells (traced (submit_leaves n w.world d k args ws a) (submit_trace mark n w.trace (given d k args ws) a))
      by (Ok tt) e = submit-paired w d k args ws wide full r (taken_as mark n w.world d k ws e) paired w.world.left
      by (Err q) e = paired

  -- ---- a turn

  turn-call : (w : Traced) (d : ℕ) → Running mark n D cells w → 0 < w.world.left → Paired mark n D cells w
      → Paired mark n D cells (turn_by mark n w d (outcome mark n w.world d))
  turn-call w d r left paired = by (ltb d D) refl
    where
      by : (b : Bool) → ltb d D ≡ b → Paired mark n D cells (turn_by mark n w d (outcome mark n w.world d))
      by true h = rw (outcome-below mark n D cells w d r.reached (ltb-true d D h)) (paired-turn mark n D cells w d r (ltb-true d D h) left paired)
      by false h = rw (outcome-above mark n D cells w d r.reached h) paired

  -- ---- a run

  -- stores for every turn, and paired
  record Coupled (w : Traced) : Type 0 where
    spare : Spare mark n D cells w
    paired : Paired mark n D cells w

  paired-turned : (w : Traced) (d : ℕ) → Running mark n D cells w → d < D → 0 < w.world.left → Paired mark n D cells w
      → Paired mark n D cells (turned_at mark n w d)
  unfolding turned_at outcome_at
  paired-turned w d r l left paired = paired-turn mark n D cells w d r l left paired

  both-turned : (w : Traced) (d : ℕ) → d < D → Coupled w → Coupled (turned_at mark n w d)
  both-turned w d l b = by (spare-turn mark n D cells w d b.spare l) (is_moving (turn_at n (at n w.world.image) d (cursor_at w.world.cursors d))) refl
    where
      by : Turn mark n D cells w d → (q : Bool) → is_moving (turn_at n (at n w.world.image) d (cursor_at w.world.cursors d)) ≡ q
          → Coupled (turned_at mark n w d)
      by t true e =
          let f = t.falls e in
          let k = b.spare.stores in
          record { spare = t.spare; paired = paired-turned w d b.spare.running l (omega arith) b.paired }
      by t false e = let q = (t.same e).1 in record { spare = t.spare; paired = rw q b.paired }

  run_call : (w : Traced) (r : ℕ) → Running mark n D cells w → plenty mark n D cells ≤ w.world.left → Paired mark n D cells w
      → Paired mark n D cells (ran_by mark n w r)
  run_call w r h l paired =
      rw (ran-is mark n D cells w r h.reached)
      (rounds-keep mark n D cells Coupled both-turned r w (record { spare = spare-lent mark n D cells w w.world.left h (omega arith); paired = paired })
      ).paired

  -- ---- each call but a recovery

  paired-call : (c : Call) (w : Traced) → 8 ≤ n → callable c ≡ true → not (recovering c) ≡ true → plenty mark n D cells ≤ w.world.left
      → Running mark n D cells w → Paired mark n D cells w → Paired mark n D cells (call mark n c w)
  unfolding call
  paired-call (submits d k args ws) w wide h p l r paired = submit-call w d k args ws wide (args-full d k args ws h) r paired
  paired-call (turns d) w wide h p l r paired = turn-call w d r (omega arith) paired
  paired-call (runs t) w wide h p l r paired = run_call w t r l paired
  paired-call recovers w wide h p l r paired = absurd (false≢true p)

  -- ---- lists

  record RunsPaired (w : Traced) : Type 0 where
    running : Running mark n D cells w
    paired : Paired mark n D cells w

  move-paired : (c : Call) (w : Traced) → 8 ≤ n → n ≤ 64 → callable c ≡ true → not (recovering c) ≡ true → RunsPaired w → RunsPaired (move mark n (whole c) w)
  unfolding move
  move-paired c w wide narrow h p g =
      let v = lent mark n (plenty mark n D cells) w in
      let r = running-lent mark n D cells (plenty mark n D cells) w g.running in
      record { running = whole-call mark n D cells c v wide narrow h (omega arith) r; paired = paired-call c v wide h p (omega arith) r g.paired }

  play-paired : (xs : List Move) (w : Traced) → 8 ≤ n → n ≤ 64 → machine xs ≡ true → plain xs ≡ true → RunsPaired w → RunsPaired (play mark n xs w)
  unfolding play plain machine
  play-paired [] w wide narrow h p g = g
  play-paired (whole c ∷ xs) w wide narrow h p g =
      play-paired xs (move mark n (whole c) w) wide narrow (and_right (callable c) (machine xs) h) (and_right (not (recovering c)) (plain xs) p)
      (move-paired c w wide narrow (and_left (callable c) (machine xs) h) (and_left (not (recovering c)) (plain xs) p) g)
  play-paired (cut k c ∷ xs) w wide narrow h p g = absurd (false≢true p)

-- ---- the theorem

module _ (mark n : ℕ) where
  -- nothing taken, nothing begun, nothing pending
  rested-paired : (m : Image) → Paired mark n (workers m) (cells_of m) (from m)
  unfolding PairedAt
  rested-paired m e l = let z : pend (at n m (field Pc e)) (cursor_at all_idle e) ≡ false = rw (idle-at e) (pend-idle (at n m (field Pc e))) in rw z

  -- with all workers idle nothing is pending
  idle-same : (D : ℕ) (cells : List ℕ) (w : Traced) → Paired mark n D cells w → Idle mark n D w.world.cursors
      → initial n D cells w.trace.taken ≡ initial n D cells w.trace.begun
  idle-same D cells w paired i =
      initial-same n D cells w.trace.taken w.trace.begun
      (λ d l. paired_none d _ _ _ _ _ (paired d l) (rw (i d l) (pend-idle (at n w.world.image (field Pc d)))))

  pub linearizable : 8 ≤ n → n ≤ 64 → Linearizable mark n
  unfolding Linearizable
  linearizable wide narrow m rest xs h p i =
      let w = after mark n m xs in
      let g = play-paired mark n (workers m) (cells_of m) xs (from m) wide narrow h p
      (record { running = rested-running mark n m rest; paired = rested-paired m }) in
      let x = idle-gives mark n (workers m) (cells_of m) w g.running i in
      record { final = x.final; followed = rw (idle-same (workers m) (cells_of m) w g.paired i) x.followed; ended = x.ended; same = x.same }
