-- Who may change a cell (`untouched-always`). A turn of a world that runs stores a cell only where its worker's section is begun, by
-- the worker's phase (`turn-writes`), and only a cell whose lock it has, by what a turn touches (`own_turn`); where no store is left
-- there is nothing to show. The turns of a run, a call and a list are collected along the invariant. The stores of a submission and
-- of a recovery are of no cell, row by row.
use Prim.Native.Nat.{ℕ, suc, zero, ◌+◌, ◌-◌, ◌/◌, ◌<◌, ◌≤◌}
use mathlib.Core.Path.{◌≡◌, refl, sym, subst, ◌∙◌}
use mathlib.Core.Logic.{inl, inr}
use mathlib.Core.Bool.{Bool, true, false, cond, not, ◌||◌, false≢true}
use mathlib.Core.List.{List, [], ◌∷◌, ◌++◌}
use lib.Dec.{ltb}
use lib.ListN.{length, replicate}
use borrow.Author.Tests.{ltb-true}
use native.Mathlib.Omega.{arith}
use Rattle.std.specs.Prelude.{Ok, Err}
use Rattle.base.proofs.Bools.{and_left, and_right}
use Rattle.mask.specs.Mask.{has}
use Rattle.image.specs.declared.Field.TheVariants.{Count, Intent, Number}
use Rattle.image.specs.Place.{Place, cell, lock, field, own, step, Memory, Store}
use Rattle.image.specs.Image.{Image, index_of, at, workers, cells_of, header_ok, put, put_all}
use Rattle.image.proofs.Cells.{is_cell, cells-other}
use Rattle.image.proofs.Lists.{put_all-append}
use Rattle.working.specs.declared.Cursors.{Cursors}
use Rattle.working.specs.Cursor.{cursor_at}
use Rattle.plan.specs.Turn.{stored, turn_at}
use Rattle.intake.specs.Submit.{Submitted, assigns, submission, submit_answer, submit_leaves}
use Rattle.repair.specs.Plan.{◌≔◌, when, rows, unbegun, intended, intend, withdraw, relock, relocks, unlock, plan}
use Rattle.owed.specs.Owed.{owed}
use Rattle.recovery.specs.Recovery.{Recovered, accepted, rejected, by_first, recovery}
use Rattle.resuming.specs.Resumed.{resumed_all}
use Rattle.soundness.specs.declared.Refusal.TheVariants.{Image as ImageRefused, Record, Lock}
use Rattle.soundness.specs.Sound.{bad_lock, unsound}
use Rattle.claims.specs.Calls.{Traced, recovered_by, Call, submits, turns, runs, recovers}
use Rattle.claims.specs.Calls.{Move, whole, cut, call, lent, move, recovering, from, legal, callable, machine}
use Rattle.told.specs.Moments.{moment, Each, turnless, in_rounds, in_call, in_move, in_list, Guarded, UntouchedAlways}
use Rattle.claims.proofs.Turns.{Touches, own_cell, Stepped}
use Rattle.claims.proofs.OwnTurn.{own_turn}
use Rattle.told.proofs.Writes.{Says, turn-writes}
use Rattle.told.proofs.Moments.{each_append, rounds-each}
use Rattle.claims.proofs.Worlds.{Running}
use Rattle.claims.proofs.Turning.{Cutting, cutting-turned}
use Rattle.claims.proofs.Played.{plenty, running-lent, outcome-below, outcome-above, recovers-only, whole-good, cut-good, Good}
use Rattle.claims.proofs.Resting.{rested-running}

-- ---- lists of stores of which none is of a cell

module _ (n : ℕ) where
  -- the stores of the list, made or not, leave the cells
  abbrev Aside : List Store → Type 0
  Aside ss = (left : ℕ) (m : Image) → cells_of (put_all n left m ss) ≡ cells_of m

  aside-nil : Aside []
  unfolding put_all
  aside-nil left m = refl

  aside_cons : (s : Store) (ss : List Store) → is_cell s.place ≡ false → Aside ss → Aside (s ∷ ss)
  unfolding put_all
  aside_cons s ss h a left m = a (left - 1) (put left m (index_of n s.place) s.value) ∙ cells-other n left m s.place s.value h

  aside-when : (t : Bool) (s : Store) → is_cell s.place ≡ false → Aside (when t s)
  aside-when true s h = aside_cons s [] h aside-nil
  aside-when false s h = aside-nil

  aside-append : (ss ts : List Store) → Aside ss → Aside ts → Aside (ss ++ ts)
  aside-append ss ts a b left m = rw (put_all-append n left m ss ts) (b (left - length ss) (put_all n left m ss) ∙ a left m)

  aside-rows : (f : ℕ → List Store) → ((i : ℕ) → Aside (f i)) → (i k : ℕ) → Aside (rows f i k)
  unfolding rows
  aside-rows f h i zero = aside-nil
  aside-rows f h i (suc k) = aside-append (f i) (rows f (i + 1) k) (h i) (aside-rows f h (i + 1) k)

  -- ---- a submission's

  assigns-aside : (f : ℕ → Place) → ((i : ℕ) → is_cell (f i) ≡ false) → (i : ℕ) (vs : List ℕ) → Aside (assigns f i vs)
  unfolding assigns
  assigns-aside f h i [] = aside-nil
  assigns-aside f h i (v ∷ vs) = aside_cons (f i ≔ v) (assigns f (i + 1) vs) (h i) (assigns-aside f h (i + 1) vs)

  submission-aside : (d k : ℕ) (args ws : List ℕ) → Aside (submission n d k args ws)
  unfolding submission
  submission-aside d k args ws =
      let owns = assigns (own d) 0 (args ++ replicate (n - 8) 0) in
      let code = assigns (step d) 0 ws in
      let counts = (field Count d ≔ length ws) ∷ [] in
      aside_cons (field Number d ≔ k) (owns ++ (code ++ counts)) refl
      (aside-append owns (code ++ counts) (assigns-aside (own d) (λ i. refl) 0 (args ++ replicate (n - 8) 0))
      (aside-append code counts (assigns-aside (step d) (λ i. refl) 0 ws) (aside_cons (field Count d ≔ length ws) [] refl aside-nil)))

  -- ---- a recovery's

  module _ (rd : Memory) (D : ℕ) where
    plan-aside : Aside (plan n rd D)
    unfolding plan
    plan-aside =
        aside-append (rows (unlock n rd D) 0 64) _ (aside-rows (unlock n rd D) (λ b. aside-when (intended n rd D b) (lock b ≔ 0) refl) 0 64)
        (aside-append (rows (intend n rd) 0 D) _ (aside-rows (intend n rd) (λ d. aside_cons (field Intent d ≔ owed n rd d) [] refl aside-nil) 0 D)
        (aside-append (rows (withdraw n rd) 0 D) _ (aside-rows (withdraw n rd) (λ d. aside-when (unbegun rd d) (field Count d ≔ 0) refl) 0 D)
        (aside-rows (relocks n rd) (λ d. aside-rows (relock n rd d) (λ b. aside-when (has (owed n rd d) b) (lock b ≔ d + 1) refl) 0 64) 0 D)))

-- ---- calls without turns, in any world

module _ (mark n : ℕ) where
  submit-leaves :
      (w : Traced) (d k : ℕ) (args ws : List ℕ) (a : Submitted) → cells_of (submit_leaves n w.world d k args ws a).image ≡ cells_of w.world.image
  submit-leaves w d k args ws (Ok tt) = submission-aside n d k args ws w.world.left w.world.image
  submit-leaves w d k args ws (Err r) = refl

  -- a recovery whose stores, if it is accepted, leave the cells
  abbrev AsideOf : Recovered → Type 0
  AsideOf (accepted ss cs) = Aside n ss
  AsideOf (rejected r) = Unit {0}

  -- whatever the header, the records and the locks are found to be
  found-aside :
      (h : Bool) (ds bs : List ℕ) (ss : List Store) (cs : Cursors) → Aside n ss
      → AsideOf (cond h (by_first Record (by_first Lock (accepted ss cs) bs) ds) (rejected ImageRefused))
  found-aside true [] [] ss cs a = a
  found-aside true [] (b ∷ bs) ss cs a = tt
  found-aside true (d ∷ ds) bs ss cs a = tt
  found-aside false ds bs ss cs a = tt

  recovery-aside : (m : Image) → AsideOf (recovery mark n m)
  unfolding recovery
  recovery-aside m =
      let rd = at n m in
      let D = workers m in
      found-aside (header_ok mark n m) (unsound n rd D 0 D) (bad_lock n rd D 0 64) (plan n rd D) (resumed_all n rd D) (plan-aside n rd D)

  recover-leaves : (w : Traced) (x : Recovered) → AsideOf x → cells_of (recovered_by mark n w x).world.image ≡ cells_of w.world.image
  recover-leaves w (accepted ss cs) a = a w.world.left w.world.image
  recover-leaves w (rejected r) a = refl

  turnless-leaves : (c : Call) → turnless c ≡ true → (w : Traced) → cells_of (call mark n c w).world.image ≡ cells_of w.world.image
  unfolding call
  turnless-leaves (submits d k args ws) h w = submit-leaves w d k args ws (submit_answer mark n w.world d k ws)
  turnless-leaves (turns d) h w = absurd (false≢true h)
  turnless-leaves (runs r) h w = absurd (false≢true h)
  turnless-leaves recovers h w = recover-leaves w (recovery mark n w.world.image) (recovery-aside w.world.image)

-- ---- turns

-- a cell that a store touches is one whose lock the worker has
touched-cell : (n : ℕ) (rd : Memory) (d locks : ℕ) (x v locks' : ℕ) → Touches n rd d locks (cell x) v locks' → (x < 512) × (has locks (x / 8) ≡ true)
touched-cell n rd d locks x v locks' (own_cell _ _ b h) = (b, h)

module _ (mark n D : ℕ) (cells : List ℕ) where
  running-guarded : (w : Traced) (d : ℕ) → Running mark n D cells w → d < D → Guarded mark n (moment w d)
  running-guarded w d r l x v c e left =
      let rd = at n w.world.image in
      let g = w.trace.last d in
      let cursor = cursor_at w.world.cursors d in
      let j = w.trace.jumps d in
      let ph = r.live.phase d l in
      let here : turn_at n rd d cursor ≡ stored (cell x) v c = sym (outcome-below mark n D cells w d r.reached l) ∙ e in
      let stepped = own_turn n rd d g cursor (r.locks d) j ph (λ b k h. r.live.locked b d k l h) (λ b k h. (r.live.owner b d k h).1) in
      let (locks', touches, then) = subst (Stepped n rd d g (r.locks d) j) here stepped in
      let (below, held) = touched-cell n rd d (r.locks d) x v locks' touches in
      (subst (Says n rd d g) here (turn-writes n rd d g cursor (r.locks d) j ph), r.live.locked (x / 8) d (omega arith) l held)

  -- in a cut call: running, or with no store left
  caught-guarded : (w : Traced) (d : ℕ) → d < D → Cutting mark n D cells w → Guarded mark n (moment w d)
  caught-guarded w d l (inl r) = running-guarded w d r l
  caught-guarded w d l (inr f) = λ x v c e left. absurd (omega arith)

  -- ---- runs and calls

  rounds-guarded : (r : ℕ) (w : Traced) → Cutting mark n D cells w → Each (Guarded mark n) (in_rounds mark n r D w)
  rounds-guarded =
      rounds-each mark n D (Cutting mark n D cells) (Guarded mark n) (λ w d l c. cutting-turned mark n D cells w d l c)
      (λ w d l c. caught-guarded w d l c)

  turn-guarded : (w : Traced) (d : ℕ) → Running mark n D cells w → Guarded mark n (moment w d)
  turn-guarded w d r = by (ltb d D) refl
    where
      by : (b : Bool) → ltb d D ≡ b → Guarded mark n (moment w d)
      by true h = running-guarded w d r (ltb-true d D h)
      by false h = λ x v c e left. let a = outcome-above mark n D cells w d r.reached h in let z : ◌≡◌ {A = ℕ} 0 1 = cc in absurd (omega arith)

  call-guarded : (c : Call) (w : Traced) → Running mark n D cells w → Each (Guarded mark n) (in_call mark n c w)
  unfolding in_call
  call-guarded (submits d k args ws) w r = tt
  call-guarded (turns d) w r = (turn-guarded w d r, tt)
  call-guarded (runs t) w r = rw (r.reached.header, r.reached.many) (rounds-guarded t w (inl r))
  call-guarded recovers w r = tt

  -- ---- lists

  -- a call lent k stores; where a recovery is owing the call is one, and makes no turn
  lent-guarded :
      (b : Bool) (k : ℕ) (c : Call) (w : Traced) → (not b || recovering c) ≡ true → Good mark n D cells b w
      → Each (Guarded mark n) (in_call mark n c (lent mark n k w))
  unfolding in_call
  lent-guarded false k c w h g = call-guarded c (lent mark n k w) (running-lent mark n D cells k w g)
  lent-guarded true k c w h g = rw (recovers-only mark n D cells true c h refl) tt

  list-guarded :
      (b : Bool) (xs : List Move) (w : Traced) → 8 ≤ n → n ≤ 64 → machine xs ≡ true → legal b xs ≡ true → Good mark n D cells b w
      → Each (Guarded mark n) (in_list mark n xs w)
  unfolding in_list in_move legal machine
  list-guarded b [] w wide narrow h l g = tt
  list-guarded b (whole c ∷ xs) w wide narrow h l g =
      let p = and_left (callable c) (machine xs) h in
      let ps = and_right (callable c) (machine xs) h in
      let q = and_left (not b || recovering c) (legal false xs) l in
      let qs = and_right (not b || recovering c) (legal false xs) l in
      each_append (Guarded mark n) (in_move mark n (whole c) w) (in_list mark n xs (move mark n (whole c) w)) (lent-guarded b (plenty mark n D cells) c w q g)
      (list-guarded false xs (move mark n (whole c) w) wide narrow ps qs (whole-good mark n D cells b c w wide narrow p q g))
  list-guarded b (cut k c ∷ xs) w wide narrow h l g =
      let p = and_left (callable c) (machine xs) h in
      let ps = and_right (callable c) (machine xs) h in
      let q = and_left (not b || recovering c) (legal true xs) l in
      let qs = and_right (not b || recovering c) (legal true xs) l in
      each_append (Guarded mark n) (in_move mark n (cut k c) w) (in_list mark n xs (move mark n (cut k c) w)) (lent-guarded b k c w q g)
      (list-guarded true xs (move mark n (cut k c) w) wide narrow ps qs (cut-good mark n D cells b k c w wide p q g))

pub untouched-always : (mark n : ℕ) → 8 ≤ n → n ≤ 64 → UntouchedAlways mark n
unfolding UntouchedAlways
untouched-always mark n wide narrow m r xs h l =
    record {
      turns = list-guarded mark n (workers m) (cells_of m) false xs (from m) wide narrow h l (rested-running mark n m r);
      others = turnless-leaves mark n;
    }
