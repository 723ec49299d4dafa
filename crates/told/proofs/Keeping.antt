-- One induction for whatever lists of calls keep besides the invariant: a fact R of worlds that run and a fact C of what a cut leaves,
-- for lists whose moves are of a sort A. `Keeps` is what has to be shown of a turn, a submission and a recovery; `play-keeps` carries
-- it over turns, runs, calls and lists.
use Prim.Native.Nat.{ℕ, ◌<◌, ◌≤◌}
use mathlib.Core.Path.{◌≡◌, refl, subst}
use mathlib.Core.Logic.{◌⊎◌, inl, inr}
use mathlib.Core.Bool.{Bool, true, false, not, ◌||◌, false≢true}
use mathlib.Core.List.{List, [], ◌∷◌}
use lib.Dec.{ltb}
use borrow.Author.Tests.{ltb-true}
use native.Mathlib.Omega.{arith}
use native.Mathlib.Decide.{dec_lt}
use Rattle.std.specs.Prelude.{Ok, Err}
use Rattle.base.proofs.Bools.{and_left, and_right}
use Rattle.image.specs.Image.{Image, at}
use Rattle.working.specs.Cursor.{cursor_at}
use Rattle.plan.specs.Turn.{Outcome, stored, passed, waiting, resting, refused, turn_at}
use Rattle.turn.specs.Call.{outcome_at, outcome}
use Rattle.intake.specs.Submit.{Submitted, submit_answer, submit_leaves}
use Rattle.recovery.specs.Recovery.{recovery}
use Rattle.claims.specs.Reference.{given}
use Rattle.claims.specs.Calls.{Traced, traced, turn_by, turned_at, rounds, ran_by, submit_trace, recovered_by, Call, submits, turns, runs, recovers}
use Rattle.claims.specs.Calls.{Move, whole, cut, call, lent, after_cut, move, play, recovering, legal, ends_cut, callable, machine}
use Rattle.claims.specs.Claims.{working}
use Rattle.claims.proofs.Progress.{is_moving}
use Rattle.claims.proofs.Worlds.{Running, running-turn}
use Rattle.claims.proofs.Turning.{rounds-keep}
use Rattle.claims.proofs.Settling.{Spare, spare-turn}
use Rattle.claims.proofs.Working.{working-running}
use Rattle.claims.proofs.Called.{TakenAs, taken_as}
use Rattle.claims.proofs.Played.{plenty, Worth, running-worth, running-lent, spare-lent, ran-is, outcome-below, outcome-above}
use Rattle.claims.proofs.Played.{recovers-only, whole-good, cut-good, Good}

-- worker d's turn in a world that runs
abbrev pub next_turn : ℕ → Traced → ℕ → Outcome
next_turn n w d = turn_at n (at n w.world.image) d (cursor_at w.world.cursors d)

-- where a turn moves, a store is left for it
abbrev pub Fed : Traced → Outcome → Type 0
Fed w o = is_moving o ≡ true → 0 < w.world.left

-- with none left, none is left after a turn
still-none : (mark n : ℕ) (w : Traced) (d : ℕ) (o : Outcome) → w.world.left ≡ 0 → (turn_by mark n w d o).world.left ≡ 0
still-none mark n w d (stored p v c) z = omega arith
still-none mark n w d (passed why c) z = z
still-none mark n w d (waiting b) z = z
still-none mark n w d resting z = z
still-none mark n w d (refused r) z = z

module _ (mark n : ℕ) where
  -- what a submit and a recovery leave
  abbrev pub submitted : Traced → ℕ → ℕ → List ℕ → List ℕ → Submitted → Traced
  submitted w d k args ws a = traced (submit_leaves n w.world d k args ws a) (submit_trace mark n w.trace (given d k args ws) a)

  abbrev pub recovered : Traced → Traced
  recovered w = recovered_by mark n w (recovery mark n w.world.image)

  -- every move of a list is of a sort, at its moment
  abbrev pub Sorted : (Move → Image → Type 0) → List Move → Traced → Type 0
  Sorted A [] w = Unit {0}
  Sorted A (x ∷ xs) w = A x w.world.image × Sorted A xs (move mark n x w)

module _ (mark n D : ℕ) (cells : List ℕ) (R C : Traced → Type 0) (A : Move → Image → Type 0) where
  pub record Keeps : Type 0 where
    pub turn : (w : Traced) (d : ℕ) → Running mark n D cells w → d < D → Fed w (next_turn n w d) → R w → R (turn_by mark n w d (next_turn n w d))
    pub still : (w : Traced) (d : ℕ) (o : Outcome) → w.world.left ≡ 0 → C w → C (turn_by mark n w d o)
    pub worth : (w : Traced) → R w → C w
    pub lend : (k : ℕ) (w : Traced) → R w → R (lent mark n k w)
    pub lend-cut : (k : ℕ) (w : Traced) → C w → C (lent mark n k w)
    pub submit :
        (w : Traced) (d k : ℕ) (args ws : List ℕ) → Running mark n D cells w → callable (submits d k args ws) ≡ true → TakenAs mark n w.world d k ws
        → plenty mark n D cells ≤ w.world.left → A (whole (submits d k args ws)) w.world.image → R w → R (submitted mark n w d k args ws (Ok tt))
    pub submit-cut :
        (w : Traced) (j d k : ℕ) (args ws : List ℕ) → Running mark n D cells w → callable (submits d k args ws) ≡ true → TakenAs mark n w.world d k ws
        → A (cut j (submits d k args ws)) w.world.image → R w → C (submitted mark n w d k args ws (Ok tt))
    pub recover :
        (w : Traced) → Worth mark n D cells w → plenty mark n D cells ≤ w.world.left → A (whole recovers) w.world.image → C w → R (recovered mark n w)
    pub recover-cut : (w : Traced) (j : ℕ) → Worth mark n D cells w → A (cut j recovers) w.world.image → C w → C (recovered mark n w)
    pub cut_off : (w : Traced) → C w → C (after_cut mark n w)

  module _ (K : Keeps) where
    -- ---- turns

    turn-whole : (w : Traced) (d : ℕ) → Running mark n D cells w → 0 < w.world.left → R w → R (turn_by mark n w d (outcome mark n w.world d))
    turn-whole w d r left x = by (ltb d D) refl
      where
        by : (b : Bool) → ltb d D ≡ b → R (turn_by mark n w d (outcome mark n w.world d))
        by true h = rw (outcome-below mark n D cells w d r.reached (ltb-true d D h)) (K.turn w d r (ltb-true d D h) (λ m. left) x)
        by false h = rw (outcome-above mark n D cells w d r.reached h) x

    -- running with R, or still with C
    abbrev pub Caught : Traced → Type 0
    Caught w = (Running mark n D cells w × R w) ⊎ ((w.world.left ≡ 0) × C w)

    caught-worth : (w : Traced) → Caught w → C w
    caught-worth w (inl x) = K.worth w x.1
    caught-worth w (inr x) = x.1

    caught-turn : (w : Traced) (d : ℕ) → d < D → Caught w → Caught (turn_by mark n w d (next_turn n w d))
    caught-turn w d l (inl (r, x)) = by (dec_lt 0 w.world.left)
      where
        by : Dec (0 < w.world.left) → Caught (turn_by mark n w d (next_turn n w d))
        by (yes h) = inl (running-turn mark n D cells w d r l h, K.turn w d r l (λ m. h) x)
        by (no h) =
            let z : w.world.left ≡ 0 = omega arith in
            inr (still-none mark n w d (next_turn n w d) z, K.still w d (next_turn n w d) z (K.worth w x))
    caught-turn w d l (inr (z, c)) = inr (still-none mark n w d (next_turn n w d) z, K.still w d (next_turn n w d) z c)

    pub caught-turned : (w : Traced) (d : ℕ) → d < D → Caught w → Caught (turned_at mark n w d)
    unfolding turned_at outcome_at
    caught-turned w d l x = caught-turn w d l x

    turn-cut : (w : Traced) (d : ℕ) → Running mark n D cells w → R w → C (turn_by mark n w d (outcome mark n w.world d))
    turn-cut w d r x = by (ltb d D) refl
      where
        by : (b : Bool) → ltb d D ≡ b → C (turn_by mark n w d (outcome mark n w.world d))
        by true h =
            rw (outcome-below mark n D cells w d r.reached (ltb-true d D h))
            (caught-worth (turn_by mark n w d (next_turn n w d)) (caught-turn w d (ltb-true d D h) (inl (r, x))))
        by false h = rw (outcome-above mark n D cells w d r.reached h) (K.worth w x)

    -- ---- runs

    pub record Both (w : Traced) : Type 0 where
      pub spare : Spare mark n D cells w
      pub kept : R w

    turned : (w : Traced) (d : ℕ) → Running mark n D cells w → d < D → Fed w (next_turn n w d) → R w → R (turned_at mark n w d)
    unfolding turned_at outcome_at
    turned w d r l f x = K.turn w d r l f x

    pub both-turned : (w : Traced) (d : ℕ) → d < D → Both w → Both (turned_at mark n w d)
    both-turned w d l b =
        let t = spare-turn mark n D cells w d b.spare l in
        record { spare = t.spare; kept = turned w d b.spare.running l (λ m. let f = t.falls m in omega arith) b.kept }

    run-whole : (w : Traced) (r : ℕ) → Running mark n D cells w → plenty mark n D cells ≤ w.world.left → R w → R (ran_by mark n w r)
    run-whole w r h l x =
        rw (ran-is mark n D cells w r h.reached)
        (rounds-keep mark n D cells Both both-turned r w (record { spare = spare-lent mark n D cells w w.world.left h (omega arith); kept = x })).kept

    run-cut : (w : Traced) (r : ℕ) → Running mark n D cells w → R w → C (ran_by mark n w r)
    run-cut w r h x =
        rw (ran-is mark n D cells w r h.reached) (caught-worth (rounds mark n r D w) (rounds-keep mark n D cells Caught caught-turned r w (inl (h, x))))

    -- ---- calls

    submit-whole :
        (w : Traced) (d k : ℕ) (args ws : List ℕ) → Running mark n D cells w → callable (submits d k args ws) ≡ true → plenty mark n D cells ≤ w.world.left
        → A (whole (submits d k args ws)) w.world.image → R w → R (submitted mark n w d k args ws (submit_answer mark n w.world d k ws))
    submit-whole w d k args ws r h l a x = by (submit_answer mark n w.world d k ws) refl
      where
        by : (q : Submitted) → submit_answer mark n w.world d k ws ≡ q → R (submitted mark n w d k args ws q)
        by (Ok tt) e = K.submit w d k args ws r h (taken_as mark n w.world d k ws e) l a x
        by (Err q) e = x

    submit-cut :
        (w : Traced) (j d k : ℕ) (args ws : List ℕ) → Running mark n D cells w → callable (submits d k args ws) ≡ true
        → A (cut j (submits d k args ws)) w.world.image → R w → C (submitted mark n w d k args ws (submit_answer mark n w.world d k ws))
    submit-cut w j d k args ws r h a x = by (submit_answer mark n w.world d k ws) refl
      where
        by : (q : Submitted) → submit_answer mark n w.world d k ws ≡ q → C (submitted mark n w d k args ws q)
        by (Ok tt) e = K.submit-cut w j d k args ws r h (taken_as mark n w.world d k ws e) a x
        by (Err q) e = K.worth w x

    call-whole :
        (c : Call) (w : Traced) → Running mark n D cells w → callable c ≡ true → plenty mark n D cells ≤ w.world.left
        → A (whole c) w.world.image → R w → R (call mark n c w)
    unfolding call
    call-whole (submits d k args ws) w r h l a x = submit-whole w d k args ws r h l a x
    call-whole (turns d) w r h l a x = turn-whole w d r (omega arith) x
    call-whole (runs t) w r h l a x = run-whole w t r l x
    call-whole recovers w r h l a x = K.recover w (running-worth mark n D cells w r) l a (K.worth w x)

    call-cut : (j : ℕ) (c : Call) (w : Traced) → Running mark n D cells w → callable c ≡ true → A (cut j c) w.world.image → R w → C (call mark n c w)
    unfolding call
    call-cut j (submits d k args ws) w r h a x = submit-cut w j d k args ws r h a x
    call-cut j (turns d) w r h a x = turn-cut w d r x
    call-cut j (runs t) w r h a x = run-cut w t r x
    call-cut j recovers w r h a x = K.recover-cut w j (running-worth mark n D cells w r) a (K.worth w x)

    -- ---- lists

    -- the invariant, and what is kept: where no recovery is owing R, else C
    abbrev pub Kept : Bool → Traced → Type 0
    Kept false w = Running mark n D cells w × R w
    Kept true w = Worth mark n D cells w × C w

    pub good : (b : Bool) (w : Traced) → Kept b w → Good mark n D cells b w
    good false w k = k.0
    good true w k = k.0

    -- a recovery that is owing
    recovery-whole :
        (w : Traced) → Worth mark n D cells w → plenty mark n D cells ≤ w.world.left → A (whole recovers) w.world.image → C w
        → R (call mark n recovers w)
    unfolding call
    recovery-whole w k l a c = K.recover w k l a c

    recovery-cut : (j : ℕ) (w : Traced) → Worth mark n D cells w → A (cut j recovers) w.world.image → C w → C (call mark n recovers w)
    unfolding call
    recovery-cut j w k a c = K.recover-cut w j k a c

    worth-lent : (k : ℕ) (w : Traced) → Worth mark n D cells w → Worth mark n D cells (lent mark n k w)
    worth-lent k w x = record { reached = x.reached; crashed = x.crashed }

    pub move-whole :
        (b : Bool) (c : Call) (w : Traced) → callable c ≡ true → (not b || recovering c) ≡ true → A (whole c) w.world.image → Kept b w
        → R (move mark n (whole c) w)
    unfolding move
    move-whole false c w h o a (r, x) =
        let k = plenty mark n D cells in
        call-whole c (lent mark n k w) (running-lent mark n D cells k w r) h (omega arith) a (K.lend k w x)
    move-whole true c w h o a (g, x) =
        let k = plenty mark n D cells in
        let e = recovers-only mark n D cells true c o refl in
        let sort = subst (λ (q : Call). A (whole q) w.world.image) e a in
        rw e (recovery-whole (lent mark n k w) (worth-lent k w g) (omega arith) sort (K.lend-cut k w x))

    pub move-cut :
        (b : Bool) (j : ℕ) (c : Call) (w : Traced) → callable c ≡ true → (not b || recovering c) ≡ true → A (cut j c) w.world.image → Kept b w
        → C (move mark n (cut j c) w)
    unfolding move
    move-cut false j c w h o a (r, x) = K.cut_off _ (call-cut j c (lent mark n j w) (running-lent mark n D cells j w r) h a (K.lend j w x))
    move-cut true j c w h o a (k, x) =
        let e = recovers-only mark n D cells true c o refl in
        K.cut_off (call mark n c (lent mark n j w))
        (rw e (recovery-cut j (lent mark n j w) (worth-lent j w k) (subst (λ (q : Call). A (cut j q) w.world.image) e a) (K.lend-cut j w x)))

    pub play-keeps :
        (b : Bool) (xs : List Move) (w : Traced) → 8 ≤ n → n ≤ 64 → machine xs ≡ true → legal b xs ≡ true → Sorted mark n A xs w → Kept b w
        → Kept (ends_cut b xs) (play mark n xs w)
    unfolding play legal ends_cut machine
    play-keeps b [] w wide narrow h l s k = k
    play-keeps b (whole c ∷ xs) w wide narrow h l (a, s) k =
        let p = and_left (callable c) (machine xs) h in
        let ps = and_right (callable c) (machine xs) h in
        let q = and_left (not b || recovering c) (legal false xs) l in
        let qs = and_right (not b || recovering c) (legal false xs) l in
        play-keeps false xs (move mark n (whole c) w) wide narrow ps qs s
        (whole-good mark n D cells b c w wide narrow p q (good b w k), move-whole b c w p q a k)
    play-keeps b (cut j c ∷ xs) w wide narrow h l (a, s) k =
        let p = and_left (callable c) (machine xs) h in
        let ps = and_right (callable c) (machine xs) h in
        let q = and_left (not b || recovering c) (legal true xs) l in
        let qs = and_right (not b || recovering c) (legal true xs) l in
        play-keeps true xs (move mark n (cut j c) w) wide narrow ps qs s
        (cut-good mark n D cells b j c w wide p q (good b w k), move-cut b j c w p q a k)

    -- ---- uncut runs and turns, of any number of rounds and of any worker

    move-turn : (d : ℕ) (w : Traced) → Running mark n D cells w → R w → R (move mark n (whole (turns d)) w)
    unfolding move call
    move-turn d w r x =
        let k = plenty mark n D cells in
        turn-whole (lent mark n k w) d (running-lent mark n D cells k w r) (omega arith) (K.lend k w x)

    move-run : (t : ℕ) (w : Traced) → Running mark n D cells w → R w → R (move mark n (whole (runs t)) w)
    unfolding move call
    move-run t w r x =
        let k = plenty mark n D cells in
        run-whole (lent mark n k w) t (running-lent mark n D cells k w r) (omega arith) (K.lend k w x)

    running-move : (x : Move) (w : Traced) → working (x ∷ []) ≡ true → Running mark n D cells w → Running mark n D cells (move mark n x w)
    unfolding play
    running-move x w h r = working-running mark n D cells (x ∷ []) w h r

    pub working-keeps : (ys : List Move) (w : Traced) → working ys ≡ true → Running mark n D cells w → R w → R (play mark n ys w)
    unfolding play
    working-keeps [] w h r x = x
    working-keeps (cut k c ∷ ys) w h r x = absurd (false≢true h)
    working-keeps (whole (submits d k args ws) ∷ ys) w h r x = absurd (false≢true h)
    working-keeps (whole (turns d) ∷ ys) w h r x =
        working-keeps ys (move mark n (whole (turns d)) w) h (running-move (whole (turns d)) w refl r) (move-turn d w r x)
    working-keeps (whole (runs t) ∷ ys) w h r x =
        working-keeps ys (move mark n (whole (runs t)) w) h (running-move (whole (runs t)) w refl r) (move-run t w r x)
    working-keeps (whole recovers ∷ ys) w h r x = absurd (false≢true h)
