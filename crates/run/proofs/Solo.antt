-- The rounds of a run in which one worker alone is open: each is a turn of that worker (`round-alone`), so that turns of it one after another are as many
-- rounds (`rounds-alone`). So what a run keeps between rounds it keeps over them (`laps-alone`). The record is as it was
-- where no turn is made (`settled_same`).
use Prim.Native.Nat.{ℕ, zero, suc, ◌+◌, ◌*◌, ◌-◌, ◌<◌, ◌≤◌}
use mathlib.Core.Path.{◌≡◌, refl, sym, ap, subst, ◌∙◌}
use mathlib.Core.Bool.{Bool, true, false, cond, true≢false}
use mathlib.Core.Logic.{◌≢◌}
use native.Mathlib.Omega.{arith}
use lib.ListN.{get_or, length-set}
use lib.Seq.{get_or-set_same, set-set, set-get_or}
use lib.Dec.{eqb, ltb}
use borrow.Author.Tests.{ltb-true, ltb-false}
use Rattle.base.proofs.Counting.{left-all}
use Rattle.image.specs.Image.{Image, index_of, at}
use Rattle.image.proofs.Header.{Sized}
use Rattle.tally.specs.declared.Tally.{Tally}
use Rattle.working.specs.declared.Cursors.{Cursors}
use Rattle.working.specs.Cursor.{on, is_idle, cursor_at, set_at, holding}
use Rattle.working.specs.World.{world}
use Rattle.working.proofs.Placed.{Full, idle-says, open_turn, on-is, held-cursor, placed-other}
use Rattle.plan.specs.Turn.{Outcome, stored, passed, waiting, resting, refused, ready, turn_at}
use Rattle.plan.proofs.Planned.{ready-says}
use Rattle.turn.specs.declared.Answer.TheVariants.{Stored, Passed, Waiting}
use Rattle.turn.specs.Call.{answer_of, leaves, outcome_at}
use Rattle.turn.specs.Counted.{counted}
use Rattle.turn.specs.Inner.Acting.{tested}
use Rattle.turn.proofs.Turns.{made-ready, made-goes}
use Rattle.stretch.specs.Inner.Single.{Single, single, after, Turns, none, then}
use Rattle.stretch.proofs.Sequence.{turns-sized}
use Rattle.run.specs.Run.{any_open, open_to, Counting, counting, through, turned, sweep, rounds_of}
use Rattle.run.specs.Inner.Alone.{Alone}
use Rattle.run.proofs.Idling.{sweep-idle, sweep-rest, any_some, to-zero, to-most, to-idle, to-alone, to-cut, to-with}
use Rattle.run.proofs.Rounds.{Most, most-more, most-counted, sweep-on, rounds-on, after-through}
use Rattle.run.proofs.Staying.{Known, known-turn}
use Rattle.run.proofs.Laps.{by-worker, Laps}

-- what worker d's turns have changed, in the record with which the run began
abbrev pub spread : Cursors → ℕ → Single → Counting
spread c d a = counting (world a.image (holding a.held (set_at c d a.step a.turn)) a.left) a.tally

-- before the first turn nothing is
spread_none : (c : Cursors) (d : ℕ) (m : Image) (left : ℕ) (t : Tally)
    → spread c d (single m left (get_or c.step d 0) (get_or c.turn d 0) c.held t) ≡ counting (world m c left) t
unfolding set_at
spread_none c d m left t = rw (set-get_or c.step d 0, set-get_or c.turn d 0)

-- ---- a turn of worker d

module _ (n : ℕ) (c : Cursors) (d : ℕ) where
  -- where it stands after an outcome
  leaves-spread : (a : Single) (o : Outcome)
      → counting (leaves n (spread c d a).world d o) (counted (answer_of n o) a.tally) ≡ spread c d (after n a o)
  unfolding set_at
  leaves-spread a (stored p v x) = simp set-set
  leaves-spread a (passed why x) = simp set-set
  leaves-spread a (waiting b) = refl
  leaves-spread a resting = refl
  leaves-spread a (refused r) = refl

module _ (n : ℕ) (c : Cursors) (d : ℕ) (f : Full c) (few : d < 8) (a : Single) where
  spread-full : Full (spread c d a).world.cursors
  unfolding set_at
  spread-full = record { steps = length-set c.step d a.step ∙ f.steps; turns = length-set c.turn d a.turn ∙ f.turns }

  spread-step : get_or (spread c d a).world.cursors.step d 0 ≡ a.step
  unfolding set_at
  spread-step = get_or-set_same c.step d a.step 0 (rw f.steps few)

  spread-turn : get_or (spread c d a).world.cursors.turn d 0 ≡ a.turn
  unfolding set_at
  spread-turn = get_or-set_same c.turn d a.turn 0 (rw f.turns few)

  spread-tested : tested n a.image (spread c d a).world.cursors d ≡ ready n (at n a.image) d a.step a.turn
  spread-tested = rw (spread-step, spread-turn)

  spread-open : a.turn ≢ 255 → is_idle (cursor_at (spread c d a).world.cursors d) ≡ false
  spread-open o = open_turn (spread c d a).world.cursors d (rw spread-full.turns few) (λ e. o (sym spread-turn ∙ e))

  spread-on : a.turn ≢ 255 → cursor_at (spread c d a).world.cursors d ≡ on a.step a.turn
  spread-on o = on-is (spread c d a).world.cursors d (rw spread-full.turns few) (spread-open o) ∙ rw (spread-step, spread-turn)

  outcome-spread : a.turn ≢ 255 → outcome_at n (spread c d a).world d ≡ turn_at n (at n a.image) d (on a.step a.turn)
  unfolding outcome_at
  outcome-spread o = rw (spread-on o)

  -- a turn that is ready is none of an idle worker
  ready-open : ready n (at n a.image) d a.step a.turn ≡ true → a.turn ≢ 255
  ready-open e q = omega (arith, (ready-says n (at n a.image) d a.step a.turn e).turn)

  turned-alone : ready n (at n a.image) d a.step a.turn ≡ true
      → turned n (spread c d a) d ≡ spread c d (after n a (turn_at n (at n a.image) d (on a.step a.turn)))
  unfolding turned
  turned-alone e = rw (outcome-spread (ready-open e)) (leaves-spread n c d a (turn_at n (at n a.image) d (on a.step a.turn)))

-- ---- a round, with each worker but d idle

module _ (n D : ℕ) (c : Cursors) (d : ℕ) (f : Full c) (few : D ≤ 8) (h : d < D) (alone : Alone D d c) where
  others-idle : (a : Single) (i : ℕ) → i < D → i ≢ d → is_idle (cursor_at (spread c d a).world.cursors i) ≡ true
  others-idle a i l o = ap is_idle (held-cursor a.held (set_at c d a.step a.turn) i ∙ placed-other c d i (on a.step a.turn) o) ∙ alone i l o

  module _ (a : Single) where
    some-open : a.turn ≢ 255 → any_open D 0 (spread c d a).world.cursors ≡ true
    some-open o = any_some (spread c d a).world.cursors D 0 d (omega arith) (omega arith) (spread-open n c d f (omega arith) a o)

    -- the workers below d have no turn
    sweep-to : (k : ℕ) → k ≤ d → sweep n D 0 (spread c d a) ≡ sweep n (D - k) k (spread c d a)
    sweep-to zero l = rw left-all
    sweep-to (suc k) l =
        let q : suc k ≡ k + 1 = omega arith in
        rw q (sweep-to k (omega arith) ∙ sweep-idle n D k (spread c d a) (omega arith) (others-idle a k (omega arith) (λ e. omega arith)))

    -- nor have those above it
    sweep-ready : ready n (at n a.image) d a.step a.turn ≡ true
        → sweep n D 0 (spread c d a) ≡ through (spread c d (after n a (turn_at n (at n a.image) d (on a.step a.turn))))
    sweep-ready e =
        let b = after n a (turn_at n (at n a.image) d (on a.step a.turn)) in
        let goes = made-goes n (turn_at n (at n a.image) d (on a.step a.turn)) (made-ready n (at n a.image) d a.step a.turn e) in
        let o = outcome-spread n c d f (omega arith) a (ready-open n c d f (omega arith) a e) in
        sweep-to d (omega arith)
        ∙ sweep-on D d h n (spread c d a) (rw o goes)
        ∙ rw (turned-alone n c d f (omega arith) a e) (sweep-rest n D (d + 1) (spread c d b) (omega arith) (λ i p q. others-idle b i q (λ z. omega arith)))

    -- a round is worker d's turn
    round-alone : (r : ℕ) → ready n (at n a.image) d a.step a.turn ≡ true → 0 < r
        → rounds_of n r D (spread c d a) ≡ rounds_of n (r - 1) D (spread c d (after n a (turn_at n (at n a.image) d (on a.step a.turn))))
    round-alone r e l =
        sym (ap (λ (k : ℕ). rounds_of n k D (spread c d a)) (left-all r))
        ∙ rounds-on n D r 0 (spread c d a) l (some-open (ready-open n c d f (omega arith) a e))
        ∙ rw (sweep-ready e) (after-through n (rounds_of n (r - 1) D) (spread c d (after n a (turn_at n (at n a.image) d (on a.step a.turn)))))

  -- turns one after another are as many rounds
  rounds-alone : {k : ℕ} {a b : Single} → Turns n d k a b → (r : ℕ) → k ≤ r → rounds_of n r D (spread c d a) ≡ rounds_of n (r - k) D (spread c d b)
  rounds-alone (none a) r l = rw left-all
  rounds-alone (then k a b e t) r l =
      let q : r - 1 - k ≡ r - suc k = omega arith in
      round-alone a r e (omega arith) ∙ rw q at (rounds-alone t (r - 1) (omega arith))

  -- ---- what is known after them

  turned-known : (a : Single) → ready n (at n a.image) d a.step a.turn ≡ true → Sized n D a.image
      → Known n (spread c d (after n a (turn_at n (at n a.image) d (on a.step a.turn)))).world d
  unfolding turned
  turned-known a e z =
      let l : d < 8 = omega arith in
      subst (λ (s : Counting). Known n s.world d) (turned-alone n c d f l a e)
      (known-turn D n (spread c d a).world d (spread-full n c d f l a) z h l (spread-tested n c d f l a ∙ e) d (λ q. absurd (q refl)))

  turned-sized : (a : Single) → ready n (at n a.image) d a.step a.turn ≡ true → Sized n D a.image
      → Sized n D (after n a (turn_at n (at n a.image) d (on a.step a.turn))).image
  turned-sized a e z = turns-sized n d D (then 0 a (after n a (turn_at n (at n a.image) d (on a.step a.turn))) e (none _)) z

  known_through : {k : ℕ} {a b : Single} → Turns n d k a b → Sized n D a.image → Known n (spread c d a).world d → Known n (spread c d b).world d
  known_through (none a) z k = k
  known_through (then k a b e t) z g = known_through t (turned-sized a e z) (turned-known a e z)

  turns-known : {k : ℕ} {a b : Single} → Turns n d k a b → 1 ≤ k → Sized n D a.image → Known n (spread c d b).world d
  turns-known (none a) l z = absurd (omega arith)
  turns-known (then k a b e t) l z = known_through t (turned-sized a e z) (turned-known a e z)

-- each adds at most one to a number of the tally
turns-most : (n d : ℕ) {k : ℕ} {a b : Single} → Turns n d k a b → (j : ℕ) → Most j a.tally → Most (j + k) b.tally
turns-most n d (none a) j g = most-more j (j + 0) g (omega arith)
turns-most n d (then k a b e t) j g =
    most-more (j + 1 + k) (j + suc k) (turns-most n d t (j + 1) (by (turn_at n (at n a.image) d (on a.step a.turn)))) (omega arith)
  where
    by : (o : Outcome) → Most (j + 1) (after n a o).tally
    by (stored p v x) = most-counted j (Stored (index_of n p)) g
    by (passed why x) = most-counted j (Passed why) g
    by (waiting b) = most-counted j (Waiting b) g
    by resting = most-more j (j + 1) g (omega arith)
    by (refused r) = most-more j (j + 1) g (omega arith)

-- ---- what a run keeps between rounds, over turns of worker d alone: the state was r, of which these are the parts, and none of the workers below the last is
-- open; i is the round, j the number of workers up to the last open one behind the turns, and e the record

module _ (own n rounds : ℕ) {s₀ r : Counting} {round to : ℕ} (l : Laps own n rounds s₀ r round to) (first : open_to (to - 1) r.world.cursors ≡ 0)
    (m : Image) (c : Cursors) (left : ℕ) (y : Tally) (still : counting (world m c left) y ≡ r) (d : ℕ) (here : d < to)
    (busy : is_idle (cursor_at c d) ≡ false) where
  laps-here : Laps own n rounds s₀ (counting (world m c left) y) round to
  laps-here = subst (λ (s : Counting). Laps own n rounds s₀ s round to) (sym still) l

  first-here : open_to (to - 1) c ≡ 0
  first-here = ap (λ (s : Counting). open_to (to - 1) s.world.cursors) still ∙ first

  last-is : d ≡ to - 1
  last-is = by (ltb d (to - 1)) refl
    where
      by : (b : Bool) → ltb d (to - 1) ≡ b → d ≡ to - 1
      by true q = absurd (true≢false (sym (to-idle c (to - 1) d (omega (arith, first-here)) (ltb-true d (to - 1) q)) ∙ busy))
      by false q = omega (arith, here, ltb-false d (to - 1) q)

  worker : d < n
  worker = omega (arith, here, laps-here.last, to-most c n)

  here-alone : Alone n d c
  here-alone = rw last-is (to-alone c n laps-here.last (omega arith) first-here)

  module _ {k i j : ℕ} {b : Single} (t : Turns own d k (single m left (get_or c.step d 0) (get_or c.turn d 0) c.held y) b)
      (at-round : i ≡ round) (some : 1 ≤ k) (fit : k ≤ rounds - i) (ends : j ≡ cond (eqb b.turn 255) 0 (d + 1)) where
    few : d < 8
    few = omega (arith, worker, l.few)

    others : (x : ℕ) → x < n → x ≢ d → is_idle (cursor_at (spread c d b).world.cursors x) ≡ true
    others = others-idle own n c d laps-here.full l.few worker here-alone b

    most-ends : j ≤ d + 1
    most-ends = rw ends (by (eqb b.turn 255))
      where
        by : (x : Bool) → cond x 0 (d + 1) ≤ d + 1
        by true = omega arith
        by false = omega arith

    none_below : (x : ℕ) → x ≤ d → open_to x (spread c d b).world.cursors ≡ 0
    none_below x h =
        to-cut (spread c d b).world.cursors x 0 (omega arith) (λ z p q. others z (omega (arith, worker)) (λ u. omega arith))
        ∙ to-zero (spread c d b).world.cursors

    ends_last : j ≡ open_to n (spread c d b).world.cursors
    ends_last =
        let full = spread-full own c d laps-here.full few b in
        ends
        ∙ ap (λ (x : ℕ). cond (eqb x 255) 0 (d + 1)) (sym (spread-turn own c d laps-here.full few b))
        ∙ to-with (spread c d b).world.cursors d 0 (rw full.turns few) (sym (none_below d (omega arith)))
        ∙ sym (to-cut (spread c d b).world.cursors n (d + 1) (omega (arith, worker)) (λ z p q. others z q (λ u. omega arith)))

    laps-spread : Laps own n rounds s₀ (spread c d b) (i + k) j
    laps-spread =
        let full = spread-full own c d laps-here.full few b in
        let q : rounds - (i + k) ≡ rounds - round - k = omega (arith, at-round) in
        let fits : k ≤ rounds - round = omega (arith, at-round) in
        let knows = turns-known own n c d laps-here.full l.few worker here-alone t some laps-here.size in
        let turns = rounds-alone own n c d laps-here.full l.few worker here-alone t (rounds - round) fits in
        record {
          below = omega (arith, l.below, at-round);
          few = l.few;
          full = full;
          size = turns-sized own d n t laps-here.size;
          most = most-more (8 * round + k) (8 * (i + k)) (turns-most own d t (8 * round) laps-here.most) (omega (arith, at-round));
          last = ends_last;
          known =
              λ x a g. by-worker (Known own (spread c d b).world) x d knows
              (λ o p w. absurd (w (idle-says (spread c d b).world.cursors x (rw full.turns (omega (arith, l.few))) (others x a o))));
          same = rw q (sym turns ∙ ap (rounds_of own (rounds - round) n) (spread_none c d m left y) ∙ laps-here.same);
        }

    pub laps-alone : (e : Cursors) → e ≡ holding b.held (set_at c d b.step b.turn)
        → Laps own n rounds s₀ (counting (world b.image e b.left) b.tally) (i + k) j × (open_to (j - 1) e ≡ 0)
    laps-alone e p = rw p (laps-spread, none_below (j - 1) (omega (arith, most-ends)))

-- ---- the record, where no turn is made

pub settled_same : (c : Cursors) (d : ℕ) {s t : ℕ} → s ≡ get_or c.step d 0 → t ≡ get_or c.turn d 0 → set_at c d s t ≡ c
unfolding set_at
settled_same c d p q = rw (p, q, set-get_or c.step d 0, set-get_or c.turn d 0)
