-- One turn as the code says it is so many turns in sequence (`made_one`). What the code says of every working record is read off one of worker d's
-- numbers alone (`one-after`); and a turn that waits leaves all as it was, so that the next waits too (`made-waits`, by induction on their number).
use Prim.Native.Nat.{ℕ, suc, zero, ◌+◌, ◌-◌, ◌<◌, ◌≤◌}
use mathlib.Core.Path.{◌≡◌, ap, ◌∙◌, sym}
use mathlib.Core.Bool.{Bool, true, false, cond}
use native.Mathlib.Omega.{arith}
use lib.ListN.{length, get_or, replicate, length-replicate, get_or-replicate}
use lib.Seq.{get_or-set_same}
use lib.Dec.{eqb}
use Rattle.image.specs.Place.{Place, cell, lock, field, own, step}
use Rattle.image.specs.Image.{Image, at}
use Rattle.tally.specs.declared.Tally.{Tally}
use Rattle.tally.specs.Tally.{with_waits, with_waiting, Room, RoomFor}
use Rattle.working.specs.declared.Cursors.{Cursors}
use Rattle.working.specs.Inner.At.{At}
use Rattle.working.specs.Cursor.{on, step_no, turn_no, set_at, holding}
use Rattle.working.specs.World.{World, world}
use Rattle.working.proofs.Placed.{on-is, open_turn}
use Rattle.plan.specs.Turn.{Outcome, stored, passed, waiting, resting, refused, ready, turn_at}
use Rattle.worklog.specs.declared.Plan.TheVariants.{Take, Free}
use Rattle.plan.specs.Inner.Plan.{store_plan, plan_of}
use Rattle.plan.proofs.Planned.{ready-says}
use Rattle.turn.specs.declared.Answer.{Answer}
use Rattle.turn.specs.declared.Did.{Did}
use Rattle.turn.specs.declared.Did.TheVariants.{Stored, Took, Freed, Passed, Waiting}
use Rattle.turn.specs.Call.{answer_of, leaves, outcome_at}
use Rattle.turn.specs.Counted.{counted}
use Rattle.turn.specs.Inner.Acting.{plan_did, did_held, did_answer, Acts}
use Rattle.turn.proofs.Turns.{Made, made-ready, did-answers}
use Rattle.stretch.specs.Inner.Single.{Single, single, after, Turns, none, then}
use Rattle.stretch.specs.Inner.Stretch.{more_by}

-- ---- a record of worker d's numbers, its last, with these locks held

abbrev alone : ℕ → ℕ → ℕ → ℕ → Cursors
alone d s t h = record { step = replicate (suc d) s; turn = replicate (suc d) t; held = h }

alone-in : (d x : ℕ) → d < length (replicate (suc d) x)
alone-in d x = rw (length-replicate (suc d) x) (omega arith)

alone-get : (d x : ℕ) → get_or (replicate (suc d) x) d 0 ≡ x
alone-get d x = get_or-replicate (suc d) d x 0 (omega arith)

alone_at : (d s t h : ℕ) → At (alone d s t h) d s t
alone_at d s t h = record { inside = alone-in d t; step = alone-get d s; turn = alone-get d t }

-- what a world has of worker d's turns, with a tally
abbrev seen : ℕ → World → Tally → Single
seen d w y = single w.image w.left (get_or w.cursors.step d 0) (get_or w.cursors.turn d 0) w.cursors.held y

-- its numbers set
seen-set : (d s t h : ℕ) (v : Image) (rest i j k : ℕ) (z : Tally) → seen d (world v (holding k (set_at (alone d s t h) d i j)) rest) z ≡ single v rest i j k z
unfolding set_at
seen-set d s t h v rest i j k z = rw (get_or-set_same (replicate (suc d) s) d i 0 (alone-in d s), get_or-set_same (replicate (suc d) t) d j 0 (alone-in d t))

-- what an outcome leaves
module _ (n d s t : ℕ) (m : Image) (left h : ℕ) (y : Tally) where
  seen-leaves : (o : Outcome) → Made o → seen d (leaves n (world m (alone d s t h) left) d o) (counted (answer_of n o) y) ≡ after n (single m left s t h y) o
  unfolding set_at
  seen-leaves (stored p v c) e = seen-set d s t h _ _ (step_no c) (turn_no c) _ _
  seen-leaves (passed why c) e = seen-set d s t h m left (step_no c) (turn_no c) h _
  seen-leaves (waiting b) e = rw (alone-get d s, alone-get d t)
  seen-leaves resting e = absurd e
  seen-leaves (refused r) e = absurd e

-- ---- the tally

add-zero : (k : ℕ) → k + 0 ≡ k
add-zero k = omega arith

no-waits : (y : Tally) → with_waits 0 y ≡ y
no-waits y = rw (add-zero y.turns, add-zero y.waits)

-- one more that waited
more-waits : (k : ℕ) (y : Tally) → with_waits k (with_waiting y) ≡ with_waits (suc k) y
more-waits k y =
    let a : y.turns + 1 + k ≡ y.turns + suc k = omega arith in
    let b : y.waits + 1 + k ≡ y.waits + suc k = omega arith in
    rw (a, b)

-- ---- how many turns it takes

pub more-most : (x : Did) (r : ℕ) → 1 ≤ r → more_by x (r - 1) + 1 ≤ r
more-most (Stored i) r l = l
more-most (Took b) r l = l
more-most (Freed b) r l = l
more-most (Passed why) r l = l
more-most (Waiting b) r l = omega (arith, l)

-- with room for more turns there is room for fewer
pub room-less : (j k : ℕ) (t : Tally) → j ≤ k → RoomFor k t → RoomFor j t
room-less j k t l r = (omega (arith, r.0), omega (arith, r.1), omega (arith, r.2), omega (arith, r.3), omega (arith, r.4))

-- and for one behind those that waited
pub room_waits : (j k : ℕ) (t : Tally) → j + 1 ≤ k → RoomFor k t → Room (with_waits j t)
room_waits j k t l r = (omega (arith, r.0), omega (arith, r.1), omega (arith, r.2), omega (arith, r.3), omega (arith, r.4))

-- ---- the turns

-- a store is no waiting
store_goes : (n b : ℕ) (p : Place) (v s t : ℕ) → Waiting b ≡ plan_did (store_plan n p v s t) → ⊥
store_goes n b (cell x) v s t e = let z : ◌≡◌ {A = ℕ} 0 1 = cc in omega arith
store_goes n b (lock a) v s t e = by (eqb v 0) e
  where
    by : (z : Bool) → Waiting b ≡ plan_did (cond z (Free a s t) (Take a v s t)) → ⊥
    by true e = let z : ◌≡◌ {A = ℕ} 0 1 = cc in omega arith
    by false e = let z : ◌≡◌ {A = ℕ} 0 1 = cc in omega arith
store_goes n b (field f d) v s t e = let z : ◌≡◌ {A = ℕ} 0 1 = cc in omega arith
store_goes n b (own d i) v s t e = let z : ◌≡◌ {A = ℕ} 0 1 = cc in omega arith
store_goes n b (step d i) v s t e = let z : ◌≡◌ {A = ℕ} 0 1 = cc in omega arith

-- a turn that waited has that outcome
waits-is : (n b : ℕ) (o : Outcome) → Made o → Waiting b ≡ plan_did (plan_of n o) → o ≡ waiting b
waits-is n b (stored p v c) m e = absurd (store_goes n b p v (step_no c) (turn_no c) e)
waits-is n b (passed why c) m e = cc
waits-is n b (waiting a) m e = cc
waits-is n b resting m e = absurd m
waits-is n b (refused r) m e = absurd m

module _ (n d s t : ℕ) (m : Image) (left : ℕ) (e : ready n (at n m) d s t ≡ true) where
  -- the turn waits, and so do as many as there are
  made-waits : (b : ℕ) → turn_at n (at n m) d (on s t) ≡ waiting b → (h k : ℕ) (y : Tally)
      → Turns n d k (single m left s t h y) (single m left s t h (with_waits k y))
  made-waits b o h zero y = rw (no-waits y) (none _)
  made-waits b o h (suc k) y =
      then k (single m left s t h y) (single m left s t h (with_waits (suc k) y)) e (rw (o, ← more-waits k y) (made-waits b o h k (with_waiting y)))

  -- what the code says of every record that has the worker there
  module _ (v : Image) (rest : ℕ) (x : Did) (i j : ℕ) (acts : (c : Cursors) → At c d s t
      → Acts n (world m c left) d x (world v (holding (did_held x c.held) (set_at c d i j)) rest)) where
    -- the worker is open there
    private-on : (h : ℕ) → outcome_at n (world m (alone d s t h) left) d ≡ turn_at n (at n m) d (on s t)
    unfolding outcome_at
    private-on h =
        let c = alone d s t h in
        let a = alone_at d s t h in
        let z = ready-says n (at n m) d s t e in
        rw (on-is c d a.inside (open_turn c d a.inside (λ q. omega (arith, z.turn, a.turn, q))), a.step, a.turn)

    -- what the turn did, and what it left, is its outcome's
    one-did : x ≡ plan_did (plan_of n (turn_at n (at n m) d (on s t)))
    one-did = (acts (alone d s t 0) (alone_at d s t 0)).did ∙ ap (λ (o : Outcome). plan_did (plan_of n o)) (private-on 0)

    one-after : (h : ℕ) (y : Tally)
        → single v rest i j (did_held x h) (counted (did_answer n x) y) ≡ after n (single m left s t h y) (turn_at n (at n m) d (on s t))
    one-after h y =
        let o = turn_at n (at n m) d (on s t) in
        let w = world m (alone d s t h) left in
        let made = made-ready n (at n m) d s t e in
        let told : did_answer n x ≡ answer_of n o = ap (did_answer n) one-did ∙ did-answers n o made in
        let left_by = (acts (alone d s t h) (alone_at d s t h)).after ∙ ap (leaves n w d) (private-on h) in
        sym (seen-set d s t h v rest i j (did_held x h) (counted (did_answer n x) y))
        ∙ ap (λ (u : World). seen d u (counted (did_answer n x) y)) left_by
        ∙ ap (λ (a : Answer). seen d (leaves n w d o) (counted a y)) told
        ∙ seen-leaves n d s t m left h y o made

    -- it took one turn
    made-single : (h : ℕ) (y : Tally) → Turns n d 1 (single m left s t h y) (single v rest i j (did_held x h) (counted (did_answer n x) (with_waits 0 y)))
    made-single h y =
        rw (no-waits y)
        (then 0 (single m left s t h y) (single v rest i j (did_held x h) (counted (did_answer n x) y)) e (rw (← one-after h y) (none _)))

  -- so many turns: one, or where it waited as many more as there are rounds
  pub made_one : (v : Image) (rest : ℕ) (x : Did) (i j : ℕ)
      → ((c : Cursors) → At c d s t → Acts n (world m c left) d x (world v (holding (did_held x c.held) (set_at c d i j)) rest))
      → (r h : ℕ) (y : Tally)
      → Turns n d (more_by x r + 1) (single m left s t h y) (single v rest i j (did_held x h) (counted (did_answer n x) (with_waits (more_by x r) y)))
  made_one v rest (Stored k) i j acts r h y = made-single v rest (Stored k) i j acts h y
  made_one v rest (Took b) i j acts r h y = made-single v rest (Took b) i j acts h y
  made_one v rest (Freed b) i j acts r h y = made-single v rest (Freed b) i j acts h y
  made_one v rest (Passed why) i j acts r h y = made-single v rest (Passed why) i j acts h y
  made_one v rest (Waiting b) i j acts r h y =
      let o = waits-is n b (turn_at n (at n m) d (on s t)) (made-ready n (at n m) d s t e) (one-did v rest (Waiting b) i j acts) in
      let q = one-after v rest (Waiting b) i j acts h y ∙ ap (after n (single m left s t h y)) o in
      let same = ap (λ (z : Single). single z.image z.left z.step z.turn h (with_waits (r + 1) y)) q in
      let turns : y.turns + r + 1 ≡ y.turns + (r + 1) = omega arith in
      let waits : y.waits + r + 1 ≡ y.waits + (r + 1) = omega arith in
      rw (turns, waits, same) (made-waits b o h (r + 1) y)
