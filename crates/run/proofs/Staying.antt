-- A cursor that is past the first turn of its step stays ready while turns are made: a turn goes on to a later turn of the
-- same step, or to the first of another, and stores no word that the test of cause 11 reads, but for the last turn of a
-- finish, which leaves its worker idle (plan/proofs/Going). So a run tests the first turn of a step alone, after its first round.
use Prim.Native.Nat.{ℕ, ◌<◌}
use mathlib.Core.Path.{◌≡◌, refl, ◌∙◌}
use mathlib.Core.Bool.{true}
use mathlib.Core.Logic.{◌≢◌}
use native.Mathlib.Omega.{arith}
use native.Mathlib.Decide.{ℕ_discrete}
use lib.ListN.{get_or}
use lib.Seq.{get_or-set_same, get_or-set_other}
use Rattle.image.specs.Image.{Image, at}
use Rattle.image.proofs.Header.{Sized}
use Rattle.image.proofs.Stores.{sized-store}
use Rattle.code.specs.Table.{turns_of}
use Rattle.working.specs.Cursor.{Cursor, idle, on, step_no, turn_no, set_at, placed}
use Rattle.working.specs.World.{World, world}
use Rattle.working.proofs.Placed.{Full, on-is, open_turn}
use Rattle.worklog.specs.Log.{code_in}
use Rattle.plan.specs.Turn.{Outcome, stored, passed, waiting, resting, refused, ready}
use Rattle.plan.proofs.Planned.{ready-says, ready-turn}
use Rattle.plan.proofs.Quiet.{quiet-ready, ends-ready}
use Rattle.plan.proofs.Going.{Onward, Goes, stores, ends, passes, waits, goes-ready}
use Rattle.turn.specs.Inner.Acting.{tested}
use Rattle.turn.specs.Call.{leaves, outcome_at}

abbrev pub Known : ℕ → World → ℕ → Type 0
Known n w d = get_or w.cursors.turn d 0 ≢ 0 → get_or w.cursors.turn d 0 ≢ 255 → tested n w.image w.cursors d ≡ true

module _ (D n : ℕ) (w : World) (d : ℕ) (f : Full w.cursors) (z : Sized n D w.image) (h : d < D) (l : d < 8) where
  -- where its numbers are worker d's own, or another's
  own-known : (s k : ℕ) (m : Image) (left : ℕ) (x : Cursor)
      → ((t : ℕ) → t < k → ready n (at n m) d s t ≡ true)
      → Onward s k x → Known n (world m (placed w.cursors d x) left) d
  unfolding set_at
  own-known s k m left idle r u a b = absurd (b (get_or-set_same w.cursors.turn d 255 0 (rw f.turns l)))
  own-known s k m left (on i t) r u a b =
      let e = get_or-set_same w.cursors.turn d t 0 (rw f.turns l) in
      let g = get_or-set_same w.cursors.step d i 0 (rw f.steps l) in
      let v = u (λ q. a (e ∙ q)) in
      rw (e, g, v.0) (r t v.1)

  other-known : (e : ℕ) (m : Image) (left : ℕ) (x : Cursor) → e ≢ d
      → ((s t : ℕ) → ready n (at n m) e s t ≡ ready n (at n w.image) e s t)
      → Known n w e → Known n (world m (placed w.cursors d x) left) e
  unfolding set_at
  other-known e m left x o r k =
      let p = get_or-set_other w.cursors.turn d e (turn_no x) 0 o in
      let q = get_or-set_other w.cursors.step d e (step_no x) 0 o in
      rw (p, q, r (get_or w.cursors.step e 0) (get_or w.cursors.turn e 0)) k

  -- after the turn of a worker that was ready
  known-own : (s k : ℕ) (o : Outcome) → Goes D n d s k o → ((t : ℕ) → t < k → ready n (at n w.image) d s t ≡ true)
      → tested n w.image w.cursors d ≡ true → Known n (leaves n w d o) d
  known-own s k _ (stores p v x q u) r e = own-known s k _ w.left x (λ t g. quiet-ready D n w.left w.image z p v d s t q ∙ r t g) u
  known-own s k _ (ends v) r e = own-known s 0 _ w.left idle (λ t g. absurd (omega arith)) tt
  known-own s k _ (passes why x u) r e = own-known s k _ w.left x r u
  known-own s k _ (waits b) r e = λ a c. e

  known-other : (s k : ℕ) (o : Outcome) → Goes D n d s k o → (e : ℕ) → e ≢ d → Known n w e → Known n (leaves n w d o) e
  known-other s k _ (stores p v x q u) e o = other-known e _ w.left x o (λ i t. quiet-ready D n w.left w.image z p v e i t q)
  known-other s k _ (ends v) e o = other-known e _ w.left idle o (λ i t. ends-ready D n w.left w.image z v d e i t h o)
  known-other s k _ (passes why x u) e o = other-known e _ w.left x o (λ i t. refl)
  known-other s k _ (waits b) e o = λ a. a

  -- so it is with every worker that it was known of, and with worker d
  pub known-turn : tested n w.image w.cursors d ≡ true → (e : ℕ) → (e ≢ d → Known n w e) → Known n (leaves n w d (outcome_at n w d)) e
  unfolding outcome_at
  known-turn t e k =
      let rd = at n w.image in
      let s = get_or w.cursors.step d 0 in
      let u = get_or w.cursors.turn d 0 in
      let g = goes-ready D n rd d h s u t in
      let r = ready-says n rd d s u t in
      let o = on-is w.cursors d (rw f.turns l) (open_turn w.cursors d (rw f.turns l) (λ q. omega (arith, r.turn, q))) in
      rw o (by g (λ i a. ready-turn n rd d s u i t a) (ℕ_discrete e d))
    where
      by : {o : Outcome} → Goes D n d (get_or w.cursors.step d 0) (turns_of (code_in n (at n w.image) d (get_or w.cursors.step d 0))) o
          → ((i : ℕ) → i < turns_of (code_in n (at n w.image) d (get_or w.cursors.step d 0)) → ready n (at n w.image) d (get_or w.cursors.step d 0) i ≡
          true)
          → Dec (e ≡ d) → Known n (leaves n w d o) e
      by {o} g r (yes q) = rw q (known-own _ _ o g r t)
      by {o} g r (no q) = known-other _ _ o g e q (k q)

  -- the image keeps its size
  pub sized-leaves : (o : Outcome) → Sized n D (leaves n w d o).image
  sized-leaves (stored p v x) = sized-store n D w.left w.image p v z
  sized-leaves (passed why x) = z
  sized-leaves (waiting b) = z
  sized-leaves resting = z
  sized-leaves (refused r) = z
