-- Turns one after another, from one to the next: they go on (`turns-append`), the image keeps its size, and while the worker is not idle its count stays
-- (`turns-count`); and each turn adds at most one to a number of the tally.
use Prim.Native.Nat.{ℕ, suc, zero, ◌+◌, ◌-◌, ◌<◌, ◌≤◌}
use mathlib.Core.Path.{◌≡◌, refl, ap, sym, ◌∙◌}
use mathlib.Core.Logic.{◌≢◌}
use native.Mathlib.Omega.{arith}
use Rattle.image.specs.declared.Field.TheVariants.{Count}
use Rattle.image.specs.Place.{field}
use Rattle.image.specs.Image.{Image, index_of, at}
use Rattle.image.proofs.Header.{Sized}
use Rattle.image.proofs.Stores.{sized-store}
use Rattle.tally.specs.declared.Tally.{Tally}
use Rattle.tally.specs.Tally.{RoomFor}
use Rattle.working.specs.Cursor.{on}
use Rattle.plan.specs.Turn.{Outcome, stored, passed, waiting, resting, refused, turn_at}
use Rattle.plan.proofs.Planned.{ready-says}
use Rattle.plan.proofs.Quiet.{at_other}
use Rattle.plan.proofs.Going.{Goes, stores, ends, passes, waits, goes-ready}
use Rattle.turn.specs.declared.Answer.{Answer}
use Rattle.turn.specs.declared.Answer.TheVariants.{Stored, Passed, Waiting, Idle}
use Rattle.turn.specs.Counted.{counted}
use Rattle.turn.proofs.Counting.{counted-most}
use Rattle.stretch.specs.Inner.Single.{Single, single, after, Turns, none, then}

module _ (n d : ℕ) where
  pub turns-append : {j k : ℕ} {a b c : Single} → Turns n d j a b → Turns n d k b c → Turns n d (j + k) a c
  turns-append {k = k} (none a) u = let e : 0 + k ≡ k = omega arith in rw e u
  turns-append {k = k} {c = c} (then j a b r t) u = let e : suc j + k ≡ suc (j + k) = omega arith in rw e (then (j + k) a c r (turns-append t u))

  -- no turn leaves all as it was
  turns-none : {k : ℕ} {a b : Single} → Turns n d k a b → k ≡ 0 → a ≡ b
  turns-none (none a) e = refl
  turns-none (then k a b r t) e = absurd (omega arith)

  pub turns-still : {k : ℕ} {m v : Image} {left rest s t h i u g : ℕ} {y z : Tally}
      → Turns n d k (single m left s t h y) (single v rest i u g z) → k ≡ 0 → (v ≡ m) × (rest ≡ left)
  turns-still t e = let q = turns-none t e in (ap (λ (a : Single). a.image) (sym q), ap (λ (a : Single). a.left) (sym q))

  pub turns-sized : (D : ℕ) {k : ℕ} {a b : Single} → Turns n d k a b → Sized n D a.image → Sized n D b.image
  turns-sized D (none a) z = z
  turns-sized D (then k a b e t) z = turns-sized D t (by (turn_at n (at n a.image) d (on a.step a.turn)))
    where
      by : (o : Outcome) → Sized n D (after n a o).image
      by (stored p v x) = sized-store n D a.left a.image p v z
      by (passed why x) = z
      by (waiting b) = z
      by resting = z
      by (refused r) = z

-- the count is stored by the turn that leaves the worker idle, and by no other
module _ (D n d : ℕ) (h : d < D) where
  idle-last : {k : ℕ} {a b : Single} → Turns n d k a b → a.turn ≡ 255 → b.turn ≡ 255
  idle-last (none a) e = e
  idle-last (then k a b r t) e = absurd (omega (arith, (ready-says n (at n a.image) d a.step a.turn r).turn, e))

  pub turns-count : {k : ℕ} {a b : Single} → Turns n d k a b → Sized n D a.image → b.turn ≢ 255
      → at n b.image (field Count d) ≡ at n a.image (field Count d)
  turns-count (none a) z o = refl
  turns-count (then k a b r t) z o = by (goes-ready D n (at n a.image) d h a.step a.turn r) t (λ y. turns-count t y o)
    where
      by : {i s : ℕ} {x : Outcome} → Goes D n d s i x → Turns n d k (after n a x) b
          → (Sized n D (after n a x).image → at n b.image (field Count d) ≡ at n (after n a x).image (field Count d))
          → at n b.image (field Count d) ≡ at n a.image (field Count d)
      by (stores p v c q u) t more =
          more (sized-store n D a.left a.image p v z) ∙ at_other D n a.left a.image z p (field Count d) v q.there (q.counts d)
      by (ends v) t more = absurd (o (idle-last t refl))
      by (passes why c u) t more = more z
      by (waits c) t more = more z

-- room for one turn fewer
room-counted : (x : Answer) (r : ℕ) (t : Tally) → 1 ≤ r → RoomFor r t → RoomFor (r - 1) (counted x t)
room-counted x r t l h =
    let m = counted-most x t in
    (omega (arith, h.0, m.0), omega (arith, h.1, m.1), omega (arith, h.2, m.2), omega (arith, h.3, m.3), omega (arith, h.4, m.4))

pub turns-room : (n d : ℕ) {k : ℕ} {a b : Single} → Turns n d k a b → (r : ℕ) → k ≤ r → RoomFor r a.tally → RoomFor (r - k) b.tally
turns-room n d (none a) r l h = let e : r - 0 ≡ r = omega arith in rw e h
turns-room n d (then k a b e t) r l h =
    let q : r - suc k ≡ r - 1 - k = omega arith in
    rw q (turns-room n d t (r - 1) (omega arith) (by (turn_at n (at n a.image) d (on a.step a.turn))))
  where
    by : (o : Outcome) → RoomFor (r - 1) (after n a o).tally
    by (stored p v x) = room-counted (Stored (index_of n p)) r a.tally (omega arith) h
    by (passed why x) = room-counted (Passed why) r a.tally (omega arith) h
    by (waiting b) = room-counted (Waiting b) r a.tally (omega arith) h
    by resting = room-counted Idle r a.tally (omega arith) h
    by (refused z) = room-counted Idle r a.tally (omega arith) h
