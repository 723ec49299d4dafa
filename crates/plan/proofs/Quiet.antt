-- Stores that the test of cause 11 does not see: at any place that is no count and no instruction word (`Spares`), so that a worker that is
-- ready before such a store is ready after it; and the store of a count, for the other workers.
use Prim.Native.Nat.{ℕ, suc, zero, ◌+◌, ◌-◌, ◌<◌}
use mathlib.Core.Path.{◌≡◌, refl, ◌∙◌}
use mathlib.Core.Bool.{Bool, true, false, cond}
use mathlib.Core.Logic.{◌≢◌}
use native.Mathlib.Omega.{arith}
use lib.Dec.{ltb}
use borrow.Author.Tests.{lt-ltb, ltb-false, ne_eqb}
use Rattle.image.specs.declared.Field.{Field}
use Rattle.image.specs.declared.Field.TheVariants.{Count}
use Rattle.image.specs.Place.{Place, cell, lock, field, own, step, valid, Memory}
use Rattle.image.specs.Inner.Same.{same_field, same}
use Rattle.image.specs.Image.{Image, index_of, at, put}
use Rattle.image.proofs.Header.{Sized}
use Rattle.image.proofs.Stores.{put-none, at_store}
use Rattle.worklog.specs.Log.{operand}
use Rattle.plan.specs.Turn.{ready}

-- a place of an image of D workers with n own words each that is no count and no instruction word
pub record Spares (D n : ℕ) (p : Place) : Type 0 where
  pub there : valid D n p ≡ true
  pub counts : (e : ℕ) → same (field Count e) p ≡ false
  pub steps : (e i : ℕ) → same (step e i) p ≡ false

module _ (D n : ℕ) where
  pub quiet-field : (f : Field) (d : ℕ) → d < D → same_field Count f ≡ false → Spares D n (field f d)
  quiet-field f d h e = record { there = lt-ltb d D h; counts = λ i. rw e; steps = λ i j. refl }

  pub quiet-lock : (a : ℕ) → a < 64 → Spares D n (lock a)
  quiet-lock a h = record { there = lt-ltb a 64 h; counts = λ i. refl; steps = λ i j. refl }

  pub quiet-operand : (d a : ℕ) → d < D → a < 512 + n → Spares D n (operand d a)
  unfolding operand
  quiet-operand d a h l = by (ltb a 512) refl
    where
      by : (b : Bool) → ltb a 512 ≡ b → Spares D n (cond b (cell a) (own d (a - 512)))
      by true e = record { there = e; counts = λ i. refl; steps = λ i j. refl }
      by false e =
          let g = ltb-false a 512 e in
          record { there = rw (lt-ltb d D h, lt-ltb (a - 512) n (omega arith)); counts = λ i. refl; steps = λ i j. refl }

-- of two fields each is another than f
pub other-field : (f : Field) (b : Bool) (g h : Field) → same_field f g ≡ false → same_field f h ≡ false → same_field f (cond b g h) ≡ false
other-field f true g h p q = p
other-field f false g h p q = q

-- ---- what it leaves of the test

-- the test of another memory with the same count and instruction
ready-same : (n : ℕ) (rd re : Memory) (d s t : ℕ) → re (field Count d) ≡ rd (field Count d) → re (step d s) ≡ rd (step d s)
    → ready n re d s t ≡ ready n rd d s t
unfolding ready
ready-same n rd re d s t p q = rw (p, q)

module _ (D n left : ℕ) (m : Image) (z : Sized n D m) where
  pub at_other : (p q : Place) (v : ℕ) → valid D n p ≡ true → same q p ≡ false → at n (put left m (index_of n p) v) q ≡ at n m q
  at_other p q v ok e = by left
    where
      by : (k : ℕ) → at n (put k m (index_of n p) v) q ≡ at n m q
      by zero = rw (put-none m (index_of n p) v)
      by (suc k) = at_store n D (suc k) m p v z ok (omega arith) q ∙ (rw e)

  pub quiet-ready : (p : Place) (v d s t : ℕ) → Spares D n p → ready n (at n (put left m (index_of n p) v)) d s t ≡ ready n (at n m) d s t
  quiet-ready p v d s t q =
      ready-same n (at n m) (at n (put left m (index_of n p) v)) d s t (at_other p (field Count d) v q.there (q.counts d))
      (at_other p (step d s) v q.there (q.steps d s))

  pub ends-ready : (v d e s t : ℕ) → d < D → e ≢ d → ready n (at n (put left m (index_of n (field Count d)) v)) e s t ≡ ready n (at n m) e s t
  ends-ready v d e s t h o =
      ready-same n (at n m) (at n (put left m (index_of n (field Count d)) v)) e s t
      (at_other (field Count d) (field Count e) v (lt-ltb d D h) (ne_eqb e d o))
      (at_other (field Count d) (step e s) v (lt-ltb d D h) refl)
