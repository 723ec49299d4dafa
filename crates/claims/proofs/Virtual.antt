-- The memory as it will be once every logged store has been made: for each worker whose pc names a step, the active
-- entry's value stands at that step's target. With its first laws: what stands at a place that one worker's entry is for,
-- at a place that none is for, and when two memories look the same.
use Prim.Native.Nat.{ℕ, suc, zero, ◌<◌}
use mathlib.Core.Path.{◌≡◌, refl, ap, ◌∙◌, sym}
use mathlib.Core.Logic.{◌≢◌}
use mathlib.Core.Bool.{true, false, cond}
use lib.Dec.{eqb}
use native.Mathlib.Omega.{arith}
use native.Mathlib.Decide.{ℕ_discrete}
use Rattle.image.specs.declared.Field.TheVariants.{Pc}
use Rattle.image.specs.Place.{Place, field, Memory}
use Rattle.image.specs.Inner.Same.{same}
use Rattle.worklog.specs.Log.{active_val}
use Rattle.owed.specs.Owed.{target_of, named_op}

-- what a worker's log has: nothing under way, or a value for a place
pub data Entry : Type 0 where
  none : Entry
  due : Place → ℕ → Entry

-- what stands at q once an entry's store has been made, where x stands now
abbrev pub over : Entry → Place → ℕ → ℕ
over none q x = x
over (due p v) q x = cond (same q p) v x

-- an entry is for another place than q, or for none
abbrev pub misses : Entry → Place → Type 0
misses none q = Unit {0}
misses (due p v) q = same q p ≡ false

module _ (n : ℕ) where
  unfoldable pub entry_of : Memory → ℕ → Entry
  entry_of rd d = cond (eqb (rd (field Pc d)) 0) none (due (target_of d (named_op n rd d)) (rd (field (active_val n rd d) d)))

  -- the memory once the stores due to the first k workers have been made
  unfoldable pub virtual : Memory → ℕ → Memory
  virtual rd zero q = rd q
  virtual rd (suc k) q = over (entry_of rd k) q (virtual rd k q)

  over-misses : (x : Entry) (q : Place) (v : ℕ) → misses x q → over x q v ≡ v
  over-misses none q v h = refl
  over-misses (due p w) q v h = rw h

  -- where no worker's entry is for q, what stands there is what will
  pub virtual-none : (rd : Memory) (k : ℕ) (q : Place) → ((d : ℕ) → d < k → misses (entry_of rd d) q) → virtual rd k q ≡ rd q
  unfolding virtual
  virtual-none rd zero q h = refl
  virtual-none rd (suc k) q h = over-misses (entry_of rd k) q _ (h k (omega arith)) ∙ virtual-none rd k q (λ d l. h d (omega arith))

  -- where worker d's entry is for q, and no other's is, it is that entry's value that will
  pub virtual-due :
      (rd : Memory) (k d : ℕ) (p q : Place) (v : ℕ) → d < k → entry_of rd d ≡ due p v → same q p ≡ true → ((e : ℕ) → e < k → e ≢ d → misses (entry_of rd e) q)
      → virtual rd k q ≡ v
  unfolding virtual
  virtual-due rd zero d p q v l e s h = absurd (omega arith)
  virtual-due rd (suc k) d p q v l e s h = by (λ m. virtual-due rd k d p q v m e s (λ f i. h f (omega arith))) (ℕ_discrete d k)
    where
      by : (d < k → virtual rd k q ≡ v) → Dec (d ≡ k) → virtual rd (suc k) q ≡ v
      by more (yes i) = rw (← i, e, s)
      by more (no i) = over-misses (entry_of rd k) q _ (h k (omega arith) (λ j. i (sym j))) ∙ more (omega arith)

  -- two memories whose entries do the same at q, and which have the same there, look the same there
  pub virtual-cong :
      (rd rd' : Memory) (k : ℕ) (q : Place) → rd' q ≡ rd q → ((d : ℕ) → d < k → (x : ℕ) → over (entry_of rd' d) q x ≡ over (entry_of rd d) q x)
      → virtual rd' k q
      ≡ virtual rd k q
  unfolding virtual
  virtual-cong rd rd' zero q e h = e
  virtual-cong rd rd' (suc k) q e h = h k (omega arith) _ ∙ ap (over (entry_of rd k) q) (virtual-cong rd rd' k q e (λ d l. h d (omega arith)))
