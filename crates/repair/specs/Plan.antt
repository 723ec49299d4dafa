-- The stores of an accepted recovery, in order.
use Rattle.std.specs.Prelude.{ℕ, suc, zero, ◌+◌, List, [], ◌∷◌, ◌++◌, Bool, false, cond, ◌&&◌, ◌||◌, not, eqb}
use Rattle.mask.specs.Mask.{has}
use Rattle.image.specs.declared.Field.TheVariants.{Count, Pc, Intent}
use Rattle.image.specs.Place.{Place, lock, field, Memory, Store}
use Rattle.owed.specs.Owed.{owed}

infixl 60 ◌≔◌
abbrev pub ◌≔◌ : Place → ℕ → Store
p ≔ v = record { place = p; value = v }

-- a store, where it is to be made
abbrev pub when : Bool → Store → List Store
when t s = cond t (s ∷ []) []

-- the stores of k rows, from row i on
unfoldable pub rows : (ℕ → List Store) → ℕ → ℕ → List Store
rows f i zero = []
rows f i (suc k) = f i ++ rows f (i + 1) k

-- worker d has a section that is not begun
abbrev pub unbegun : Memory → ℕ → Bool
unbegun rd d = eqb (rd (field Pc d)) 0 && not (eqb (rd (field Count d)) 0)

-- n: own words in a record
module _ (n : ℕ) (rd : Memory) where
  -- one of the first k workers intends lock b
  unfoldable pub intended : ℕ → ℕ → Bool
  intended zero b = false
  intended (suc k) b = intended k b || has (rd (field Intent k)) b

  -- stage 1: a lock that any of D workers intends is freed
  abbrev pub unlock : ℕ → ℕ → List Store
  unlock D b = when (intended D b) (lock b ≔ 0)

  -- stage 2: a worker intends what it is owed
  abbrev pub intend : ℕ → List Store
  intend d = (field Intent d ≔ owed n rd d) ∷ []

  -- stage 3: a section that was not begun is withdrawn
  abbrev pub withdraw : ℕ → List Store
  withdraw d = when (unbegun rd d) (field Count d ≔ 0)

  -- stage 4: a worker has the locks that it is owed
  abbrev pub relock : ℕ → ℕ → List Store
  relock d b = when (has (owed n rd d) b) (lock b ≔ d + 1)

  abbrev pub relocks : ℕ → List Store
  relocks d = rows (relock d) 0 64

  -- the stores of an accepted recovery of D workers, in order
  unfoldable pub plan : ℕ → List Store
  plan D = rows (unlock D) 0 64 ++ (rows intend 0 D ++ (rows withdraw 0 D ++ rows relocks 0 D))
