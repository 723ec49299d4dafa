-- Elements of lists: a list that a loop fills from the front, and an element inside.
use Prim.Native.Nat.{ℕ, zero, suc, ◌+◌, ◌<◌}
use mathlib.Core.Path.{◌≡◌, refl, ◌∙◌}
use native.Mathlib.Omega.{arith}
use native.Mathlib.Decide.{ℕ_discrete}
use mathlib.Core.List.{List, [], ◌∷◌}
use lib.ListN.{length, get_or, set}
use lib.Seq.{get_or-set_same, get_or-set_other}

-- what stands below i stays, and element i is the next
pub filled_next :
    (l : List ℕ) (i v : ℕ) (f : ℕ → ℕ) → i < length l → ((j : ℕ) → j < i → get_or l j 0 ≡ f j) → v ≡ f i → (j : ℕ) → j < i + 1 → get_or (set l i v) j 0 ≡ f j
filled_next l i v f h below e j g = by (ℕ_discrete j i)
  where
    by : Dec (j ≡ i) → get_or (set l i v) j 0 ≡ f j
    by (yes p) = rw p (get_or-set_same l i v 0 h ∙ e)
    by (no p) = get_or-set_other l i j v 0 p ∙ below j (omega arith)

-- inside a list the default does not matter
pub get_d-inside {ℓ} : {A : Type ℓ} (l : List A) (i : ℕ) (d e : A) → i < length l → get_or l i d ≡ get_or l i e
get_d-inside [] i d e h = absurd (omega arith)
get_d-inside (x ∷ l) zero d e h = refl
get_d-inside (x ∷ l) (suc i) d e h = get_d-inside l i d e (omega arith)
