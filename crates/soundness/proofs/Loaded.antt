-- The words that a record's instructions are loaded into: the first k of them are the code's, so they pass the check as it does, and have its held sets.
use Prim.Native.Nat.{ℕ, suc, zero, ◌<◌, ◌≤◌}
use mathlib.Core.Path.{◌≡◌, refl, ◌∙◌}
use mathlib.Core.List.{List}
use native.Mathlib.Omega.{arith}
use lib.ListN.{length, get_or, take, length-set}
use lib.Seq.{get_or-take, length-take-le}
use Rattle.base.proofs.Filling.{filled_next}
use Rattle.section.specs.Check.{Code, code_of, held_before, check}
use Rattle.section.proofs.Facts.{check-cong}
use Rattle.section.proofs.Held.{held-cong}
use Rattle.soundness.specs.Inner.Reading.{loaded}

module _ (code : Code) (ws : List ℕ) where
  loaded-length : (k : ℕ) → length (loaded code ws k) ≡ length ws
  unfolding loaded
  loaded-length zero = refl
  loaded-length (suc k) = length-set (loaded code ws k) k (code k) ∙ loaded-length k

  loaded_at : (k : ℕ) → k ≤ length ws → (j : ℕ) → j < k → get_or (loaded code ws k) j 0 ≡ code j
  unfolding loaded
  loaded_at zero h j l = absurd (omega arith)
  loaded_at (suc k) h j l =
      let e = loaded-length k in
      filled_next (loaded code ws k) k (code k) code (omega arith) (loaded_at k (omega arith)) refl j (omega arith)

  module _ (k : ℕ) (w : List ℕ) (e : w ≡ loaded code ws k) (h : k ≤ length ws) where
    pub first-fit : k ≤ length w
    first-fit = rw (e, loaded-length k) h

    pub first-length : length (take k w) ≡ k
    first-length = length-take-le k w first-fit

    pub first-at : (j : ℕ) → j < k → get_or (take k w) j 0 ≡ code j
    first-at j l = get_or-take k w j 0 l ∙ rw e (loaded_at k h j l)

    pub first-checks : (n : ℕ) → check n (length (take k w)) (code_of (take k w)) ≡ check n k code
    first-checks n = rw first-length (check-cong n k (code_of (take k w)) code first-at)

    pub first-helds : (held : List ℕ) → ((j : ℕ) → j < length (take k w) → get_or held j 0 ≡ held_before (code_of (take k w)) j)
        → (j : ℕ) → j < k → get_or held j 0 ≡ held_before code j
    first-helds held sets j l = sets j (rw first-length l) ∙ held-cong _ _ j (λ i g. first-at i (omega arith))
