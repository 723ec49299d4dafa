-- How many sets have a lock, and the lowest lock that two of them have: as a loop over the sets finds it (`once-next`, `twice-next`), and
-- what the definition gives (`shared-is`, `shared-told`). At the end, an owner word that is not 0.
use Prim.Native.Nat.{ℕ, suc, zero, ◌+◌, ◌-◌, ◌<◌, ◌≤◌}
use borrow.Author.Tests.{lt-ltb, le-ltb, ltb-true, ltb-false, le-leb, lt-leb, leb-true, leb-false}
use mathlib.Core.Path.{◌≡◌, refl, sym}
use mathlib.Core.Bool.{Bool, true, false, cond, ◌&&◌, ◌||◌}
use native.Mathlib.Decide.{ℕ_discrete}
use native.Mathlib.Numerals.{add-one}
use native.Mathlib.Omega.{arith}
use lib.Bits.{bit_and, bit_or}
use lib.Dec.{leb, ltb}
use Rattle.mask.specs.Mask.{has}
use Rattle.mask.proofs.Laws.{has-none}
use Rattle.image.specs.declared.Field.TheVariants.{Intent}
use Rattle.image.specs.Place.{field, Memory}
use Rattle.owed.specs.Owed.{claimants, owner_ok}
use Rattle.owed.specs.Inner.Shared.{shared_from}
use Rattle.mask.proofs.Members.{has-and, has-or}

claimants-zero : (sets : ℕ → ℕ) (b : ℕ) → claimants sets b 0 ≡ 0
unfolding claimants
claimants-zero sets b = refl

pub claimants-next : (sets : ℕ → ℕ) (b k : ℕ) → claimants sets b (k + 1) ≡ cond (has (sets k) b) 1 0 + claimants sets b k
unfolding claimants
claimants-next sets b k = rw (add-one k)

-- the locks that a set has once or twice more

private-once : (t u : Bool) (k : ℕ) → ltb 0 k ≡ u → (u || t) ≡ ltb 0 (cond t 1 0 + k)
private-once true true k e = sym (lt-ltb 0 (1 + k) (omega arith))
private-once true false k e = sym (lt-ltb 0 (1 + k) (omega arith))
private-once false true k e = let l = ltb-true 0 k e in sym (lt-ltb 0 (0 + k) (omega arith))
private-once false false k e = let l = ltb-false 0 k e in sym (le-ltb 0 (0 + k) (omega arith))

private-twice : (t u v : Bool) (k : ℕ) → ltb 0 k ≡ u → ltb 1 k ≡ v → (v || (u && t)) ≡ ltb 1 (cond t 1 0 + k)
private-twice t u true k e f = let l = ltb-true 1 k f in sym (lt-ltb 1 (cond t 1 0 + k) (omega arith))
private-twice true true false k e f = let l = ltb-true 0 k e in sym (lt-ltb 1 (1 + k) (omega arith))
private-twice true false false k e f = let l = ltb-false 0 k e in sym (le-ltb 1 (1 + k) (omega arith))
private-twice false true false k e f = let l = ltb-false 1 k f in sym (le-ltb 1 (0 + k) (omega arith))
private-twice false false false k e f = let l = ltb-false 1 k f in sym (le-ltb 1 (0 + k) (omega arith))

module _ (sets : ℕ → ℕ) (d b once : ℕ) (e : has once b ≡ ltb 0 (claimants sets b d)) where
  pub once-next : has (bit_or once (sets d)) b ≡ ltb 0 (claimants sets b (d + 1))
  once-next =
      rw (claimants-next sets b d, has-or once (sets d) b)
      (private-once (has (sets d) b) (has once b) (claimants sets b d) (sym e))

  pub twice-next : (twice : ℕ) → has twice b ≡ ltb 1 (claimants sets b d) → has (bit_or twice (bit_and once (sets d))) b ≡ ltb 1 (claimants sets b (d + 1))
  twice-next twice f =
      rw (claimants-next sets b d, has-or twice (bit_and once (sets d)) b, has-and once (sets d) b)
      (private-twice (has (sets d) b) (has once b) (has twice b) (claimants sets b d) (sym e) (sym f))

-- no set has a lock
pub none_has : (sets : ℕ → ℕ) (b k : ℕ) → has 0 b ≡ ltb k (claimants sets b 0)
none_has sets b k = rw (has-none b, claimants-zero sets b) (sym (le-ltb k 0 (omega arith)))

-- ---- the lowest lock that two sets have

module _ (sets : ℕ → ℕ) (n : ℕ) where
  -- what is known of r, the lowest from b on and below e
  abbrev Lowest : ℕ → ℕ → ℕ → Type 0
  Lowest b e r = (r ≤ e) × ((c : ℕ) → b ≤ c → c < r → claimants sets c n ≤ 1) × (r < e → 1 < claimants sets r n)

  -- it is the definition's
  pub shared-is : (r k b : ℕ) → b ≤ r → Lowest 0 (b + k) r → r ≡ shared_from sets n b k
  unfolding shared_from
  shared-is r zero b l f = omega (arith, f.0)
  shared-is r (suc k) b l f = by (ℕ_discrete r b) (λ g. shared-is r k (b + 1) g (omega (arith, f.0), f.1, λ h. f.2 (omega arith)))
    where
      by : Dec (r ≡ b) → (b + 1 ≤ r → r ≡ shared_from sets n (b + 1) k) → r ≡ cond (leb (claimants sets b n) 1) (shared_from sets n (b + 1) k) b
      by (yes p) rest = rw (lt-leb (claimants sets b n) 1 (rw p at (f.2 (omega arith)))) p
      by (no p) rest = rw (le-leb (claimants sets b n) 1 (f.1 b (omega arith) (omega arith))) (rest (omega arith))

  shared-from : (k b : ℕ) → Lowest b (b + k) (shared_from sets n b k)
  unfolding shared_from
  shared-from zero b = (omega arith, (λ c l h. absurd (omega arith)), λ h. absurd (omega arith))
  shared-from (suc k) b = by (leb (claimants sets b n) 1) refl (shared_from sets n (b + 1) k) (shared-from k (b + 1))
    where
      below : (r c : ℕ) → claimants sets b n ≤ 1 → Lowest (b + 1) (b + 1 + k) r → b ≤ c → c < r → Dec (c ≡ b) → claimants sets c n ≤ 1
      below r c e f l h (yes p) = rw p e
      below r c e f l h (no p) = f.1 c (omega arith) h

      by : (t : Bool) → leb (claimants sets b n) 1 ≡ t → (r : ℕ) → Lowest (b + 1) (b + 1 + k) r → Lowest b (b + suc k) (cond t r b)
      by true e r f = (omega (arith, f.0), (λ c l h. below r c (leb-true (claimants sets b n) 1 e) f l h (ℕ_discrete c b)), λ h. f.2 (omega arith))
      by false e r f = (omega arith, (λ c l h. absurd (omega arith)), λ h. leb-false (claimants sets b n) 1 e)

  -- and what the definition's is
  pub shared-told : (r : ℕ) → r ≡ shared_from sets n 0 64 → Lowest 0 64 r
  shared-told r e = rw e (shared-from 64 0)

module _ (n : ℕ) (rd : Memory) (D : ℕ) where
  pub owner-named : (b w : ℕ) → (w ≡ 0 → ⊥) → owner_ok n rd D b w ≡ (ltb (w - 1) D && has (rd (field Intent (w - 1))) b)
  owner-named b zero h = absurd (h refl)
  owner-named b (suc d) h = let e : suc d - 1 ≡ d = omega arith in rw e
