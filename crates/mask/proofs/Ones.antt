-- How many locks a set has: none of the empty set, one more with a lock that it lacks, one less without one that it has; and as a sum over the
-- locks (`ones-sum`), so that sets with the same members have as many as there are members (`ones-such`).
use Prim.Native.Nat.{ℕ, zero, suc, ◌+◌, ◌*◌, ◌/◌, ◌%◌, ◌^◌, ◌<◌}
use mathlib.Core.Path.{◌≡◌, refl, sym, ap, ap₂, ◌∙◌}
use mathlib.Core.Bool.{Bool, true, false, cond}
use native.Mathlib.Omega.{arith}
use native.Mathlib.Nat.{mod-lt, pow-succ'}
use lib.Count.{ones, ones_step}
use lib.Dec.{eqb}
use borrow.Author.Tests.{eqb-true, eqb-false}
use Rattle.mask.specs.Mask.{has, with, without, how_many}
use Rattle.mask.proofs.Laws.{has-zero, has-suc, with-zero, with-suc, without-zero, without-suc}

-- ---- the empty set

pub ones_none : ones 0 ≡ 0
unfolding ones
ones_none = refl

-- ---- a lock put in or taken out

digit-of : (m : ℕ) (t : Bool) → eqb (m % 2) 1 ≡ t → m % 2 ≡ cond t 1 0
digit-of m true e = eqb-true _ _ e
digit-of m false e =
    let n : (m % 2 ≡ 1) → ⊥ = eqb-false _ _ e in
    let l : m % 2 < 2 = mod-lt m (omega arith) in
    omega arith

-- the lowest digit is 1 where lock 0 is in
lowest : (m : ℕ) → m % 2 ≡ cond (has m 0) 1 0
lowest m = digit-of m (has m 0) (sym (has-zero m))

pub ones-with : (m b : ℕ) → has m b ≡ false → ones (with m b) ≡ suc (ones m)
ones-with m zero e =
    let d : m % 2 ≡ 0 = rw e at (lowest m) in
    let z = with-zero m in
    omega (arith, ones_step m, ones_step (with m 0), ap ones z.0, z.1)
ones-with m (suc b) e =
    let z = with-suc m b in
    let i : ones (with (m / 2) b) ≡ suc (ones (m / 2)) = ones-with (m / 2) b (sym (has-suc m b) ∙ e) in
    omega (arith, ones_step m, ones_step (with m (suc b)), ap ones z.0, z.1)

pub ones-without : (m b : ℕ) → has m b ≡ true → suc (ones (without m b)) ≡ ones m
ones-without m zero e =
    let d : m % 2 ≡ 1 = rw e at (lowest m) in
    let z = without-zero m in
    omega (arith, ones_step m, ones_step (without m 0), ap ones z.0, z.1)
ones-without m (suc b) e =
    let z = without-suc m b in
    let i : suc (ones (without (m / 2) b)) ≡ ones (m / 2) = ones-without (m / 2) b (sym (has-suc m b) ∙ e) in
    omega (arith, ones_step m, ones_step (without m (suc b)), ap ones z.0, z.1)

-- ---- as a sum

-- by the first number in place of the last
many-first : (such : ℕ → Bool) (k : ℕ) → how_many such (suc k) ≡ cond (such 0) 1 0 + how_many (λ b. such (suc b)) k
unfolding how_many
many-first such zero = omega arith
many-first such (suc k) = let i = many-first such k in omega (arith, i)

pub many-same : (such also : ℕ → Bool) (k : ℕ) → ((b : ℕ) → b < k → such b ≡ also b) → how_many such k ≡ how_many also k
unfolding how_many
many-same such also zero h = refl
many-same such also (suc k) h =
    ap₂ ◌+◌ (many-same such also k (λ b l. h b (omega arith))) (ap (λ (t : Bool). cond t 1 0) (h k (omega arith)))

-- of k locks
pub ones-sum : (k m : ℕ) → m < 2 ^ k → ones m ≡ how_many (has m) k
unfolding how_many
ones-sum zero m h = let e : m ≡ 0 = omega arith in rw e ones_none
ones-sum (suc k) m h =
    let w : m < 2 * 2 ^ k = rw (← pow-succ' 2 k) h in
    let i : ones (m / 2) ≡ how_many (has (m / 2)) k = ones-sum k (m / 2) (omega arith) in
    let j : how_many (λ b. has m (suc b)) k ≡ how_many (has (m / 2)) k = many-same _ _ k (λ b l. has-suc m b) in
    omega (arith, ones_step m, i, j, lowest m, many-first (has m) k)

-- a word that has just the locks that are such has as many as there are
pub ones-such : (m : ℕ) (such : ℕ → Bool) → m < 2 ^ 64 → ((b : ℕ) → b < 64 → has m b ≡ such b) → ones m ≡ how_many such 64
ones-such m such w h = ones-sum 64 m w ∙ many-same (has m) such 64 h
