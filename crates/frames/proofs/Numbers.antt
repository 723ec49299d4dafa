-- Laws of hexadecimal digits: a number grows by one digit at a time and fits a word; the digits of a line are tested, and its
-- words read, one after the other.
use Prim.Native.Nat.{ℕ, zero, suc, ◌+◌, ◌-◌, ◌*◌, ◌/◌, ◌^◌, ◌<◌, ◌≤◌}
use mathlib.Core.Path.{◌≡◌, refl, ap}
use mathlib.Core.Bool.{Bool, ◌&&◌}
use mathlib.Core.List.{List, [], ◌∷◌, ◌++◌, append-nil}
use native.Mathlib.Omega.{arith}
use native.Mathlib.Nat.{pow-suc, pow-le-pow_right, lt_of_lt_of_le}
use native.Mathlib.Numerals.{add-one}
use lib.ListN.{length, get_or, take, set}
use lib.Seq.{take-suc-set, append_snoc, take_at}
use Rattle.std.specs.List.{list_all}
use Rattle.base.proofs.Counting.{left_step, left-none, left-all}
use Rattle.frames.specs.Hex.{is_hex, hex_of, hex_from, hex_at, all_hex}
use Rattle.frames.specs.Line.{words_from, words_of}

-- ---- numbers

-- one more digit
pub grows : (i v d : ℕ) → v < 16 ^ i → d < 16 → 16 * v + d < 16 ^ (i + 1)
grows i v d h e = let p : 16 ^ (i + 1) ≡ 16 ^ i * 16 = rw (add-one i) (pow-suc 16 i) in omega arith

-- a number of fewer than sixteen digits has room for one more
pub room : (i v : ℕ) → i < 16 → v < 16 ^ i → v < 1152921504606846976
room i v h e = lt_of_lt_of_le e (pow-le-pow_right {n = 16} (omega arith) {j = 15} (omega arith))

module _ (l : List ℕ) (at n : ℕ) where
  pub from_step : (i v : ℕ) → i < n → hex_from l (at + i) (n - i) v ≡ hex_from l (at + (i + 1)) (n - (i + 1)) (16 * v + hex_of (get_or l (at + i) 0))
  unfolding hex_from
  from_step i v h =
      let f : at + (i + 1) ≡ at + i + 1 = omega arith in
      rw (left_step n i h, f)

  pub from-none : (i v : ℕ) → n ≤ i → hex_from l (at + i) (n - i) v ≡ v
  unfolding hex_from
  from-none i v h = rw (left-none n i h)

  pub from_all : hex_from l (at + 0) (n - 0) 0 ≡ hex_at l at n
  from_all =
      let f : at + 0 ≡ at = omega arith in
      rw (left-all n, f)

-- ---- all of a line

pub all-tests : (l : List ℕ) → list_all is_hex l ≡ all_hex l
unfolding all_hex
all-tests [] = refl
all-tests (b ∷ bs) = ap (λ (t : Bool). is_hex b && t) (all-tests bs)

-- ---- the words of a steps' part, put at the start of a list one after the other

module _ (part : List ℕ) (n : ℕ) where
  pub words_step : (out : List ℕ) (i v : ℕ) → i < length out → i < n → v ≡ hex_at part (16 * i) 16
      → take (i + 1) (set out i v) ++ words_from part (i + 1) (n - (i + 1)) ≡ take i out ++ words_from part i (n - i)
  unfolding words_from
  words_step out i v inside h e = rw (add-one i, take-suc-set out i v inside, ← add-one i, left_step n i h, ← e) (append_snoc (take i out) v _)

  pub words-end : (out : List ℕ) (i : ℕ) → n ≤ i → take i out ++ words_from part i (n - i) ≡ take i out
  unfolding words_from
  words-end out i h = rw (left-none n i h) (append-nil (take i out))

  pub words-all : (out : List ℕ) → take 0 out ++ words_from part 0 (n - 0) ≡ words_from part 0 n
  words-all out = rw (left-all n)

words-many : (part : List ℕ) (i k : ℕ) → length (words_from part i k) ≡ k
unfolding words_from
words-many part i zero = refl
words-many part i (suc k) = ap suc (words-many part (i + 1) k)

-- the words are what stands before the rest
pub words-first : (part rest : List ℕ) → take (length part / 16) (words_of part ++ rest) ≡ words_of part
words-first part rest = take_at (words_of part) rest _ (words-many part 0 (length part / 16))
