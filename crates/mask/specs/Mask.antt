-- Sets of locks as the bits of a word: bit b for lock b. (Document 01: a mask has bit b for bay b.) How many a set has is `ones` of lib.Count.
use Rattle.std.specs.Prelude.{ℕ, suc, zero, ◌+◌, ◌-◌, ◌/◌, ◌%◌, ◌^◌, Bool, cond, eqb}
use Rattle.std.specs.Int.Bits.{bit_or}

-- lock b is in the set m
unfoldable pub has : ℕ → ℕ → Bool
has m b = eqb (m / 2 ^ b % 2) 1

-- the set m with lock b
unfoldable pub with : ℕ → ℕ → ℕ
with m b = cond (has m b) m (m + 2 ^ b)

-- the set m without lock b
unfoldable pub without : ℕ → ℕ → ℕ
without m b = cond (has m b) (m - 2 ^ b) m

-- the first k of some sets together
unfoldable pub union : (ℕ → ℕ) → ℕ → ℕ
union sets zero = 0
union sets (suc k) = bit_or (union sets k) (sets k)

-- lock a is above all that are in the set m
abbrev pub above : ℕ → ℕ → Bool
above m a = eqb (m / 2 ^ a) 0

-- how many of the numbers below k are such
unfoldable pub how_many : (ℕ → Bool) → ℕ → ℕ
how_many such zero = 0
how_many such (suc k) = how_many such k + cond (such k) 1 0
