-- Lower-case hexadecimal: the digits of a line and their numbers, and the digits of a number.
use Rattle.std.specs.Prelude.{ℕ, zero, suc, ◌+◌, ◌-◌, ◌*◌, ◌/◌, ◌%◌, ◌^◌, List, [], ◌∷◌, Bool, cond, ◌&&◌, true, false, get_or, leb, ltb}

-- ---- read

-- whether a byte is a digit: 0 to 9 are bytes 48 to 57, a to f are bytes 97 to 102
unfoldable pub is_hex : ℕ → Bool
is_hex b = cond (ltb b 48) false (cond (leb b 57) true (cond (ltb b 97) false (leb b 102)))

-- its value; 0 for what is none
unfoldable pub hex_of : ℕ → ℕ
hex_of b = cond (ltb b 48) 0 (cond (leb b 57) (b - 48) (cond (ltb b 97) 0 (cond (leb b 102) (b - 87) 0)))

unfoldable pub all_hex : List ℕ → Bool
all_hex [] = true
all_hex (b ∷ bs) = is_hex b && all_hex bs

-- the number of n digits from an index on, after digits worth v
unfoldable pub hex_from : List ℕ → ℕ → ℕ → ℕ → ℕ
hex_from l at zero v = v
hex_from l at (suc n) v = hex_from l (at + 1) n (16 * v + hex_of (get_or l at 0))

-- the number of n digits from an index on
abbrev pub hex_at : List ℕ → ℕ → ℕ → ℕ
hex_at l at n = hex_from l at n 0

-- ---- written

-- the byte of a digit's value
unfoldable pub digit_of : ℕ → ℕ
digit_of v = cond (ltb v 10) (48 + v) (87 + v)

-- digit k of a number, 0 the lowest
abbrev pub digit_at : ℕ → ℕ → ℕ
digit_at v k = digit_of (v / 2 ^ (4 * k) % 16)
