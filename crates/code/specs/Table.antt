-- The fixed table of the instructions' kinds, and the fields of an instruction word: kind, a, b, c, sixteen bits each, the
-- kind highest.
use Rattle.std.specs.Prelude.{ℕ, zero, suc, ◌+◌, ◌/◌, ◌%◌, ◌^◌, cond, List, [], ◌∷◌, get_or, eqb}

abbrev row : ℕ → ℕ → ℕ → ℕ → List ℕ
row a b c turns = a ∷ b ∷ c ∷ turns ∷ []

-- for kinds 1 to 8 the largest a, b and c, and the number of turns. 511, the highest cell, stands for a word number: the
-- own words come above it. A jump's b is below 64 in any section; its position says the rest
abbrev pub table : List (List ℕ)
table =
    row 63 0 0 6 ∷ row 63 0 0 6 ∷ row 511 65535 65535 4 ∷ row 511 511 511 4 ∷ row 511 511 511 4 ∷ row 511 511 511 4 ∷ row 511 63 0 1 ∷ row 0 0 0 3 ∷ []

-- entry j of the row of a kind; 0 for a kind that there is not
unfoldable pub entry : ℕ → ℕ → ℕ
entry zero j = 0
entry (suc k) j = get_or (get_or table k []) j 0

-- the largest value of field j of a kind, with this number of own words
unfoldable pub highest : ℕ → ℕ → ℕ → ℕ
highest own k j = cond (eqb (entry k j) 511) (511 + own) (entry k j)

abbrev pub kind_of : ℕ → ℕ
kind_of w = w / 2 ^ 48

abbrev pub field_a : ℕ → ℕ
field_a w = w / 2 ^ 32 % 2 ^ 16

abbrev pub field_b : ℕ → ℕ
field_b w = w / 2 ^ 16 % 2 ^ 16

abbrev pub field_c : ℕ → ℕ
field_c w = w % 2 ^ 16

-- the turns of an instruction word
abbrev pub turns_of : ℕ → ℕ
turns_of w = entry (kind_of w) 3
