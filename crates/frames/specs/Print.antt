-- What is printed: an index, or ffff for a refusal and fffe for a report, and a value; and the bytes of it. (Document 01: index, four
-- digits, blank, value, sixteen; a refusal has ffff for the index, and its number. Document 02, 1/14: a report has fffe.)
use Rattle.std.specs.Prelude.{ℕ, List, [], ◌∷◌, Option, Some}
use Rattle.frames.specs.declared.Line.{Line}
use Rattle.frames.specs.Hex.{digit_at}

-- what is printed, if anything
abbrev pub Printed : Type 0
Printed = Option Line

-- a line with this index and this value
abbrev pub line : ℕ → ℕ → Printed
line i v = Some (record { at = i; value = v })

-- the number of a malformed line
abbrev pub malformed : ℕ
malformed = 14

abbrev pub refusal : ℕ → Printed
refusal cause = line 65535 cause

abbrev pub report : ℕ → Printed
report found = line 65534 found

-- ---- the bytes: four digits, a blank, sixteen digits, byte 10

abbrev pub word_text : ℕ → List ℕ → List ℕ
word_text v rest =
    digit_at v 15 ∷ digit_at v 14 ∷ digit_at v 13 ∷ digit_at v 12 ∷ digit_at v 11 ∷ digit_at v 10 ∷ digit_at v 9 ∷ digit_at v 8 ∷
    digit_at v 7 ∷ digit_at v 6 ∷ digit_at v 5 ∷ digit_at v 4 ∷ digit_at v 3 ∷ digit_at v 2 ∷ digit_at v 1 ∷ digit_at v 0 ∷ rest

abbrev pub text_of : ℕ → ℕ → List ℕ
text_of i v = digit_at i 3 ∷ digit_at i 2 ∷ digit_at i 1 ∷ digit_at i 0 ∷ 32 ∷ word_text v (10 ∷ [])
