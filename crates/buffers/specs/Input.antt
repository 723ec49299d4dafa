-- The lines of an input. (Document 01: ended by byte 10 or, for the last, by the end of input; no line follows a byte 10 that ends it.)
use Rattle.std.specs.Prelude.{ℕ, ◌+◌, List, [], ◌∷◌, Bool, true, cond, length, drop, eqb, ltb}

-- the first line: the bytes before the first byte 10, or all
unfoldable pub line_of : List ℕ → List ℕ
line_of [] = []
line_of (b ∷ bs) = cond (eqb b 10) [] (b ∷ line_of bs)

-- the bytes behind it, and behind its byte 10
unfoldable pub rest_of : List ℕ → List ℕ
rest_of l = drop (length (line_of l) + 1) l

-- a line that ends there, of so many bytes: it is complete if it has its byte 10; if no more input comes, unless there is none at all;
-- and if it is over 4,096 bytes, since it is malformed however it goes on
unfoldable pub complete_at : ℕ → ℕ → Bool → Bool
complete_at end n more = cond (ltb end n) true (cond more (ltb 4096 n) (ltb 0 n))

abbrev pub complete : Bool → List ℕ → Bool
complete more l = complete_at (length (line_of l)) (length l) more

-- all lines
abbrev pub onto_first : ℕ → List (List ℕ) → List (List ℕ)
onto_first b [] = (b ∷ []) ∷ []
onto_first b (l ∷ ls) = (b ∷ l) ∷ ls

unfoldable pub lines_of : List ℕ → List (List ℕ)
lines_of [] = []
lines_of (b ∷ bs) = cond (eqb b 10) ([] ∷ lines_of bs) (onto_first b (lines_of bs))
