-- Formatting: the stores, in document 01's order, and what they leave.
use Rattle.std.specs.Prelude.{ℕ, ◌+◌, ◌-◌, Bool, cond, ◌&&◌, List, ◌∷◌, length, replicate, leb, eqb, Result, Ok, Err}
use Rattle.image.specs.Image.{Image, length_of, put}
use Rattle.rows.specs.Rows.{put_from}
use Rattle.working.specs.declared.Refusal.{Refusal}
use Rattle.working.specs.declared.Refusal.TheVariants.{Image as ImageRefused}

-- done, or why not
abbrev pub Formatted : Type 0
Formatted = Result Unit Refusal

-- length and number of workers are right (else cause 10)
unfoldable pub formattable : ℕ → Image → ℕ → Bool
formattable n m D = leb 1 D && leb D 8 && eqb (length m) (length_of n D)

-- the words of an image of D workers; 0 for a number that no image has
unfoldable pub image_words : ℕ → ℕ → ℕ
image_words n D = cond (leb 1 D && leb D 8) (length_of n D) 0

-- the words of a formatted image from index 1 up
abbrev pub form_tail : ℕ → ℕ → List ℕ
form_tail n D = D ∷ replicate (length_of n D - 2) 0

-- 0 in word 0, the words from index 1 up, the mark in word 0
unfoldable pub format_stores : ℕ → ℕ → ℕ → Image → ℕ → Image
format_stores mark n left m D = put (left - length_of n D) (put_from (left - 1) (put left m 0 0) 1 (form_tail n D)) 0 mark

-- what a finished formatting leaves
unfoldable pub formatted : ℕ → ℕ → ℕ → Image
formatted mark n D = mark ∷ form_tail n D

-- ---- the call, by its answer

unfoldable pub format_answer : ℕ → Image → ℕ → Formatted
format_answer n m D = cond (formattable n m D) (Ok tt) (Err ImageRefused)

abbrev pub format_leaves : ℕ → ℕ → ℕ → Image → ℕ → Formatted → Image
format_leaves mark n left m D (Ok u) = format_stores mark n left m D
format_leaves mark n left m D (Err r) = m

abbrev pub format_left : ℕ → ℕ → ℕ → Formatted → ℕ
format_left n left D (Ok u) = left - (length_of n D + 1)
format_left n left D (Err r) = left
