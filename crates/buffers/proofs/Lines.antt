-- Laws of the lines of an input: the first is a front part of it, up to the first byte 10; a complete one leaves less input; all of them are the
-- first and those of the rest (`lines-first`).
use Prim.Native.Nat.{ℕ, suc, ◌+◌, ◌-◌, ◌<◌, ◌≤◌, min}
use mathlib.Core.Path.{◌≡◌, refl, ap}
use mathlib.Core.List.{List, [], ◌∷◌}
use mathlib.Core.Bool.{Bool, true, false, cond}
use native.Mathlib.Omega.{arith}
use borrow.Author.Tests.{ltb-true, ltb-false}
use lib.ListN.{length, take, drop, length-drop}
use lib.Seq.{drop-drop, take_all}
use lib.Dec.{eqb, ltb}
use Rattle.std.proofs.Common.{Some, None, position, unwrap_or, ◌==◌}
use Rattle.std.proofs.lemmas.List.Recursion.{is_position_or_len}
use Rattle.std.proofs.lemmas.List.{drop_min}
use Rattle.buffers.specs.Input.{line_of, rest_of, complete, complete_at, onto_first, lines_of}

-- ---- the first line

pub line-bound : (l : List ℕ) → length (line_of l) ≤ length l
unfolding line_of
line-bound [] = omega arith
line-bound (b ∷ bs) = by (eqb b 10) refl (line-bound bs)
  where
    by : (t : Bool) → eqb b 10 ≡ t → length (line_of bs) ≤ length bs → length (line_of (b ∷ bs)) ≤ suc (length bs)
    by true e h = rw e (omega arith)
    by false e h = rw e (omega arith)

pub line-front : (l : List ℕ) → take (length (line_of l)) l ≡ line_of l
unfolding line_of
line-front [] = refl
line-front (b ∷ bs) = by (eqb b 10) refl (line-front bs)
  where
    by : (t : Bool) → eqb b 10 ≡ t → take (length (line_of bs)) bs ≡ line_of bs → take (length (line_of (b ∷ bs))) (b ∷ bs) ≡ line_of (b ∷ bs)
    by true e h = rw e
    by false e h = rw (e, h)

-- it ends at the first byte 10, or at the input's end
pub line-ends : (l : List ℕ) → unwrap_or (position (λ b. b == 10) l) (length l) ≡ length (line_of l)
unfolding line_of
line-ends l = rw (← is_position_or_len (λ k. length (line_of k)) (λ b. b == 10) refl next l) (by (ltb (length (line_of l)) (length l)) refl)
  where
    next : (b : ℕ) (bs : List ℕ) → length (line_of (b ∷ bs)) ≡ cond (b == 10) 0 (1 + length (line_of bs))
    next b bs = found (eqb b 10)
      where
        found : (t : Bool) → length (cond t [] (b ∷ line_of bs)) ≡ cond t 0 (1 + length (line_of bs))
        found true = refl
        found false = omega arith

    by : (t : Bool) → ltb (length (line_of l)) (length l) ≡ t → unwrap_or (cond t (Some (length (line_of l))) None) (length l) ≡ length (line_of l)
    by true e = refl
    by false e = omega (arith, line-bound l, ltb-false _ _ e)

-- ---- what is behind it

module _ (input : List ℕ) (from : ℕ) where
  -- the part of the input from an index on
  pub part-rest : from ≤ length input → take (length input - from) (drop from input) ≡ drop from input
  part-rest h = take_all (length input - from) (drop from input) (omega (arith, length-drop from input))

  -- what is behind the first line and its byte 10, if it has one
  pub rest-behind : (end n : ℕ) → end ≡ length (line_of (drop from input)) → n ≡ length (drop from input)
      → drop (from + min (end + 1) n) input ≡ rest_of (drop from input)
  unfolding rest_of
  rest-behind end n e f = rw (← drop-drop (min (end + 1) n) from input, f, drop_min, e)

private-some : (end n : ℕ) (more : Bool) → complete_at end n more ≡ true → 0 < n
unfolding complete_at
private-some end n more e = by (ltb end n) more refl e
  where
    by : (t u : Bool) → ltb end n ≡ t → cond t true (cond u (ltb 4096 n) (ltb 0 n)) ≡ true → 0 < n
    by true u h e = omega (arith, ltb-true end n h)
    by false true h e = omega (arith, ltb-true 4096 n e)
    by false false h e = ltb-true 0 n e

-- a complete line leaves less input
pub rest-less : (more : Bool) (l : List ℕ) → complete more l ≡ true → length (rest_of l) + 1 ≤ length l
unfolding rest_of
rest-less more l e = omega (arith, length-drop (length (line_of l) + 1) l, private-some (length (line_of l)) (length l) more e)

-- ---- all lines

pub lines-first : (b : ℕ) (bs : List ℕ) → lines_of (b ∷ bs) ≡ line_of (b ∷ bs) ∷ lines_of (rest_of (b ∷ bs))
unfolding lines_of line_of rest_of
lines-first b [] = by (eqb b 10) refl
  where
    by : (t : Bool) → eqb b 10 ≡ t → lines_of (b ∷ []) ≡ line_of (b ∷ []) ∷ lines_of (rest_of (b ∷ []))
    by true e = rw e
    by false e = rw e
lines-first b (d ∷ ds) = by (eqb b 10) refl (lines-first d ds)
  where
    by : (t : Bool) → eqb b 10 ≡ t → lines_of (d ∷ ds) ≡ line_of (d ∷ ds) ∷ lines_of (rest_of (d ∷ ds))
        → lines_of (b ∷ d ∷ ds) ≡ line_of (b ∷ d ∷ ds) ∷ lines_of (rest_of (b ∷ d ∷ ds))
    by true e more = rw e
    by false e more =
        let k : suc (length (line_of (d ∷ ds))) + 1 ≡ suc (length (line_of (d ∷ ds)) + 1) = omega arith in
        rw (e, k) (ap (onto_first b) more)
