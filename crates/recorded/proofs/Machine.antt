-- The calls of a day are a list as in demand 3: every number is one that a caller can hand over (`moves-machine`), since a number of n digits is below 16 ^ n
-- (`at-few`); and the one call that is cut has a recovery behind it (`moves-legal`, `moves-uncut`).
use Prim.Native.Nat.{ℕ, zero, suc, ◌+◌, ◌*◌, ◌/◌, ◌^◌, ◌<◌, ◌≤◌}
use mathlib.Core.Path.{◌≡◌, refl, ◌∙◌}
use mathlib.Core.Bool.{Bool, true, false, cond, ◌||◌, not}
use mathlib.Core.List.{List, [], ◌∷◌, ◌++◌}
use native.Mathlib.Omega.{arith}
use native.Mathlib.Nat.{zero-add, lt_of_lt_of_le, pow-le-pow_right}
use borrow.Author.Tests.{lt-ltb}
use lib.ListN.{length, get_or, replicate}
use lib.Dec.{ltb}
use Rattle.base.proofs.Bools.{and_left, and_right, and_both}
use Rattle.frames.specs.declared.Frame.{Frame}
use Rattle.frames.specs.declared.Frame.TheVariants.{Submit, Turns, Recover, Rounds, Malformed}
use Rattle.frames.specs.Hex.{hex_of, hex_from, hex_at}
use Rattle.frames.specs.Line.{frame_of, arguments_of, steps_part, words_from, words_of}
use Rattle.frames.proofs.Numbers.{grows}
use Rattle.frames.proofs.Frames.{by-frame, digit-most}
use Rattle.claims.specs.Calls.{Call, submits, turns, runs, Move, whole, cut, of_move, recovering, legal, ends_cut, are_words, callable, machine}
use Rattle.claims.proofs.Moves.{ends-append}
use Rattle.recorded.specs.Moves.{frame_moves, is_malformed, moves_of}

-- ---- the numbers of a line

-- n digits behind i others
from-few : (l : List ℕ) (n at i v : ℕ) → v < 16 ^ i → hex_from l at n v < 16 ^ (i + n)
unfolding hex_from
from-few l zero at i v h = let e : i + 0 ≡ i = omega arith in rw e h
from-few l (suc n) at i v h =
    let e : i + suc n ≡ i + 1 + n = omega arith in
    rw e (from-few l n (at + 1) (i + 1) (16 * v + hex_of (get_or l at 0)) (grows i v (hex_of (get_or l at 0)) h (omega (arith, digit-most (get_or l at 0)))))

at-few : (l : List ℕ) (at n : ℕ) → hex_at l at n < 16 ^ n
at-few l at n = rw (zero-add n) at (from-few l n at 0 0 (omega arith))

-- at most sixteen digits are a word
word : (l : List ℕ) (at n : ℕ) → n ≤ 16 → ltb (hex_at l at n) (2 ^ 64) ≡ true
word l at n h = lt-ltb _ _ (lt_of_lt_of_le (at-few l at n) (pow-le-pow_right {n = 16} (omega arith) {j = 16} h))

words-words : (p : List ℕ) (i k : ℕ) → are_words (words_from p i k) ≡ true
unfolding are_words words_from
words-words p i zero = refl
words-words p i (suc k) = and_both _ _ (word p (16 * i) 16 (omega arith)) (words-words p (i + 1) k)

arguments-words : (l : List ℕ) → are_words (arguments_of l) ≡ true
unfolding are_words
arguments-words l =
    let w : (at : ℕ) → ltb (hex_at l at 16) (2 ^ 64) ≡ true = λ at. word l at 16 (omega arith) in
    rw (w 20, w 36, w 52, w 68, w 84, w 100, w 116, w 132)

-- ---- the calls of a frame

submit-callable : (l : List ℕ) → callable (submits (hex_at l 2 2) (hex_at l 4 16) (arguments_of l) (words_of (steps_part l))) ≡ true
submit-callable l =
    rw (
      word l 2 2 (omega arith),
      word l 4 16 (omega arith),
      arguments-words l,
      words-words (steps_part l) 0 (length (steps_part l) / 16),
    )

turns-machine : (d k : ℕ) → ltb d (2 ^ 64) ≡ true → machine (replicate k (whole (turns d))) ≡ true
unfolding machine
turns-machine d zero h = refl
turns-machine d (suc k) h = and_both _ _ h (turns-machine d k h)

one-machine : (c : Call) → callable c ≡ true → machine (whole c ∷ []) ≡ true
unfolding machine
one-machine c h = rw h

pub frame-machine : (l : List ℕ) → machine (frame_moves l (frame_of l)) ≡ true
unfolding machine
frame-machine l =
    by-frame (λ f. machine (frame_moves l f) ≡ true) l refl
    (λ e f. one-machine (submits (hex_at l 2 2) (hex_at l 4 16) (arguments_of l) (words_of (steps_part l))) (submit-callable l))
    (turns-machine (hex_at l 2 2) (hex_at l 4 4) (word l 2 2 (omega arith)))
    refl
    (one-machine (runs (hex_at l 2 4)) (lt-ltb _ _ (at-few l 2 4)))

turns-legal : (d k : ℕ) → legal false (replicate k (whole (turns d))) ≡ true
unfolding legal
turns-legal d zero = refl
turns-legal d (suc k) = turns-legal d k

turns-uncut : (d k : ℕ) → ends_cut false (replicate k (whole (turns d))) ≡ false
unfolding ends_cut
turns-uncut d zero = refl
turns-uncut d (suc k) = turns-uncut d k

pub frame-legal : (l : List ℕ) (f : Frame) → legal false (frame_moves l f) ≡ true
unfolding legal
frame-legal l (Submit d k) = refl
frame-legal l (Turns d k) = turns-legal d k
frame-legal l Recover = refl
frame-legal l (Rounds r) = refl
frame-legal l Malformed = refl

pub frame-uncut : (l : List ℕ) (f : Frame) → ends_cut false (frame_moves l f) ≡ false
unfolding ends_cut
frame-uncut l (Submit d k) = refl
frame-uncut l (Turns d k) = turns-uncut d k
frame-uncut l Recover = refl
frame-uncut l (Rounds r) = refl
frame-uncut l Malformed = refl

-- ---- one list behind the other

machine-both : (xs ys : List Move) → machine xs ≡ true → machine ys ≡ true → machine (xs ++ ys) ≡ true
unfolding machine
machine-both [] ys h i = i
machine-both (x ∷ xs) ys h i =
    let c = callable (of_move x) in
    and_both c _ (and_left c (machine xs) h) (machine-both xs ys (and_right c (machine xs) h) i)

legal-both : (b : Bool) (xs ys : List Move) → legal b xs ≡ true → legal (ends_cut b xs) ys ≡ true → legal b (xs ++ ys) ≡ true
unfolding legal ends_cut
legal-both b [] ys h i = i
legal-both b (whole c ∷ xs) ys h i =
    let o = not b || recovering c in
    and_both o _ (and_left o (legal false xs) h) (legal-both false xs ys (and_right o (legal false xs) h) i)
legal-both b (cut k c ∷ xs) ys h i =
    let o = not b || recovering c in
    and_both o _ (and_left o (legal true xs) h) (legal-both true xs ys (and_right o (legal true xs) h) i)

-- ---- of all lines

-- what holds of no calls, and of a frame's before others of which it holds
by_lines : (P : List Move → Type 0) → P [] → ((l : List ℕ) (xs : List Move) → P xs → P (frame_moves l (frame_of l) ++ xs))
    → (ls : List (List ℕ)) → P (moves_of ls)
unfolding moves_of
by_lines P none more [] = none
by_lines P none more (l ∷ ls) = by (is_malformed (frame_of l)) (more l (moves_of ls) (by_lines P none more ls))
  where
    by : (b : Bool) → P (frame_moves l (frame_of l) ++ moves_of ls) → P (cond b [] (frame_moves l (frame_of l) ++ moves_of ls))
    by true h = none
    by false h = h

pub moves-machine : (ls : List (List ℕ)) → machine (moves_of ls) ≡ true
unfolding machine
moves-machine = by_lines (λ xs. machine xs ≡ true) refl (λ l xs h. machine-both (frame_moves l (frame_of l)) xs (frame-machine l) h)

pub moves-legal : (ls : List (List ℕ)) → legal false (moves_of ls) ≡ true
unfolding legal
moves-legal =
    by_lines (λ xs. legal false xs ≡ true) refl
    (λ l xs h. legal-both false (frame_moves l (frame_of l)) xs (frame-legal l (frame_of l)) (rw (frame-uncut l (frame_of l)) h))

pub moves-uncut : (ls : List (List ℕ)) → ends_cut false (moves_of ls) ≡ false
unfolding ends_cut
moves-uncut =
    by_lines (λ xs. ends_cut false xs ≡ false) refl
    (λ l xs h. ends-append false (frame_moves l (frame_of l)) xs ∙ rw (frame-uncut l (frame_of l)) h)
