-- Laws of an input that goes on: a line that has its byte 10 stays as it is; one over 4,096 bytes is malformed, and so is it with what
-- follows.
use Prim.Native.Nat.{ℕ, suc, ◌+◌, ◌<◌, ◌≤◌}
use mathlib.Core.Path.{◌≡◌, refl}
use mathlib.Core.Bool.{Bool, true, false, cond}
use mathlib.Core.List.{List, [], ◌∷◌, ◌++◌}
use native.Mathlib.Omega.{arith}
use borrow.Author.Tests.{lt-ltb, ne_eqb}
use lib.ListN.{length, length-append}
use lib.Seq.{drop-append-le}
use lib.Dec.{eqb, ltb}
use Rattle.std.proofs.Common.{None}
use Rattle.frames.specs.declared.Frame.TheVariants.{Malformed}
use Rattle.frames.specs.Line.{first_of, frame_of}
use Rattle.buffers.specs.Input.{line_of, rest_of, complete, complete_at}

-- ---- a line with its byte 10

pub line_stays : (l x : List ℕ) → length (line_of l) < length l → line_of (l ++ x) ≡ line_of l
unfolding line_of
line_stays [] x h = absurd (omega arith)
line_stays (b ∷ bs) x h = by (eqb b 10) refl h (line_stays bs x)
  where
    by : (t : Bool) → eqb b 10 ≡ t → length (cond (eqb b 10) [] (b ∷ line_of bs)) < suc (length bs)
        → (length (line_of bs) < length bs → line_of (bs ++ x) ≡ line_of bs)
        → cond (eqb b 10) [] (b ∷ line_of (bs ++ x)) ≡ cond (eqb b 10) [] (b ∷ line_of bs)
    by true e g more = rw e
    by false e g more =
        let k : suc (length (line_of bs)) < suc (length bs) = rw e at g in
        rw (e, more (omega arith))

pub rest-stays : (l x : List ℕ) → length (line_of l) < length l → rest_of (l ++ x) ≡ rest_of l ++ x
unfolding rest_of
rest-stays l x h = rw (line_stays l x h) (drop-append-le (length (line_of l) + 1) l x (omega arith))

pub complete-stays : (l x : List ℕ) → length (line_of l) < length l → complete false (l ++ x) ≡ true
unfolding complete_at
complete-stays l x h = rw (line_stays l x h, lt-ltb (length (line_of l)) (length (l ++ x)) (omega (arith, length-append l x)))

-- ---- a line without

pub line-grows : (l x : List ℕ) → length l ≤ length (line_of l) → length l ≤ length (line_of (l ++ x))
unfolding line_of
line-grows [] x h = omega arith
line-grows (b ∷ bs) x h = by (eqb b 10) refl h (line-grows bs x)
  where
    by : (t : Bool) → eqb b 10 ≡ t → suc (length bs) ≤ length (cond (eqb b 10) [] (b ∷ line_of bs))
        → (length bs ≤ length (line_of bs) → length bs ≤ length (line_of (bs ++ x)))
        → suc (length bs) ≤ length (cond (eqb b 10) [] (b ∷ line_of (bs ++ x)))
    by true e g more = let k : suc (length bs) ≤ 0 = rw e at g in absurd (omega arith)
    by false e g more =
        let k : suc (length bs) ≤ suc (length (line_of bs)) = rw e at g in
        rw e (omega (arith, more (omega arith)))

pub complete-long : (l : List ℕ) → 0 < length l → complete false l ≡ true
unfolding complete_at
complete-long l h = by (ltb (length (line_of l)) (length l))
  where
    by : (t : Bool) → cond t true (cond false (ltb 4096 (length l)) (ltb 0 (length l))) ≡ true
    by true = refl
    by false = lt-ltb 0 (length l) h

-- ---- a line over 4,096 bytes

pub long-first : (l : List ℕ) → 4096 < length l → first_of l ≡ None
unfolding first_of
long-first l h = rw (ne_eqb (length l) 2 (λ e. omega arith))

pub long-frame : (l : List ℕ) → 4096 < length l → frame_of l ≡ Malformed
unfolding frame_of
long-frame l h = rw (lt-ltb 4096 (length l) h)
