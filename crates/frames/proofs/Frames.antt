-- What a frame says of its line: one law over the tests of `frame_of` (`by-frame`), and what it gives of a submit's length, and of the turns of 02 and
-- the rounds of 04, which are four digits.
use Prim.Native.Nat.{ℕ, ◌+◌, ◌-◌, ◌%◌, ◌≤◌}
use borrow.Author.Tests.{ltb-false, leb-true}
use mathlib.Core.Path.{◌≡◌, refl}
use mathlib.Core.Bool.{Bool, true, false, cond}
use mathlib.Core.List.{List}
use native.Mathlib.Omega.{arith}
use lib.ListN.{length, get_or}
use lib.Dec.{ltb, leb, eqb}
use Rattle.frames.specs.declared.Frame.{Frame}
use Rattle.frames.specs.declared.Frame.TheVariants.{Submit, Turns, Recover, Rounds, Malformed}
use Rattle.frames.specs.Hex.{all_hex, hex_of, hex_from, hex_at}
use Rattle.frames.specs.Line.{submit_frame, turns_frame, recover_frame, rounds_frame, by_kind, frame_of}

module _ (P : Frame → Type 0) where
  private-pick : (b : Bool) (x y : Frame) → (b ≡ true → P x) → (b ≡ false → P y) → P (cond b x y)
  private-pick true x y t f = t refl
  private-pick false x y t f = f refl

  -- what holds of each kind's frame holds of a line's
  pub by-frame :
      (l : List ℕ) → P Malformed → (148 ≤ length l → length l ≤ 4096 → P (Submit (hex_at l 2 2) (hex_at l 4 16))) → P (Turns (hex_at l 2 2) (hex_at l 4 4))
      → P Recover → P (Rounds (hex_at l 2 4)) → P (frame_of l)
  unfolding frame_of by_kind submit_frame turns_frame recover_frame rounds_frame
  by-frame l bad submit turns recover rounds =
      let k = hex_at l 0 2 in
      private-pick (ltb 4096 (length l)) _ _ (λ e. bad) (λ long.
      private-pick (all_hex l) _ _ (λ h. private-pick (ltb (length l) 2) _ _ (λ e. bad) (λ e.
      private-pick (eqb k 1) _ _
      (λ e. private-pick (ltb (length l) 148) _ _ (λ f. bad) (λ few. private-pick (eqb ((length l - 148) % 16) 0) _ _
      (λ f. submit (ltb-false _ _ few) (ltb-false _ _ long)) (λ f. bad)))
      (λ e. private-pick (eqb k 2) _ _ (λ f. private-pick (eqb (length l) 8) _ _ (λ g. turns) (λ g. bad))
      (λ f. private-pick (eqb k 3) _ _ (λ g. private-pick (eqb (length l) 2) _ _ (λ h. recover) (λ h. bad))
      (λ g. private-pick (eqb k 4) _ _ (λ h. private-pick (eqb (length l) 6) _ _ (λ i. rounds) (λ i. bad)) (λ h. bad)))))) (λ h. bad))

-- ---- a submit's line has its arguments, and at most 4,096 digits

abbrev Long : List ℕ → Frame → Type 0
Long l (Submit d k) = (148 ≤ length l) × (length l ≤ 4096)
Long l (Turns d k) = Unit {0}
Long l Recover = Unit {0}
Long l (Rounds r) = Unit {0}
Long l Malformed = Unit {0}

pub submit-long : (l : List ℕ) (d k : ℕ) → frame_of l ≡ Submit d k → (148 ≤ length l) × (length l ≤ 4096)
submit-long l d k e = rw e at (by-frame (Long l) l tt (λ f g. (f, g)) tt tt tt)

-- ---- four digits

pub digit-most : (b : ℕ) → hex_of b ≤ 15
unfolding hex_of
digit-most b = by (ltb b 48) (leb b 57) (ltb b 97) (leb b 102) refl refl
  where
    by : (t u v w : Bool) → leb b 57 ≡ u → leb b 102 ≡ w → cond t 0 (cond u (b - 48) (cond v 0 (cond w (b - 87) 0))) ≤ 15
    by true u v w e f = omega arith
    by false true v w e f = omega (arith, leb-true b 57 e)
    by false false true w e f = omega arith
    by false false false true e f = omega (arith, leb-true b 102 f)
    by false false false false e f = omega arith

four-most : (l : List ℕ) (i : ℕ) → hex_at l i 4 ≤ 65535
unfolding hex_from
four-most l i =
    omega (arith, digit-most (get_or l i 0), digit-most (get_or l (i + 1) 0), digit-most (get_or l (i + 1 + 1) 0), digit-most (get_or l (i + 1 + 1 + 1) 0))

-- the turns or rounds of a frame
abbrev pub times_in : Frame → ℕ
times_in (Submit d k) = 0
times_in (Turns d k) = k
times_in Recover = 0
times_in (Rounds r) = r
times_in Malformed = 0

pub times-most : (l : List ℕ) → times_in (frame_of l) ≤ 65535
times-most l = by-frame (λ f. times_in f ≤ 65535) l (omega arith) (λ e f. omega arith) (four-most l 4) (omega arith) (four-most l 2)
