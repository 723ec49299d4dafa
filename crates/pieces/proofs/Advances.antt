-- Laws of `advance`. More pieces allowed than are left change nothing (`settled`), so the loop of the core follows it piece by piece
-- (`loop-next`), and where it stops the bytes put out and the day are those of the definition (`loop-over`).
use Prim.Native.Nat.{ℕ, zero, suc, ◌-◌, ◌<◌, ◌≤◌}
use mathlib.Core.Path.{◌≡◌, refl, sym, ap, ◌∙◌}
use mathlib.Core.Bool.{Bool, true, false, ◌&&◌}
use mathlib.Core.List.{List, [], ◌++◌, append_assoc, append-nil}
use native.Mathlib.Omega.{arith}
use borrow.Author.Tests.{le-leb}
use lib.ListN.{length, take}
use lib.Dec.{leb}
use Rattle.base.proofs.Bools.{and_right}
use Rattle.buffers.specs.Output.{bytes_of}
use Rattle.pieces.specs.Pieces.{Point, ready, piece, Progress, progress, after, advance, pieces_left, whole}
use Rattle.buffers.specs.Output.{Puts}
use Rattle.pieces.proofs.Weights.{piece-less}

abbrev pub printed_by : Bool → Point → List ℕ
printed_by more q = bytes_of (piece more q).stage.played.printed

-- no piece is made
pub rests : (f : ℕ) (more : Bool) (room : ℕ) (q : Point) → (leb 22 room && ready more q) ≡ false → advance f more room q ≡ progress q []
unfolding advance
rests zero more room q e = refl
rests (suc f) more room q e = rw e

-- one piece is made
pub goes : (f : ℕ) (more : Bool) (room : ℕ) (q : Point) → (leb 22 room && ready more q) ≡ true
    → advance (suc f) more room q ≡ after (printed_by more q) (advance f more (room - length (printed_by more q)) (piece more q))
unfolding advance
goes f more room q e = rw e

private-idle : (more : Bool) (q : Point) (b t : Bool) → pieces_left q ≤ 0 → (b && ready more q) ≡ t → t ≡ false
private-idle more q b true h e = absurd (omega (arith, piece-less more q (and_right b (ready more q) e)))
private-idle more q b false h e = refl

-- more pieces than are left change nothing
pub settled : (f g : ℕ) (more : Bool) (room : ℕ) (q : Point) → pieces_left q ≤ f → pieces_left q ≤ g → advance f more room q ≡ advance g more room q
settled zero g more room q h k =
    let e = private-idle more q (leb 22 room) _ h refl in
    rests zero more room q e ∙ sym (rests g more room q e)
settled (suc f) zero more room q h k =
    let e = private-idle more q (leb 22 room) _ k refl in
    rests (suc f) more room q e ∙ sym (rests zero more room q e)
settled (suc f) (suc g) more room q h k =
    by (leb 22 room && ready more q) refl
    (λ r. settled f g more (room - length (printed_by more q)) (piece more q) (omega (arith, r)) (omega (arith, r)))
  where
    by : (t : Bool) → (leb 22 room && ready more q) ≡ t
        → (pieces_left (piece more q) < pieces_left q
        → advance f more (room - length (printed_by more q)) (piece more q) ≡ advance g more (room - length (printed_by more q)) (piece more q))
        → advance (suc f) more room q ≡ advance (suc g) more room q
    by true e same =
        goes f more room q e ∙ ap (after (printed_by more q)) (same (piece-less more q (and_right (leb 22 room) (ready more q) e))) ∙ sym (goes g more room q e)
    by false e same = rests (suc f) more room q e ∙ sym (rests (suc g) more room q e)

module _ (more : Bool) (room : ℕ) (q : Point) where
  pub whole-goes : 22 ≤ room → ready more q ≡ true
      → whole more room q ≡ after (printed_by more q) (whole more (room - length (printed_by more q)) (piece more q))
  whole-goes h r =
      let e : (leb 22 room && ready more q) ≡ true = rw (le-leb 22 room h, r) in
      let less = piece-less more q r in
      let k : pieces_left q ≡ suc (pieces_left q - 1) = omega (arith, less) in
      ap (λ (f : ℕ). advance f more room q) k ∙ goes (pieces_left q - 1) more room q e
      ∙ ap (after (printed_by more q))
      (settled (pieces_left q - 1) (pieces_left (piece more q)) more (room - length (printed_by more q)) (piece more q) (omega (arith, less)) (omega arith))

-- ---- the core's loop: o is the output's buffer, used so far, and a is what is to come out in all

module _ (more : Bool) (q : Point) (o : List ℕ) (used : ℕ) (a : Progress) (so : after (take used o) (whole more (length o - used) q) ≡ a) where
  pub loop-next : (u : List ℕ) (to : ℕ) → Puts o u used to (printed_by more q) → length u ≡ length o → 22 ≤ length o - used → ready more q ≡ true
      → after (take to u) (whole more (length u - to) (piece more q)) ≡ a
  loop-next u to p same h r =
      let bs = printed_by more q in
      let k : length u - to ≡ length o - used - length bs = omega (arith, p.used) in
      rw (p.front, k)
      (ap (λ (l : List ℕ). progress (whole more (length o - used - length bs) (piece more q)).point l) (append_assoc (take used o) bs _)
      ∙ ap (after (take used o)) (sym (whole-goes more (length o - used) q h r)) ∙ so)

  pub loop-over : (leb 22 (length o - used) && ready more q) ≡ false → (q ≡ a.point) × (take used o ≡ a.out)
  loop-over e =
      let p : progress q (take used o ++ []) ≡ a = ap (after (take used o)) (sym (rests (pieces_left q) more (length o - used) q e)) ∙ so in
      (ap (λ (x : Progress). x.point) p, sym (append-nil (take used o)) ∙ ap (λ (x : Progress). x.out) p)
