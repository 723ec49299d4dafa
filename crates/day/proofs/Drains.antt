-- Laws of `drain`: more pieces allowed than are left change nothing, so what is printed is what the next piece prints, and then the rest.
use Prim.Native.Nat.{ℕ, zero, suc, ◌-◌, ◌<◌, ◌≤◌}
use mathlib.Core.Path.{◌≡◌, refl, sym, ap, ◌∙◌}
use mathlib.Core.Bool.{Bool, true, false}
use mathlib.Core.List.{List, [], ◌++◌}
use native.Mathlib.Omega.{arith}
use Rattle.pieces.specs.Pieces.{Point, ready, piece, pieces_left}
use Rattle.day.specs.Days.{drain, rest}
use Rattle.pieces.proofs.Weights.{piece-less}
use Rattle.pieces.proofs.Advances.{printed_by}

-- no piece is made
drain-rests : (f : ℕ) (q : Point) → ready false q ≡ false → drain f q ≡ []
unfolding drain
drain-rests zero q e = refl
drain-rests (suc f) q e = rw e

-- one piece is made
drain-goes : (f : ℕ) (q : Point) → ready false q ≡ true → drain (suc f) q ≡ printed_by false q ++ drain f (piece false q)
unfolding drain
drain-goes f q e = rw e

private-idle : (q : Point) (t : Bool) → pieces_left q ≤ 0 → ready false q ≡ t → t ≡ false
private-idle q true h e = absurd (omega (arith, piece-less false q e))
private-idle q false h e = refl

drain-settled : (f g : ℕ) (q : Point) → pieces_left q ≤ f → pieces_left q ≤ g → drain f q ≡ drain g q
drain-settled zero g q h k =
    let e = private-idle q _ h refl in
    drain-rests zero q e ∙ sym (drain-rests g q e)
drain-settled (suc f) zero q h k =
    let e = private-idle q _ k refl in
    drain-rests (suc f) q e ∙ sym (drain-rests zero q e)
drain-settled (suc f) (suc g) q h k = by (ready false q) refl (λ r. drain-settled f g (piece false q) (omega (arith, r)) (omega (arith, r)))
  where
    by : (t : Bool) → ready false q ≡ t → (pieces_left (piece false q) < pieces_left q → drain f (piece false q) ≡ drain g (piece false q))
        → drain (suc f) q ≡ drain (suc g) q
    by true e same =
        drain-goes f q e ∙ ap (λ (l : List ℕ). printed_by false q ++ l) (same (piece-less false q e)) ∙ sym (drain-goes g q e)
    by false e same = drain-rests (suc f) q e ∙ sym (drain-rests (suc g) q e)

pub rest-none : (q : Point) → ready false q ≡ false → rest q ≡ []
rest-none q e = drain-rests (pieces_left q) q e

pub rest_goes : (q : Point) → ready false q ≡ true → rest q ≡ printed_by false q ++ rest (piece false q)
rest_goes q e =
    let less = piece-less false q e in
    let k : pieces_left q ≡ suc (pieces_left q - 1) = omega (arith, less) in
    ap (λ (f : ℕ). drain f q) k ∙ drain-goes (pieces_left q - 1) q e
    ∙ ap (λ (l : List ℕ). printed_by false q ++ l)
    (drain-settled (pieces_left q - 1) (pieces_left (piece false q)) (piece false q) (omega (arith, less)) (omega arith))
