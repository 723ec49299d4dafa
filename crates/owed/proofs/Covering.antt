-- `covers` as the test of an intersection.
use Prim.Native.Nat.{ℕ, zero, suc, ◌^◌, ◌<◌}
use borrow.Author.Tests.{eq-eqb, ne_eqb}
use mathlib.Core.Path.{◌≡◌, refl, sym, ap, ◌∙◌}
use mathlib.Core.Bool.{Bool, true, false, ◌&&◌, ◌||◌, not, true≢false}
use native.Mathlib.Omega.{arith}
use native.Mathlib.Decide.{ℕ_discrete}
use lib.Dec.{eqb}
use lib.Bits.{bit_and, and_le_l}
use Rattle.base.proofs.Bools.{and_left, and_right, and_both}
use Rattle.mask.specs.Mask.{has}
use Rattle.mask.proofs.Sets.{ext}
use Rattle.mask.proofs.Members.{has-and}
use Rattle.owed.specs.Owed.{covers}

private-last : (big small k b : ℕ) → (not (has small k) || has big k) ≡ true → b < suc k → (b < k → (not (has small b) || has big b) ≡ true)
    → (not (has small b) || has big b) ≡ true
private-last big small k b e h rest = by (ℕ_discrete b k)
  where
    by : Dec (b ≡ k) → (not (has small b) || has big b) ≡ true
    by (yes p) = rw p e
    by (no p) = rest (omega arith)

covers-has : (big small k : ℕ) → covers big small k ≡ true → (b : ℕ) → b < k → (not (has small b) || has big b) ≡ true
unfolding covers
covers-has big small zero e b h = absurd (omega arith)
covers-has big small (suc k) e b h =
    private-last big small k b (and_left (not (has small k) || has big k) (covers big small k) e) h
    (covers-has big small k (and_right (not (has small k) || has big k) (covers big small k) e) b)

has-covers : (big small k : ℕ) → ((b : ℕ) → (not (has small b) || has big b) ≡ true) → covers big small k ≡ true
unfolding covers
has-covers big small zero h = refl
has-covers big small (suc k) h = and_both (not (has small k) || has big k) (covers big small k) (h k) (has-covers big small k h)

private-in : (s t : Bool) → (not s || t) ≡ true → (s && t) ≡ s
private-in true t e = e
private-in false t e = refl

private-out : (s t : Bool) → (s && t) ≡ s → (not s || t) ≡ true
private-out true t e = e
private-out false t e = refl

private-same : (big small : ℕ) → small < 2 ^ 64 → covers big small 64 ≡ true → bit_and small big ≡ small
private-same big small w e =
    let l = and_le_l small big in
    ext (bit_and small big) small (omega arith) w (λ b h. has-and small big b ∙ private-in (has small b) (has big b) (covers-has big small 64 e b h))

private-covers : (big small : ℕ) → bit_and small big ≡ small → covers big small 64 ≡ true
private-covers big small e = has-covers big small 64 (λ b. private-out (has small b) (has big b) (sym (has-and small big b) ∙ ap (λ (s : ℕ). has s b) e))

pub covers-and : (big small : ℕ) → small < 2 ^ 64 → eqb (bit_and small big) small ≡ covers big small 64
covers-and big small w = by (covers big small 64) refl
  where
    by : (t : Bool) → covers big small 64 ≡ t → eqb (bit_and small big) small ≡ t
    by true e = eq-eqb (bit_and small big) small (private-same big small w e)
    by false e = ne_eqb (bit_and small big) small (λ s. true≢false (sym (private-covers big small s) ∙ e))
