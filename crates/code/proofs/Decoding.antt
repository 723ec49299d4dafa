-- What the decoding functions ask: the largest value of a field by its entry, that a number that is none of the eight kinds is out of range and the
-- row of a kind decides it, the position that an instruction may have by its kind, that kinds above 2 leave the held set, and that the row of the
-- instruction decides cause 5 as the row of the kind does.
use Prim.Native.Nat.{ℕ, zero, suc, ◌+◌, ◌<◌, ◌≤◌}
use mathlib.Core.Path.{◌≡◌, refl, sym, ap, ◌∙◌}
use mathlib.Core.Bool.{Bool, true, false, cond, ◌&&◌, and-false}
use mathlib.Core.List.{List, [], ◌∷◌}
use lib.ListN.{get_or}
use lib.Dec.{leb, ltb, eqb}
use native.Mathlib.Omega.{arith}
use Rattle.code.specs.Table.{entry, highest, kind_of, field_a, field_b, field_c}
use Rattle.code.specs.Op.{by_kind, op_of}
use Rattle.code.specs.Form.{in_range, in_place, well_formed, held_after}
use Rattle.code.specs.Inner.Rows.{in_row, op_row}

-- ---- the table

abbrev pub zeros : List ℕ
zeros = 0 ∷ 0 ∷ 0 ∷ 0 ∷ []

-- the largest value of a field, by its entry
pub highest-entry : (own k j e : ℕ) → e ≡ entry k j → highest own k j ≡ cond (eqb e 511) (511 + own) e
unfolding highest
highest-entry own k j e h = rw h

-- ---- ranges

-- a kind that there is not
pub range-outside : (own w : ℕ) → (leb 1 (kind_of w) && leb (kind_of w) 8) ≡ false → in_range own w ≡ false
unfolding in_range
range-outside own w e = rw e

-- the row of a kind decides
pub range-row : (own w : ℕ) (r : List ℕ) → (leb 1 (kind_of w) && leb (kind_of w) 8) ≡ true → ((j : ℕ) → get_or r j 0 ≡ entry (kind_of w) j)
    → in_row own w r ≡ in_range own w
unfolding in_range
range-row own w r e f = rw (e, highest-entry own _ 0 _ (f 0), highest-entry own _ 1 _ (f 1), highest-entry own _ 2 _ (f 2))

-- ---- positions

pub place-finish : (w n i : ℕ) → kind_of w ≡ 8 → in_place n i (op_of w) ≡ eqb (i + 1) n
unfolding op_of
place-finish w n i h = ap (λ (k : ℕ). in_place n i (by_kind k (field_a w) (field_b w) (field_c w))) h

pub place-jumps : (w n i : ℕ) → kind_of w ≡ 7 → in_place n i (op_of w) ≡ (ltb i (field_b w) && ltb (field_b w) n)
unfolding op_of
place-jumps w n i h = ap (λ (k : ℕ). in_place n i (by_kind k (field_a w) (field_b w) (field_c w))) h

private-inner : (k a b c n i : ℕ) → 1 ≤ k → k ≤ 8 → (k ≡ 7 → ⊥) → (k ≡ 8 → ⊥) → in_place n i (by_kind k a b c) ≡ ltb (i + 1) n
private-inner zero a b c n i l u n7 n8 = absurd (omega arith)
private-inner (suc zero) a b c n i l u n7 n8 = refl
private-inner (suc (suc zero)) a b c n i l u n7 n8 = refl
private-inner (suc (suc (suc zero))) a b c n i l u n7 n8 = refl
private-inner (suc (suc (suc (suc zero)))) a b c n i l u n7 n8 = refl
private-inner (suc (suc (suc (suc (suc zero))))) a b c n i l u n7 n8 = refl
private-inner (suc (suc (suc (suc (suc (suc zero)))))) a b c n i l u n7 n8 = refl
private-inner (suc (suc (suc (suc (suc (suc (suc zero))))))) a b c n i l u n7 n8 = absurd (n7 refl)
private-inner (suc (suc (suc (suc (suc (suc (suc (suc zero)))))))) a b c n i l u n7 n8 = absurd (n8 refl)
private-inner (suc (suc (suc (suc (suc (suc (suc (suc (suc k))))))))) a b c n i l u n7 n8 = absurd (omega arith)

-- the others stand before the last step
pub place-inner : (w n i : ℕ) → 1 ≤ kind_of w → kind_of w ≤ 8 → (kind_of w ≡ 7 → ⊥) → (kind_of w ≡ 8 → ⊥) → in_place n i (op_of w) ≡ ltb (i + 1) n
unfolding op_of
place-inner w n i l u n7 n8 = private-inner (kind_of w) (field_a w) (field_b w) (field_c w) n i l u n7 n8

-- ---- what is held after it

private-kind : (h k a b c : ℕ) → 2 < k → held_after h (by_kind k a b c) ≡ h
unfolding held_after
private-kind h zero a b c l = absurd (omega arith)
private-kind h (suc zero) a b c l = absurd (omega arith)
private-kind h (suc (suc zero)) a b c l = absurd (omega arith)
private-kind h (suc (suc (suc zero))) a b c l = refl
private-kind h (suc (suc (suc (suc zero)))) a b c l = refl
private-kind h (suc (suc (suc (suc (suc zero))))) a b c l = refl
private-kind h (suc (suc (suc (suc (suc (suc zero)))))) a b c l = refl
private-kind h (suc (suc (suc (suc (suc (suc (suc zero))))))) a b c l = refl
private-kind h (suc (suc (suc (suc (suc (suc (suc (suc zero)))))))) a b c l = refl
private-kind h (suc (suc (suc (suc (suc (suc (suc (suc (suc k))))))))) a b c l = refl

-- kinds above 2 leave it
pub held_stays : (h w : ℕ) → 2 < kind_of w → held_after h (op_of w) ≡ h
unfolding op_of
held_stays h w l = private-kind h (kind_of w) (field_a w) (field_b w) (field_c w) l

-- ---- cause 5 by the instruction

-- the range test of a word, by its kind
abbrev in_range_by : ℕ → ℕ → ℕ → Bool
in_range_by own w k = leb 1 k && leb k 8 && leb (field_a w) (highest own k 0) && leb (field_b w) (highest own k 1) && leb (field_c w) (highest own k 2)

private-row :
    (own w n i k a b c : ℕ)
    → (in_row own w (op_row (by_kind k a b c)) && in_place n i (by_kind k a b c)) ≡ (in_range_by own w k && in_place n i (by_kind k a b c))
unfolding highest entry
private-row own w n i zero a b c = and-false (in_row own w zeros)
private-row own w n i (suc zero) a b c = refl
private-row own w n i (suc (suc zero)) a b c = refl
private-row own w n i (suc (suc (suc zero))) a b c = refl
private-row own w n i (suc (suc (suc (suc zero)))) a b c = refl
private-row own w n i (suc (suc (suc (suc (suc zero))))) a b c = refl
private-row own w n i (suc (suc (suc (suc (suc (suc zero)))))) a b c = refl
private-row own w n i (suc (suc (suc (suc (suc (suc (suc zero))))))) a b c = refl
private-row own w n i (suc (suc (suc (suc (suc (suc (suc (suc zero)))))))) a b c = refl
private-row own w n i (suc (suc (suc (suc (suc (suc (suc (suc (suc k))))))))) a b c =
    and-false (in_row own w zeros) ∙ sym (and-false (in_range_by own w (suc (suc (suc (suc (suc (suc (suc (suc (suc k)))))))))))

-- the row of the instruction, and its position
pub row-formed : (own n i w : ℕ) → (in_row own w (op_row (op_of w)) && in_place n i (op_of w)) ≡ well_formed own n i w
unfolding op_of in_range well_formed
row-formed own n i w = private-row own w n i (kind_of w) (field_a w) (field_b w) (field_c w)
