-- What a word in its ranges says of its instruction, how many turns an instruction takes, and the rules of the table. The
-- instruction of a word is told by its kind, so each is said once for every instruction, by cases on the kind, and read off
-- for one instruction. The table's rules are computed tests over its rows.
use Prim.Native.Nat.{ℕ, zero, suc, ◌+◌, ◌<◌, ◌≤◌}
use mathlib.Core.Path.{◌≡◌, refl, ap, subst, ◌∙◌}
use mathlib.Core.Bool.{Bool, true, ◌&&◌, and-eq-true_iff}
use mathlib.Core.List.{List, [], ◌∷◌}
use native.Mathlib.Omega.{arith}
use lib.ListN.{get_or}
use lib.Dec.{leb}
use borrow.Author.Tests.{leb-true, lt-ltb}
use Rattle.base.proofs.Bools.{and_left}
use Rattle.code.specs.declared.Expr.{Expr}
use Rattle.code.specs.declared.Op.{Op}
use Rattle.code.specs.declared.Op.TheVariants.{Acquire, Release, Assign, Jump, Finish, Unknown}
use Rattle.code.specs.Table.{table, entry, highest, kind_of, field_a, field_b, field_c, turns_of}
use Rattle.code.specs.Op.{by_kind, op_of}
use Rattle.code.specs.Inner.Fits.{ranged, fits}
use Rattle.code.specs.Form.{in_range, in_place, well_formed, lock_ok}

-- ---- ranges

pub formed-range : (own k i w : ℕ) → well_formed own k i w ≡ true → in_range own w ≡ true
unfolding well_formed
formed-range own k i w e = and_left (in_range own w) (in_place k i (op_of w)) e

private-fits : (own k a b c : ℕ) → 1 ≤ k → k ≤ 8 → a ≤ highest own k 0 → b ≤ highest own k 1 → c ≤ highest own k 2 → fits own (by_kind k a b c)
unfolding highest entry
private-fits own zero a b c l u ha hb hc = omega arith
private-fits own (suc zero) a b c l u ha hb hc = omega arith
private-fits own (suc (suc zero)) a b c l u ha hb hc = omega arith
private-fits own (suc (suc (suc zero))) a b c l u ha hb hc = omega arith
private-fits own (suc (suc (suc (suc zero)))) a b c l u ha hb hc = omega arith
private-fits own (suc (suc (suc (suc (suc zero))))) a b c l u ha hb hc = omega arith
private-fits own (suc (suc (suc (suc (suc (suc zero)))))) a b c l u ha hb hc = omega arith
private-fits own (suc (suc (suc (suc (suc (suc (suc zero))))))) a b c l u ha hb hc = omega arith
private-fits own (suc (suc (suc (suc (suc (suc (suc (suc zero)))))))) a b c l u ha hb hc = tt
private-fits own (suc (suc (suc (suc (suc (suc (suc (suc (suc k))))))))) a b c l u ha hb hc = omega arith

-- each of five tests
private-tests : (p q r s t : Bool) → (p && q && r && s && t) ≡ true → (p ≡ true) × (q ≡ true) × (r ≡ true) × (s ≡ true) × (t ≡ true)
private-tests p q r s t e =
    let (d, et) = (and-eq-true_iff (p && q && r && s) t).0 e in
    let (c, es) = (and-eq-true_iff (p && q && r) s).0 d in
    let (b, er) = (and-eq-true_iff (p && q) r).0 c in
    let (ep, eq) = (and-eq-true_iff p q).0 b in
    (ep, eq, er, es, et)

-- the kind of a word in its ranges is one of the eight
pub range-kind : (own w : ℕ) → in_range own w ≡ true → (1 ≤ kind_of w) × (kind_of w ≤ 8)
unfolding in_range
range-kind own w e =
    let t = private-tests (leb 1 (kind_of w)) (leb (kind_of w) 8) (leb (field_a w) (highest own (kind_of w) 0)) (leb (field_b w) (highest own (kind_of w) 1))
    (leb (field_c w) (highest own (kind_of w) 2)) e in
    (leb-true _ _ t.0, leb-true _ _ t.1)

-- a word in its ranges says an instruction in its ranges
pub in-range : (own w : ℕ) → in_range own w ≡ true → fits own (op_of w)
unfolding in_range op_of
in-range own w e =
    let t = private-tests (leb 1 (kind_of w)) (leb (kind_of w) 8) (leb (field_a w) (highest own (kind_of w) 0)) (leb (field_b w) (highest own (kind_of w) 1))
    (leb (field_c w) (highest own (kind_of w) 2)) e in
    private-fits own (kind_of w) (field_a w) (field_b w) (field_c w) (leb-true _ _ t.0) (leb-true _ _ t.1) (leb-true _ _ t.2) (leb-true _ _ t.3)
    (leb-true _ _ t.4)

-- the same where the instruction is told
pub op-range : (own w : ℕ) (x : Op) → in_range own w ≡ true → op_of w ≡ x → fits own x
op-range own w x e o = subst (fits own) o (in-range own w e)

pub known : (own w : ℕ) → in_range own w ≡ true → op_of w ≡ Unknown → ⊥
known own w e o = op-range own w Unknown e o

pub acquire-range : (own w a : ℕ) → in_range own w ≡ true → op_of w ≡ Acquire a → a < 64
acquire-range own w a e o = op-range own w (Acquire a) e o

pub release-range : (own w a : ℕ) → in_range own w ≡ true → op_of w ≡ Release a → a < 64
release-range own w a e o = op-range own w (Release a) e o

pub assign-range : (own w a : ℕ) (x : Expr) → in_range own w ≡ true → op_of w ≡ Assign a x → a < 512 + own
assign-range own w a x e o = (op-range own w (Assign a x) e o).0

pub expr-range : (own w a : ℕ) (x : Expr) → in_range own w ≡ true → op_of w ≡ Assign a x → ranged own x
expr-range own w a x e o = (op-range own w (Assign a x) e o).1

pub jump-range : (own w a b : ℕ) → in_range own w ≡ true → op_of w ≡ Jump a b → a < 512 + own
jump-range own w a b e o = (op-range own w (Jump a b) e o).0

private-lock : (own : ℕ) (x : Op) → fits own x → lock_ok x ≡ true
private-lock own (Acquire a) f = lt-ltb a 64 f
private-lock own (Release a) f = lt-ltb a 64 f
private-lock own (Assign a e) f = refl
private-lock own (Jump a b) f = refl
private-lock own Finish f = refl
private-lock own Unknown f = refl

pub lock-ok : (own w : ℕ) → in_range own w ≡ true → lock_ok (op_of w) ≡ true
lock-ok own w e = private-lock own (op_of w) (in-range own w e)

-- ---- turns

abbrev pub op_turns : Op → ℕ
op_turns (Acquire a) = 6
op_turns (Release a) = 6
op_turns (Assign a e) = 4
op_turns (Jump a b) = 1
op_turns Finish = 3
op_turns Unknown = 0

private-turns : (k a b c : ℕ) → entry k 3 ≡ op_turns (by_kind k a b c)
unfolding entry
private-turns zero a b c = refl
private-turns (suc zero) a b c = refl
private-turns (suc (suc zero)) a b c = refl
private-turns (suc (suc (suc zero))) a b c = refl
private-turns (suc (suc (suc (suc zero)))) a b c = refl
private-turns (suc (suc (suc (suc (suc zero))))) a b c = refl
private-turns (suc (suc (suc (suc (suc (suc zero)))))) a b c = refl
private-turns (suc (suc (suc (suc (suc (suc (suc zero))))))) a b c = refl
private-turns (suc (suc (suc (suc (suc (suc (suc (suc zero)))))))) a b c = refl
private-turns (suc (suc (suc (suc (suc (suc (suc (suc (suc k))))))))) a b c = refl

-- the turns of a word are those of its instruction
pub turns-op : (w : ℕ) (x : Op) → op_of w ≡ x → turns_of w ≡ op_turns x
unfolding op_of
turns-op w x o = private-turns (kind_of w) (field_a w) (field_b w) (field_c w) ∙ ap op_turns o

-- ---- the rules of the table

-- the test passes at every element
abbrev every : {A : Type 0} → (A → Bool) → List A → Bool
every P [] = true
every P (x ∷ l) = P x && every P l

-- so it passes at each index, also past the end, where it passes at what stands there
every-at : {A : Type 0} (P : A → Bool) (l : List A) (d : A) → every P l ≡ true → P d ≡ true → (j : ℕ) → P (get_or l j d) ≡ true
every-at P [] d e p j = p
every-at P (x ∷ l) d e p zero = ((and-eq-true_iff (P x) (every P l)).0 e).0
every-at P (x ∷ l) d e p (suc j) = every-at P l d ((and-eq-true_iff (P x) (every P l)).0 e).1 p j

abbrev few : List ℕ → Bool
few l = leb (get_or l 3 0) 6

private-most : (k : ℕ) → entry k 3 ≤ 6
unfolding entry
private-most zero = omega arith
private-most (suc k) = leb-true _ _ (every-at few table [] refl refl k)

pub turns-most : (w : ℕ) → turns_of w ≤ 6
turns-most w = private-most (kind_of w)
