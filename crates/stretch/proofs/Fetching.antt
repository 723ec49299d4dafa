-- An instruction is fetched where its own tests pass: its count is a section's, its word is in its ranges and stands where it may (`here-fetched`).
use Prim.Native.Nat.{ℕ, ◌+◌, ◌<◌, ◌≤◌}
use mathlib.Core.Path.{◌≡◌, refl, sym, ap, ◌∙◌}
use mathlib.Core.Bool.{true, false, ◌&&◌, true≢false}
use native.Mathlib.Omega.{arith}
use lib.Dec.{ltb}
use borrow.Author.Tests.{le-leb, lt-ltb}
use Rattle.image.specs.Image.{Image, at}
use Rattle.code.specs.declared.Expr.{Expr}
use Rattle.code.specs.declared.Op.{Op}
use Rattle.code.specs.declared.Op.TheVariants.{Acquire, Release, Assign, Jump, Finish, Unknown}
use Rattle.code.specs.Table.{turns_of}
use Rattle.code.specs.Op.{op_of}
use Rattle.code.specs.Form.{in_place, well_formed}
use Rattle.code.specs.Inner.Fits.{ranged, fits}
use Rattle.code.specs.Inner.Rows.{in_row, expr_row, op_row}
use Rattle.code.proofs.Ranges.{formed-range, in-range, op-range, op_turns, turns-op}
use Rattle.code.proofs.Decoding.{row-formed}
use Rattle.plan.specs.Turn.{ready}
use Rattle.stretch.specs.Inner.Whole.{Fetched, Here}

has-turn : (n : ℕ) (x : Op) → fits n x → 0 < op_turns x
has-turn n (Acquire a) f = omega arith
has-turn n (Release a) f = omega arith
has-turn n (Assign a e) f = omega arith
has-turn n (Jump a b) f = omega arith
has-turn n Finish f = omega arith
has-turn n Unknown f = absurd f

first-turn : (n k i w : ℕ) → well_formed n k i w ≡ true → ltb 0 (turns_of w) ≡ true
first-turn n k i w e = lt-ltb 0 (turns_of w) (rw (turns-op w (op_of w) refl) (has-turn n (op_of w) (in-range n w (formed-range n k i w e))))

-- in its ranges and in its place
formed : (n k i w : ℕ) (x : Op) → op_of w ≡ x → in_row n w (op_row x) ≡ true → in_place k i x ≡ true → well_formed n k i w ≡ true
formed n k i w x o r p = sym (row-formed n k i w) ∙ (rw (o, r, p) refl)

module _ (n d s k : ℕ) (m : Image) (w : ℕ) (x : Op) (h : Here n d s k m w x) where
  pub here-fetched : in_row n w (op_row x) ≡ true → in_place k s x ≡ true → Fetched n d s m x
  unfolding ready
  here-fetched r p =
      let c = h.counted in
      let f = formed n k s w x h.op r p in
      record {
        inside = c.inside;
        ready = rw (c.count, h.word, le-leb 3 k c.least, le-leb k 64 c.most, lt-ltb s k h.below, f, first-turn n k s w f);
        op = ap op_of h.word ∙ h.op;
      }

-- a jump goes forward and inside
pub jump-place : (k s a b : ℕ) → s < b → b < k → in_place k s (Jump a b) ≡ true
jump-place k s a b l m = rw (lt-ltb s b l, lt-ltb b k m)

-- the operands of an expression whose word is in its ranges
pub row-ranged : (n w a : ℕ) (e : Expr) → op_of w ≡ Assign a e → in_row n w (expr_row e) ≡ true → ranged n e
row-ranged n w a e o r = (op-range n w (Assign a e) (formed-range n 2 0 w (formed n 2 0 w (Assign a e) o r refl)) o).1
