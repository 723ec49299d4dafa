-- One worker's cursor in the working record: what it is after it was placed, at the same worker and at another.
use Prim.Native.Nat.{ℕ, ◌<◌}
use mathlib.Core.Path.{◌≡◌, refl, ap, ◌∙◌, sym}
use mathlib.Core.Bool.{Bool, true, false, cond, false≢true, true≢false}
use mathlib.Core.Logic.{◌≢◌}
use lib.ListN.{length, get_or}
use lib.Seq.{get_or-set_same, get_or-set_other}
use lib.Dec.{eqb}
use borrow.Author.Tests.{eq-eqb, ne_eqb, eqb-true}
use Rattle.base.proofs.Filling.{get_d-inside}
use Rattle.working.specs.declared.Cursors.{Cursors}
use Rattle.working.specs.Cursor.{Cursor, idle, on, is_idle, step_no, turn_no, cursor_at, set_at, holding, placed}

private-idle : (b : Bool) (s t : ℕ) → is_idle (cond b idle (on s t)) ≡ b
private-idle true s t = refl
private-idle false s t = refl

-- a worker is idle by its turn alone
pub idle-by : (c : Cursors) (d : ℕ) → is_idle (cursor_at c d) ≡ eqb (get_or c.turn d 255) 255
unfolding cursor_at
idle-by c d = private-idle (eqb (get_or c.turn d 255) 255) _ _

-- a record of eight workers
pub record Full (c : Cursors) : Type 0 where
  pub steps : length c.step ≡ 8
  pub turns : length c.turn ≡ 8

-- a cursor that the record can say
abbrev pub sayable : Cursor → Type 0
sayable idle = Unit {0}
sayable (on s t) = t ≢ 255

private-placed : (x : Cursor) → sayable x → cond (eqb (turn_no x) 255) idle (on (step_no x) (turn_no x)) ≡ x
private-placed idle h = refl
private-placed (on s t) h = rw (ne_eqb t 255 h)

pub placed_same : (c : Cursors) (d : ℕ) (x : Cursor) → Full c → d < 8 → sayable x → cursor_at (placed c d x) d ≡ x
unfolding cursor_at set_at
placed_same c d x f h s =
    rw (
      get_or-set_same c.turn d (turn_no x) 255 (rw f.turns h),
      get_or-set_same c.step d (step_no x) 0 (rw f.steps h),
    )
    (private-placed x s)

pub placed-other : (c : Cursors) (d e : ℕ) (x : Cursor) → e ≢ d → cursor_at (placed c d x) e ≡ cursor_at c e
unfolding cursor_at set_at
placed-other c d e x h = rw (get_or-set_other c.turn d e (turn_no x) 255 h, get_or-set_other c.step d e (step_no x) 0 h)

-- the locks held have no part in it
pub held-cursor : (h : ℕ) (c : Cursors) (e : ℕ) → cursor_at (holding h c) e ≡ cursor_at c e
unfolding cursor_at
held-cursor h c e = refl

-- the same by the turn itself
pub idle-turn : (c : Cursors) (d : ℕ) → d < length c.turn → get_or c.turn d 0 ≡ 255 → is_idle (cursor_at c d) ≡ true
idle-turn c d h e = idle-by c d ∙ eq-eqb _ 255 (get_d-inside c.turn d 255 0 h ∙ e)

pub open_turn : (c : Cursors) (d : ℕ) → d < length c.turn → get_or c.turn d 0 ≢ 255 → is_idle (cursor_at c d) ≡ false
open_turn c d h e = idle-by c d ∙ ne_eqb _ 255 (λ q. e (sym (get_d-inside c.turn d 255 0 h) ∙ q))

pub open-not : (c : Cursors) (d : ℕ) → d < length c.turn → is_idle (cursor_at c d) ≡ false → get_or c.turn d 0 ≢ 255
open-not c d h e q = true≢false (sym (idle-turn c d h q) ∙ e)

pub idle-says : (c : Cursors) (d : ℕ) → d < length c.turn → is_idle (cursor_at c d) ≡ true → get_or c.turn d 0 ≡ 255
idle-says c d h e = sym (get_d-inside c.turn d 255 0 h) ∙ eqb-true _ 255 (sym (idle-by c d) ∙ e)

-- ---- where a worker stands

pub idle-is : (x : Cursor) → is_idle x ≡ true → x ≡ idle
idle-is idle e = refl
idle-is (on s t) e = absurd (false≢true e)

private-on : (b : Bool) (s t : ℕ) → is_idle (cond b idle (on s t)) ≡ false → cond b idle (on s t) ≡ on s t
private-on true s t e = absurd (true≢false e)
private-on false s t e = refl

pub on-is : (c : Cursors) (d : ℕ) → d < length c.turn → is_idle (cursor_at c d) ≡ false → cursor_at c d ≡ on (get_or c.step d 0) (get_or c.turn d 0)
unfolding cursor_at
on-is c d h e =
    private-on (eqb (get_or c.turn d 255) 255) (get_or c.step d 0) (get_or c.turn d 255) e ∙ ap (on (get_or c.step d 0)) (get_d-inside c.turn d 255 0 h)
