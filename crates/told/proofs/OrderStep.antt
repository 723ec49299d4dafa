-- One entry of an order, where its worker's first section is submitted: whatever its instruction is, if the reference machine
-- allows it, there is a block of turns after which the world is level with the state after it.
use Prim.Native.Nat.{ℕ, ◌<◌}
use mathlib.Core.Path.{◌≡◌, refl, ap, subst, ◌∙◌, sym}
use mathlib.Core.Bool.{Bool, true, false}
use mathlib.Core.Option.{some, none}
use mathlib.Core.List.{List, [], map}
use lib.ListN.{get_or}
use native.Mathlib.Omega.{arith}
use Rattle.image.specs.Place.{step}
use Rattle.image.specs.Image.{at}
use Rattle.code.specs.declared.Op.{Op}
use Rattle.code.specs.declared.Op.TheVariants.{Acquire, Release, Assign, Jump, Finish, Unknown}
use Rattle.code.specs.Op.{op_of}
use Rattle.working.specs.Cursor.{cursor_at}
use Rattle.claims.specs.Reference.{State, Given, start, taken, whole, advance}
use Rattle.claims.specs.Calls.{Traced}
use Rattle.told.proofs.OrderLevel.{Works, Even}
use Rattle.told.proofs.OrderBlock.{Block, jump-block, finish-block}
use Rattle.told.proofs.OrderLocks.{acquire-block, release-block}
use Rattle.told.proofs.OrderAssign.{assign-block}
use Rattle.claims.proofs.Machine.{advance-op}

pub some_same : {A : Type 0} {a b : A} → some a ≡ some b → a ≡ b
some_same e = cc

pub none-some : {A : Type 0} {a : A} → none ≡ some a → ⊥
none-some e = let z : ◌≡◌ {A = ℕ} 0 1 = cc in omega arith

module _
    (mark n D : ℕ) (w : Traced) (s t : State) (gs : ℕ → List Given) (E : Even mark n D w s gs) (d : ℕ) (dl : d < D)
    (W : Works n (at n w.world.image) d (cursor_at w.world.cursors d) (get_or s.queues d []) (gs d)) where
  private-front : op_of (get_or W.first.code W.first.next 0) ≡ op_of (at n w.world.image (step d W.first.next))
  private-front = ap op_of (W.code W.first.next W.below)

  private-block : (x : Op) → op_of (at n w.world.image (step d W.first.next)) ≡ x → whole s d W.first (map (start n) (gs d)) x ≡ some t
      → Block mark n D w d t gs
  private-block (Acquire a) o e = by (taken s.queues a) refl
    where
      by : (b : Bool) → taken s.queues a ≡ b → Block mark n D w d t gs
      by true h = absurd (none-some (rw h at e))
      by false h = subst (λ (r : State). Block mark n D w d r gs) (some_same (rw h at e)) (acquire-block mark n D w s gs E d dl W a o h)
  private-block (Release a) o e = subst (λ (r : State). Block mark n D w d r gs) (some_same e) (release-block mark n D w s gs E d dl W a o)
  private-block (Assign a x) o e = subst (λ (r : State). Block mark n D w d r gs) (some_same e) (assign-block mark n D w s gs E d dl W a x o)
  private-block (Jump a b) o e = subst (λ (r : State). Block mark n D w d r gs) (some_same e) (jump-block mark n D w s gs E d dl W a b o)
  private-block Finish o e = subst (λ (r : State). Block mark n D w d r gs) (some_same e) (finish-block mark n D w s gs E d dl W o)
  private-block Unknown o e = absurd (none-some e)

  pub step_block : advance s d ≡ some t → Block mark n D w d t gs
  step_block e =
      private-block (op_of (at n w.world.image (step d W.first.next))) refl
      (sym (advance-op s d W.first (map (start n) (gs d)) W.queue (op_of (at n w.world.image (step d W.first.next))) private-front) ∙ e)
