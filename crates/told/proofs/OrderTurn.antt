-- One uncut turn of worker d, as a change of the memory and of that worker's cursor. A world is looked at through `View`: its
-- memory, worker d's cursor, the cursors of the others, and the sections taken. An uncut turn is given stores enough, so a
-- store is made, and the view is the one with that place changed; the sections taken are as before.
use Prim.Native.Nat.{ℕ, ◌-◌, ◌^◌, ◌<◌, ◌≤◌}
use mathlib.Core.Path.{◌≡◌, refl, ap, subst, ◌∙◌}
use mathlib.Core.Logic.{◌≢◌}
use mathlib.Core.Bool.{Bool, true, false, cond, ◌&&◌, not}
use mathlib.Core.List.{List}
use lib.Dec.{eqb}
use borrow.Author.Tests.{lt-ltb}
use native.Mathlib.Omega.{arith}
use Rattle.image.specs.declared.Field.TheVariants.{Pc}
use Rattle.image.specs.Place.{Place, field, valid, Memory}
use Rattle.image.specs.Inner.Same.{upd}
use Rattle.image.specs.Image.{at, workers, header_ok}
use Rattle.image.proofs.Header.{Sized, header-sized, header-workers}
use Rattle.image.proofs.Stores.{header-store, workers-store}
use Rattle.working.specs.Cursor.{Cursor, cursor_at, placed}
use Rattle.plan.specs.Turn.{Outcome, stored, passed, turn_at}
use Rattle.worklog.specs.declared.Passing.TheVariants.{Jump}
use Rattle.turn.specs.Call.{outcome_at, outcome}
use Rattle.working.proofs.Placed.{Full, sayable, placed_same, held-cursor, placed-other}
use Rattle.claims.specs.Reference.{Given}
use Rattle.claims.specs.Calls.{Trace, Traced, recording, is_pc, call, turns, whole, move, lent}
use Rattle.claims.proofs.AtStore.{memory-store}
use Rattle.claims.proofs.Cursors.{full-set, full-held}

pub record View (mark n D : ℕ) (w : Traced) (rd : Memory) (d : ℕ) (c : Cursor) (cur : ℕ → Cursor) (taken : List Given) : Type 0 where
  pub header : header_ok mark n w.world.image ≡ true
  pub many : workers w.world.image ≡ D
  pub full : Full w.world.cursors
  pub memory : at n w.world.image ≡ rd
  pub mine : cursor_at w.world.cursors d ≡ c
  pub others : (e : ℕ) → e ≢ d → cursor_at w.world.cursors e ≡ cur e
  pub entered : w.trace.taken ≡ taken

private-taken : (b : Bool) (g : Trace) (d : ℕ) (t : Bool) → (cond b (recording g d t) g).taken ≡ g.taken
private-taken true g d t = refl
private-taken false g d t = refl

module _ (mark n D : ℕ) (w : Traced) (rd : Memory) (d : ℕ) (c : Cursor) (cur : ℕ → Cursor) (taken : List Given) (view : View mark n D w rd d c cur taken)
    (dl : d < D) where
  pub view-sized : Sized n D w.world.image
  view-sized = subst (λ (k : ℕ). Sized n k w.world.image) view.many (header-sized mark n w.world.image view.header)

  pub view-few : D ≤ 8
  view-few = subst (λ (k : ℕ). k ≤ 8) view.many (header-workers mark n w.world.image view.header).1

  -- a turn is what it is in the view's memory
  view-outcome : (o : Outcome) → turn_at n rd d c ≡ o → outcome mark n (lent mark n (2 ^ 64 - 1) w).world d ≡ o
  unfolding outcome outcome_at
  view-outcome o e = rw (view.header, view.many, lt-ltb d D dl, view.memory, view.mine) e

  pub turn-stored :
      (p : Place) (v : ℕ) (x : Cursor) → turn_at n rd d c ≡ stored p v x → valid D n p ≡ true → sayable x
      → View mark n D (move mark n (whole (turns d)) w) (upd rd p v) d x cur taken
  unfolding move call
  turn-stored p v x e ok say =
      let few = view-few in
      rw (view-outcome (stored p v x) e)
      (record {
        header = header-store n mark (2 ^ 64 - 1) w.world.image p v ∙ view.header;
        many = workers-store n (2 ^ 64 - 1) w.world.image p v ∙ view.many;
        full = full-held _ _ (full-set w.world.cursors d _ _ view.full);
        memory = memory-store n D w.world.image view-sized (2 ^ 64 - 1) p v ok (omega arith) ∙ ap (λ (m : Memory). upd m p v) view.memory;
        mine = held-cursor _ (placed w.world.cursors d x) d ∙ placed_same w.world.cursors d x view.full (omega arith) say;
        others = λ f h. held-cursor _ (placed w.world.cursors d x) f ∙ (placed-other w.world.cursors d f x h ∙ view.others f h);
        entered = private-taken (is_pc p && not (eqb (2 ^ 64 - 1) 0)) w.trace d (eqb (at n w.world.image (field Pc d)) 0) ∙ view.entered;
      })

  pub turn-jumped : (x : Cursor) → turn_at n rd d c ≡ passed Jump x → sayable x → View mark n D (move mark n (whole (turns d)) w) rd d x cur taken
  unfolding move call
  turn-jumped x e say =
      let few = view-few in
      rw (view-outcome (passed Jump x) e)
      (record {
        header = view.header;
        many = view.many;
        full = full-set w.world.cursors d _ _ view.full;
        memory = view.memory;
        mine = placed_same w.world.cursors d x view.full (omega arith) say;
        others = λ f h. placed-other w.world.cursors d f x h ∙ view.others f h;
        entered = view.entered;
      })
