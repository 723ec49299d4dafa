-- What turns leave of a worker's sections: no event of a turn is a taking or a loss (`turn-quiet`), none is taken by it (`turn-taken`), and an idle worker has
-- no section under way (`nowhere-at`).
use Prim.Native.Nat.{ℕ, ◌<◌}
use mathlib.Core.Path.{◌≡◌, refl, sym, ◌∙◌}
use mathlib.Core.Bool.{Bool, true, false, cond, ◌&&◌, not}
use mathlib.Core.List.{List, [], ◌∷◌}
use lib.Dec.{eqb}
use Rattle.image.specs.declared.Field.TheVariants.{Count, Pc}
use Rattle.image.specs.Place.{field}
use Rattle.image.specs.Image.{at}
use Rattle.section.specs.Check.{Code}
use Rattle.working.specs.Cursor.{Cursor, idle, cursor_at}
use Rattle.worklog.specs.Log.{code_in}
use Rattle.plan.specs.Turn.{Outcome, stored, passed, waiting, resting, refused}
use Rattle.claims.specs.Reference.{Given}
use Rattle.claims.specs.Events.{Event, taken, moved, waited, recorded, ended, lost}
use Rattle.claims.specs.Calls.{Traced, is_pc, turn_by}
use Rattle.claims.specs.Claims.{of_worker}
use Rattle.claims.proofs.Submitting.{on-not-idle}
use Rattle.told.specs.Paths.{Paths}
use Rattle.told.specs.Turns.{Now, nowhere, fresh, going, closing, passage_of, All}
use Rattle.told.proofs.Reading.{store_keeps}
use Rattle.told.proofs.Accounting.{events_by}
use Rattle.told.proofs.Pacing.{Paced}
use Rattle.told.proofs.OnTrack.{paths_in}
use Rattle.told.proofs.Spanning.{Spanning}

-- neither a taking nor a loss
abbrev pub Quiet : Event → Type 0
Quiet (taken g) = ⊥
Quiet (moved d s) = Unit {0}
Quiet (waited d b) = Unit {0}
Quiet (recorded d s) = Unit {0}
Quiet (ended d) = Unit {0}
Quiet lost = ⊥

-- ---- the events of a turn

store-quiet : (q pc z : Bool) (d s : ℕ) → All Quiet (cond q [] (moved d s ∷ cond pc (cond z (ended d) (recorded d s) ∷ []) []))
store-quiet true pc z d s = tt
store-quiet false false z d s = (tt, tt)
store-quiet false true true d s = (tt, (tt, tt))
store-quiet false true false d s = (tt, (tt, tt))

pub turn-quiet : (mark n : ℕ) (w : Traced) (d : ℕ) (o : Outcome) → All Quiet (events_by mark n w d o)
turn-quiet mark n w d (stored p v c) = store-quiet (eqb w.world.left 0) (is_pc p) (eqb v 0) d _
turn-quiet mark n w d (passed why c) = (tt, tt)
turn-quiet mark n w d (waiting b) = (tt, tt)
turn-quiet mark n w d resting = tt
turn-quiet mark n w d (refused r) = tt

pub turn-taken : (mark n : ℕ) (w : Traced) (d : ℕ) (o : Outcome) → (turn_by mark n w d o).trace.taken ≡ w.trace.taken
turn-taken mark n w d (stored p v c) =
    (store_keeps w.trace d (is_pc p && not (eqb w.world.left 0)) (eqb (at n w.world.image (field Pc d)) 0)).0
turn-taken mark n w d (passed why c) = refl
turn-taken mark n w d (waiting b) = refl
turn-taken mark n w d resting = refl
turn-taken mark n w d (refused r) = refl

-- an idle worker has no section under way
idle-nowhere : (pc count : ℕ) (code : Code) (P : Paths) (mine : List Given) (j : ℕ) (last : Given) (x : Cursor) (y : Now) → x ≡ idle
    → Paced pc count code P mine j last x y → y ≡ nowhere
idle-nowhere pc count code P mine j last x nowhere i p = refl
idle-nowhere pc count code P mine j last x (fresh g t) i p = absurd (on-not-idle 0 t (sym p.0 ∙ i))
idle-nowhere pc count code P mine j last x (going g b s t) i p = absurd (on-not-idle p.0 p.1 (sym p.2 ∙ i))
idle-nowhere pc count code P mine j last x (closing k g b t) i p = absurd (on-not-idle p.0 2 (sym p.1 ∙ i))

module _ (mark n D : ℕ) (cells : List ℕ) where
  -- an idle worker's passage
  pub nowhere-at :
      (w : Traced) → Spanning mark n D cells w → (e : ℕ) → e < D → cursor_at w.world.cursors e ≡ idle → (passage_of e w.trace.events).now ≡ nowhere
  nowhere-at w x e l i =
      let rd = at n w.world.image in
      idle-nowhere (rd (field Pc e)) (rd (field Count e)) (code_in n rd e) (paths_in mark n D cells w e) (of_worker e w.trace.begun) (w.trace.jumps e)
      (w.trace.last e) (cursor_at w.world.cursors e) (passage_of e w.trace.events).now i (x e l).pace
