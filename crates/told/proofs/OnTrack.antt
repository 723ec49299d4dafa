-- One worker on its passage (`OnTrack`), in a world (`Steady`); that it stays so where its record stays (`track-same`); and what a store leaves of
-- the trace (`plain-store`, `pc-store`).
use Prim.Native.Nat.{ℕ, suc, ◌<◌}
use mathlib.Core.Path.{◌≡◌, sym, subst}
use mathlib.Core.Bool.{true, false, cond}
use mathlib.Core.List.{List, [], ◌∷◌, ◌++◌}
use lib.ListN.{replicate}
use lib.Dec.{eqb}
use borrow.Author.Tests.{ne_eqb}
use native.Mathlib.Omega.{arith}
use Rattle.image.specs.declared.Field.TheVariants.{Count, Pc}
use Rattle.image.specs.Place.{Place, field, Memory}
use Rattle.image.specs.Image.{at}
use Rattle.section.specs.Check.{Code}
use Rattle.working.specs.Cursor.{Cursor, step_no, cursor_at}
use Rattle.worklog.specs.Log.{code_in}
use Rattle.plan.specs.Turn.{stored}
use Rattle.claims.specs.Reference.{Given, initial}
use Rattle.claims.specs.Events.{moved, recorded, ended, but}
use Rattle.claims.specs.Calls.{Traced, is_pc, turn_by}
use Rattle.claims.specs.Claims.{of_worker}
use Rattle.told.specs.Paths.{Paths, paths_of}
use Rattle.told.specs.Turns.{Passage, passage_of}
use Rattle.told.proofs.Accounting.{events_by}
use Rattle.told.proofs.Strides.{jumps}
use Rattle.told.proofs.Pacing.{Anchored, Paced}

-- ---- one worker, by its record, its paths, its sections begun, its passage, its jumps, the section last taken, and its cursor

pub record OnTrack (n : ℕ) (rd : Memory) (e : ℕ) (P : Paths) (mine : List Given) (c : Passage) (j : ℕ) (last : Given) (x : Cursor) : Type 0 where
  pub anchor : Anchored (rd (field Pc e)) (rd (field Count e)) (code_in n rd e) P mine c
  pub pace : Paced (rd (field Pc e)) (rd (field Count e)) (code_in n rd e) P mine j last x c.now

-- the same record
module _ (n : ℕ) (rd rd' : Memory) (e : ℕ) (pc : rd' (field Pc e) ≡ rd (field Pc e)) (count : rd' (field Count e) ≡ rd (field Count e))
    (code : code_in n rd' e ≡ code_in n rd e) (P : Paths) (mine : List Given) (c : Passage) where
  pub anchor-same :
      Anchored (rd (field Pc e)) (rd (field Count e)) (code_in n rd e) P mine c → Anchored (rd' (field Pc e)) (rd' (field Count e)) (code_in n rd' e) P mine c
  anchor-same a = rw (pc, count) (subst (λ (f : Code). Anchored (rd (field Pc e)) (rd (field Count e)) f P mine c) (sym code) a)

  pub pace-same :
      (j : ℕ) (last : Given) (x : Cursor) → Paced (rd (field Pc e)) (rd (field Count e)) (code_in n rd e) P mine j last x c.now
      → Paced (rd' (field Pc e)) (rd' (field Count e)) (code_in n rd' e) P mine j last x c.now
  pace-same j last x a =
      rw (pc, count) (subst (λ (f : Code). Paced (rd (field Pc e)) (rd (field Count e)) f P mine j last x c.now) (sym code) a)

  pub track-same : (j : ℕ) (last : Given) (x : Cursor) → OnTrack n rd e P mine c j last x → OnTrack n rd' e P mine c j last x
  track-same j last x o = record { anchor = anchor-same o.anchor; pace = pace-same j last x o.pace }

module _ (mark n D : ℕ) (cells : List ℕ) where
  abbrev pub paths_in : Traced → ℕ → Paths
  paths_in w e = paths_of e (initial n D cells w.trace.begun) w.trace.order

  -- worker e of a world, with this memory and this cursor
  abbrev pub Steady : Traced → ℕ → Memory → Cursor → Type 0
  Steady w e rd x =
      OnTrack n rd e (paths_in w e) (of_worker e w.trace.begun) (passage_of e w.trace.events) (w.trace.jumps e) (w.trace.last e) x

-- ---- what a store leaves of the trace

module _ (mark n : ℕ) (w : Traced) (d : ℕ) (p : Place) (v : ℕ) (c : Cursor) (left : 0 < w.world.left) where
  abbrev then : Traced
  then = turn_by mark n w d (stored p v c)

  left_over : eqb w.world.left 0 ≡ false
  left_over = ne_eqb w.world.left 0 (λ q. omega arith)

  pub record PlainStore : Type 0 where
    pub begun : then.trace.begun ≡ w.trace.begun
    pub order : then.trace.order ≡ w.trace.order
    pub jumps : then.trace.jumps ≡ w.trace.jumps
    pub last : then.trace.last ≡ w.trace.last
    pub events : events_by mark n w d (stored p v c) ≡ moved d (step_no (cursor_at w.world.cursors d)) ∷ []

  pub plain-store : is_pc p ≡ false → PlainStore
  plain-store h = record { begun = rw h; order = rw h; jumps = rw h; last = rw h; events = rw (left_over, h) }

  pub record PcStore : Type 0 where
    pub begun : then.trace.begun ≡ cond (eqb (at n w.world.image (field Pc d)) 0) (w.trace.begun ++ (w.trace.last d ∷ [])) w.trace.begun
    pub order : then.trace.order ≡ w.trace.order ++ replicate (suc (w.trace.jumps d)) d
    pub jumps : then.trace.jumps ≡ but w.trace.jumps d 0
    pub last : then.trace.last ≡ w.trace.last
    pub events :
        events_by mark n w d (stored p v c)
        ≡ moved d (step_no (cursor_at w.world.cursors d)) ∷ cond (eqb v 0) (ended d) (recorded d (step_no (cursor_at w.world.cursors d))) ∷ []

  pub pc-store : is_pc p ≡ true → PcStore
  pc-store h =
      record { begun = rw (h, left_over); order = rw (h, left_over); jumps = rw (h, left_over); last = rw (h, left_over); events = rw (left_over, h) }
