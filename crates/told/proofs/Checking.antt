-- What a submit answers behind a list of calls and cuts: the header is right and the number of workers the one at the start, and a worker whose cursor is
-- idle has an empty record (its phase), so that of the causes before the check only 1, 2 by the cursor, and 3 are left.
use Prim.Native.Nat.{ℕ, ◌<◌, ◌≤◌}
use mathlib.Core.Path.{◌≡◌, refl}
use mathlib.Core.Bool.{Bool, true, false}
use mathlib.Core.List.{List}
use lib.Dec.{ltb}
use borrow.Author.Tests.{ltb-true, eq-eqb}
use Rattle.image.specs.Image.{at, workers, cells_of}
use Rattle.working.specs.Cursor.{is_idle, cursor_at}
use Rattle.working.proofs.Placed.{idle-is}
use Rattle.intake.specs.Submit.{free, submit_answer}
use Rattle.claims.specs.Calls.{Traced}
use Rattle.claims.specs.Claims.{after}
use Rattle.claims.proofs.Worlds.{Running}
use Rattle.claims.proofs.Submitting.{idle-rests}
use Rattle.told.specs.Checking.{answered, VerdictsHold}
use Rattle.claims.proofs.Durable.{uncut-running}

module _ (mark n D : ℕ) (cells : List ℕ) (w : Traced) (r : Running mark n D cells w) (d : ℕ) (dl : d < D) where
  -- a worker has no section exactly if its cursor is idle
  free-idle : free n w.world d ≡ is_idle (cursor_at w.world.cursors d)
  unfolding free
  free-idle = by (is_idle (cursor_at w.world.cursors d)) refl
    where
      by : (b : Bool) → is_idle (cursor_at w.world.cursors d) ≡ b → free n w.world d ≡ b
      by false e = rw e refl
      by true e =
          let c = cursor_at w.world.cursors d in
          let rest = idle-rests n (at n w.world.image) d (w.trace.last d) c (r.locks d) (w.trace.jumps d) (r.live.phase d dl) (idle-is c e) in
          rw (e, eq-eqb _ 0 rest.count, eq-eqb _ 0 rest.pc) refl

module _ (mark n : ℕ) (wide : 8 ≤ n) (narrow : n ≤ 64) where
  pub verdicts-hold : VerdictsHold mark n
  unfolding VerdictsHold submit_answer
  verdicts-hold m rest xs h l uncut d k ws = by (ltb d (workers m)) refl
    where
      by : (b : Bool) → ltb d (workers m) ≡ b → submit_answer mark n (after mark n m xs).world d k ws ≡ answered mark n m (after mark n m xs) d k ws
      by false e =
          let r = uncut-running mark n wide narrow m rest xs h l uncut in
          rw (r.reached.header, r.reached.many, e)
      by true e =
          let w = after mark n m xs in
          let r = uncut-running mark n wide narrow m rest xs h l uncut in
          rw (r.reached.header, r.reached.many, e, free-idle mark n (workers m) (cells_of m) w r d (ltb-true d (workers m) e))
