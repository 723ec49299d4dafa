-- A turn of a round is made by one of eight workers at most (`next-few`).
use Prim.Native.Nat.{ℕ, ◌<◌}
use mathlib.Core.Path.{◌≡◌, refl}
use mathlib.Core.Bool.{Bool, true, false, false≢true}
use borrow.Author.Tests.{ltb-true, ltb-false}
use native.Mathlib.Omega.{arith}
use lib.Dec.{ltb}
use Rattle.image.specs.Image.{workers, header_ok}
use Rattle.image.proofs.Header.{header-workers}
use Rattle.working.specs.World.{World}
use Rattle.turn.specs.Call.{answer_of}
use Rattle.run.specs.Round.{next_in, next_worker, next_outcome}
use Rattle.run.proofs.Next.{next-refused, next-over, next-turn}
use Rattle.lines.specs.Play.{makes}

pub next-few : (mark n : ℕ) (w : World) (d : ℕ) → makes (answer_of n (next_outcome mark n w d)) ≡ true → next_worker mark n w d < 8
next-few mark n w d e = by (header_ok mark n w.image) refl (ltb (next_in w d) (workers w.image)) refl
  where
    by : (h : Bool) → header_ok mark n w.image ≡ h → (t : Bool) → ltb (next_in w d) (workers w.image) ≡ t → next_worker mark n w d < 8
    by false h t f = absurd (false≢true (rw (next-refused mark n w d h).outcome at e))
    by true h false f = absurd (false≢true (rw (next-over mark n w d h (ltb-false _ _ f)).outcome at e))
    by true h true f =
        let l = ltb-true _ _ f in
        rw (next-turn mark n w d h l).worker (omega (arith, (header-workers mark n w.image h).1))
