-- Where the workers go on: those of one worker more.
use Prim.Native.Nat.{ℕ, ◌+◌, ◌<◌}
use borrow.Author.Tests.{lt-ltb, le-ltb}
use mathlib.Core.Path.{◌≡◌, ap}
use mathlib.Core.List.{List}
use native.Mathlib.Decide.{dec_lt}
use native.Mathlib.Omega.{arith}
use lib.ListN.{set}
use Rattle.image.specs.Place.{Memory}
use Rattle.working.specs.Cursor.{Cursor}
use Rattle.resuming.specs.Resumed.{resumed, resumed_at}
use Rattle.soundness.specs.Sound.{eight}
use Rattle.soundness.proofs.Sets.{eight-next}

module _ (n : ℕ) (rd : Memory) (d : ℕ) where
  private-wider : (j : ℕ) → (j ≡ d → ⊥) → resumed_at n rd d j ≡ resumed_at n rd (d + 1) j
  private-wider j h = by (dec_lt j d)
    where
      by : Dec (j < d) → resumed_at n rd d j ≡ resumed_at n rd (d + 1) j
      by (yes l) = rw (lt-ltb j d l, lt-ltb j (d + 1) (omega arith))
      by (no g) = rw (le-ltb j d (omega arith), le-ltb j (d + 1) (omega arith))

  -- the steps, and the turns
  pub places-next : (number : Cursor → ℕ) (l : List ℕ) (v : ℕ) → d < 8 → l ≡ eight (λ k. number (resumed_at n rd d k)) → v ≡ number (resumed n rd d)
      → set l d v ≡ eight (λ k. number (resumed_at n rd (d + 1) k))
  places-next number l v h e f =
      let here : v ≡ number (resumed_at n rd (d + 1) d) = rw (lt-ltb d (d + 1) (omega arith)) f in
      eight-next (λ k. number (resumed_at n rd d k)) (λ k. number (resumed_at n rd (d + 1) k)) l d v h e here (λ j g. ap number (private-wider j g))
