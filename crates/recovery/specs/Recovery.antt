-- Recovery: which images it accepts, with its stores and cursors, and which refusal the others get.
use Rattle.std.specs.Prelude.{ℕ, List, [], ◌∷◌, cond}
use Rattle.image.specs.Place.{Store}
use Rattle.image.specs.Image.{Image, at, workers, header_ok}
use Rattle.working.specs.declared.Cursors.{Cursors}
use Rattle.soundness.specs.declared.Refusal.{Refusal}
use Rattle.soundness.specs.declared.Refusal.TheVariants.{Image as ImageRefused, Record, Lock}
use Rattle.soundness.specs.Sound.{unsound, bad_lock}
use Rattle.resuming.specs.Resumed.{resumed_all}
use Rattle.repair.specs.Plan.{plan}

-- what a recovery answers: its stores and cursors, or the refusal (10; 12 by worker; 13 by lowest lock)
pub data Recovered : Type 0 where
  accepted : List Store → Cursors → Recovered
  rejected : Refusal → Recovered

-- refused for the first that was found, if there is one
abbrev pub by_first : (ℕ → Refusal) → Recovered → List ℕ → Recovered
by_first why good [] = good
by_first why good (x ∷ xs) = rejected (why x)

unfoldable pub recovery : ℕ → ℕ → Image → Recovered
recovery mark n m =
    cond (header_ok mark n m)
    (by_first Record
    (by_first Lock (accepted (plan n (at n m) (workers m)) (resumed_all n (at n m) (workers m))) (bad_lock n (at n m) (workers m) 0 64))
    (unsound n (at n m) (workers m) 0 (workers m)))
    (rejected ImageRefused)
