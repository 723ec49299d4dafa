-- The owed sets that the tests of a recovery find.
use Rattle.std.specs.Prelude.{ℕ, List, cond}
use Rattle.image.specs.Image.{Image, at, workers, header_ok}
use Rattle.soundness.specs.Sound.{eight, unsound}
use Rattle.soundness.specs.Inner.Reading.{owed_by}

-- all empty where the image or a record is refused
abbrev pub owed_found : ℕ → ℕ → Image → List ℕ
owed_found mark n m =
    cond (header_ok mark n m) (owed_by n (at n m) (workers m) (unsound n (at n m) (workers m) 0 (workers m))) (eight (λ (k : ℕ). 0))
