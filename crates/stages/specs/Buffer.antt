-- The image in its buffer: it is the buffer's first words, and what is behind them stays.
use Rattle.std.specs.Prelude.{ℕ, ◌≤◌, ◌≡◌, List, length, drop}
use Rattle.edition.specs.Edition.{largest}
use Rattle.stages.specs.declared.Day.{Day}

-- the image lies in its buffer, and the largest would
pub record Holds (m : List ℕ) (d : Day) : Type 0 where
  pub words : d.words ≤ length m
  pub largest : largest ≤ length m

-- the image's buffer was m and is k: it has an image of these words
pub record Buffered (m k : List ℕ) (was now : ℕ) : Type 0 where
  pub words : now ≤ length k
  pub grows : was ≤ now
  pub behind : drop now k ≡ drop now m
