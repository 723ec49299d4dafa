-- What the functions that read a record ask: it is one of an image of the right length.
use Rattle.std.specs.Prelude.{ℕ, ◌<◌, ◌≤◌, ◌≡◌, length}
use Rattle.image.specs.Image.{Image, length_of, workers}

pub record Inside (n : ℕ) (m : Image) (d : ℕ) : Type 0 where
  pub few : n ≤ 64
  pub below : d < workers m
  pub most : workers m ≤ 8
  pub whole : length m ≡ length_of n (workers m)
