-- A row of stores: words from an index up, one by one.
use Rattle.std.specs.Prelude.{ℕ, ◌+◌, ◌-◌, List, [], ◌∷◌}
use Rattle.image.specs.Image.{Image, put}

-- the image after the values of a list are stored from index i up, while stores are left
unfoldable pub put_from : ℕ → Image → ℕ → List ℕ → Image
put_from left m i [] = m
put_from left m i (v ∷ vs) = put_from (left - 1) (put left m i v) (i + 1) vs
