-- What the calls read and change: the image, the working record and the stores left.
use Rattle.std.specs.Prelude.{ℕ}
use Rattle.image.specs.Image.{Image}
use Rattle.working.specs.declared.Cursors.{Cursors}

pub record World : Type 0 where
  pub image : Image
  pub cursors : Cursors
  pub left : ℕ

abbrev pub world : Image → Cursors → ℕ → World
world m c k = record { image = m; cursors = c; left = k }
