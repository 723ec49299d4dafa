-- Where a record has a worker, by the two numbers.
use Rattle.std.specs.Prelude.{ℕ, ◌<◌, ◌≡◌, length, get_or}
use Rattle.working.specs.declared.Cursors.{Cursors}

-- the record has worker d, with these numbers
pub record At (c : Cursors) (d s t : ℕ) : Type 0 where
  pub inside : d < length c.turn
  pub step : get_or c.step d 0 ≡ s
  pub turn : get_or c.turn d 0 ≡ t
