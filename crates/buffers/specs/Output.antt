-- The bytes of what is printed, and how they are put into the output's buffer: behind the bytes used. What is behind them stays.
use Rattle.std.specs.Prelude.{ℕ, ◌+◌, ◌≤◌, ◌≡◌, List, [], ◌++◌, Some, None, length, take, drop}
use Rattle.frames.specs.Print.{Printed, text_of}

abbrev pub bytes_of : Printed → List ℕ
bytes_of None = []
bytes_of (Some l) = text_of l.at l.value

-- the output's buffer was o and is u: the bytes bs were put at an index
pub record Puts (o u : List ℕ) (at to : ℕ) (bs : List ℕ) : Type 0 where
  pub used : to ≡ at + length bs
  pub room : to ≤ length u
  pub front : take to u ≡ take at o ++ bs
  pub behind : drop to u ≡ drop to o
