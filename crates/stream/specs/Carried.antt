-- What goes through the streams, where a reader's or a writer's bytes are known: before a call they are p, and after it q.
use Rattle.std.specs.Prelude.{◌≡◌, ℕ, Bool, true, List, ◌++◌}
use Rattle.std.specs.declared.option.Option.{Option}
use Rattle.std.specs.Io.{StartsWith}
use Rattle.std.specs.Io.KnownBytes.{Appends, Consumes}

-- u are the bytes l, and behind them the reader's next ones
pub record Came (p q : Option (List ℕ)) (l u : List ℕ) : Type 0 where
  pub bytes : List ℕ
  pub read : Consumes p q bytes
  pub behind : u ≡ l ++ bytes

-- the first of the bytes bs are written, and nothing else; all of them where that is said
pub record Written (p q : Option (List ℕ)) (bs : List ℕ) (all : Bool) : Type 0 where
  pub bytes : List ℕ
  pub written : Appends p q bytes
  pub first : StartsWith bs bytes
  pub whole : all ≡ true → bytes ≡ bs
