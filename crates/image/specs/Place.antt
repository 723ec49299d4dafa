-- The words of an image by what they are for, and memories: what stands at each such place.
use Rattle.std.specs.Prelude.{ℕ, Bool, ◌&&◌, ltb}
use Rattle.image.specs.declared.Field.{Field}
use Rattle.image.specs.declared.Field.TheVariants.{Count, Pc, Addr0, Val0, Addr1, Val1, Intent, Owned, Number, Finished}

-- a word of an image: a cell (document 01: a board word); a lock's owner word (a bay's lock word); a single word of
-- worker d's record (a desk's); an own word of worker d; an instruction of worker d's section (a step of its ticket)
pub data Place : Type 0 where
  cell : ℕ → Place
  lock : ℕ → Place
  field : Field → ℕ → Place
  own : ℕ → ℕ → Place
  step : ℕ → ℕ → Place

-- the offset of a single word in its record
abbrev pub offset : Field → ℕ
offset Count = 0
offset Pc = 1
offset Addr0 = 2
offset Val0 = 3
offset Addr1 = 4
offset Val1 = 5
offset Intent = 6
offset Owned = 7
offset Number = 8
offset Finished = 9

-- the places of an image of D workers with n own words each
abbrev pub valid : ℕ → ℕ → Place → Bool
valid D n (cell x) = ltb x 512
valid D n (lock b) = ltb b 64
valid D n (field f d) = ltb d D
valid D n (own d i) = ltb d D && ltb i n
valid D n (step d i) = ltb d D && ltb i 64

abbrev pub Memory : Type 0
Memory = Place → ℕ

pub record Store : Type 0 where
  pub place : Place
  pub value : ℕ
