-- What an instruction finds in its worker's record, over a memory of places: the instruction words, the words by the numbers that they
-- have in instructions, and the log. (Document 01, 'Tickets' and the logged store of 'Turns'.)
use Rattle.std.specs.Prelude.{ℕ, ◌+◌, ◌-◌, ◌/◌, ◌^◌, Bool, cond, not, ◌==◌, nat_lt}
use Rattle.image.specs.declared.Field.{Field}
use Rattle.image.specs.declared.Field.TheVariants.{Pc, Addr0, Val0, Addr1, Val1}
use Rattle.image.specs.Place.{Place, cell, field, own, step, Memory}
use Rattle.section.specs.Check.{Code}

-- the place of word number x as worker d names it
unfoldable pub operand : ℕ → ℕ → Place
operand d x = cond (nat_lt x 512) (cell x) (own d (x - 512))

-- n: the number of own words; d: the worker
module _ (n : ℕ) (rd : Memory) (d : ℕ) where
  -- the instruction words in the worker's record
  abbrev pub code_in : Code
  code_in i = rd (step d i)

  -- what word number x holds
  abbrev pub word_in : ℕ → ℕ
  word_in x = rd (operand d x)

  -- the pc's top bit says that log entry 1 is active
  unfoldable pub second : Bool
  second = not (rd (field Pc d) / 2 ^ 63 == 0)

  -- the words of the log entry that is not active, and of the one that is
  unfoldable pub spare_addr : Field
  spare_addr = cond second Addr0 Addr1

  unfoldable pub spare_val : Field
  spare_val = cond second Val0 Val1

  unfoldable pub active_addr : Field
  active_addr = cond second Addr1 Addr0

  unfoldable pub active_val : Field
  active_val = cond second Val1 Val0

  -- the pc that names step s and the entry that is not active now
  unfoldable pub switched : ℕ → ℕ
  switched s = cond second (s + 1) (s + 1 + 2 ^ 63)
