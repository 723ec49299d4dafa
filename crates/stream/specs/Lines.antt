-- Lines of an input, counted for a message.
use Rattle.std.specs.Prelude.{ℕ, ◌+◌, ◌-◌, ◌%◌, ◌^◌, cond, List, take, count_by, ◌==◌}

-- the bytes 10 of a list
abbrev pub ends_in : List ℕ → ℕ
ends_in l = count_by (λ b. b == 10) l

-- the number of the line that ends with the n-th byte, or has it, where so many lines ended before the first
abbrev pub line_at : List ℕ → ℕ → ℕ → ℕ
line_at buf n before = cond (n == 0) before (((before + ends_in (take (n - 1) buf)) % 2 ^ 64 + 1) % 2 ^ 64)
