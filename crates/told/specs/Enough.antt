-- An uncut call is lent 2^64 - 1 stores in the lists of calls (`move`). It might be lent any number that suffices: it leaves the
-- same world but for what is left of that number, and the same trace.
use Rattle.std.specs.Prelude.{ℕ, ◌-◌, ◌^◌, ◌≤◌, ◌≡◌, true}
use Rattle.claims.specs.Calls.{Traced, Call, call, lent, callable}

module _ (mark n : ℕ) where
  -- what a call leaves that is lent enough
  abbrev pub wholly : Call → Traced → Traced
  wholly c w = call mark n c (lent mark n (2 ^ 64 - 1) w)

  -- the stores that it makes
  abbrev pub makes : Call → Traced → ℕ
  makes c w = 2 ^ 64 - 1 - (wholly c w).world.left

  unfoldable pub EnoughIsWhole : Type 0
  EnoughIsWhole =
      (c : Call) → callable c ≡ true → (w : Traced) (k : ℕ) → makes c w ≤ k
      → call mark n c (lent mark n k w) ≡ lent mark n (k - makes c w) (wholly c w)
