-- Several turns counted at once, where none of them waited: those that passed are told by themselves, and the others stored a word each.
use Rattle.std.specs.Prelude.{ℕ, ◌+◌, ◌-◌}
use Rattle.tally.specs.declared.Tally.{Tally}
use Rattle.tally.specs.declared.Passes.{Passes}

abbrev pub no_passes : Passes
no_passes = record { jumps = 0; free = 0; others = 0 }

-- how many passed
abbrev pub passed : Passes → ℕ
passed p = p.jumps + p.free + p.others

-- one more: a jump, a release that found its lock already free, one that found it another's
abbrev pub with_passed_jump : Passes → Passes
with_passed_jump p = record { jumps = p.jumps + 1; free = p.free; others = p.others }

abbrev pub with_passed_free : Passes → Passes
with_passed_free p = record { jumps = p.jumps; free = p.free + 1; others = p.others }

abbrev pub with_passed_others : Passes → Passes
with_passed_others p = record { jumps = p.jumps; free = p.free; others = p.others + 1 }

-- the tally after k turns of which these passed
abbrev pub with_turns : ℕ → Passes → Tally → Tally
with_turns k p t =
    record { turns = t.turns + k; waits = t.waits; stores = t.stores + (k - passed p); free = t.free + p.free; others = t.others + p.others }
