-- The tally of a run: what it is before the first turn, what a turn adds to it by its answer, and when there is room for one more.
use Rattle.std.specs.Prelude.{ℕ, ◌+◌, ◌<◌, ◌^◌}
use Rattle.tally.specs.declared.Tally.{Tally}

-- nothing counted yet
abbrev pub none : Tally
none = record { turns = 0; waits = 0; stores = 0; free = 0; others = 0 }

-- a turn that stored a word counts in turns and in stores
abbrev pub with_stored : Tally → Tally
with_stored t = record { turns = t.turns + 1; waits = t.waits; stores = t.stores + 1; free = t.free; others = t.others }

-- a jump counts in turns alone
abbrev pub with_jump : Tally → Tally
with_jump t = record { turns = t.turns + 1; waits = t.waits; stores = t.stores; free = t.free; others = t.others }

-- a release that found its lock already free counts in turns and in those
abbrev pub with_already_free : Tally → Tally
with_already_free t = record { turns = t.turns + 1; waits = t.waits; stores = t.stores; free = t.free + 1; others = t.others }

-- and so does one that found its lock another's
abbrev pub with_others : Tally → Tally
with_others t = record { turns = t.turns + 1; waits = t.waits; stores = t.stores; free = t.free; others = t.others + 1 }

-- a turn that waited counts in turns and in waits
abbrev pub with_waiting : Tally → Tally
with_waiting t = record { turns = t.turns + 1; waits = t.waits + 1; stores = t.stores; free = t.free; others = t.others }

-- so many turns that waited
abbrev pub with_waits : ℕ → Tally → Tally
with_waits k t = record { turns = t.turns + k; waits = t.waits + k; stores = t.stores; free = t.free; others = t.others }

-- so many more turns can be counted, whatever their answers: no counter overflows
abbrev pub RoomFor : ℕ → Tally → Type 0
RoomFor k t =
    (t.turns + k < 2 ^ 64)
    × (t.waits + k < 2 ^ 64)
    × (t.stores + k < 2 ^ 64)
    × (t.free + k < 2 ^ 64)
    × (t.others + k < 2 ^ 64)

-- one more
abbrev pub Room : Tally → Type 0
Room t = RoomFor 1 t
