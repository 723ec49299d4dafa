-- An instruction word by itself: whether its kind and fields are in their ranges and it stands where it may (cause 5), and what it does to the
-- set of the locks held.
use Rattle.std.specs.Prelude.{ℕ, ◌+◌, Bool, true, false, ◌&&◌, leb, ltb, eqb}
use Rattle.mask.specs.Mask.{with, without}
use Rattle.code.specs.declared.Op.{Op}
use Rattle.code.specs.declared.Op.TheVariants.{Acquire, Release, Assign, Jump, Finish, Unknown}
use Rattle.code.specs.Table.{highest, kind_of, field_a, field_b, field_c}
use Rattle.code.specs.Op.{op_of}

-- the kind is one of the eight and each field in its range
unfoldable pub in_range : ℕ → ℕ → Bool
in_range own w =
    leb 1 (kind_of w) && leb (kind_of w) 8 && leb (field_a w) (highest own (kind_of w) 0) && leb (field_b w) (highest own (kind_of w) 1) && leb (field_c w)
    (highest own (kind_of w) 2)

-- step i of n is a position that the instruction may have; a jump goes forward and inside
abbrev pub in_place : ℕ → ℕ → Op → Bool
in_place n i (Acquire a) = ltb (i + 1) n
in_place n i (Release a) = ltb (i + 1) n
in_place n i (Assign a e) = ltb (i + 1) n
in_place n i (Jump a b) = ltb i b && ltb b n
in_place n i Finish = eqb (i + 1) n
in_place n i Unknown = false

-- step i of n does not fail cause 5
unfoldable pub well_formed : ℕ → ℕ → ℕ → ℕ → Bool
well_formed own n i w = in_range own w && in_place n i (op_of w)

-- the instruction's lock, if it has one, is one of the 64
abbrev pub lock_ok : Op → Bool
lock_ok (Acquire a) = ltb a 64
lock_ok (Release a) = ltb a 64
lock_ok (Assign a e) = true
lock_ok (Jump a b) = true
lock_ok Finish = true
lock_ok Unknown = true

-- the held set after an instruction
unfoldable pub held_after : ℕ → Op → ℕ
held_after h (Acquire a) = with h a
held_after h (Release a) = without h a
held_after h (Assign a e) = h
held_after h (Jump a b) = h
held_after h Finish = h
held_after h Unknown = h
