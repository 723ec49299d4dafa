-- Where the workers go on after an accepted recovery.
use Rattle.std.specs.Prelude.{ℕ, cond, ltb, eqb}
use Rattle.mask.specs.Mask.{union}
use Rattle.image.specs.declared.Field.TheVariants.{Pc}
use Rattle.image.specs.Place.{field, Memory}
use Rattle.code.specs.declared.Op.{Op}
use Rattle.code.specs.declared.Op.TheVariants.{Acquire, Release, Assign, Jump, Finish, Unknown}
use Rattle.working.specs.declared.Cursors.{Cursors}
use Rattle.working.specs.Cursor.{Cursor, idle, on, step_no, turn_no}
use Rattle.owed.specs.Owed.{named_step, named_op, owed}
use Rattle.soundness.specs.Sound.{eight}

-- the turn of an instruction's logged store; of the others the first is named
abbrev pub target_turn : Op → ℕ
target_turn (Acquire a) = 5
target_turn (Release a) = 3
target_turn (Assign a e) = 3
target_turn (Jump a b) = 0
target_turn Finish = 0
target_turn Unknown = 0

-- n: own words in a record
module _ (n : ℕ) (rd : Memory) where
  -- where worker d goes on
  unfoldable pub resumed : ℕ → Cursor
  resumed d = cond (eqb (rd (field Pc d)) 0) idle (on (named_step n rd d) (target_turn (named_op n rd d)))

  -- the cursors after it: the begun go on, all others are idle
  abbrev pub resumed_at : ℕ → ℕ → Cursor
  resumed_at D d = cond (ltb d D) (resumed d) idle

  -- with the locks held that they are owed
  unfoldable pub resumed_all : ℕ → Cursors
  resumed_all D = record { step = eight (λ d. step_no (resumed_at D d)); turn = eight (λ d. turn_no (resumed_at D d)); held = union (owed n rd) D }
