-- What one turn does to the invariant, as statements: which word a store of worker d touches, with the locks that it has
-- afterwards, and where the worker then stands.
use Prim.Native.Nat.{ℕ, ◌+◌, ◌/◌, ◌<◌}
use mathlib.Core.Path.{◌≡◌}
use mathlib.Core.Logic.{◌≢◌}
use mathlib.Core.Bool.{true, cond}
use Rattle.mask.specs.Mask.{has, with, without}
use Rattle.image.specs.declared.Field.{Field}
use Rattle.image.specs.Place.{Place, cell, lock, field, own, Memory}
use Rattle.image.specs.Inner.Same.{upd}
use Rattle.working.specs.Cursor.{Cursor}
use Rattle.plan.specs.Turn.{Outcome, stored, passed, waiting, resting, refused}
use Rattle.claims.specs.Reference.{Given}
use Rattle.claims.specs.Events.{but}
use Rattle.claims.specs.Calls.{is_pc, jumps_by}
use Rattle.claims.proofs.Invariant.{Phase, Live}

-- a store of worker d that has these locks: a word of its record, an own word, a cell whose lock it has, a free lock taken, a
-- lock that it has given back; and the locks that it has then
pub data Touches (n : ℕ) (rd : Memory) (d locks : ℕ) : Place → ℕ → ℕ → Type 0 where
  in_record : (f : Field) (v : ℕ) → Touches n rd d locks (field f d) v locks
  own_word : (i v : ℕ) → i < n → Touches n rd d locks (own d i) v locks
  own_cell : (x v : ℕ) → x < 512 → has locks (x / 8) ≡ true → Touches n rd d locks (cell x) v locks
  takes : (a : ℕ) → a < 64 → rd (lock a) ≡ 0 → Touches n rd d locks (lock a) (d + 1) (with locks a)
  frees : (a : ℕ) → a < 64 → has locks a ≡ true → Touches n rd d locks (lock a) 0 (without locks a)

-- where worker d stands after a turn, by its outcome: a turn is never refused; a lock waited for is above all that it has, and
-- not free
abbrev pub Stepped : ℕ → Memory → ℕ → Given → ℕ → ℕ → Outcome → Type 0
Stepped n rd d g locks j (stored p v c) = (locks' : ℕ) × Touches n rd d locks p v locks' × Phase n (upd rd p v) d g c locks' (cond (is_pc p) 0 j)
Stepped n rd d g locks j (passed why c) = Phase n rd d g c locks (jumps_by why j)
Stepped n rd d g locks j (waiting b) = (b < 64) × (rd (lock b) ≢ 0) × ((a : ℕ) → has locks a ≡ true → a < b)
Stepped n rd d g locks j resting = Unit {0}
Stepped n rd d g locks j (refused r) = ⊥

-- all workers after a turn of worker d
abbrev pub Went : ℕ → ℕ → Memory → (ℕ → Cursor) → (ℕ → ℕ) → (ℕ → ℕ) → (ℕ → Given) → ℕ → Outcome → Type 0
Went n D rd cursor locks jumps given d (stored p v c) =
    (locks' : ℕ) × Touches n rd d (locks d) p v locks' × Live n D (upd rd p v) (but cursor d c) (but locks d locks') (but jumps d (cond (is_pc p) 0 (jumps d)))
    given
Went n D rd cursor locks jumps given d (passed why c) = Live n D rd (but cursor d c) locks (but jumps d (jumps_by why (jumps d))) given
Went n D rd cursor locks jumps given d (waiting b) = (b < 64) × (rd (lock b) ≢ 0) × ((a : ℕ) → has (locks d) a ≡ true → a < b)
Went n D rd cursor locks jumps given d resting = Unit {0}
Went n D rd cursor locks jumps given d (refused r) = ⊥
