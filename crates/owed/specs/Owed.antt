-- What the pc names in a record, what its worker is owed, whether its log entry is that of the instruction named; who is owed a lock, and
-- whether a lock's owner word is right. (Document 01: the owed set, and the parts of 'sound'.)
use Rattle.std.specs.Prelude.{ℕ, suc, zero, ◌+◌, ◌-◌, ◌%◌, ◌^◌, Bool, true, false, cond, ◌&&◌, ◌||◌, not, ltb, eqb}
use Rattle.mask.specs.Mask.{has}
use Rattle.image.specs.declared.Field.TheVariants.{Pc, Intent, Owned}
use Rattle.image.specs.Place.{Place, field, Memory}
use Rattle.image.specs.Image.{index_of}
use Rattle.code.specs.declared.Op.{Op}
use Rattle.code.specs.declared.Op.TheVariants.{Acquire, Release, Assign, Jump, Finish, Unknown}
use Rattle.code.specs.Op.{op_of}
use Rattle.section.specs.Check.{held_before}
use Rattle.worklog.specs.Log.{operand, code_in, active_addr, active_val}

-- every lock of `small`, below b, is in `big`
unfoldable pub covers : ℕ → ℕ → ℕ → Bool
covers big small zero = true
covers big small (suc b) = (not (has small b) || has big b) && covers big small b

-- the place at which an instruction's logged store is made; of the others the first is named
abbrev pub target_of : ℕ → Op → Place
target_of d (Acquire a) = field Owned d
target_of d (Release a) = field Owned d
target_of d (Assign a e) = operand d a
target_of d (Jump a b) = field Owned d
target_of d Finish = field Owned d
target_of d Unknown = field Owned d

-- what is owed at an instruction, from the held set after it and the set owned: an acquire's lock may be taken and not yet owned
abbrev pub owed_of : Op → ℕ → ℕ → ℕ
owed_of (Acquire a) next owned = next
owed_of (Release a) next owned = owned
owed_of (Assign a e) next owned = owned
owed_of (Jump a b) next owned = owned
owed_of Finish next owned = owned
owed_of Unknown next owned = owned

-- how many of the first k sets have lock b
unfoldable pub claimants : (ℕ → ℕ) → ℕ → ℕ → ℕ
claimants sets b zero = 0
claimants sets b (suc k) = cond (has (sets k) b) 1 0 + claimants sets b k

-- n: own words in a record
module _ (n : ℕ) (rd : Memory) where
  module _ (d : ℕ) where
    -- the step that the pc names, its instruction, and the held sets before and after it
    unfoldable pub named_step : ℕ
    named_step = rd (field Pc d) % 2 ^ 63 - 1

    unfoldable pub named_op : Op
    named_op = op_of (code_in n rd d named_step)

    abbrev pub held_here : ℕ
    held_here = held_before (code_in n rd d) named_step

    abbrev pub held_next : ℕ
    held_next = held_before (code_in n rd d) (suc named_step)

    -- the locks that worker d is to have (document 01: the owed set)
    unfoldable pub owed : ℕ
    owed = cond (eqb (rd (field Pc d)) 0) 0 (owed_of named_op held_next (rd (field Owned d)))

    -- the active log entry is for the owned word, with this set
    abbrev pub set_logged : ℕ → Bool
    set_logged set = eqb (rd (field (active_addr n rd d) d)) (index_of n (field Owned d)) && eqb (rd (field (active_val n rd d) d)) set

    -- the named instruction is logged, at the active entry's address; of an acquire or a release its value is the held set after it
    abbrev pub entry_ok : Op → Bool
    entry_ok (Acquire a) = set_logged held_next
    entry_ok (Release a) = set_logged held_next
    entry_ok (Assign a e) = eqb (rd (field (active_addr n rd d) d)) (index_of n (operand d a))
    entry_ok (Jump a b) = false
    entry_ok Finish = false
    entry_ok Unknown = false

  -- D: the number of workers
  module _ (D : ℕ) where
    -- an owner word that is not 0 names a worker that intends the lock
    abbrev pub owner_ok : ℕ → ℕ → Bool
    owner_ok b zero = true
    owner_ok b (suc d) = ltb d D && has (rd (field Intent d)) b
