-- The invariants of memories, said once: where each worker stands in its section (`Phase`), who has which lock (`Live`), what
-- a recovery accepts (`Crashed`), and which state of the reference machine a memory stands for (`Mirrors`).
-- rd: a memory; n: own words in a record; D: the number of workers; h: a held set; locks: the locks whose owner words name a
-- worker; j: the jumps that it has made since its last instruction was counted; g: the section last taken from it.
use Prim.Native.Nat.{ℕ, suc, ◌+◌, ◌-◌, ◌%◌, ◌^◌, ◌<◌, ◌≤◌}
use mathlib.Core.Path.{◌≡◌}
use mathlib.Core.Logic.{◌≢◌, ◌⊎◌}
use mathlib.Core.Bool.{true, cond}
use mathlib.Core.List.{[], ◌∷◌, ◌++◌}
use lib.ListN.{length, get_or, replicate}
use lib.Dec.{leb, eqb}
use Rattle.mask.specs.Mask.{has, with, without}
use Rattle.image.specs.declared.Field.TheVariants.{Count, Pc, Intent, Owned, Number, Finished}
use Rattle.image.specs.Place.{cell, lock, field, own, step, Memory}
use Rattle.image.specs.Image.{index_of}
use Rattle.code.specs.declared.Op.{Op}
use Rattle.code.specs.declared.Op.TheVariants.{Acquire, Release, Assign, Jump, Finish, Unknown}
use Rattle.code.specs.Op.{op_of, eval}
use Rattle.section.specs.Check.{held_before}
use Rattle.section.specs.Valid.{Valid}
use Rattle.working.specs.Cursor.{Cursor, idle, on}
use Rattle.worklog.specs.Log.{operand, code_in, word_in, spare_addr, spare_val, active_addr, active_val}
use Rattle.owed.specs.Owed.{target_of, named_step}
use Rattle.soundness.specs.Sound.{sound, lock_ok}
use Rattle.resuming.specs.Resumed.{target_turn}
use Rattle.claims.specs.Reference.{Given, Job, State}
use Rattle.claims.proofs.Virtual.{virtual}

module _ (n : ℕ) (rd : Memory) (d : ℕ) where
  abbrev pub op_at : ℕ → Op
  op_at s = op_of (code_in n rd d s)

  abbrev pub held_at : ℕ → ℕ
  held_at s = held_before (code_in n rd d) s

  -- the record holds a section that passes the check, with a number that may be under way
  pub record Sectioned : Type 0 where
    pub valid : Valid n (rd (field Count d)) (code_in n rd d)
    pub numbered : 1 ≤ rd (field Number d)
    pub unfinished : rd (field Finished d) ≤ rd (field Number d)

  -- the value that an acquire or a release logs is the held set after it
  abbrev pub logs_held : ℕ → Op → Type 0
  logs_held s (Acquire a) = rd (field (active_val n rd d) d) ≡ held_at (suc s)
  logs_held s (Release a) = rd (field (active_val n rd d) d) ≡ held_at (suc s)
  logs_held s (Assign a e) = Unit {0}
  logs_held s (Jump a b) = ⊥
  logs_held s Finish = ⊥
  logs_held s Unknown = ⊥

  -- the pc names step s, a logged instruction, and the active entry is that step's
  pub record Named (s : ℕ) : Type 0 where
    pub pc : rd (field Pc d) % 2 ^ 63 ≡ suc s
    pub below : s < rd (field Count d)
    pub address : rd (field (active_addr n rd d) d) ≡ index_of n (target_of d (op_at s))
    pub logs : logs_held s (op_at s)

  -- how far turn t of step s has come before the step's pc is stored, with h held before it: by the instruction
  abbrev pub Nearing : ℕ → ℕ → ℕ → ℕ → Op → Type 0
  Nearing s t h locks (Acquire a) =
      (t ≤ 4)
      × (rd (field Intent d) ≡ cond (eqb t 0) h (with h a))
      × (locks ≡ cond (leb t 1) h (with h a))
      × (3 ≤ t → rd (field (spare_addr n rd d) d) ≡ index_of n (field Owned d))
      × (4 ≤ t → rd (field (spare_val n rd d) d) ≡ with h a)
  Nearing s t h locks (Release a) =
      (t ≤ 2)
      × (rd (field Intent d) ≡ h)
      × (locks ≡ h)
      × (1 ≤ t → rd (field (spare_addr n rd d) d) ≡ index_of n (field Owned d))
      × (2 ≤ t → rd (field (spare_val n rd d) d) ≡ without h a)
  Nearing s t h locks (Assign a e) =
      (t ≤ 2)
      × (rd (field Intent d) ≡ h)
      × (locks ≡ h)
      × (1 ≤ t → rd (field (spare_addr n rd d) d) ≡ index_of n (operand d a))
      × (2 ≤ t → rd (field (spare_val n rd d) d) ≡ eval (word_in n rd d) e)
  Nearing s t h locks (Jump a b) = (t ≡ 0) × (rd (field Intent d) ≡ h) × (locks ≡ h)
  Nearing s t h locks Finish = (t ≤ 1) × (rd (field Intent d) ≡ h) × (locks ≡ h) × (1 ≤ t → rd (field Finished d) ≡ rd (field Number d))
  Nearing s t h locks Unknown = ⊥

  -- what is owned, intended and locked while step s's target store is due: by the instruction
  abbrev pub Due : ℕ → ℕ → Op → Type 0
  Due s locks (Acquire a) = ((rd (field Owned d) ≡ held_at s) ⊎ (rd (field Owned d) ≡ held_at (suc s))) × (rd (field Intent d) ≡ held_at (suc s)) ×
      (locks ≡ held_at (suc s))
  Due s locks (Release a) =
      (((rd (field Owned d) ≡ held_at s) × (rd (field Intent d) ≡ held_at s))
      ⊎ ((rd (field Owned d) ≡ held_at (suc s)) × (rd (field Intent d) ≡ held_at (suc s))))
      × (locks ≡ rd (field Intent d))
  Due s locks (Assign a e) = (rd (field Owned d) ≡ held_at s) × (rd (field Intent d) ≡ held_at s) × (locks ≡ held_at s)
  Due s locks (Jump a b) = ⊥
  Due s locks Finish = ⊥
  Due s locks Unknown = ⊥

  -- j jumps lead from step i to step k
  pub data Jumps (i : ℕ) : ℕ → ℕ → Type 0 where
    stay : Jumps i 0 i
    leap : (j k a b : ℕ) → Jumps i j k → k < rd (field Count d) → op_at k ≡ Jump a b → Jumps i (suc j) (cond (eqb (word_in n rd d a) 0) b (suc k))

  -- the record holds the section as it was submitted
  pub record Lodged (g : Given) : Type 0 where
    pub by : g.worker ≡ d
    pub numbered : g.number ≡ rd (field Number d)
    pub code : (i : ℕ) → i < rd (field Count d) → get_or g.code i 0 ≡ rd (step d i)
    pub size : length (g.args ++ replicate (n - 8) 0) ≡ n
    pub args : (i : ℕ) → i < n → get_or (g.args ++ replicate (n - 8) 0) i 0 ≡ rd (own d i)

  -- where worker d stands: its cursor, its locks, its jumps
  pub data Phase (g : Given) : Cursor → ℕ → ℕ → Type 0 where
    -- no section
    resting : rd (field Count d) ≡ 0 → rd (field Pc d) ≡ 0 → rd (field Intent d) ≡ 0 → rd (field Owned d) ≡ 0 → Phase g idle 0 0
    -- a section that is not begun
    fresh :
        (t locks : ℕ) → Sectioned → Lodged g → rd (field Pc d) ≡ 0 → rd (field Owned d) ≡ 0 → Nearing 0 t 0 locks (op_at 0)
        → Phase g (on 0 t) locks 0
    -- the pc names step s, whose target store is next; also after recovery
    due : (s locks : ℕ) → Sectioned → Named s → Due s locks (op_at s) → Phase g (on s (target_turn (op_at s))) locks 0
    -- a release whose target store is made: its lock is next, and then its intent
    unlocking :
        (s a locks : ℕ) → Sectioned → Named s → op_at s ≡ Release a → rd (field Owned d) ≡ held_at (suc s)
        → (rd (field Intent d) ≡ held_at s) ⊎ (rd (field Intent d) ≡ held_at (suc s)) → locks ≡ rd (field Intent d) → Phase g (on s 4) locks 0
    unlocked :
        (s a locks : ℕ) → Sectioned → Named s → op_at s ≡ Release a → rd (field Owned d) ≡ held_at (suc s)
        → (rd (field Intent d) ≡ held_at s) ⊎ (rd (field Intent d) ≡ held_at (suc s)) → locks ≡ held_at (suc s) → Phase g (on s 5) locks 0
    -- step s is over, and step k, to which jumps lead from behind it, has not been counted
    between :
        (s k t locks j : ℕ) → Sectioned → Named s → rd (target_of d (op_at s)) ≡ rd (field (active_val n rd d) d) → Jumps (suc s) j k → k < rd (field Count d)
        → rd (field Owned d) ≡ held_at k → held_at k ≡ held_at (suc s) → Nearing k t (held_at k) locks (op_at k) → Phase g (on k t) locks j
    -- a finish whose pc is stored: its count is next
    ended : (s : ℕ) → Sectioned → rd (field Pc d) ≡ 0 → rd (field Owned d) ≡ 0 → rd (field Intent d) ≡ 0 → s < rd (field Count d) → op_at s ≡ Finish
        → Phase g (on s 2) 0 0

-- between calls, with the cursors known
pub record Live (n D : ℕ) (rd : Memory) (cursor : ℕ → Cursor) (locks : ℕ → ℕ) (jumps : ℕ → ℕ) (given : ℕ → Given) : Type 0 where
  pub phase : (d : ℕ) → d < D → Phase n rd d (given d) (cursor d) (locks d) (jumps d)
  -- a lock's owner word names exactly the worker that has the lock
  pub locked : (b d : ℕ) → b < 64 → d < D → has (locks d) b ≡ true → rd (lock b) ≡ d + 1
  pub owner : (b d : ℕ) → b < 64 → rd (lock b) ≡ d + 1 → (d < D) × (has (locks d) b ≡ true)

-- after a cut, with the cursors lost: a recovery accepts
pub record Crashed (n D : ℕ) (rd : Memory) : Type 0 where
  pub sounds : (d : ℕ) → d < D → sound n rd d ≡ true
  pub locks : (b : ℕ) → b < 64 → lock_ok n rd D b ≡ true

-- a section under way in the memory, as a job of the reference machine: the named instruction counts
pub record JobOf (n D : ℕ) (rd : Memory) (d : ℕ) (j : Job) : Type 0 where
  pub next : j.next ≡ suc (named_step n rd d)
  pub held : j.held ≡ virtual n rd D (field Owned d)
  pub size : length j.own ≡ n
  pub own : (i : ℕ) → i < n → get_or j.own i 0 ≡ virtual n rd D (own d i)
  pub code : (i : ℕ) → i < rd (field Count d) → get_or j.code i 0 ≡ rd (step d i)

-- the memory stands for this state of the reference machine
pub record Mirrors (n D : ℕ) (rd : Memory) (s : State) : Type 0 where
  pub size : length s.cells ≡ 512
  pub cells : (x : ℕ) → x < 512 → get_or s.cells x 0 ≡ virtual n rd D (cell x)
  pub workers : length s.queues ≡ D
  pub none : (d : ℕ) → d < D → rd (field Pc d) ≡ 0 → get_or s.queues d [] ≡ []
  pub some : (d : ℕ) → d < D → rd (field Pc d) ≢ 0 → (j : Job) × (get_or s.queues d [] ≡ j ∷ []) × JobOf n D rd d j
