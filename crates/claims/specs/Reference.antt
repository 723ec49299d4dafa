-- The reference machine: whole instructions, one at a time. (Document 01 calls it the plain machine.)
use Rattle.std.specs.Prelude.{ℕ, suc, ◌-◌, List, [], ◌∷◌, ◌++◌, Bool, true, false, cond, ◌||◌, get_or, set, replicate, ltb, eqb}
use Rattle.std.proofs.Math.Option.{Option, some, none}
use Rattle.mask.specs.Mask.{has, with, without}
use Rattle.code.specs.declared.Op.{Op}
use Rattle.code.specs.declared.Op.TheVariants.{Acquire, Release, Assign, Jump, Finish, Unknown}
use Rattle.code.specs.Op.{op_of, eval}

-- a section under way: its instruction words, the next step's number, its own words and the locks it holds
pub record Job : Type 0 where
  pub code : List ℕ
  pub next : ℕ
  pub own : List ℕ
  pub held : ℕ

abbrev pub job : List ℕ → ℕ → List ℕ → ℕ → Job
job ws i own h = record { code = ws; next = i; own = own; held = h }

pub record State : Type 0 where
  pub cells : List ℕ
  -- for each worker its sections that have not ended, the first one under way
  pub queues : List (List Job)

abbrev pub state : List ℕ → List (List Job) → State
state cs qs = record { cells = cs; queues = qs }

-- what word number x holds: a cell, or an own word of the job
unfoldable pub read_in : List ℕ → List ℕ → ℕ → ℕ
read_in cells own x = cond (ltb x 512) (get_or cells x 0) (get_or own (x - 512) 0)

-- a worker's section under way holds lock b
abbrev pub held_in : List Job → ℕ → Bool
held_in [] b = false
held_in (j ∷ js) b = has j.held b

-- some worker's does
unfoldable pub taken : List (List Job) → ℕ → Bool
taken [] b = false
taken (q ∷ qs) b = held_in q b || taken qs b

-- the first section of worker d's queue is now j, the cells as they were
abbrev pub onto : State → ℕ → Job → List Job → State
onto s d j js = state s.cells (set s.queues d (j ∷ js))

-- word number x is v, and the job goes on at the next step
abbrev pub assigned : State → ℕ → Job → List Job → ℕ → ℕ → State
assigned s d j js x v =
    cond (ltb x 512)
    (state (set s.cells x v) (set s.queues d (job j.code (suc j.next) j.own j.held ∷ js)))
    (onto s d (job j.code (suc j.next) (set j.own (x - 512) v) j.held) js)

-- one whole instruction of worker d's first section j, with js behind it; none where it is refused
abbrev pub whole : State → ℕ → Job → List Job → Op → Option State
whole s d j js (Acquire a) = cond (taken s.queues a) none (some (onto s d (job j.code (suc j.next) j.own (with j.held a)) js))
whole s d j js (Release a) = some (onto s d (job j.code (suc j.next) j.own (without j.held a)) js)
whole s d j js (Assign a e) = some (assigned s d j js a (eval (read_in s.cells j.own) e))
whole s d j js (Jump a b) = some (onto s d (job j.code (cond (eqb (read_in s.cells j.own a) 0) b (suc j.next)) j.own j.held) js)
whole s d j js Finish = some (state s.cells (set s.queues d js))
whole s d j js Unknown = none

abbrev pub front : State → ℕ → List Job → Option State
front s d [] = none
front s d (j ∷ js) = whole s d j js (op_of (get_or j.code j.next 0))

-- one entry of an order: a whole instruction of worker d's first section
unfoldable pub advance : State → ℕ → Option State
advance s d = front s d (get_or s.queues d [])

abbrev pub and_then : Option State → (State → Option State) → Option State
and_then none f = none
and_then (some s) f = f s

-- an order of workers, refused as soon as one entry is
unfoldable pub follow : State → List ℕ → Option State
follow s [] = some s
follow s (d ∷ ds) = and_then (advance s d) (λ t. follow t ds)

-- no section is left
unfoldable pub none_left : List (List Job) → Bool
none_left [] = true
none_left ([] ∷ qs) = none_left qs
none_left ((j ∷ js) ∷ qs) = false

-- a section submitted: by which worker, under which number, with which arguments and instruction words. The machine reads no number
pub record Given : Type 0 where
  pub worker : ℕ
  pub number : ℕ
  pub args : List ℕ
  pub code : List ℕ

abbrev pub given : ℕ → ℕ → List ℕ → List ℕ → Given
given d k args ws = record { worker = d; number = k; args = args; code = ws }

-- with n own words, of which the first are the arguments and the others 0
abbrev pub start : ℕ → Given → Job
start n g = job g.code 0 (g.args ++ replicate (n - 8) 0) 0

-- a section at the end of its worker's queue
abbrev pub enqueue : ℕ → State → Given → State
enqueue n s g = state s.cells (set s.queues g.worker (get_or s.queues g.worker [] ++ (start n g ∷ [])))

unfoldable pub feed : ℕ → State → List Given → State
feed n s [] = s
feed n s (g ∷ gs) = feed n (enqueue n s g) gs

-- the machine over these cells, with D workers, fed these sections
unfoldable pub initial : ℕ → ℕ → List ℕ → List Given → State
initial n D cells gs = feed n (state cells (replicate D [])) gs
