-- How many turns a section takes to its end, waits left out: just those of the steps that the reference machine goes through for it; and where it
-- is resumed, 3 or 1 for the step that the pc named and those of the steps behind. (Document 02, 4/14.) Turns are counted from the events; the path
-- is the reference machine's, which follows the order of whole instructions (specs/Paths).
use Rattle.std.specs.Prelude.{ℕ, suc, ◌+◌, ◌<◌, ◌≡◌, true, cond, List, [], ◌∷◌, ◌++◌, map, length, get_or, eqb}
use Rattle.image.specs.Image.{Image, workers, cells_of}
use Rattle.code.specs.Op.{op_of}
use Rattle.section.specs.Check.{Code, code_of}
use Rattle.working.specs.Cursor.{idle, cursor_at}
use Rattle.needs.specs.Path.{turns_along}
use Rattle.needs.specs.Left.{resumed_turns}
use Rattle.claims.specs.Reference.{Given, initial}
use Rattle.claims.specs.Events.{Event, taken, moved, waited, recorded, ended, lost}
use Rattle.claims.specs.Calls.{Traced, nothing, Move, plain, machine}
use Rattle.claims.specs.Claims.{of_worker, Rested, Always, after}
use Rattle.told.specs.Once.{among}
use Rattle.told.specs.Paths.{Paths, paths_of}

-- ---- what is read off the events

-- from where a section's turns are counted: from its taking, or from the last loss of the cursors, when the pc named this step
pub data Start : Type 0 where
  first : Start
  resumed : ℕ → Start

-- a section of a worker that is over: its place among those that the worker has ended, counted from 0; and its turns that did not wait
pub record Span : Type 0 where
  pub which : ℕ
  pub section : Given
  pub start : Start
  pub turns : ℕ

abbrev pub span : ℕ → Given → Start → ℕ → Span
span k g s t = record { which = k; section = g; start = s; turns = t }

-- where a worker is in a section, with its turns so far: in none, also where a loss has taken it away; before the first store of its pc; with a pc
-- that names this step; or behind the store that set the pc to 0, with one turn of its finish left
pub data Now : Type 0 where
  nowhere : Now
  fresh : Given → ℕ → Now
  going : Given → Start → ℕ → ℕ → Now
  closing : ℕ → Given → Start → ℕ → Now

-- how many sections of a worker have ended, where it is, and its sections that are over
pub record Passage : Type 0 where
  pub ends : ℕ
  pub now : Now
  pub spans : List Span

abbrev pub passage : ℕ → Now → List Span → Passage
passage k x xs = record { ends = k; now = x; spans = xs }

-- a turn that did not wait
abbrev pub turned : Passage → Now → Passage
turned c nowhere = c
turned c (fresh g t) = passage c.ends (fresh g (suc t)) c.spans
turned c (going g b s t) = passage c.ends (going g b s (suc t)) c.spans
turned c (closing k g b t) = passage c.ends nowhere (c.spans ++ (span k g b (suc t) ∷ []))

-- the pc now names step s
abbrev pub naming : ℕ → Now → Now
naming s nowhere = nowhere
naming s (fresh g t) = going g first s t
naming s (going g b r t) = going g b s t
naming s (closing k g b t) = closing k g b t

-- a finish has set it to 0, as the k-th
abbrev pub finishing : ℕ → Now → Now
finishing k nowhere = nowhere
finishing k (fresh g t) = fresh g t
finishing k (going g b s t) = closing k g b t
finishing k (closing i g b t) = closing i g b t

-- a cut or a recovery: a section that is begun goes on at the step that its pc names
abbrev pub losing : Now → Now
losing nowhere = nowhere
losing (fresh g t) = nowhere
losing (going g b s t) = going g (resumed s) s 0
losing (closing k g b t) = nowhere

-- worker d's passage, on by one event
abbrev pub heed : ℕ → Passage → Event → Passage
heed d c (taken g) = cond (eqb g.worker d) (passage c.ends (fresh g 0) c.spans) c
heed d c (moved e s) = cond (eqb e d) (turned c c.now) c
heed d c (waited e b) = c
heed d c (recorded e s) = cond (eqb e d) (passage c.ends (naming s c.now) c.spans) c
heed d c (ended e) = cond (eqb e d) (passage (suc c.ends) (finishing c.ends c.now) c.spans) c
heed d c lost = passage c.ends (losing c.now) c.spans

unfoldable pub heed_all : ℕ → Passage → List Event → Passage
heed_all d c [] = c
heed_all d c (e ∷ es) = heed_all d (heed d c e) es

abbrev pub passage_of : ℕ → List Event → Passage
passage_of d es = heed_all d (passage 0 nowhere []) es

-- ---- what is claimed of a span

-- the steps behind step s on a path
abbrev pub after_step : ℕ → List ℕ → List ℕ
after_step s [] = []
after_step s (i ∷ p) = cond (eqb i s) p (after_step s p)

abbrev pub OnPath : Start → List ℕ → Type 0
OnPath first p = Unit {0}
OnPath (resumed s) p = among s p ≡ true

-- the turns of a section that goes this path, from where they are counted
abbrev pub needed : Code → Start → List ℕ → ℕ
needed code first p = turns_along code p
needed code (resumed s) p = resumed_turns (op_of (code s)) + turns_along code (after_step s p)

-- of every one of a list
abbrev pub All : {A : Type 0} → (A → Type 0) → List A → Type 0
All P [] = Unit {0}
All P (x ∷ xs) = P x × All P xs

-- mark: word 0 of an image; n: own words in a record
module _ (mark n : ℕ) where
  -- the paths of worker d's sections on the reference machine, fed the sections begun
  abbrev pub walked : Image → Traced → ℕ → Paths
  walked m w d = paths_of d (initial n (workers m) (cells_of m) w.trace.begun) w.trace.order

  pub record Exact (m : Image) (w : Traced) (d : ℕ) (x : Span) : Type 0 where
    -- it is one of those begun, and has ended on the reference machine too
    pub begun : (x.which < length (of_worker d w.trace.begun)) × (get_or (of_worker d w.trace.begun) x.which nothing ≡ x.section)
    pub ended : x.which < length (walked m w d).ended
    -- the step that the pc named is one of its path
    pub named : OnPath x.start (get_or (walked m w d).ended x.which [])
    pub turns : x.turns ≡ needed (code_of x.section.code) x.start (get_or (walked m w d).ended x.which [])

  -- after any list of calls and cuts, also right after a cut, of every section that is over
  unfoldable pub TurnsExact : Type 0
  TurnsExact = Always mark n (λ m xs. (d : ℕ) → d < workers m → All (Exact m (after mark n m xs) d) (passage_of d (after mark n m xs).trace.events).spans)

  -- with no cut and no recovery, and the worker idle: its sections over are those taken from it, all of them, each counted from its taking
  unfoldable pub UncutSpanned : Type 0
  UncutSpanned =
      (m : Image) → Rested mark n m → (xs : List Move) → machine xs ≡ true → plain xs ≡ true
      → (d : ℕ) → d < workers m → cursor_at (after mark n m xs).world.cursors d ≡ idle
      → let spans = (passage_of d (after mark n m xs).trace.events).spans in
      (map (λ x. x.section) spans ≡ of_worker d (after mark n m xs).trace.taken) × All (λ x. x.start ≡ first) spans
