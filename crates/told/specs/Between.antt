-- What a timetable says before a path is known holds: whatever path the reference machine takes lies between the fewest turns and the most; so do the
-- turns of every section that is over, and for one that a recovery resumes the two numbers are those that its record tells. (Document 02, 4/14.)
use Rattle.std.specs.Prelude.{ℕ, ◌<◌, ◌≤◌, ◌≡◌, true, List, [], ◌∷◌, ◌++◌, length, get_or, Ok}
use Rattle.std.proofs.Math.Option.{some}
use Rattle.image.specs.Image.{workers}
use Rattle.code.specs.Op.{op_of}
use Rattle.section.specs.Check.{Code, code_of}
use Rattle.needs.specs.Path.{turns_along}
use Rattle.needs.specs.From.{lesser, larger, needs_by, fewest, most}
use Rattle.needs.specs.Left.{Left, needs_behind, left_of}
use Rattle.needs.specs.Ways.{goes_on}
use Rattle.claims.specs.Reference.{Given, State, follow, initial}
use Rattle.claims.specs.Calls.{nothing}
use Rattle.claims.specs.Claims.{of_worker, admissible, Always, after}
use Rattle.told.specs.Paths.{paths_of}
use Rattle.told.specs.Turns.{Start, first, resumed, Span, Now, nowhere, fresh, going, closing, passage_of, All}

-- ---- the reference machine

-- a way through a section: from its first step, each leading to the next, to its finish
abbrev pub IsWay : Code → List ℕ → Type 0
IsWay code [] = ⊥
IsWay code (i ∷ p) = (i ≡ 0) × (goes_on code i p ≡ true)

-- a path through a section of these words is a way, and what it takes from any of its steps on lies between the two
pub record Between (ws path : List ℕ) : Type 0 where
  pub way : IsWay (code_of ws) path
  pub least : (p : List ℕ) (i : ℕ) (q : List ℕ) → path ≡ p ++ (i ∷ q) → fewest (length ws) (code_of ws) i ≤ turns_along (code_of ws) (i ∷ q)
  pub greatest : (p : List ℕ) (i : ℕ) (q : List ℕ) → path ≡ p ++ (i ∷ q) → turns_along (code_of ws) (i ∷ q) ≤ most (length ws) (code_of ws) i

-- ---- a section that is over, or begun

-- from where its turns are counted on: over both ways of each jump the one or the other number
abbrev pub bound_by : (ℕ → ℕ → ℕ) → List ℕ → Start → ℕ
bound_by pick ws first = needs_by pick (length ws) (code_of ws) 0
bound_by pick ws (resumed s) = needs_behind pick (length ws) (code_of ws) s (op_of (code_of ws s))

abbrev pub InBounds : Span → Type 0
InBounds x = (bound_by lesser x.section.code x.start ≤ x.turns) × (x.turns ≤ bound_by larger x.section.code x.start)

-- these turns, as the fewest and the most
abbrev pub turns : ℕ → ℕ → Left
turns f m = Ok (record { fewest = f; most = m })

-- what the question about a worker's record is answered, by where the worker is
abbrev pub left_at : Now → Left
left_at nowhere = turns 0 0
left_at (fresh g t) = turns 0 0
left_at (going g b s t) = turns (bound_by lesser g.code (resumed s)) (bound_by larger g.code (resumed s))
left_at (closing k g b t) = turns 0 0

-- mark: word 0 of an image; n: own words in a record
module _ (mark n : ℕ) where
  -- fed sections that pass the check, whatever order it follows: of every section that has ended
  unfoldable pub PathsBetween : Type 0
  PathsBetween =
      (D : ℕ) (cells : List ℕ) (gs : List Given) → admissible mark n D gs ≡ true → (order : List ℕ) (s : State)
      → follow (initial n D cells gs) order ≡ some s
      → (d : ℕ) → d < D → (k : ℕ) → k < length (paths_of d (initial n D cells gs) order).ended
      → Between (get_or (of_worker d gs) k nothing).code (get_or (paths_of d (initial n D cells gs) order).ended k [])

  -- after any list of calls and cuts
  unfoldable pub TurnsBetween : Type 0
  TurnsBetween = Always mark n (λ m xs. (d : ℕ) → d < workers m → All InBounds (passage_of d (after mark n m xs).trace.events).spans)

  -- also right after a cut
  unfoldable pub LeftTold : Type 0
  LeftTold =
      Always mark n (λ m xs.
      (d : ℕ) → d < workers m → left_of mark n (after mark n m xs).world.image d ≡ left_at (passage_of d (after mark n m xs).trace.events).now)
