-- The turns along a path through a section: the sum of the table over the steps gone through. (Document 02, 4/14.)
use Rattle.std.specs.Prelude.{ℕ, ◌+◌, Bool, cond, ◌&&◌, List, [], ◌∷◌, ltb, Result, Ok, Err}
use Rattle.code.specs.Table.{turns_of}
use Rattle.code.specs.Form.{well_formed}
use Rattle.section.specs.declared.Fault.{Fault}
use Rattle.section.specs.declared.Fault.TheVariants.{Malformed}
use Rattle.section.specs.Check.{Code}

-- a path is the numbers of its steps
unfoldable pub turns_along : Code → List ℕ → ℕ
turns_along code [] = 0
turns_along code (i ∷ p) = turns_of (code i) + turns_along code p

-- step i is one of n, and does not fail cause 5
unfoldable pub step_ok : ℕ → ℕ → Code → ℕ → Bool
step_ok own n code i = ltb i n && well_formed own n i (code i)

-- the first step of a path that is none, or fails it
unfoldable pub bad_step : ℕ → ℕ → Code → List ℕ → List ℕ
bad_step own n code [] = []
bad_step own n code (i ∷ p) = cond (step_ok own n code i) (bad_step own n code p) (i ∷ [])

-- the turns along a path, or the first of its steps that is none of the section, or fails cause 5
abbrev pub Along : Type 0
Along = Result ℕ Fault

-- refused for the first that was found, if there is one
abbrev pub by_step : ℕ → List ℕ → Along
by_step turns [] = Ok turns
by_step turns (i ∷ is) = Err (Malformed i)

-- what a question about a path is answered
unfoldable pub along_of : ℕ → ℕ → Code → List ℕ → Along
along_of own n code p = by_step (turns_along code p) (bad_step own n code p)
