-- What happened in a list of calls, newest last. No call reads it; a store that is not made, since none
-- was left for it, leaves no event.
use Rattle.std.specs.Prelude.{ℕ, cond, eqb}
use Rattle.claims.specs.Reference.{Given}

pub data Event : Type 0 where
  -- a submit was taken
  taken : Given → Event
  -- a turn of a worker, at a step, that stored or passed
  moved : ℕ → ℕ → Event
  -- a turn of a worker that waited at a lock
  waited : ℕ → ℕ → Event
  -- a store of a worker's pc that names a step
  recorded : ℕ → ℕ → Event
  -- a finish has set the worker's pc to 0
  ended : ℕ → Event
  -- a cut or a recovery: the cursors are lost
  lost : Event

-- a function changed at one number
abbrev pub but : {A : Type 0} → (ℕ → A) → ℕ → A → ℕ → A
but f d x e = cond (eqb e d) x (f e)
