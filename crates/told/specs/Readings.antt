-- What is read off the events of a list of calls: the sections taken, and the sections begun.
use Rattle.std.specs.Prelude.{ℕ, List, [], ◌∷◌, ◌++◌}
use Rattle.claims.specs.Reference.{Given}
use Rattle.claims.specs.Events.{Event, taken, moved, waited, recorded, ended, lost, but}

-- ---- the sections taken

unfoldable pub taken_in : List Event → List Given
taken_in [] = []
taken_in (taken g ∷ es) = g ∷ taken_in es
taken_in (moved d s ∷ es) = taken_in es
taken_in (waited d b ∷ es) = taken_in es
taken_in (recorded d s ∷ es) = taken_in es
taken_in (ended d ∷ es) = taken_in es
taken_in (lost ∷ es) = taken_in es

-- ---- the sections begun: the one taken from a worker is begun with the first store of its pc, if no cut or recovery comes before

-- of each worker the section that is taken and not begun, if there is one; and the sections begun
pub record Reading : Type 0 where
  pub pending : ℕ → List Given
  pub begun : List Given

abbrev pub reading : (ℕ → List Given) → List Given → Reading
reading p b = record { pending = p; begun = b }

abbrev pub learn : Reading → Event → Reading
learn r (taken g) = reading (but r.pending g.worker (g ∷ [])) r.begun
learn r (moved d s) = r
learn r (waited d b) = r
learn r (recorded d s) = reading (but r.pending d []) (r.begun ++ r.pending d)
learn r (ended d) = r
learn r lost = reading (λ d. []) r.begun

unfoldable pub read_from : Reading → List Event → Reading
read_from r [] = r
read_from r (e ∷ es) = read_from (learn r e) es

abbrev pub read_off : List Event → Reading
read_off es = read_from (reading (λ d. []) []) es

abbrev pub begun_in : List Event → List Given
begun_in es = (read_off es).begun
