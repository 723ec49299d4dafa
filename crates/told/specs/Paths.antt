-- The steps that a worker's sections go through, read off the reference machine as it follows an order.
use Rattle.std.specs.Prelude.{ℕ, cond, List, [], ◌∷◌, ◌++◌, get_or, eqb}
use Rattle.std.proofs.Math.Option.{Option, some, none}
use Rattle.code.specs.declared.Op.{Op}
use Rattle.code.specs.Op.{op_of, is_finish}
use Rattle.claims.specs.Reference.{Job, State, advance}

-- of each section that has ended, in the order of their beginning, and so far of the one under way
pub record Paths : Type 0 where
  pub ended : List (List ℕ)
  pub under : List ℕ

abbrev pub paths : List (List ℕ) → List ℕ → Paths
paths es u = record { ended = es; under = u }

-- one step more, of this instruction: a finish ends the section
unfoldable pub further : Paths → ℕ → Op → Paths
further p i x =
    let u = p.under ++ (i ∷ []) in
    cond (is_finish x) (paths (p.ended ++ (u ∷ [])) []) (paths p.ended u)

-- an instruction of the first section of a queue
abbrev pub gone : Paths → List Job → Paths
gone p [] = p
gone p (j ∷ js) = further p j.next (op_of (get_or j.code j.next 0))

-- an entry of an order, worker d's or another's
abbrev pub entered : ℕ → Paths → State → ℕ → Paths
entered d p s e = cond (eqb e d) (gone p (get_or s.queues d [])) p

abbrev pub then_on : Option State → Paths → (State → Paths) → Paths
then_on none p f = p
then_on (some s) p f = f s

-- on from p, with the machine in a state, by an order that it follows
unfoldable pub walk : ℕ → Paths → State → List ℕ → Paths
walk d p s [] = p
walk d p s (e ∷ es) = let q = entered d p s e in then_on (advance s e) q (λ t. walk d q t es)

-- all of worker d's, from the machine's initial state
abbrev pub paths_of : ℕ → State → List ℕ → Paths
paths_of d s order = walk d (paths [] []) s order
