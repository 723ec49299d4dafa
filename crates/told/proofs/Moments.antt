-- A fact P of every turn of a run (`rounds-each`), where turns keep an invariant I and I gives P. A round is its turns up to one that is
-- refused.
use Prim.Native.Nat.{ℕ, suc, zero, ◌+◌, ◌<◌, ◌≤◌}
use mathlib.Core.Bool.{Bool, true, false, cond}
use mathlib.Core.List.{List, [], ◌∷◌, ◌++◌}
use native.Mathlib.Omega.{arith}
use Rattle.turn.specs.Call.{outcome_at}
use Rattle.run.specs.Run.{any_open}
use Rattle.claims.specs.Calls.{Traced, turned_at, refuses}
use Rattle.told.specs.Moments.{Moment, moment, Each, in_round, in_rounds}

pub each_append : (P : Moment → Type 0) (xs ys : List Moment) → Each P xs → Each P ys → Each P (xs ++ ys)
each_append P [] ys a b = b
each_append P (x ∷ xs) ys a b = (a.0, each_append P xs ys a.1 b)

each-cond : (P : Moment → Type 0) (t : Bool) (xs ys : List Moment) → Each P xs → Each P ys → Each P (cond t xs ys)
each-cond P true xs ys a b = a
each-cond P false xs ys a b = b

module _
    (mark n D : ℕ) (I : Traced → Type 0) (P : Moment → Type 0) (keeps : (w : Traced) (d : ℕ) → d < D → I w → I (turned_at mark n w d))
    (gives : (w : Traced) (d : ℕ) → d < D → I w → P (moment w d)) where
  round-each :
      (rest : Traced → List Moment) → ((w : Traced) → I w → Each P (rest w)) → (k d : ℕ) (w : Traced) → d + k ≤ D → I w
      → Each P (in_round mark n rest w d k)
  unfolding in_round
  round-each rest more zero d w l i = more w i
  round-each rest more (suc k) d w l i = (
    gives w d (omega arith) i,
    each-cond P (refuses mark n (outcome_at n w.world d)) [] _ tt
        (round-each rest more k (d + 1) (turned_at mark n w d) (omega arith) (keeps w d (omega arith) i)),
  )

  pub rounds-each : (r : ℕ) (w : Traced) → I w → Each P (in_rounds mark n r D w)
  unfolding in_rounds
  rounds-each zero w i = tt
  rounds-each (suc r) w i =
      each-cond P (any_open D 0 w.world.cursors) (in_round mark n (in_rounds mark n r D) w 0 D) []
      (round-each (in_rounds mark n r D) (rounds-each r) D 0 w (omega arith) i) tt
