-- The jumps that a worker has made since its last instruction counted, on the reference machine: they change only the number of
-- the job's next step. A jump keeps the held set, so that all of them read words whose locks are held, and these are the same
-- in the memory and in the state. By induction on the jumps.
use Prim.Native.Nat.{ℕ, suc, ◌+◌, ◌<◌}
use mathlib.Core.Path.{◌≡◌, ap, ◌∙◌}
use mathlib.Core.Bool.{true, cond}
use mathlib.Core.List.{List, [], ◌∷◌}
use mathlib.Core.Option.{some}
use lib.ListN.{length, get_or, replicate}
use lib.Seq.{get_or-set_same, set-set}
use lib.Dec.{eqb}
use Rattle.image.specs.declared.Field.TheVariants.{Count}
use Rattle.image.specs.Place.{field, step, Memory}
use Rattle.code.specs.declared.Op.TheVariants.{Jump}
use Rattle.code.specs.Op.{op_of}
use Rattle.rules.specs.Rules.{covered}
use Rattle.section.specs.Valid.{Valid}
use Rattle.code.proofs.Ranges.{jump-range}
use Rattle.worklog.specs.Log.{code_in, word_in}
use Rattle.claims.specs.Reference.{Job, job, State, state, read_in, onto, advance, follow}
use Rattle.claims.proofs.Invariant.{op_at, held_at, Jumps, stay, leap}
use Rattle.claims.proofs.Machine.{follow-none, follow-last, advance-jump}
use Rattle.claims.proofs.Frame.{jumps-held}

-- worker d's section is before step k
abbrev pub standing : State → ℕ → List ℕ → List ℕ → ℕ → ℕ → State
standing S d c o h k = onto S d (job c k o h) []

module _ (n : ℕ) (rd : Memory) (d : ℕ) (val : Valid n (rd (field Count d)) (code_in n rd d)) (i : ℕ) where
  module _ (S : State) (c o : List ℕ) (h : ℕ) (room : d < length S.queues) (code : (x : ℕ) → x < rd (field Count d) → get_or c x 0 ≡ rd (step d x))
      (reads : (x : ℕ) → covered (held_at n rd d i) x ≡ true → x < 512 + n → read_in S.cells o x ≡ word_in n rd d x) where
    jump-once : (k a b : ℕ) → held_at n rd d k ≡ held_at n rd d i → k < rd (field Count d) → op_at n rd d k ≡ Jump a b
        → advance (standing S d c o h k) d ≡ some (standing S d c o h (cond (eqb (word_in n rd d a) 0) b (suc k)))
    jump-once k a b e l p =
        let q : read_in S.cells o a ≡ word_in n rd d a = reads a (rw (← e) (val.tests k a b l p)) (jump-range n (code_in n rd d k) a b (val.ranges k l) p) in
        advance-jump (standing S d c o h k) d (job c k o h) [] (get_or-set_same S.queues d (job c k o h ∷ []) [] room) a b (ap op_of (code k l) ∙ p)
        ∙ rw q (ap (λ (qs : List (List Job)). some (state S.cells qs)) (set-set S.queues d (job c k o h ∷ []) _))

    pub jumps-follow : {j k : ℕ} → Jumps n rd d i j k → follow (standing S d c o h i) (replicate j d) ≡ some (standing S d c o h k)
    jumps-follow stay = follow-none (standing S d c o h i)
    jumps-follow (leap j k a b J l p) =
        follow-last (standing S d c o h i) (standing S d c o h k) (standing S d c o h (cond (eqb (word_in n rd d a) 0) b (suc k))) j d (jumps-follow J)
        (jump-once k a b (jumps-held n rd d i j k val J) l p)
