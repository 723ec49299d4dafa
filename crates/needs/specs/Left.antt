-- What a worker's section still needs after a recovery: the named step from its target store on, and then what the steps behind it need.
-- (Document 02, 4/14.)
use Rattle.std.specs.Prelude.{ℕ, suc, ◌+◌, cond, ltb, eqb, Result, Ok, Err}
use Rattle.image.specs.declared.Field.TheVariants.{Count, Pc}
use Rattle.image.specs.Place.{field, Memory}
use Rattle.image.specs.Image.{Image, at, workers, header_ok}
use Rattle.code.specs.declared.Op.{Op}
use Rattle.code.specs.declared.Op.TheVariants.{Acquire, Release, Assign, Jump, Finish, Unknown}
use Rattle.section.specs.Check.{Code}
use Rattle.worklog.specs.Log.{code_in}
use Rattle.owed.specs.Owed.{named_step, named_op}
use Rattle.soundness.specs.Sound.{sound}
use Rattle.needs.specs.declared.Span.{Span}
use Rattle.needs.specs.declared.Refusal.{Refusal}
use Rattle.needs.specs.declared.Refusal.TheVariants.{Image as ImageRefused, Worker, Record}
use Rattle.needs.specs.From.{needs_by, lesser, larger}

-- the turns of a named instruction after a recovery: a release still has its lock and its intent to store
abbrev pub resumed_turns : Op → ℕ
resumed_turns (Acquire a) = 1
resumed_turns (Release a) = 3
resumed_turns (Assign a e) = 1
resumed_turns (Jump a b) = 1
resumed_turns Finish = 1
resumed_turns Unknown = 1

-- resumed at step s of n, whose instruction this is
abbrev pub needs_behind : (ℕ → ℕ → ℕ) → ℕ → Code → ℕ → Op → ℕ
needs_behind pick n code s x = resumed_turns x + needs_by pick n code (suc s)

-- the fewest turns and the most that a worker's section still needs after a recovery
abbrev pub Left : Type 0
Left = Result Span Refusal

-- n: own words in a record
module _ (n : ℕ) (rd : Memory) (d : ℕ) where
  -- 0 where nothing is begun
  unfoldable pub left_by : (ℕ → ℕ → ℕ) → ℕ
  left_by pick = cond (eqb (rd (field Pc d)) 0) 0 (needs_behind pick (rd (field Count d)) (code_in n rd d) (named_step n rd d) (named_op n rd d))

  abbrev pub span_left : Span
  span_left = record { fewest = left_by lesser; most = left_by larger }

-- what a question about worker d is answered: causes 10, 1, and 12 for its own record
unfoldable pub left_of : ℕ → ℕ → Image → ℕ → Left
left_of mark n m d =
    cond (header_ok mark n m)
    (cond (ltb d (workers m)) (cond (sound n (at n m) d) (Ok (span_left n (at n m) d)) (Err Record)) (Err Worker))
    (Err ImageRefused)
