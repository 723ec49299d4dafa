-- What only the inner functions of a recovery need: records that can be read, and the owed sets in a list.
use Rattle.std.specs.Prelude.{ℕ, suc, zero, ◌%◌, ◌<◌, ◌≤◌, ◌≡◌, true, List, [], ◌∷◌, length, get_or, set}
use Rattle.image.specs.declared.Field.TheVariants.{Count, Pc}
use Rattle.image.specs.Place.{field, Memory}
use Rattle.image.specs.Image.{Image, length_of, at, workers}
use Rattle.code.specs.Form.{in_range}
use Rattle.section.specs.Check.{Code, held_before}
use Rattle.worklog.specs.Log.{code_in}
use Rattle.owed.specs.Owed.{named_step}
use Rattle.soundness.specs.Sound.{eight, owed_at}

-- ---- a section that is begun

-- the pc names a step of a section whose instructions are in their ranges
pub record Begun (n : ℕ) (rd : Memory) (d : ℕ) : Type 0 where
  pub some : 1 ≤ rd (field Pc d) % 9223372036854775808
  pub named : named_step n rd d < rd (field Count d)
  pub most : rd (field Count d) ≤ 64
  pub ranges : (j : ℕ) → j < rd (field Count d) → in_range n (code_in n rd d j) ≡ true

-- worker d has not begun a section, or one that can be read
abbrev pub Legible : ℕ → Memory → ℕ → Type 0
Legible n rd d = (rd (field Pc d) ≡ 0 → ⊥) → Begun n rd d

-- every worker's record can be read
pub record Restorable (n : ℕ) (m : Image) : Type 0 where
  pub few : n ≤ 64
  pub most : workers m ≤ 8
  pub whole : length m ≡ length_of n (workers m)
  pub legible : (d : ℕ) → d < workers m → Legible n (at n m) d

-- a list has the held set before each of the first k steps of worker d's section
abbrev pub Helds : ℕ → Memory → ℕ → ℕ → List ℕ → Type 0
Helds n rd d k held = (j : ℕ) → j < k → get_or held j 0 ≡ held_before (code_in n rd d) j

-- what loading the first k words of a code leaves of a list
unfoldable pub loaded : Code → List ℕ → ℕ → List ℕ
loaded code ws zero = ws
loaded code ws (suc k) = set (loaded code ws k) k (code k)

-- ---- owed sets

-- the owed sets of D workers, by the first of them whose record is not sound: all empty where there is one
abbrev pub owed_by : ℕ → Memory → ℕ → List ℕ → List ℕ
owed_by n rd D [] = eight (owed_at n rd D)
owed_by n rd D (d ∷ ds) = eight (λ (k : ℕ). 0)
