-- What fewest and most mean: the ways through a section, from step to step as its instructions allow, whatever its words hold. Every way takes at
-- least the fewest turns and at most the most, and some way takes just as many. Where no jump lies ahead they are one number.
use Rattle.std.specs.Prelude.{ℕ, suc, ◌<◌, ◌≤◌, ◌≡◌, Bool, true, false, ◌&&◌, ◌||◌, List, [], ◌∷◌, eqb}
use Rattle.code.specs.declared.Op.{Op}
use Rattle.code.specs.declared.Op.TheVariants.{Acquire, Release, Assign, Jump, Finish, Unknown}
use Rattle.code.specs.Op.{op_of, is_finish}
use Rattle.section.specs.Check.{Code, check, passes}
use Rattle.needs.specs.Path.{turns_along}
use Rattle.needs.specs.From.{fewest, most}

-- an instruction at step i may lead to step k
abbrev pub leads : ℕ → ℕ → Op → Bool
leads i k (Acquire a) = eqb k (suc i)
leads i k (Release a) = eqb k (suc i)
leads i k (Assign a e) = eqb k (suc i)
leads i k (Jump a b) = eqb k (suc i) || eqb k b
leads i k Finish = false
leads i k Unknown = false

abbrev pub is_jump : Op → Bool
is_jump (Acquire a) = false
is_jump (Release a) = false
is_jump (Assign a e) = false
is_jump (Jump a b) = true
is_jump Finish = false
is_jump Unknown = false

-- these steps lead on from step i to a finish
unfoldable pub goes_on : Code → ℕ → List ℕ → Bool
goes_on code i [] = is_finish (op_of (code i))
goes_on code i (k ∷ p) = leads i k (op_of (code i)) && goes_on code k p

-- own: the number of own words; n: the number of steps
module _ (own n : ℕ) (code : Code) where
  -- every way from a step of a section that passes the check
  unfoldable pub WaysBetween : Type 0
  WaysBetween =
      passes (check own n code) ≡ true → (i : ℕ) (p : List ℕ) → i < n → goes_on code i p ≡ true
      → (fewest n code i ≤ turns_along code (i ∷ p)) × (turns_along code (i ∷ p) ≤ most n code i)

  -- and neither bound is too wide
  unfoldable pub BoundsMet : Type 0
  BoundsMet =
      passes (check own n code) ≡ true → (i : ℕ) → i < n
      → ((p : List ℕ) × (goes_on code i p ≡ true) × (turns_along code (i ∷ p) ≡ fewest n code i))
      × ((p : List ℕ) × (goes_on code i p ≡ true) × (turns_along code (i ∷ p) ≡ most n code i))

  -- of any words
  unfoldable pub OneWithoutJumps : Type 0
  OneWithoutJumps = (i : ℕ) → ((j : ℕ) → i ≤ j → j < n → is_jump (op_of (code j)) ≡ false) → fewest n code i ≡ most n code i
