-- What each answer of the check means, said without the order in which it tests. (Document 02, 6/14: the first of causes 4 to 9 that the steps
-- fail, in document 01's order, or that they pass.)
use Rattle.std.specs.Prelude.{ℕ, ◌<◌, ◌≡◌, Bool, true, false, Ok, Err}
use Rattle.code.specs.Op.{op_of}
use Rattle.code.specs.Form.{well_formed}
use Rattle.rules.specs.Rules.{bracketed, ordered, guarded}
use Rattle.section.specs.declared.Fault.TheVariants.{Length, Malformed, Unbracketed, Unordered, Unguarded, Unlevel}
use Rattle.section.specs.Check.{Code, Verdict, held_before, level}
use Rattle.section.specs.Sets.{length_ok}
use Rattle.section.specs.Valid.{Valid}

-- step i of n meets cause 5
abbrev pub formed_at : ℕ → ℕ → Code → ℕ → Bool
formed_at own n code i = well_formed own n i (code i)

-- and each of causes 6 to 9
abbrev pub bracketed_at : Code → ℕ → Bool
bracketed_at code i = bracketed i (held_before code i) (op_of (code i))

abbrev pub ordered_at : Code → ℕ → Bool
ordered_at code i = ordered (held_before code i) (op_of (code i))

abbrev pub guarded_at : Code → ℕ → Bool
guarded_at code i = guarded (held_before code i) (op_of (code i))

abbrev pub level_at : Code → ℕ → Bool
level_at code i = level code (held_before code i) (op_of (code i))

-- own: the number of own words; n: the number of steps
module _ (own n : ℕ) (code : Code) where
  -- step i is the first of the section that fails cause 5
  pub record FirstMalformed (i : ℕ) : Type 0 where
    pub count : length_ok n ≡ true
    pub step : i < n
    pub earlier : (j : ℕ) → j < i → formed_at own n code j ≡ true
    pub fails : formed_at own n code i ≡ false

  -- every step meets cause 5, and those before step i meet causes 6 to 9
  pub record FirstMisused (i : ℕ) : Type 0 where
    pub count : length_ok n ≡ true
    pub step : i < n
    pub formed : (j : ℕ) → j < n → formed_at own n code j ≡ true
    pub earlier :
        (j : ℕ) → j < i → (bracketed_at code j ≡ true) × (ordered_at code j ≡ true) × (guarded_at code j ≡ true) × (level_at code j ≡ true)

  abbrev pub Means : Verdict → Type 0
  Means (Ok u) = Valid own n code
  Means (Err Length) = length_ok n ≡ false
  Means (Err (Malformed i)) = FirstMalformed i
  Means (Err (Unbracketed i)) = FirstMisused i × (bracketed_at code i ≡ false)
  Means (Err (Unordered i)) = FirstMisused i × (bracketed_at code i ≡ true) × (ordered_at code i ≡ false)
  Means (Err (Unguarded i)) = FirstMisused i × (bracketed_at code i ≡ true) × (ordered_at code i ≡ true) × (guarded_at code i ≡ false)
  Means (Err (Unlevel i)) = FirstMisused i × (bracketed_at code i ≡ true) × (ordered_at code i ≡ true) × (guarded_at code i ≡ true) × (level_at code i ≡ false)
