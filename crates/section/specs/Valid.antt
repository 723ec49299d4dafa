-- What it means for a section to be valid: the facts that a passed check gives, and that give a passed check.
use Rattle.std.specs.Prelude.{ℕ, ◌+◌, ◌-◌, ◌/◌, ◌^◌, ◌<◌, ◌≤◌, ◌≡◌, true}
use Rattle.mask.specs.Mask.{has}
use Rattle.code.specs.declared.Expr.{Expr}
use Rattle.code.specs.declared.Op.TheVariants.{Acquire, Release, Assign, Jump, Finish}
use Rattle.code.specs.Op.{op_of}
use Rattle.rules.specs.Rules.{covered, covered_in}
use Rattle.section.specs.Check.{Code, held_before}
use Rattle.code.specs.Form.{in_range}

-- own: the number of own words; n: the number of steps
pub record Valid (own n : ℕ) (code : Code) : Type 0 where
  pub least : 3 ≤ n
  pub most : n ≤ 64
  -- every kind is known and every field in its range
  pub ranges : (i : ℕ) → i < n → in_range own (code i) ≡ true
  -- the first step acquires; a finish is last and only last, with nothing held; every step between holds something
  pub first : (a : ℕ) × (op_of (code 0) ≡ Acquire a)
  pub last : op_of (code (n - 1)) ≡ Finish
  pub only-last : (i : ℕ) → i < n → op_of (code i) ≡ Finish → i + 1 ≡ n
  pub ends-free : held_before code (n - 1) ≡ 0
  pub holding : (i : ℕ) → 0 < i → i + 1 < n → held_before code i ≡ 0 → ⊥
  -- an acquire is above all that is held, a release's lock is held
  pub acquires : (i a : ℕ) → i < n → op_of (code i) ≡ Acquire a → held_before code i / 2 ^ a ≡ 0
  pub releases : (i a : ℕ) → i < n → op_of (code i) ≡ Release a → has (held_before code i) a ≡ true
  -- every operand is an own word or its lock is held
  pub targets : (i a : ℕ) (e : Expr) → i < n → op_of (code i) ≡ Assign a e → covered (held_before code i) a ≡ true
  pub operands : (i a : ℕ) (e : Expr) → i < n → op_of (code i) ≡ Assign a e → covered_in (held_before code i) e ≡ true
  pub tests : (i a b : ℕ) → i < n → op_of (code i) ≡ Jump a b → covered (held_before code i) a ≡ true
  -- a jump goes forward, inside, to the same held set
  pub jumps : (i a b : ℕ) → i < n → op_of (code i) ≡ Jump a b → (i < b) × (b < n) × (held_before code b ≡ held_before code i)
