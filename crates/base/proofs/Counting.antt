-- What is left of a count that goes up, where a definition recurses downwards.
use Prim.Native.Nat.{ℕ, suc, ◌+◌, ◌-◌, ◌<◌, ◌≤◌}
use mathlib.Core.Path.{◌≡◌}
use native.Mathlib.Omega.{arith}

pub left_step : (n i : ℕ) → i < n → n - i ≡ suc (n - (i + 1))
left_step n i h = omega arith

pub left-all : (n : ℕ) → n - 0 ≡ n
left-all n = omega arith

pub left-none : (n i : ℕ) → n ≤ i → n - i ≡ 0
left-none n i h = omega arith
