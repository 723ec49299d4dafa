-- Sets of locks, as masks: one within another (`Subset`), with one lock more (`within-with`) or one less (`without-within`). By
-- whether a lock is the one that is put in or taken out.
use Prim.Native.Nat.{ℕ}
use mathlib.Core.Path.{◌≡◌, sym, ◌∙◌}
use mathlib.Core.Bool.{true, true≢false}
use native.Mathlib.Decide.{ℕ_discrete}
use Rattle.mask.specs.Mask.{has, with, without}
use Rattle.mask.proofs.Laws.{has-none, has-with, has-with-other, has-without, has-without-other}

-- every lock of the one is in the other
abbrev pub Subset : ℕ → ℕ → Type 0
Subset small big = (b : ℕ) → has small b ≡ true → has big b ≡ true

pub within-refl : (h : ℕ) → Subset h h
within-refl h b e = e

pub within_none : (h : ℕ) → Subset 0 h
within_none h b e = absurd (true≢false (sym e ∙ has-none b))

pub within-with : (h a : ℕ) → Subset h (with h a)
within-with h a b e = by (ℕ_discrete a b)
  where
    by : Dec (a ≡ b) → has (with h a) b ≡ true
    by (yes p) = rw (← p) (has-with h a)
    by (no p) = has-with-other h a b p ∙ e

pub without-within : (h a : ℕ) → Subset (without h a) h
without-within h a b e = by (ℕ_discrete a b)
  where
    by : Dec (a ≡ b) → has h b ≡ true
    by (yes p) = absurd (true≢false (sym e ∙ (rw (← p) (has-without h a))))
    by (no p) = sym (has-without-other h a b p) ∙ e
