-- The sets of a repair against the definitions: the union of the intents has the locks that somebody intends; the set of the withdrawn
-- has the workers whose section is not begun.
use Prim.Native.Nat.{ℕ, suc, zero, ◌+◌, ◌<◌, ◌≤◌}
use mathlib.Core.Path.{◌≡◌, refl, ◌∙◌}
use mathlib.Core.Bool.{Bool, true, false, cond}
use native.Mathlib.Decide.{ℕ_discrete}
use native.Mathlib.Numerals.{add-one}
use native.Mathlib.Omega.{arith}
use lib.Bits.{bit_or}
use Rattle.mask.specs.Mask.{has, with}
use Rattle.mask.proofs.Laws.{has-none, has-with, has-with-other}
use Rattle.mask.proofs.Members.{has-or}
use Rattle.image.specs.declared.Field.TheVariants.{Intent}
use Rattle.image.specs.Place.{field, Memory}
use Rattle.repair.specs.Plan.{unbegun, intended}
use Rattle.repair.specs.Repair.{freed_by, withdrawn_by}

-- ---- intents

pub freed-next : (rd : Memory) (k : ℕ) → freed_by rd (k + 1) ≡ bit_or (freed_by rd k) (rd (field Intent k))
unfolding freed_by
freed-next rd k = rw (add-one k)

pub freed-has : (n : ℕ) (rd : Memory) (k b : ℕ) → has (freed_by rd k) b ≡ intended n rd k b
unfolding freed_by intended
freed-has n rd zero b = has-none b
freed-has n rd (suc k) b = rw (has-or (freed_by rd k) (rd (field Intent k)) b, freed-has n rd k b)

-- ---- withdrawals

pub withdrawn-next : (rd : Memory) (k : ℕ) → withdrawn_by rd (k + 1) ≡ cond (unbegun rd k) (with (withdrawn_by rd k) k) (withdrawn_by rd k)
unfolding withdrawn_by
withdrawn-next rd k = rw (add-one k)

private-other : (t : Bool) (set k d : ℕ) → (k ≡ d → ⊥) → has (cond t (with set k) set) d ≡ has set d
private-other true set k d h = has-with-other set k d h
private-other false set k d h = refl

private-same : (t : Bool) (set k : ℕ) → has set k ≡ false → has (cond t (with set k) set) k ≡ t
private-same true set k h = has-with set k
private-same false set k h = h

-- no worker from k on is in the set of the first k
pub withdrawn-past : (rd : Memory) (k d : ℕ) → k ≤ d → has (withdrawn_by rd k) d ≡ false
unfolding withdrawn_by
withdrawn-past rd zero d h = has-none d
withdrawn-past rd (suc k) d h = private-other (unbegun rd k) (withdrawn_by rd k) k d (λ e. omega arith) ∙ withdrawn-past rd k d (omega arith)

private-pick : (rd : Memory) (k d : ℕ) → d < suc k → (d < k → has (withdrawn_by rd k) d ≡ unbegun rd d)
    → has (cond (unbegun rd k) (with (withdrawn_by rd k) k) (withdrawn_by rd k)) d ≡ unbegun rd d
private-pick rd k d h rest = by (ℕ_discrete k d)
  where
    by : Dec (k ≡ d) → has (cond (unbegun rd k) (with (withdrawn_by rd k) k) (withdrawn_by rd k)) d ≡ unbegun rd d
    by (yes p) = rw (← p) (private-same (unbegun rd k) (withdrawn_by rd k) k (withdrawn-past rd k k (omega arith)))
    by (no p) = private-other (unbegun rd k) (withdrawn_by rd k) k d p ∙ rest (omega arith)

pub withdrawn-has : (rd : Memory) (k d : ℕ) → d < k → has (withdrawn_by rd k) d ≡ unbegun rd d
unfolding withdrawn_by
withdrawn-has rd zero d h = absurd (omega arith)
withdrawn-has rd (suc k) d h = private-pick rd k d h (withdrawn-has rd k d)
