-- A release by the owner word that it finds: the worker's own (`report-own`), or one at which it passes (`release-passes`).
use Prim.Native.Nat.{ℕ, ◌+◌, ◌-◌}
use mathlib.Core.Path.{◌≡◌, refl}
use mathlib.Core.Bool.{Bool, true, false, cond}
use mathlib.Core.Logic.{◌≢◌}
use lib.Dec.{eqb}
use borrow.Author.Tests.{eq-eqb, ne_eqb}
use Rattle.image.specs.Place.{lock}
use Rattle.image.specs.Image.{Image, at}
use Rattle.code.specs.declared.Op.TheVariants.{Release}
use Rattle.tally.specs.declared.Passes.{Passes}
use Rattle.tally.specs.Inner.Passes.{with_passed_free, with_passed_others}
use Rattle.plan.specs.declared.Report.TheVariants.{Freed}
use Rattle.plan.specs.Report.{report_of}
use Rattle.stretch.specs.Inner.Locks.{disowned_image, unwanted_image, found_passes}
use Rattle.stretch.specs.Inner.Whole.{Fetched, Made}
use Rattle.stretch.proofs.ByKind.{release-free, release-others}
use Rattle.stretch.proofs.Counting.{made-free, made-others}

pub report-own : (d word : ℕ) → word ≡ d + 1 → report_of d word ≡ Freed
report-own d word e = rw (eq-eqb word (d + 1) e)

module _ (n d s : ℕ) (m : Image) (left h : ℕ) (p : Passes) (a : ℕ) (f : Fetched n d s m (Release a)) {v : Image} where
  pub release-passes : v ≡ disowned_image n d s a m left → {word : ℕ} → word ≡ at n v (lock a) → word ≢ d + 1
      → Made n d s h p m left (unwanted_image n d a v (left - 1 - 1 - 1 - 1)) (left - 1 - 1 - 1 - 1 - 1)
      (record { turns = 6; step = s + 1; turn = 0; passes = found_passes word p; held = h })
  release-passes first {word} found o = by (eqb word 0) refl
    where
      by : (z : Bool) → eqb word 0 ≡ z
          → Made n d s h p m left (unwanted_image n d a v (left - 1 - 1 - 1 - 1)) (left - 1 - 1 - 1 - 1 - 1)
          (record { turns = 6; step = s + 1; turn = 0; passes = cond z (with_passed_free p) (with_passed_others p); held = h })
      by true e = made-free (λ y. release-free n d s m left h y a f v first (rw (← found, ne_eqb word (d + 1) o, e)))
      by false e = made-others (λ y. release-others n d s m left h y a f v first (rw (← found, ne_eqb word (d + 1) o, e)))
