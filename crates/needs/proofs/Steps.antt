-- A path, from the step that the sum over it has come to: with no step left it is the answer, a step that is none of the section, or fails cause 5,
-- decides, and any other adds its turns.
use Rattle.std.proofs.Common.{Ok, Err}
use Prim.Native.Nat.{ℕ, suc, ◌+◌, ◌<◌, ◌≤◌}
use mathlib.Core.Path.{◌≡◌}
use mathlib.Core.Bool.{Bool, true, false}
use mathlib.Core.List.{List, [], ◌∷◌}
use native.Mathlib.Omega.{arith}
use native.Mathlib.Numerals.{add-one}
use lib.ListN.{length, get_or, drop}
use lib.Seq.{drop-cons, drop-length}
use lib.Dec.{ltb}
use borrow.Author.Tests.{ltb-true, lt-ltb, le-ltb}
use Rattle.base.proofs.Bools.{and_left}
use Rattle.code.specs.Form.{well_formed}
use Rattle.code.specs.Table.{turns_of}
use Rattle.section.specs.declared.Fault.TheVariants.{Malformed}
use Rattle.section.specs.Check.{Code}
use Rattle.needs.specs.Path.{Along, turns_along, step_ok, bad_step, by_step, along_of}

module _ (own n : ℕ) (code : Code) where
  -- what is answered with these turns before the steps that are left
  abbrev pub along_from : ℕ → List ℕ → Along
  along_from turns p = by_step (turns + turns_along code p) (bad_step own n code p)

  pub along-all : (p : List ℕ) → along_from 0 p ≡ along_of own n code p
  unfolding along_of
  along-all p = let e : 0 + turns_along code p ≡ turns_along code p = omega arith in rw e

  private-none : (turns : ℕ) → along_from turns [] ≡ Ok turns
  unfolding turns_along bad_step
  private-none turns = let e : turns + 0 ≡ turns = omega arith in rw e

  private-bad : (turns i : ℕ) (p : List ℕ) → step_ok own n code i ≡ false → along_from turns (i ∷ p) ≡ Err (Malformed i)
  unfolding bad_step
  private-bad turns i p h = rw h

  private-on : (turns i : ℕ) (p : List ℕ) → step_ok own n code i ≡ true → along_from turns (i ∷ p) ≡ along_from (turns + turns_of (code i)) p
  unfolding turns_along bad_step
  private-on turns i p h =
      let e : turns + (turns_of (code i) + turns_along code p) ≡ turns + turns_of (code i) + turns_along code p = omega arith in
      rw (h, e)

  -- step k of a path
  pub along-stops : (path : List ℕ) (turns k : ℕ) → k < length path → step_ok own n code (get_or path k 0) ≡ false
      → along_from turns (drop k path) ≡ Err (Malformed (get_or path k 0))
  along-stops path turns k l h = rw (drop-cons path k 0 l) (private-bad turns (get_or path k 0) (drop (suc k) path) h)

  pub along-goes : (path : List ℕ) (turns k t : ℕ) → k < length path → step_ok own n code (get_or path k 0) ≡ true → t ≡ turns_of (code (get_or path k 0))
      → along_from turns (drop k path) ≡ along_from (turns + t) (drop (k + 1) path)
  along-goes path turns k t l h e = rw (drop-cons path k 0 l, add-one k, e) (private-on turns (get_or path k 0) (drop (suc k) path) h)

  pub along-ends : (path : List ℕ) (turns k : ℕ) → k ≡ length path → along_from turns (drop k path) ≡ Ok turns
  along-ends path turns k e = rw (e, drop-length path) (private-none turns)

  -- ---- one step

  pub step-inside : (i : ℕ) → step_ok own n code i ≡ true → i < n
  unfolding step_ok
  step-inside i h = ltb-true i n (and_left (ltb i n) (well_formed own n i (code i)) h)
