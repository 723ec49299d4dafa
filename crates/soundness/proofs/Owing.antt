-- What a worker of a sound record is owed is a set of the 64 locks: it is the held set before the named step or behind it, and the section's
-- locks are in their range.
use Prim.Native.Nat.{ℕ, suc, ◌%◌, ◌^◌, ◌<◌}
use mathlib.Core.Path.{◌≡◌, refl, sym, ap, ◌∙◌}
use mathlib.Core.Bool.{Bool, true, false, cond, ◌&&◌, ◌||◌}
use native.Mathlib.Omega.{arith}
use lib.Dec.{leb, ltb, eqb}
use borrow.Author.Tests.{eqb-true, eqb-false}
use Rattle.base.proofs.Bools.{and_right}
use Rattle.image.specs.declared.Field.TheVariants.{Count, Pc, Owned}
use Rattle.image.specs.Place.{field, Memory}
use Rattle.code.specs.declared.Op.{Op}
use Rattle.code.specs.declared.Op.TheVariants.{Acquire, Release, Assign, Jump, Finish, Unknown}
use Rattle.section.proofs.Held.{held_small}
use Rattle.worklog.specs.Log.{code_in}
use Rattle.owed.specs.Owed.{named_step, named_op, held_here, held_next, owed_of, owed, entry_ok}
use Rattle.soundness.specs.Sound.{section_ok, pc_ok}
use Rattle.soundness.proofs.Legible.{legible}

owed-by : (x : Op) (next owned : ℕ) → next < 2 ^ 64 → owned < 2 ^ 64 → owed_of x next owned < 2 ^ 64
owed-by (Acquire a) next owned h k = h
owed-by (Release a) next owned h k = k
owed-by (Assign a e) next owned h k = k
owed-by (Jump a b) next owned h k = k
owed-by Finish next owned h k = k
owed-by Unknown next owned h k = k

one_of : (v a b : ℕ) (t : Bool) → eqb v a ≡ t → (t || eqb v b) ≡ true → a < 2 ^ 64 → b < 2 ^ 64 → v < 2 ^ 64
one_of v a b true q e h k = rw (eqb-true v a q) h
one_of v a b false q e h k = rw (eqb-true v b e) k

-- the last test of a row that is made where b is false
last_of : (b x a c : Bool) → cond b x (a && c) ≡ true → b ≡ false → c ≡ true
last_of b x a c e h = and_right a c (sym (ap (λ (t : Bool). cond t x (a && c)) h) ∙ e)

module _ (n : ℕ) (rd : Memory) (d : ℕ) where
  -- the last of the pc's tests
  owned-ok :
      pc_ok n rd d ≡ true → eqb (rd (field Pc d)) 0 ≡ false
      → (eqb (rd (field Owned d)) (held_here n rd d) || eqb (rd (field Owned d)) (held_next n rd d)) ≡ true
  unfolding pc_ok
  owned-ok p e =
      last_of (eqb (rd (field Pc d)) 0) _
      (leb 1 (rd (field Pc d) % 2 ^ 63) && ltb (named_step n rd d) (rd (field Count d)) && entry_ok n rd d (named_op n rd d)) _ p e

  begun-small :
      section_ok n rd d ≡ true → pc_ok n rd d ≡ true → eqb (rd (field Pc d)) 0 ≡ false
      → owed_of (named_op n rd d) (held_next n rd d) (rd (field Owned d)) < 2 ^ 64
  begun-small s p e =
      let r = legible n rd d s p (eqb-false _ 0 e) in
      let l = r.named in
      let here = held_small n (code_in n rd d) (named_step n rd d) (λ j m. r.ranges j (omega arith)) in
      let next = held_small n (code_in n rd d) (suc (named_step n rd d)) (λ j m. r.ranges j (omega arith)) in
      owed-by (named_op n rd d) (held_next n rd d) (rd (field Owned d)) next (one_of _ (held_here n rd d) (held_next n rd d) _ refl (owned-ok p e) here next)

  pub owed_small : section_ok n rd d ≡ true → pc_ok n rd d ≡ true → owed n rd d < 2 ^ 64
  unfolding owed
  owed_small s p = by (eqb (rd (field Pc d)) 0) refl
    where
      by : (t : Bool) → eqb (rd (field Pc d)) 0 ≡ t → cond t 0 (owed_of (named_op n rd d) (held_next n rd d) (rd (field Owned d))) < 2 ^ 64
      by true e = omega arith
      by false e = begun-small s p e
