-- What a recovery reads of a worker's record to work out what is owed to it and where it goes on: its pc, its owned set, its
-- instructions and its active log entry. Two memories that have these in common (`Framed`) agree on all that is worked out.
use Prim.Native.Nat.{ℕ, suc}
use mathlib.Core.Path.{◌≡◌, refl}
use mathlib.Core.Logic.{◌⊎◌, inl, inr}
use Rattle.image.specs.declared.Field.TheVariants.{Count, Pc, Owned, Number, Finished}
use Rattle.image.specs.Place.{field, step, Memory}
use Rattle.code.specs.declared.Op.{Op}
use Rattle.code.specs.declared.Op.TheVariants.{Acquire, Release, Assign, Jump, Finish, Unknown}
use Rattle.section.specs.Check.{held_before}
use Rattle.section.proofs.Facts.{check-cong}
use Rattle.section.proofs.Held.{held-cong}
use Rattle.worklog.specs.Log.{code_in, active_addr, active_val}
use Rattle.owed.specs.Owed.{owed, named_step, named_op, entry_ok}
use Rattle.soundness.specs.Sound.{section_ok, pc_ok}
use Rattle.resuming.specs.Resumed.{resumed}
use Rattle.claims.proofs.Fields.{active-addr-kept, active-val-kept}
use Rattle.claims.proofs.Entries.{named-cong}

module _ (n : ℕ) (rd rd' : Memory) (d : ℕ) where
  pub record Framed : Type 0 where
    pub pc : rd' (field Pc d) ≡ rd (field Pc d)
    pub owned : rd' (field Owned d) ≡ rd (field Owned d)
    pub addr : rd' (field (active_addr n rd d) d) ≡ rd (field (active_addr n rd d) d)
    pub val : rd' (field (active_val n rd d) d) ≡ rd (field (active_val n rd d) d)
    pub code : (i : ℕ) → rd' (step d i) ≡ rd (step d i)

module _ (n : ℕ) (rd rd' : Memory) (d : ℕ) (f : Framed n rd rd' d) where
  pub frame-held : (s : ℕ) → held_before (code_in n rd' d) s ≡ held_before (code_in n rd d) s
  frame-held s = held-cong (code_in n rd' d) (code_in n rd d) s (λ j l. f.code j)

  pub frame-op : named_op n rd' d ≡ named_op n rd d
  unfolding named_op
  frame-op = rw (named-cong n rd rd' d f.pc, f.code (named_step n rd d))

  -- what is owed
  pub owed-frame : owed n rd' d ≡ owed n rd d
  unfolding owed
  owed-frame = rw (f.pc, frame-op, named-cong n rd rd' d f.pc, frame-held (suc (named_step n rd d)), f.owned)

  private-entry : (x : Op) → entry_ok n rd' d x ≡ entry_ok n rd d x
  private-entry (Acquire a) =
      rw (
        active-addr-kept n rd rd' d f.pc,
        active-val-kept n rd rd' d f.pc,
        f.addr,
        f.val,
        named-cong n rd rd' d f.pc,
        frame-held
            (suc (named_step n rd d)),
      )
  private-entry (Release a) =
      rw (
        active-addr-kept n rd rd' d f.pc,
        active-val-kept n rd rd' d f.pc,
        f.addr,
        f.val,
        named-cong n rd rd' d f.pc,
        frame-held
            (suc (named_step n rd d)),
      )
  private-entry (Assign a e) = rw (active-addr-kept n rd rd' d f.pc, f.addr)
  private-entry (Jump a b) = refl
  private-entry Finish = refl
  private-entry Unknown = refl

  -- whether the pc is right; the count is read only where the pc is not 0
  pub pc-frame : (rd' (field Count d) ≡ rd (field Count d)) ⊎ (rd (field Pc d) ≡ 0) → pc_ok n rd' d ≡ pc_ok n rd d
  unfolding pc_ok
  pc-frame (inl e) =
      rw (
        f.pc,
        f.owned,
        e,
        named-cong n rd rd' d f.pc,
        frame-op,
        private-entry (named_op n rd d),
        frame-held (named_step n rd d),
        frame-held
            (suc (named_step n rd d)),
      )
  pc-frame (inr e) = rw (f.pc, e, f.owned)

  -- whether the section is right
  pub section-frame :
      rd' (field Count d) ≡ rd (field Count d) → rd' (field Number d) ≡ rd (field Number d) → rd' (field Finished d) ≡ rd (field Finished d)
      → section_ok n rd' d ≡ section_ok n rd d
  unfolding section_ok
  section-frame c k g =
      rw (c, k, g, f.pc, check-cong n (rd (field Count d)) (code_in n rd' d) (code_in n rd d) (λ j l. f.code j))

  -- where it goes on
  pub resumed-frame : resumed n rd' d ≡ resumed n rd d
  unfolding resumed
  resumed-frame = rw (f.pc, named-cong n rd rd' d f.pc, frame-op)
