-- Where a worker stands whose record a recovery accepts, once it intends just what it is owed and has that locked, and once its
-- section is withdrawn if its pc is 0: `settled-phase`. With a pc of 0 it rests; else the pc names a step whose entry is right,
-- and that step's target store is due.
use Prim.Native.Nat.{ℕ, suc, ◌%◌, ◌^◌, ◌<◌, ◌≤◌}
use mathlib.Core.Path.{◌≡◌, refl, sym, ◌∙◌}
use mathlib.Core.Bool.{Bool, true, false, cond, ◌&&◌, ◌||◌, false≢true, true≢false}
use mathlib.Core.Logic.{◌⊎◌, inl, inr}
use native.Mathlib.Omega.{arith}
use lib.Dec.{leb, ltb, eqb}
use borrow.Author.Tests.{ltb-true, leb-true, eqb-true}
use Rattle.base.proofs.Bools.{and_left, and_right, or-either}
use Rattle.image.specs.declared.Field.TheVariants.{Count, Pc, Intent, Owned, Number, Finished}
use Rattle.image.specs.Place.{field, Memory}
use Rattle.image.specs.Image.{index_of}
use Rattle.code.specs.declared.Op.{Op}
use Rattle.code.specs.declared.Op.TheVariants.{Acquire, Release, Assign, Jump, Finish, Unknown}
use Rattle.section.specs.Check.{check, passes}
use Rattle.section.proofs.Facts.{passed-valid}
use Rattle.section.proofs.Held.{after-assign}
use Rattle.section.proofs.Passing.{passed_is}
use Rattle.working.specs.Cursor.{idle, on}
use Rattle.worklog.specs.Log.{code_in, active_addr, active_val}
use Rattle.owed.specs.Owed.{target_of, owed_of, owed, named_step, named_op, entry_ok}
use Rattle.soundness.specs.Sound.{section_ok, pc_ok}
use Rattle.resuming.specs.Resumed.{target_turn, resumed}
use Rattle.claims.specs.Reference.{Given}
use Rattle.claims.proofs.Invariant.{op_at, held_at, Sectioned, logs_held, Named, Due, Phase, resting, due}
use Rattle.claims.proofs.LiveCrashed.{owed_none}

module _ (n : ℕ) (rd : Memory) (d : ℕ) where
  -- ---- what the tests say

  -- a section, where the pc is not 0
  pub ok-sectioned : section_ok n rd d ≡ true → eqb (rd (field Pc d)) 0 ≡ false → Sectioned n rd d
  unfolding section_ok
  ok-sectioned h z = by (eqb (rd (field Count d)) 0) h
    where
      by : (t : Bool)
          → cond t (eqb (rd (field Pc d)) 0)
          (passes (check n (rd (field Count d)) (code_in n rd d)) && leb 1 (rd (field Number d)) && leb (rd (field Finished d)) (rd (field Number d))) ≡ true
          → Sectioned n rd d
      by true e = absurd (true≢false (sym e ∙ z))
      by false e =
          let p = and_left (passes (check n (rd (field Count d)) (code_in n rd d)) && leb 1 (rd (field Number d)))
          (leb (rd (field Finished d)) (rd (field Number d))) e in
          record {
            valid =
                passed-valid n (rd (field Count d)) (code_in n rd d)
                (passed_is _ (and_left (passes (check n (rd (field Count d)) (code_in n rd d))) (leb 1 (rd (field Number d))) p));
            numbered = leb-true _ _ (and_right (passes (check n (rd (field Count d)) (code_in n rd d))) (leb 1 (rd (field Number d))) p);
            unfinished =
                leb-true _ _ (and_right (passes (check n (rd (field Count d)) (code_in n rd d)) && leb 1 (rd (field Number d)))
                (leb (rd (field Finished d)) (rd (field Number d))) e);
          }

  -- nothing owned, where the pc is 0
  pub ok-owned : pc_ok n rd d ≡ true → rd (field Pc d) ≡ 0 → rd (field Owned d) ≡ 0
  unfolding pc_ok
  ok-owned h z = eqb-true _ _ (rw z at h)

  -- the four tests, where it is not
  pub record NamedOk : Type 0 where
    pub some : 1 ≤ rd (field Pc d) % 2 ^ 63
    pub below : named_step n rd d < rd (field Count d)
    pub entry : entry_ok n rd d (op_at n rd d (named_step n rd d)) ≡ true
    pub owned : (rd (field Owned d) ≡ held_at n rd d (named_step n rd d)) ⊎ (rd (field Owned d) ≡ held_at n rd d (suc (named_step n rd d)))

  private-either : (o h g : ℕ) → (eqb o h ≡ true) ⊎ (eqb o g ≡ true) → (o ≡ h) ⊎ (o ≡ g)
  private-either o h g (inl e) = inl (eqb-true o h e)
  private-either o h g (inr e) = inr (eqb-true o g e)

  private-tests : (p q r s : Bool) → (p && q && r && s) ≡ true → (p ≡ true) × (q ≡ true) × (r ≡ true) × (s ≡ true)
  private-tests p q r s h =
      let a = and_left (p && q && r) s h in
      let b = and_left (p && q) r a in
      (and_left p q b, and_right p q b, and_right (p && q) r a, and_right (p && q && r) s h)

  pub ok_named : pc_ok n rd d ≡ true → eqb (rd (field Pc d)) 0 ≡ false → NamedOk
  unfolding pc_ok named_op
  ok_named h z =
      let s = named_step n rd d in
      let o = rd (field Owned d) in
      let t = private-tests (leb 1 (rd (field Pc d) % 2 ^ 63)) (ltb s (rd (field Count d))) (entry_ok n rd d (op_at n rd d s))
      (eqb o (held_at n rd d s) || eqb o (held_at n rd d (suc s))) (rw z at h) in
      record {
        some = leb-true _ _ t.0;
        below = ltb-true _ _ t.1;
        entry = t.2;
        owned = private-either o (held_at n rd d s) (held_at n rd d (suc s)) (or-either (eqb o (held_at n rd d s)) (eqb o (held_at n rd d (suc s))) t.3);
      }

  -- ---- a named step

  private-step : 1 ≤ rd (field Pc d) % 2 ^ 63 → rd (field Pc d) % 2 ^ 63 ≡ suc (named_step n rd d)
  unfolding named_step
  private-step h = omega arith

  private-both : (a b v w : ℕ) → (eqb a b && eqb v w) ≡ true → (a ≡ b) × (v ≡ w)
  private-both a b v w h = (eqb-true a b (and_left (eqb a b) (eqb v w) h), eqb-true v w (and_right (eqb a b) (eqb v w) h))

  private-entry :
      (x : Op) → entry_ok n rd d x ≡ true
      → (rd (field (active_addr n rd d) d) ≡ index_of n (target_of d x)) × logs_held n rd d (named_step n rd d) x
  private-entry (Acquire a) h =
      private-both (rd (field (active_addr n rd d) d)) (index_of n (field Owned d)) (rd (field (active_val n rd d) d))
      (held_at n rd d (suc (named_step n rd d))) h
  private-entry (Release a) h =
      private-both (rd (field (active_addr n rd d) d)) (index_of n (field Owned d)) (rd (field (active_val n rd d) d))
      (held_at n rd d (suc (named_step n rd d))) h
  private-entry (Assign a e) h = (eqb-true _ _ h, tt)
  private-entry (Jump a b) h = absurd (false≢true h)
  private-entry Finish h = absurd (false≢true h)
  private-entry Unknown h = absurd (false≢true h)

  pub ok-entry : NamedOk → Named n rd d (named_step n rd d)
  ok-entry k =
      let e = private-entry (op_at n rd d (named_step n rd d)) k.entry in
      record { pc = private-step k.some; below = k.below; address = e.0; logs = e.1 }

  private-release : (o i s g : ℕ) → i ≡ o → (o ≡ s) ⊎ (o ≡ g) → ((o ≡ s) × (i ≡ s)) ⊎ ((o ≡ g) × (i ≡ g))
  private-release o i s g e (inl h) = inl (h, e ∙ h)
  private-release o i s g e (inr h) = inr (h, e ∙ h)

  private-level : (o h g : ℕ) → g ≡ h → (o ≡ h) ⊎ (o ≡ g) → o ≡ h
  private-level o h g e (inl i) = i
  private-level o h g e (inr i) = i ∙ e

  private-due : (x : Op) (locks : ℕ) → op_at n rd d (named_step n rd d) ≡ x → entry_ok n rd d x ≡ true
      → (rd (field Owned d) ≡ held_at n rd d (named_step n rd d)) ⊎ (rd (field Owned d) ≡ held_at n rd d (suc (named_step n rd d)))
      → rd (field Intent d) ≡ locks → locks ≡ owed_of x (held_at n rd d (suc (named_step n rd d))) (rd (field Owned d)) → Due n rd d (named_step n rd d) locks x
  private-due (Acquire a) locks x h o i l = (o, i ∙ l, l)
  private-due (Release a) locks x h o i l = (private-release _ _ _ _ (i ∙ l) o, sym i)
  private-due (Assign a e) locks x h o i l =
      let s = named_step n rd d in
      let w : rd (field Owned d) ≡ held_at n rd d s = private-level _ _ _ (after-assign (code_in n rd d) s a e x) o in
      (w, i ∙ (l ∙ w), l ∙ w)
  private-due (Jump a b) locks x h o i l = absurd (false≢true h)
  private-due Finish locks x h o i l = absurd (false≢true h)
  private-due Unknown locks x h o i l = absurd (false≢true h)

  -- ---- where it stands

  pub resumed-idle : rd (field Pc d) ≡ 0 → resumed n rd d ≡ idle
  unfolding resumed
  resumed-idle z = rw z

  pub resumed-on : eqb (rd (field Pc d)) 0 ≡ false → resumed n rd d ≡ on (named_step n rd d) (target_turn (op_at n rd d (named_step n rd d)))
  unfolding resumed named_op
  resumed-on z = rw z

  private-owed : eqb (rd (field Pc d)) 0 ≡ false
      → owed n rd d ≡ owed_of (op_at n rd d (named_step n rd d)) (held_at n rd d (suc (named_step n rd d))) (rd (field Owned d))
  unfolding owed named_op
  private-owed z = rw z

  pub settled-phase : (g : Given) → section_ok n rd d ≡ true → pc_ok n rd d ≡ true → rd (field Intent d) ≡ owed n rd d
      → (rd (field Pc d) ≡ 0 → rd (field Count d) ≡ 0)
      → Phase n rd d g (resumed n rd d) (owed n rd d) 0
  settled-phase g s p i c = by (eqb (rd (field Pc d)) 0) refl
    where
      by : (t : Bool) → eqb (rd (field Pc d)) 0 ≡ t → Phase n rd d g (resumed n rd d) (owed n rd d) 0
      by true e =
          let z : rd (field Pc d) ≡ 0 = eqb-true _ _ e in
          let o = owed_none n rd d z in
          rw (resumed-idle z, o) (resting (c z) z (i ∙ o) (ok-owned p z))
      by false e =
          let k = ok_named p e in
          let step = named_step n rd d in
          let r = private-due (op_at n rd d step) (owed n rd d) refl k.entry k.owned i (private-owed e) in
          rw (resumed-on e) (due step (owed n rd d) (ok-sectioned s e) (ok-entry k) r)
