-- What the tests of a record say: a section that is begun can be read (`Legible`) where the section and the pc are
-- right, and so every record of an image can be read where all records are sound: a search for the first that fails a
-- test, and finds none, says that each passes it (`each-passes`).
use Prim.Native.Nat.{ℕ, suc, zero, ◌+◌, ◌-◌, ◌%◌, ◌^◌, ◌<◌, ◌≤◌}
use borrow.Author.Tests.{leb-true, ltb-true, le-leb, lt-leb, lt-ltb, ne_eqb}
use mathlib.Core.Path.{◌≡◌, refl, sym, ap, ◌∙◌}
use mathlib.Core.Bool.{Bool, true, false, cond, ◌&&◌, ◌||◌}
use mathlib.Core.List.{List, [], ◌∷◌}
use Rattle.std.proofs.Common.{Ok, Err}
use native.Mathlib.Decide.{ℕ_discrete}
use native.Mathlib.Omega.{arith}
use lib.Dec.{leb, ltb, eqb}
use lib.ListN.{length}
use Rattle.base.proofs.Bools.{and_left, and_right}
use Rattle.base.proofs.Counting.{left_step, left-none}
use Rattle.image.specs.declared.Field.TheVariants.{Count, Pc, Intent, Owned, Number, Finished}
use Rattle.image.specs.Place.{field, Memory}
use Rattle.image.specs.Image.{Image, at, workers, length_of}
use Rattle.image.specs.Inner.Inside.{Inside}
use Rattle.code.specs.declared.Op.{Op}
use Rattle.section.specs.declared.Fault.TheVariants.{Length}
use Rattle.code.specs.Op.{op_of}
use Rattle.section.specs.Check.{Verdict, Code, held_before, check, passes}
use Rattle.code.specs.Form.{in_range, held_after}
use Rattle.section.proofs.Facts.{check-parts}
use Rattle.section.proofs.Held.{held-step}
use Rattle.section.proofs.Passing.{passed_is}
use Rattle.code.proofs.Ranges.{formed-range}
use Rattle.worklog.specs.Log.{code_in}
use Rattle.owed.specs.Owed.{named_step, named_op, held_next, owed_of, owed, entry_ok, covers}
use Rattle.soundness.specs.Sound.{section_ok, pc_ok, sound, unsound}
use Rattle.soundness.specs.Inner.Reading.{Legible, Restorable}

private-not : (b x y : Bool) → cond b x y ≡ true → b ≡ false → y ≡ true
private-not b x y e h = sym (ap (λ (t : Bool). cond t x y) h) ∙ e

-- ---- the held set

module _ (n : ℕ) (rd : Memory) (d : ℕ) where
  -- ---- the section

  -- a section that is there passes the check
  pub section-passes : section_ok n rd d ≡ true → (rd (field Count d) ≡ 0 → ⊥) → check n (rd (field Count d)) (code_in n rd d) ≡ Ok tt
  unfolding section_ok
  section-passes e h =
      let k = rd (field Count d) in
      let t = private-not (eqb k 0) _ _ e (ne_eqb k 0 h) in
      let numbered = leb (rd (field Finished d)) (rd (field Number d)) in
      passed_is (check n k (code_in n rd d)) (and_left _ _ (and_left (passes (check n k (code_in n rd d)) && leb 1 (rd (field Number d))) numbered t))

  -- so it has at most 64 steps, each in its ranges
  pub section-reads : section_ok n rd d ≡ true → (s : ℕ) → s < rd (field Count d)
      → (rd (field Count d) ≤ 64) × ((j : ℕ) → j < rd (field Count d) → in_range n (code_in n rd d j) ≡ true)
  section-reads e s h =
      let k = rd (field Count d) in
      let p = check-parts n k (code_in n rd d) (section-passes e (λ z. omega arith)) in
      (p.1, λ j l. formed-range n k j (code_in n rd d j) (p.2 j l))

  -- so a step below its count, as the code has read it, can be read, and its word is in its ranges
  pub section-step : section_ok n rd d ≡ true → (s k : ℕ) → k ≡ rd (field Count d) → s < k → (s < 64) × (in_range n (code_in n rd d s) ≡ true)
  section-step e s k count h =
      let l : s < rd (field Count d) = omega arith in
      let r = section-reads e s l in
      (omega (arith, r.0), r.1 s l)

  -- ---- the pc

  private-named : (a b c f : Bool) → (a && b && c && f) ≡ true → (a ≡ true) × (b ≡ true)
  private-named a b c f e = let p = and_left (a && b) c (and_left (a && b && c) f e) in (and_left a b p, and_right a b p)

  pub legible : section_ok n rd d ≡ true → pc_ok n rd d ≡ true → Legible n rd d
  unfolding pc_ok
  legible s p = λ h.
      let q = private-not (eqb (rd (field Pc d)) 0) _ _ p (ne_eqb _ 0 h) in
      let t = private-named (leb 1 (rd (field Pc d) % 2 ^ 63)) (ltb (named_step n rd d) (rd (field Count d))) _ _ q in
      let l = ltb-true (named_step n rd d) (rd (field Count d)) t.1 in
      let r = section-reads s (named_step n rd d) l in
      record { some = leb-true 1 _ t.0; named = l; most = r.0; ranges = r.1 }

  pub sound-legible : sound n rd d ≡ true → Legible n rd d
  unfolding sound
  sound-legible e =
      let p = and_left (section_ok n rd d && pc_ok n rd d) (covers (rd (field Intent d)) (owed n rd d) 64) e in
      legible (and_left (section_ok n rd d) (pc_ok n rd d) p) (and_right (section_ok n rd d) (pc_ok n rd d) p)

  -- the step that the pc names, as the code works it out
  pub pc-low : (pc : ℕ) → pc ≡ rd (field Pc d) → Legible n rd d → (pc ≡ 0 → ⊥)
      → (1 ≤ pc % 9223372036854775808) × (pc % 9223372036854775808 - 1 < rd (field Count d)) × (rd (field Count d) ≤ 64)
  unfolding named_step
  pc-low pc e l h =
      let b = l (λ z. h (e ∙ z)) in
      rw e (b.some, b.named, b.most)

  -- ---- the tests and the owed set at a step that the code has worked out from the pc

  module _ (pc : ℕ) (e : pc ≡ rd (field Pc d)) (h : pc ≡ 0 → ⊥) where
    abbrev step_at : ℕ
    step_at = pc % 9223372036854775808 - 1

    pub owed-begun : (w next : ℕ) (x : Op)
        → w ≡ code_in n rd d step_at → x ≡ op_of w → next ≡ held_next n rd d → owed n rd d ≡ owed_of x next (rd (field Owned d))
    unfolding owed named_op named_step
    owed-begun w next x word op held =
        rw (held, op, word, e, ne_eqb (rd (field Pc d)) 0 (λ z. h (e ∙ z)))

    held-begun : held_next n rd d ≡ held_after (held_before (code_in n rd d) step_at) (op_of (code_in n rd d step_at))
    unfolding named_step
    held-begun = rw e (held-step (code_in n rd d) (rd (field Pc d) % 9223372036854775808 - 1))

    pub pc-tests : pc_ok n rd d ≡
        (leb 1 (pc % 9223372036854775808)
        && ltb step_at (rd (field Count d))
        && entry_ok n rd d (op_of (code_in n rd d step_at))
        && (eqb (rd (field Owned d)) (held_before (code_in n rd d) step_at) || eqb (rd (field Owned d)) (held_next n rd d)))
    unfolding pc_ok named_op named_step
    pc-tests = rw (e, ne_eqb (rd (field Pc d)) 0 (λ z. h (e ∙ z)))

    -- past the first two tests, with the instruction and the held sets that the code has worked out
    pub pc-rest : 1 ≤ pc % 9223372036854775808 → (k : ℕ) → k ≡ rd (field Count d) → step_at < k
        → (w here next : ℕ) (x : Op) → w ≡ code_in n rd d step_at → x ≡ op_of w → here ≡ held_before (code_in n rd d) step_at → next ≡ held_after here x
        → (next ≡ held_next n rd d) × (pc_ok n rd d ≡ (entry_ok n rd d x && (eqb (rd (field Owned d)) here || eqb (rd (field Owned d)) next)))
    pc-rest some k count below w here next x word op held after =
        let o : op_of (code_in n rd d step_at) ≡ x = sym (op ∙ ap op_of word) in
        let q : next ≡ held_next n rd d = rw (held-begun, o, ← held) after in
        let l : step_at < rd (field Count d) = rw (← count) below in
        (q, rw (pc-tests, le-leb 1 (pc % 9223372036854775808) some, lt-ltb step_at (rd (field Count d)) l, o, ← held, ← q))

-- a section of more than 64 steps does not pass
pub check-long : (n k : ℕ) (code : Code) → 64 < k → passes (check n k code) ≡ false
unfolding check
check-long n k code h = rw (lt-leb k 64 h) (by (leb 3 k) _)
  where
    by : (b : Bool) (v : Verdict) → passes (cond (b && false) v (Err Length)) ≡ false
    by true v = refl
    by false v = refl

-- ---- all records

-- of k numbers from d on the first that fails a test: where none is found, each passes
module _ (test : ℕ → Bool) (found : ℕ → ℕ → List ℕ) (goes : (d k : ℕ) → found d (suc k) ≡ cond (test d) (found (d + 1) k) (d ∷ [])) where
  private-found : (t : Bool) (d : ℕ) (l : List ℕ) → cond t l (d ∷ []) ≡ [] → (t ≡ true) × (l ≡ [])
  private-found true d l e = (refl, e)
  private-found false d l e = ((cc), (cc))

  private-rest : (d j : ℕ) → test d ≡ true → d ≤ j → (d + 1 ≤ j → test j ≡ true) → test j ≡ true
  private-rest d j s a rest = by (ℕ_discrete j d)
    where
      by : Dec (j ≡ d) → test j ≡ true
      by (yes p) = rw p s
      by (no p) = rest (omega arith)

  pub each-passes : (k d : ℕ) → found d k ≡ [] → (j : ℕ) → d ≤ j → j < d + k → test j ≡ true
  each-passes zero d e j a b = absurd (omega arith)
  each-passes (suc k) d e j a b =
      let f = private-found (test d) d (found (d + 1) k) (sym (goes d k) ∙ e) in
      private-rest d j f.0 a (λ l. each-passes k (d + 1) f.1 j l (omega arith))

module _ (n : ℕ) (rd : Memory) (D : ℕ) where
  pub unsound-on : (d : ℕ) → d < D → sound n rd d ≡ true → unsound n rd D d (D - d) ≡ unsound n rd D (d + 1) (D - (d + 1))
  unfolding unsound
  unsound-on d h e = rw (left_step D d h, e)

  pub unsound-here : (d : ℕ) → d < D → sound n rd d ≡ false → unsound n rd D d (D - d) ≡ d ∷ []
  unfolding unsound
  unsound-here d h e = rw (left_step D d h, e)

  pub unsound-none : (d : ℕ) → D ≤ d → unsound n rd D d (D - d) ≡ []
  unfolding unsound
  unsound-none d h = rw (left-none D d h)

  -- where none is found, each is sound
  pub all_sound : (k d : ℕ) → unsound n rd D d k ≡ [] → (j : ℕ) → d ≤ j → j < d + k → sound n rd j ≡ true
  unfolding unsound
  all_sound = each-passes (sound n rd) (unsound n rd D) (λ d k. refl)

pub restorable : (n : ℕ) (m : Image) → n ≤ 64 → workers m ≤ 8 → length m ≡ length_of n (workers m)
    → unsound n (at n m) (workers m) 0 (workers m) ≡ [] → Restorable n m
restorable n m few most whole e =
    let D = workers m in
    record {
      few = few;
      most = most;
      whole = whole;
      legible = λ d h. sound-legible n (at n m) d (all_sound n (at n m) D D 0 e d (omega arith) (omega arith));
    }

pub inside : (n : ℕ) (m : Image) (d : ℕ) → Restorable n m → d < workers m → Inside n m d
inside n m d r h = record { few = r.few; below = h; most = r.most; whole = r.whole }
