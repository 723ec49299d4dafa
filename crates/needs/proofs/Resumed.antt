-- What a worker's section still needs, by the pc: nothing where it is 0; else the named instruction's turns from its target store on and what the
-- steps behind it need. Of a sound record the step that the pc names is no last one, since its instruction is logged (`sound-begun`).
use Rattle.std.proofs.Common.{Ok, Err}
use Prim.Native.Nat.{ℕ, suc, ◌+◌, ◌-◌, ◌%◌, ◌^◌, ◌<◌, ◌≤◌}
use mathlib.Core.Path.{◌≡◌, sym, ap, ◌∙◌}
use mathlib.Core.Bool.{Bool, true, false, cond, ◌&&◌, false≢true}
use mathlib.Core.List.{List}
use native.Mathlib.Omega.{arith}
use lib.ListN.{length, take}
use lib.Dec.{leb, ltb, eqb}
use borrow.Author.Tests.{ltb-true, ne_eqb, eq-eqb}
use Rattle.base.proofs.Bools.{and_left, and_right}
use Rattle.image.specs.declared.Field.TheVariants.{Count, Pc, Intent}
use Rattle.image.specs.Place.{field, Memory}
use Rattle.image.specs.Image.{Image, at, workers, header_ok}
use Rattle.code.specs.declared.Op.{Op}
use Rattle.code.specs.declared.Op.TheVariants.{Acquire, Release, Assign, Jump, Finish, Unknown}
use Rattle.code.specs.Op.{op_of}
use Rattle.code.specs.Form.{in_place}
use Rattle.section.specs.Check.{Code, code_of, check, passes}
use Rattle.section.proofs.Passing.{passed_is}
use Rattle.worklog.specs.Log.{code_in}
use Rattle.owed.specs.Owed.{named_step, named_op, owed, entry_ok, covers}
use Rattle.soundness.specs.Sound.{section_ok, pc_ok, sound}
use Rattle.soundness.specs.Inner.Reading.{loaded}
use Rattle.soundness.proofs.Loaded.{first-length, first-at, first-checks}
use Rattle.soundness.proofs.Legible.{section-passes, sound-legible}
use Rattle.needs.specs.declared.Refusal.TheVariants.{Image as ImageRefused, Worker, Record}
use Rattle.needs.specs.declared.Span.{Span}
use Rattle.needs.specs.From.{lesser, larger, needs_by, span}
use Rattle.needs.specs.Left.{resumed_turns, left_by, span_left, left_of}
use Rattle.needs.specs.Inner.Pass.{Passable}
use Rattle.needs.proofs.Unrolled.{needs-cong}
use Rattle.needs.proofs.Pass.{passed-placed, passed-passable}

-- ---- a list that the first k words of a code are loaded into

module _ (code : Code) (ws : List ℕ) (k : ℕ) (w : List ℕ) (e : w ≡ loaded code ws k) (h : k ≤ length ws) where
  -- it may be passed over as they may
  pub first-passable : (own from : ℕ) → passes (check own k code) ≡ true → from ≤ k → Passable (take k w) from
  first-passable own from p l =
      passed-passable own (take k w) from (first-checks code ws k w e h own ∙ passed_is (check own k code) p) (rw (first-length code ws k w e h) l)

  -- and needs what they need
  pub first-needs : (pick : ℕ → ℕ → ℕ) (from : ℕ) → needs_by pick (length (take k w)) (code_of (take k w)) from ≡ needs_by pick k code from
  first-needs pick from = rw (first-length code ws k w e h) (needs-cong pick k (code_of (take k w)) code (first-at code ws k w e h) from)

  pub first-span : (from : ℕ) → span (length (take k w)) (code_of (take k w)) from ≡ span k code from
  first-span from = rw (first-needs lesser from, first-needs larger from)

-- ---- the turns of a named instruction

pub resumed-most : (x : Op) → resumed_turns x ≤ 3
resumed-most (Acquire a) = omega arith
resumed-most (Release a) = omega arith
resumed-most (Assign a e) = omega arith
resumed-most (Jump a b) = omega arith
resumed-most Finish = omega arith
resumed-most Unknown = omega arith

-- ---- a sound record

private-not : (b x y : Bool) → cond b x y ≡ true → b ≡ false → y ≡ true
private-not b x y e h = sym (ap (λ (t : Bool). cond t x y) h) ∙ e

private-third : (a b c f : Bool) → (a && b && c && f) ≡ true → c ≡ true
private-third a b c f e = and_right (a && b) c (and_left (a && b && c) f e)

module _ (n : ℕ) (rd : Memory) (d : ℕ) where
  private-inner : (i k : ℕ) (x : Op) → entry_ok n rd d x ≡ true → in_place k i x ≡ true → i + 1 < k
  private-inner i k (Acquire a) e p = ltb-true (i + 1) k p
  private-inner i k (Release a) e p = ltb-true (i + 1) k p
  private-inner i k (Assign a x) e p = ltb-true (i + 1) k p
  private-inner i k (Jump a b) e p = absurd (false≢true e)
  private-inner i k Finish e p = absurd (false≢true e)
  private-inner i k Unknown e p = absurd (false≢true e)

  private-parts : sound n rd d ≡ true → (section_ok n rd d ≡ true) × (pc_ok n rd d ≡ true)
  unfolding sound
  private-parts e =
      let p = and_left (section_ok n rd d && pc_ok n rd d) (covers (rd (field Intent d)) (owed n rd d) 64) e in
      (and_left (section_ok n rd d) (pc_ok n rd d) p, and_right (section_ok n rd d) (pc_ok n rd d) p)

  private-entry : pc_ok n rd d ≡ true → (rd (field Pc d) ≡ 0 → ⊥) → entry_ok n rd d (named_op n rd d) ≡ true
  unfolding pc_ok
  private-entry p h =
      let q = private-not (eqb (rd (field Pc d)) 0) _ _ p (ne_eqb _ 0 h) in
      private-third (leb 1 (rd (field Pc d) % 2 ^ 63)) (ltb (named_step n rd d) (rd (field Count d))) (entry_ok n rd d (named_op n rd d)) _ q

  -- the section that is begun passes the check, and the step named is before its last
  pub sound-begun : sound n rd d ≡ true → (rd (field Pc d) ≡ 0 → ⊥)
      → (check n (rd (field Count d)) (code_in n rd d) ≡ Ok tt) × (named_step n rd d + 1 < rd (field Count d))
  unfolding named_op
  sound-begun e h =
      let (s, p) = private-parts e in
      let b = sound-legible n rd d e h in
      let i = named_step n rd d in
      let l : i < rd (field Count d) = b.named in
      let c = section-passes n rd d s (λ z. omega arith) in
      (c, private-inner i (rd (field Count d)) (named_op n rd d) (private-entry p h) (passed-placed n (rd (field Count d)) (code_in n rd d) c i l))

  -- the same as the code has it: `next`, the step behind the one named
  pub sound-next : (pc next : ℕ) → pc ≡ rd (field Pc d) → (pc ≡ 0 → ⊥) → next ≡ pc % 9223372036854775808 → sound n rd d ≡ true
      → (1 ≤ next) × (next < rd (field Count d)) × (rd (field Count d) ≤ 64) × (passes (check n (rd (field Count d)) (code_in n rd d)) ≡ true)
  unfolding named_step
  sound-next pc next e h after s =
      let h' : rd (field Pc d) ≡ 0 → ⊥ = λ z. h (e ∙ z) in
      let b = sound-legible n rd d s h' in
      let (c, l) = sound-begun s h' in
      let f : next ≡ rd (field Pc d) % 9223372036854775808 = after ∙ ap (λ (k : ℕ). k % 9223372036854775808) e in
      let some : 1 ≤ next = omega (arith, f, b.some) in
      (some, omega (arith, f, some, l), b.most, ap passes c)

  -- ---- what is left, by the pc

  pub left-none : (pc : ℕ) → pc ≡ rd (field Pc d) → pc ≡ 0 → (pick : ℕ → ℕ → ℕ) → 0 ≡ left_by n rd d pick
  unfolding left_by
  left-none pc e z pick = rw (← e, eq-eqb pc 0 z)

  pub none-left : (pc : ℕ) → pc ≡ rd (field Pc d) → pc ≡ 0 → record { fewest = 0; most = 0 } ≡ span_left n rd d
  none-left pc e z = rw (← left-none pc e z lesser, ← left-none pc e z larger)

  -- as the code works it out: `next` is the step behind the one named
  pub left-begun : (pick : ℕ → ℕ → ℕ) (pc next k w t s : ℕ) (x : Op) → pc ≡ rd (field Pc d) → (pc ≡ 0 → ⊥) → next ≡ pc % 9223372036854775808 → 1 ≤ next
      → k ≡ rd (field Count d) → w ≡ code_in n rd d (next - 1) → x ≡ op_of w → t ≡ resumed_turns x → s ≡ needs_by pick k (code_in n rd d) next
      → t + s ≡ left_by n rd d pick
  unfolding left_by named_op named_step
  left-begun pick pc next k w t s x e h after some count word op turns rest =
      let f : next - 1 ≡ rd (field Pc d) % 9223372036854775808 - 1 = rw (after, e) in
      let g : suc (next - 1) ≡ next = omega arith in
      rw (← e, ne_eqb pc 0 h, e, ← f, g, turns, op, word, rest, count)

  pub begun-left : (pc next k w t : ℕ) (x : Op) (s : Span) → pc ≡ rd (field Pc d) → (pc ≡ 0 → ⊥) → next ≡ pc % 9223372036854775808 → 1 ≤ next
      → k ≡ rd (field Count d) → w ≡ code_in n rd d (next - 1) → x ≡ op_of w → t ≡ resumed_turns x → s ≡ span k (code_in n rd d) next
      → record { fewest = t + s.fewest; most = t + s.most } ≡ span_left n rd d
  begun-left pc next k w t x s e h after some count word op turns rest =
      let by = λ (pick : ℕ → ℕ → ℕ) (u : ℕ). left-begun pick pc next k w t u x e h after some count word op turns in
      rw (by lesser s.fewest (ap (λ (z : Span). z.fewest) rest), by larger s.most (ap (λ (z : Span). z.most) rest))
