-- A section that the quick test finds well passes the check. What is known where the pass has come to step i (`Fine`): the held set before it, that the
-- steps below it meet causes 5 to 8, and of each jump among them that the held set at its target, or while that lies ahead at step i, is the jump's
-- own. It holds at step 0; a step that is well formed and `fair` carries it on, since below the furthest target no step changes the held set; and
-- behind the last step every target lies behind, so that cause 9 is met too.
use Prim.Native.Nat.{ℕ, ◌+◌, ◌<◌, ◌≤◌}
use Rattle.std.proofs.Common.{Ok}
use mathlib.Core.Path.{◌≡◌, refl, sym, ap, subst, ◌∙◌}
use mathlib.Core.Bool.{Bool, true, cond, ◌&&◌}
use native.Mathlib.Omega.{arith}
use native.Mathlib.Decide.{dec_lt}
use lib.Dec.{leb, ltb}
use borrow.Author.Count.{below_more}
use borrow.Author.Tests.{leb-true, lt-ltb, le-ltb, eq-eqb}
use Rattle.base.proofs.Bools.{and_left, and_right}
use Rattle.code.specs.declared.Op.{Op}
use Rattle.code.specs.declared.Op.TheVariants.{Acquire, Release, Assign, Jump, Finish, Unknown}
use Rattle.code.specs.Op.{op_of}
use Rattle.code.specs.Form.{in_range, in_place, well_formed, held_after}
use Rattle.rules.specs.Rules.{bracketed, ordered, guarded}
use Rattle.section.specs.Check.{Code, held_before, level, check}
use Rattle.section.specs.Sets.{length_ok}
use Rattle.section.specs.Meaning.{bracketed_at, ordered_at, guarded_at}
use Rattle.section.specs.Inner.Well.{furthest, settled, fair}
use Rattle.section.proofs.Held.{held-zero}
use Rattle.section.proofs.Steps.{place-jump}
use Rattle.section.proofs.Facts.{pass-use, parts-check}
use Rattle.section.proofs.Passing.{held_next}
use Rattle.section.proofs.Whole.{length_most}

-- ---- one instruction

-- below the furthest target an instruction that is settled leaves the held set
settled-stays : (h until i : ℕ) (x : Op) → settled until i x ≡ true → i < until → held_after h x ≡ h
unfolding held_after
settled-stays h until i (Acquire a) s l = absurd (omega (arith, leb-true until i s))
settled-stays h until i (Release a) s l = absurd (omega (arith, leb-true until i s))
settled-stays h until i (Assign a e) s l = refl
settled-stays h until i (Jump a b) s l = refl
settled-stays h until i Finish s l = refl
settled-stays h until i Unknown s l = refl

jump-stays : (h : ℕ) (x : Op) (a b : ℕ) → x ≡ Jump a b → held_after h x ≡ h
unfolding held_after
jump-stays h x a b o = rw o

-- the larger of two
larger : (u b : ℕ) → Dec (u < b) → (u ≤ cond (ltb u b) b u) × (b ≤ cond (ltb u b) b u)
larger u b (yes l) = rw (lt-ltb u b l) (omega arith, omega arith)
larger u b (no l) = rw (le-ltb u b (omega arith)) (omega arith, omega arith)

-- the furthest target is never lowered
furthest-from : (until : ℕ) (x : Op) → until ≤ furthest until x
furthest-from until (Acquire a) = omega arith
furthest-from until (Release a) = omega arith
furthest-from until (Assign a e) = omega arith
furthest-from until (Jump a b) = (larger until b (dec_lt until b)).0
furthest-from until Finish = omega arith
furthest-from until Unknown = omega arith

-- and is at least that of the jump
furthest-jump : (until a b : ℕ) (x : Op) → x ≡ Jump a b → b ≤ furthest until x
furthest-jump until a b x o = subst (λ (y : Op). b ≤ furthest until y) (sym o) (larger until b (dec_lt until b)).1

-- a jump that meets cause 5 goes forward and inside
formed-jump : (own n i w a b : ℕ) → well_formed own n i w ≡ true → op_of w ≡ Jump a b → (i < b) × (b < n)
unfolding well_formed
formed-jump own n i w a b f o = place-jump n i a b (subst (λ (y : Op). in_place n i y ≡ true) o (and_right (in_range own w) (in_place n i (op_of w)) f))

four-tests : (p q r s : Bool) → (p && q && r && s) ≡ true → ((p ≡ true) × (q ≡ true) × (r ≡ true)) × (s ≡ true)
four-tests p q r s e =
    let t = and_left (p && q && r) s e in
    let d = and_left (p && q) r t in
    ((and_left p q d, and_right p q d, and_right (p && q) r t), and_right (p && q && r) s e)

-- ---- the pass, come to step i with h held before it

-- of a jump at step j to step b: its target is at most the furthest, and the held set there is the jump's own, or at step i while that is not past it
pub record Jumped (code : Code) (i until j b : ℕ) : Type 0 where
  pub reach : b ≤ until
  pub ahead : i ≤ b → held_before code i ≡ held_before code j
  pub behind : b < i → held_before code b ≡ held_before code j

pub record Fine (own n : ℕ) (code : Code) (h until i : ℕ) : Type 0 where
  pub most : i ≤ n
  pub held : h ≡ held_before code i
  pub formed : (j : ℕ) → j < i → well_formed own n j (code j) ≡ true
  pub used : (j : ℕ) → j < i → (bracketed_at code j ≡ true) × (ordered_at code j ≡ true) × (guarded_at code j ≡ true)
  pub jumps : (j a b : ℕ) → j < i → op_of (code j) ≡ Jump a b → Jumped code i until j b

module _ (own n : ℕ) (code : Code) where
  pub fine-start : Fine own n code 0 0 0
  fine-start =
      record {
        most = omega arith;
        held = sym (held-zero code);
        formed = λ j l. absurd (omega arith);
        used = λ j l. absurd (omega arith);
        jumps = λ j a b l o. absurd (omega arith);
      }

  -- ---- one step on

  module _ (until i : ℕ) (f : well_formed own n i (code i) ≡ true) (s : settled until i (op_of (code i)) ≡ true) where
    abbrev next : ℕ
    next = furthest until (op_of (code i))

    -- a jump before step i
    earlier-jumped : (j b : ℕ) → Jumped code i until j b → Jumped code (i + 1) next j b
    earlier-jumped j b y =
        record {
          reach = omega (arith, y.reach, furthest-from until (op_of (code i)));
          ahead = λ l. held_next code i
              ∙ (settled-stays (held_before code i) until i (op_of (code i)) s (omega (arith, y.reach)) ∙ y.ahead (omega arith));
          behind = λ l. by l (dec_lt b i);
        }
      where
        by : b < i + 1 → Dec (b < i) → held_before code b ≡ held_before code j
        by l (yes q) = y.behind q
        by l (no q) = let e : b ≡ i = omega arith in rw e (y.ahead (omega arith))

    -- a jump at it
    this-jumped : (a b : ℕ) → op_of (code i) ≡ Jump a b → Jumped code (i + 1) next i b
    this-jumped a b o =
        record {
          reach = furthest-jump until a b (op_of (code i)) o;
          ahead = λ l. held_next code i ∙ jump-stays (held_before code i) (op_of (code i)) a b o;
          behind = λ l. absurd (omega (arith, (formed-jump own n i (code i) a b f o).0));
        }

    next-jumped :
        ((j a b : ℕ) → j < i → op_of (code j) ≡ Jump a b → Jumped code i until j b) → (j a b : ℕ) → j < i + 1 → op_of (code j) ≡ Jump a b
        → Jumped code (i + 1) next j b
    next-jumped p j a b l o = by (dec_lt j i)
      where
        by : Dec (j < i) → Jumped code (i + 1) next j b
        by (yes q) = earlier-jumped j b (p j a b q o)
        by (no q) =
            let e : j ≡ i = omega arith in
            subst (λ (k : ℕ). Jumped code (i + 1) next k b) (sym e) (this-jumped a b (ap (λ (k : ℕ). op_of (code k)) (sym e) ∙ o))

  next-fine :
      (until i : ℕ) → i < n → Fine own n code (held_before code i) until i → well_formed own n i (code i) ≡ true
      → fair until i (held_before code i) (op_of (code i)) ≡ true
      → Fine own n code (held_after (held_before code i) (op_of (code i))) (furthest until (op_of (code i))) (i + 1)
  next-fine until i l p f g =
      let h = held_before code i in
      let x = op_of (code i) in
      let (u, s) = four-tests (bracketed i h x) (ordered h x) (guarded h x) (settled until i x) g in
      record {
        most = omega arith;
        held = sym (held_next code i);
        formed = below_more _ _ p.formed f;
        used = below_more _ _ p.used u;
        jumps = next-jumped until i f s p.jumps;
      }

  -- with the numbers that the code has
  pub fine-next :
      {h until i h' until' : ℕ} {x : Op} → i < n → Fine own n code h until i → well_formed own n i (code i) ≡ true → x ≡ op_of (code i)
      → fair until i h x ≡ true → h' ≡ held_after h x → until' ≡ furthest until x → Fine own n code h' until' (i + 1)
  fine-next {h} {until} {i} {h'} {until'} {x} l p f o g eh eu =
      let q = p.held in
      let there = subst (λ (k : ℕ). Fine own n code k until i) q p in
      let tests = subst (λ (k : ℕ). fair until i k (op_of (code i)) ≡ true) q (subst (λ (y : Op). fair until i h y ≡ true) o g) in
      rw (eh, eu, o, q) (next-fine until i l there f tests)

  -- ---- the end

  ends-level : (h until : ℕ) → Fine own n code h until n → (j : ℕ) (x : Op) → j < n → op_of (code j) ≡ x → level code (held_before code j) x ≡ true
  ends-level h until p j (Acquire a) l o = refl
  ends-level h until p j (Release a) l o = refl
  ends-level h until p j (Assign a e) l o = refl
  ends-level h until p j (Jump a b) l o =
      eq-eqb (held_before code b) (held_before code j) ((p.jumps j a b l o).behind (formed-jump own n j (code j) a b (p.formed j l) o).1)
  ends-level h until p j Finish l o = refl
  ends-level h until p j Unknown l o = refl

  pub fine_end : (h until : ℕ) → length_ok n ≡ true → Fine own n code h until n → check own n code ≡ Ok tt
  fine_end h until k p =
      parts-check own n code (leb-true 3 n (and_left (leb 3 n) (leb n 64) k)) (length_most n k) p.formed
      (λ j l. let (b, o, g) = p.used j l in pass-use code j b o g (ends-level h until p j (op_of (code j)) l refl))
