-- A worker that is on its way to a step's pc: how it came to stand before the step (`Origin`), and what else holds until the
-- pc is stored (`Before`). Both are kept by every store on that way, since they rest on words that it keeps. From them come
-- the phases `fresh` and `between`.
use Prim.Native.Nat.{ℕ, suc, ◌<◌, ◌≤◌}
use mathlib.Core.Path.{◌≡◌, refl, sym, ap, subst, subst₂, fun_ext, ◌∙◌}
use native.Mathlib.Omega.{arith}
use Rattle.image.specs.declared.Field.{Field}
use Rattle.image.specs.declared.Field.TheVariants.{Count, Pc, Intent, Owned, Number, Finished}
use Rattle.image.specs.Place.{field, Memory, own}
use Rattle.image.specs.Image.{index_of}
use Rattle.code.specs.declared.Op.{Op}
use Rattle.code.specs.declared.Op.TheVariants.{Acquire, Release, Assign, Jump, Finish, Unknown}
use Rattle.code.specs.Op.{op_of}
use Rattle.section.specs.Check.{Code, held_before}
use Rattle.section.specs.Valid.{Valid}
use Rattle.section.proofs.Held.{held-zero}
use Rattle.code.proofs.Ranges.{known, op_turns}
use Rattle.working.specs.Cursor.{on}
use Rattle.worklog.specs.Log.{operand, code_in, word_in, active_addr, active_val}
use Rattle.owed.specs.Owed.{target_of}
use Rattle.claims.specs.Reference.{Given}
use Rattle.claims.proofs.Invariant.{op_at, held_at, Sectioned, logs_held, Named, Nearing, Jumps, stay, leap, Lodged, Phase, fresh, between}
use Rattle.claims.proofs.Fields.{KeepsNamed, Quiet, active-addr-kept, active-val-kept, word_kept}

-- ---- what is kept with the pc, the section and the active entry

module _ (n : ℕ) (rd rd' : Memory) (d : ℕ) (k : KeepsNamed n rd rd' d) where
  code-kept : code_in n rd' d ≡ code_in n rd d
  code-kept = fun_ext k.steps

  pub op-kept : (s : ℕ) → op_at n rd' d s ≡ op_at n rd d s
  op-kept s = ap op_of (k.steps s)

  pub held_kept : (s : ℕ) → held_at n rd' d s ≡ held_at n rd d s
  held_kept s = ap (λ (c : Code). held_before c s) code-kept

  pub value-kept : rd' (field (active_val n rd' d) d) ≡ rd (field (active_val n rd d) d)
  value-kept = ap (λ (f : Field). rd' (field f d)) (active-val-kept n rd rd' d k.pc) ∙ k.value

  address_kept : rd' (field (active_addr n rd' d) d) ≡ rd (field (active_addr n rd d) d)
  address_kept = ap (λ (f : Field). rd' (field f d)) (active-addr-kept n rd rd' d k.pc) ∙ k.address

  pub sectioned-kept : rd' (field Number d) ≡ rd (field Number d) → rd' (field Finished d) ≤ rd' (field Number d) → Sectioned n rd d → Sectioned n rd' d
  sectioned-kept e l s =
      record {
        valid = subst₂ (λ (c : ℕ) (f : Code). Valid n c f) (sym k.count) (sym code-kept) s.valid;
        numbered = rw e s.numbered;
        unfinished = l;
      }

  private-logs : (s : ℕ) (x : Op) → logs_held n rd d s x → logs_held n rd' d s x
  private-logs s (Acquire a) h = value-kept ∙ (h ∙ sym (held_kept (suc s)))
  private-logs s (Release a) h = value-kept ∙ (h ∙ sym (held_kept (suc s)))
  private-logs s (Assign a e) h = tt
  private-logs s (Jump a b) h = h
  private-logs s Finish h = h
  private-logs s Unknown h = h

  pub named-kept : (s : ℕ) → Named n rd d s → Named n rd' d s
  named-kept s m =
      record {
        pc = rw k.pc m.pc;
        below = rw k.count m.below;
        address = address_kept ∙ (m.address ∙ ap (λ (x : Op). index_of n (target_of d x)) (sym (op-kept s)));
        logs = subst (λ (x : Op). logs_held n rd' d s x) (sym (op-kept s)) (private-logs s (op_at n rd d s) m.logs);
      }

  pub entered-kept : ((i : ℕ) → rd' (own d i) ≡ rd (own d i)) → rd' (field Number d) ≡ rd (field Number d) → (g : Given) → Lodged n rd d g → Lodged n rd' d g
  entered-kept owns number g h =
      record {
        by = h.by;
        numbered = h.numbered ∙ sym number;
        code = λ i l. h.code i (rw k.count at l) ∙ sym (k.steps i);
        size = h.size;
        args = λ i l. h.args i l ∙ sym (owns i);
      }

-- ---- how a worker came to stand before step k, with j jumps that are not counted

pub data Origin (n : ℕ) (rd : Memory) (d : ℕ) (g : Given) : ℕ → ℕ → Type 0 where
  -- its section is not begun
  began : Lodged n rd d g → rd (field Pc d) ≡ 0 → Origin n rd d g 0 0
  -- its step s is over
  after :
      (s k j : ℕ) → Named n rd d s → rd (target_of d (op_at n rd d s)) ≡ rd (field (active_val n rd d) d) → Jumps n rd d (suc s) j k
      → held_at n rd d k ≡ held_at n
      rd d (suc s)
      → Origin n rd d g k j

module _ (n : ℕ) (rd rd' : Memory) (d : ℕ) (q : Quiet n rd rd' d) where
  words : (x : ℕ) → rd' (operand d x) ≡ rd (operand d x)
  words = word_kept n rd rd' d q.owns q.cells

  pub reads_kept : word_in n rd' d ≡ word_in n rd d
  reads_kept = fun_ext words

  target-kept : (x : Op) → rd' (target_of d x) ≡ rd (target_of d x)
  target-kept (Acquire a) = q.owned
  target-kept (Release a) = q.owned
  target-kept (Assign a e) = words a
  target-kept (Jump a b) = q.owned
  target-kept Finish = q.owned
  target-kept Unknown = q.owned

  jumps_kept : {i j k : ℕ} → Jumps n rd d i j k → Jumps n rd' d i j k
  jumps_kept stay = stay
  jumps_kept (leap j k a b r l o) = rw (words a) at (leap j k a b (jumps_kept r) (rw q.keeps.count l) (op-kept n rd rd' d q.keeps k ∙ o))

  pub origin-kept : {g : Given} {k j : ℕ} → Origin n rd d g k j → Origin n rd' d g k j
  origin-kept {g} (began h p) = began (entered-kept n rd rd' d q.keeps q.owns q.number g h) (q.keeps.pc ∙ p)
  origin-kept {g} (after s k j m done r e) =
      let ks = q.keeps in
      after s k j (named-kept n rd rd' d ks s m)
      (ap (λ (x : Op). rd' (target_of d x)) (op-kept n rd rd' d ks s) ∙ (target-kept (op_at n rd d s) ∙ (done ∙ sym (value-kept n rd rd' d ks))))
      (jumps_kept r)
      (held_kept n rd rd' d ks k ∙ (e ∙ sym (held_kept n rd rd' d ks (suc s))))

-- ---- before the pc of step k is stored

pub record Before (n : ℕ) (rd : Memory) (d : ℕ) (g : Given) (k j : ℕ) : Type 0 where
  pub sectioned : Sectioned n rd d
  pub origin : Origin n rd d g k j
  pub below : k < rd (field Count d)
  pub owned : rd (field Owned d) ≡ held_at n rd d k

pub before-kept :
    (n : ℕ) (rd rd' : Memory) (d : ℕ) (g : Given) (k j : ℕ) → Quiet n rd rd' d → rd' (field Finished d) ≤ rd' (field Number d) → Before n rd d g k j
    → Before n rd' d g k j
before-kept n rd rd' d g k j q l b =
    record {
      sectioned = sectioned-kept n rd rd' d q.keeps q.number l b.sectioned;
      origin = origin-kept n rd rd' d q b.origin;
      below = rw q.keeps.count b.below;
      owned = q.owned ∙ (b.owned ∙ sym (held_kept n rd rd' d q.keeps k));
    }

module _ (n : ℕ) (rd : Memory) (d : ℕ) (g : Given) where
  private-near :
      {k j : ℕ} (t locks : ℕ) → Sectioned n rd d → Origin n rd d g k j → k < rd (field Count d) → rd (field Owned d) ≡ held_at n rd d k
      → Nearing n rd d k t (held_at n rd d k) locks (op_at n rd d k) → Phase n rd d g (on k t) locks j
  private-near t locks s (began h p) l o r =
      let z = held-zero (code_in n rd d) in
      fresh t locks s h p (o ∙ z) (subst (λ (m : ℕ). Nearing n rd d 0 t m locks (op_at n rd d 0)) z r)
  private-near t locks s (after i k j m done js e) l o r = between i k t locks j s m done js l o e r

  -- the phase at turn t of step k
  pub near : (k j t locks : ℕ) (x : Op) → Before n rd d g k j → op_at n rd d k ≡ x → Nearing n rd d k t (held_at n rd d k) locks x
      → Phase n rd d g (on k t) locks j
  near k j t locks x b o r =
      private-near t locks b.sectioned b.origin b.below b.owned (subst (λ (y : Op). Nearing n rd d k t (held_at n rd d k) locks y) (sym o) r)

  private-start : (k h locks : ℕ) (x : Op) → (x ≡ Unknown → ⊥) → rd (field Intent d) ≡ h → locks ≡ h → Nearing n rd d k 0 h locks x
  private-start k h locks (Acquire a) u e f = (omega arith, e, f, (λ m. absurd (omega arith)), (λ m. absurd (omega arith)))
  private-start k h locks (Release a) u e f = (omega arith, e, f, (λ m. absurd (omega arith)), (λ m. absurd (omega arith)))
  private-start k h locks (Assign a x) u e f = (omega arith, e, f, (λ m. absurd (omega arith)), (λ m. absurd (omega arith)))
  private-start k h locks (Jump a b) u e f = (refl, e, f)
  private-start k h locks Finish u e f = (omega arith, e, f, λ m. absurd (omega arith))
  private-start k h locks Unknown u e f = u refl

  -- and at its first turn
  pub arrive : (k j locks : ℕ) → Before n rd d g k j → rd (field Intent d) ≡ held_at n rd d k → locks ≡ held_at n rd d k → Phase n rd d g (on k 0) locks j
  arrive k j locks b e f =
      let x = op_at n rd d k in
      near k j 0 locks x b refl (private-start k (held_at n rd d k) locks x (known n (code_in n rd d k) (b.sectioned.valid.ranges k b.below)) e f)

-- a step that has come so far has the turn
pub near-ready : (n : ℕ) (rd : Memory) (d k t h locks : ℕ) (x : Op) → Nearing n rd d k t h locks x → t < op_turns x
near-ready n rd d k t h locks (Acquire a) r = let l = r.0 in omega arith
near-ready n rd d k t h locks (Release a) r = let l = r.0 in omega arith
near-ready n rd d k t h locks (Assign a e) r = let l = r.0 in omega arith
near-ready n rd d k t h locks (Jump a b) r = let l = r.0 in omega arith
near-ready n rd d k t h locks Finish r = let l = r.0 in omega arith
near-ready n rd d k t h locks Unknown r = absurd r
