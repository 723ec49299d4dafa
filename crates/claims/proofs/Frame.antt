-- A worker's phase looks only at its own record, its own words and the cells whose locks it has: where two memories agree on
-- these (`Agree`), it stands in the one as in the other (`phase-same`). An expression and a jump of a valid section read only
-- words that the held set covers, and what is held is among the locks (`nearing-within`); the rest is the record's own words,
-- kept as by a store of another word (`keeps`). By cases on the phase.
use Prim.Native.Nat.{ℕ, suc, ◌-◌, ◌/◌, ◌<◌, ◌+◌}
use mathlib.Core.Path.{◌≡◌, refl, subst, ◌∙◌, sym}
use mathlib.Core.Logic.{◌⊎◌, inl, inr}
use mathlib.Core.Bool.{Bool, true, false, cond, and-eq-true_iff}
use lib.Dec.{leb, ltb, eqb}
use borrow.Author.Tests.{leb-true}
use native.Mathlib.Omega.{arith}
use Rattle.mask.specs.Mask.{has, with}
use Rattle.image.specs.declared.Field.{Field}
use Rattle.image.specs.declared.Field.TheVariants.{Count, Pc, Intent, Owned, Number, Finished}
use Rattle.image.specs.Place.{cell, field, own, step, Memory}
use Rattle.code.specs.declared.Expr.{Expr}
use Rattle.code.specs.declared.Expr.TheVariants.{Literal, Sum, Difference, Less}
use Rattle.code.specs.declared.Op.{Op}
use Rattle.code.specs.declared.Op.TheVariants.{Acquire, Release, Assign, Jump, Finish, Unknown}
use Rattle.code.specs.Op.{eval}
use Rattle.rules.specs.Rules.{covered, covered_in}
use Rattle.section.specs.Check.{Code, held_before}
use Rattle.section.specs.Valid.{Valid}
use Rattle.code.specs.Inner.Fits.{ranged}
use Rattle.section.proofs.Held.{held-zero, after-jump, after-assign}
use Rattle.code.proofs.Ranges.{expr-range}
use Rattle.working.specs.Cursor.{Cursor, on}
use Rattle.worklog.specs.Log.{operand, code_in, word_in, spare_addr, spare_val, active_addr, active_val}
use Rattle.owed.specs.Owed.{target_of}
use Rattle.resuming.specs.Resumed.{target_turn}
use Rattle.claims.specs.Reference.{Given}
use Rattle.claims.proofs.Invariant.{op_at, held_at, Sectioned, Nearing, Due, Jumps, stay, leap, Phase, resting, fresh, due, unlocking, unlocked, between}
use Rattle.claims.proofs.Invariant.{ended}
use Rattle.claims.proofs.Sets.{Subset, within-refl, within-with, within_none}
use Rattle.claims.proofs.Fields.{KeepsNamed, spare-addr-kept, spare-val-kept}
use Rattle.claims.proofs.Origins.{op-kept, held_kept, value-kept, sectioned-kept, named-kept, entered-kept}

-- the memories agree on what worker e, which has these locks, looks at
pub record Agree (rd rd' : Memory) (e locks : ℕ) : Type 0 where
  pub fields : (f : Field) → rd' (field f e) ≡ rd (field f e)
  pub steps : (i : ℕ) → rd' (step e i) ≡ rd (step e i)
  pub owns : (i : ℕ) → rd' (own e i) ≡ rd (own e i)
  pub cells : (x : ℕ) → x < 512 → has locks (x / 8) ≡ true → rd' (cell x) ≡ rd (cell x)

-- ---- expressions

-- an expression reads only words that are covered and in range
pub eval-same :
    (n h : ℕ) (f g : ℕ → ℕ) → ((x : ℕ) → covered h x ≡ true → x < 512 + n → f x ≡ g x) → (e : Expr) → covered_in h e ≡ true → ranged n e → eval f e ≡ eval g e
unfolding eval
eval-same n h f g r (Literal b c) k l = refl
eval-same n h f g r (Sum b c) k l =
    let (p, q) = (and-eq-true_iff (covered h b) (covered h c)).0 k in
    rw (r b p l.0, r c q l.1)
eval-same n h f g r (Difference b c) k l =
    let (p, q) = (and-eq-true_iff (covered h b) (covered h c)).0 k in
    rw (r b p l.0, r c q l.1)
eval-same n h f g r (Less b c) k l =
    let (p, q) = (and-eq-true_iff (covered h b) (covered h c)).0 k in
    rw (r b p l.0, r c q l.1)

-- a step that has come near its pc has what it holds among its locks
pub nearing-within : (n : ℕ) (rd : Memory) (e s t h locks : ℕ) (x : Op) → Nearing n rd e s t h locks x → Subset h locks
nearing-within n rd e s t h locks (Acquire a) (p, i, l, u, v) = subst (Subset h) (sym l) (by (leb t 1))
  where
    by : (b : Bool) → Subset h (cond b h (with h a))
    by true = within-refl h
    by false = within-with h a
nearing-within n rd e s t h locks (Release a) (p, i, l, u, v) = subst (Subset h) (sym l) (within-refl h)
nearing-within n rd e s t h locks (Assign a z) (p, i, l, u, v) = subst (Subset h) (sym l) (within-refl h)
nearing-within n rd e s t h locks (Jump a b) (p, i, l) = subst (Subset h) (sym l) (within-refl h)
nearing-within n rd e s t h locks Finish (p, i, l, f) = subst (Subset h) (sym l) (within-refl h)
nearing-within n rd e s t h locks Unknown z = absurd z

pub some-steps : {n k : ℕ} {code : Code} → Valid n k code → 0 < k
some-steps v = let l = v.least in omega arith

private-jump : (t : Bool) (code : Code) (b k h : ℕ) → held_before code b ≡ h → held_before code (suc k) ≡ h → held_before code (cond t b (suc k)) ≡ h
private-jump true code b k h p q = p
private-jump false code b k h p q = q

-- jumps keep the held set
pub jumps-held : (n : ℕ) (rd : Memory) (e i j k : ℕ) → Valid n (rd (field Count e)) (code_in n rd e) → Jumps n rd e i j k → held_at n rd e k ≡ held_at n rd e i
jumps-held n rd e i j k v stay = refl
jumps-held n rd e i j k v (leap jj kk a b js l o) =
    private-jump (eqb (word_in n rd e a) 0) (code_in n rd e) b kk (held_at n rd e kk) (v.jumps kk a b l o).2 (after-jump (code_in n rd e) kk a b o)
    ∙ jumps-held n rd e i jj kk v js

module _ (n : ℕ) (rd rd' : Memory) (e locks : ℕ) (A : Agree rd rd' e locks) where
  -- the pc, the section and the active entry are kept
  keeps : KeepsNamed n rd rd' e
  keeps = record { steps = A.steps; count = A.fields Count; pc = A.fields Pc; address = A.fields (active_addr n rd e); value = A.fields (active_val n rd e) }

  -- and so is the spare one
  spare_addr-same : rd' (field (spare_addr n rd' e) e) ≡ rd (field (spare_addr n rd e) e)
  spare_addr-same = rw (spare-addr-kept n rd rd' e (A.fields Pc)) (A.fields (spare_addr n rd e))

  spare_val-same : rd' (field (spare_val n rd' e) e) ≡ rd (field (spare_val n rd e) e)
  spare_val-same = rw (spare-val-kept n rd rd' e (A.fields Pc)) (A.fields (spare_val n rd e))

  sectioned-same : Sectioned n rd e → Sectioned n rd' e
  sectioned-same s = sectioned-kept n rd rd' e keeps (A.fields Number) (rw (A.fields Number, A.fields Finished) s.unfinished) s

  -- a covered word
  word_same : (h x : ℕ) → Subset h locks → covered h x ≡ true → word_in n rd' e x ≡ word_in n rd e x
  unfolding operand
  word_same h x w c = by (ltb x 512) refl (leb 512 x) refl
    where
      by : (t : Bool) → ltb x 512 ≡ t → (u : Bool) → leb 512 x ≡ u
          → rd' (cond (ltb x 512) (cell x) (own e (x - 512))) ≡ rd (cond (ltb x 512) (cell x) (own e (x - 512)))
      by true t u v = rw t (A.cells x (borrow.Author.Tests.ltb-true x 512 t) (w (x / 8) (in_cell u v)))
        where
          in_cell : (u : Bool) → leb 512 x ≡ u → has h (x / 8) ≡ true
          in_cell true v = absurd (let a = leb-true 512 x v in let b = borrow.Author.Tests.ltb-true x 512 t in omega arith)
          in_cell false v = rw v at c
      by false t u v = rw t (A.owns (x - 512))

  -- how far a step has come: the words that an assignment reads are covered by h, which is within the locks
  nearing-same :
      (s t h : ℕ) (x : Op) → Subset h locks → ((a : ℕ) (z : Expr) → x ≡ Assign a z → (covered_in h z ≡ true) × ranged n z) → Nearing n rd e s t h locks x →
      Nearing n rd' e s t h locks x
  nearing-same s t h (Acquire a) w c (p, i, l, u, v) = (p, A.fields Intent ∙ i, l, λ m. spare_addr-same ∙ u m, λ m. spare_val-same ∙ v m)
  nearing-same s t h (Release a) w c (p, i, l, u, v) = (p, A.fields Intent ∙ i, l, λ m. spare_addr-same ∙ u m, λ m. spare_val-same ∙ v m)
  nearing-same s t h (Assign a z) w c (p, i, l, u, v) = (
    p,
    A.fields Intent ∙ i,
    l,
    λ m. spare_addr-same ∙ u m,
    λ m. spare_val-same ∙ (v m ∙ eval-same n h (word_in n rd e) (word_in n rd' e) (λ x k l. sym (word_same h x w k)) z (c a z refl).0 (c a z refl).1),
  )
  nearing-same s t h (Jump a b) w c (p, i, l) = (p, A.fields Intent ∙ i, l)
  nearing-same s t h Finish w c (p, i, l, f) = (p, A.fields Intent ∙ i, l, λ m. A.fields Finished ∙ (f m ∙ sym (A.fields Number)))
  nearing-same s t h Unknown w c z = z

  due-same : (s : ℕ) (x : Op) → Due n rd e s locks x → Due n rd' e s locks x
  due-same s (Acquire a) (o, i, l) = (by o, A.fields Intent ∙ (i ∙ sym (held_kept n rd rd' e keeps (suc s))), l ∙ sym (held_kept n rd rd' e keeps (suc s)))
    where
      by : (rd (field Owned e) ≡ held_at n rd e s) ⊎ (rd (field Owned e) ≡ held_at n rd e (suc s))
          → (rd' (field Owned e) ≡ held_at n rd' e s) ⊎ (rd' (field Owned e) ≡ held_at n rd' e (suc s))
      by (inl h) = inl (A.fields Owned ∙ (h ∙ sym (held_kept n rd rd' e keeps s)))
      by (inr h) = inr (A.fields Owned ∙ (h ∙ sym (held_kept n rd rd' e keeps (suc s))))
  due-same s (Release a) (o, l) = (by o, l ∙ sym (A.fields Intent))
    where
      by :
          ((rd (field Owned e) ≡ held_at n rd e s) × (rd (field Intent e) ≡ held_at n rd e s)) ⊎
          ((rd (field Owned e) ≡ held_at n rd e (suc s)) × (rd (field Intent e) ≡ held_at n rd e (suc s)))
          → ((rd' (field Owned e) ≡ held_at n rd' e s) × (rd' (field Intent e) ≡ held_at n rd' e s)) ⊎
          ((rd' (field Owned e) ≡ held_at n rd' e (suc s)) × (rd' (field Intent e) ≡ held_at n rd' e (suc s)))
      by (inl h) = inl (A.fields Owned ∙ (h.0 ∙ sym (held_kept n rd rd' e keeps s)), A.fields Intent ∙ (h.1 ∙ sym (held_kept n rd rd' e keeps s)))
      by (inr h) =
          inr (A.fields Owned ∙ (h.0 ∙ sym (held_kept n rd rd' e keeps (suc s))), A.fields Intent ∙ (h.1 ∙ sym (held_kept n rd rd' e keeps (suc s))))
  due-same s (Assign a z) (o, i, l) = (
    A.fields Owned ∙ (o ∙ sym (held_kept n rd rd' e keeps s)),
    A.fields Intent ∙ (i ∙ sym (held_kept n rd rd' e keeps s)),
    l ∙ sym
        (held_kept n rd rd' e keeps s),
  )
  due-same s (Jump a b) h = h
  due-same s Finish h = h
  due-same s Unknown h = h

  intent-same : (s : ℕ) → (rd (field Intent e) ≡ held_at n rd e s) ⊎ (rd (field Intent e) ≡ held_at n rd e (suc s))
      → (rd' (field Intent e) ≡ held_at n rd' e s) ⊎ (rd' (field Intent e) ≡ held_at n rd' e (suc s))
  intent-same s (inl h) = inl (A.fields Intent ∙ (h ∙ sym (held_kept n rd rd' e keeps s)))
  intent-same s (inr h) = inr (A.fields Intent ∙ (h ∙ sym (held_kept n rd rd' e keeps (suc s))))

  jumps-same : (i j k : ℕ) → Valid n (rd (field Count e)) (code_in n rd e) → Subset (held_at n rd e i) locks → Jumps n rd e i j k → Jumps n rd' e i j k
  jumps-same i j k v w stay = stay
  jumps-same i j k v w (leap jj kk a b js l o) =
      let c = subst (λ (h : ℕ). covered h a ≡ true) (jumps-held n rd e i jj kk v js) (v.tests kk a b l o) in
      subst (λ (x : ℕ). Jumps n rd' e i (suc jj) (cond (eqb x 0) b (suc kk))) (word_same (held_at n rd e i) a w c)
      (leap jj kk a b (jumps-same i jj kk v w js) (rw (A.fields Count) l) (op-kept n rd rd' e keeps kk ∙ o))

  -- a target that stands on a word covered by h
  target-same : (h s : ℕ) → Subset h locks → ((a : ℕ) (z : Expr) → op_at n rd e s ≡ Assign a z → covered h a ≡ true)
      → rd' (target_of e (op_at n rd e s)) ≡ rd (target_of e (op_at n rd e s))
  target-same h s w c = by (op_at n rd e s) refl
    where
      by : (x : Op) → op_at n rd e s ≡ x → rd' (target_of e x) ≡ rd (target_of e x)
      by (Acquire a) o = A.fields Owned
      by (Release a) o = A.fields Owned
      by (Assign a z) o = word_same h a w (c a z o)
      by (Jump a b) o = A.fields Owned
      by Finish o = A.fields Owned
      by Unknown o = A.fields Owned

-- a worker stands in a memory as in one that agrees with it
pub phase-same : (n : ℕ) (rd rd' : Memory) (e : ℕ) (g : Given) (c : Cursor) (locks j : ℕ) → Phase n rd e g c locks j → Agree rd rd' e locks
    → Phase n rd' e g c locks j
phase-same n rd rd' e g c locks j (resting k p i o) A = resting (A.fields Count ∙ k) (A.fields Pc ∙ p) (A.fields Intent ∙ i) (A.fields Owned ∙ o)
phase-same n rd rd' e g c locks j (fresh t l s h p o m) A =
    let m' =
    nearing-same n rd rd' e l A 0 t 0 (op_at n rd e 0) (within_none l)
    (λ a z q. (
      subst (λ (h : ℕ). covered_in h z ≡ true) (held-zero (code_in n rd e)) (s.valid.operands 0 a z (some-steps s.valid) q),
      expr-range n
          (code_in n rd e 0) a z (s.valid.ranges 0 (some-steps s.valid)) q,
    )) m
    in
    fresh t l (sectioned-same n rd rd' e l A s) (entered-kept n rd rd' e (keeps n rd rd' e l A) A.owns (A.fields Number) g h) (A.fields Pc ∙ p)
    (A.fields Owned ∙ o)
    (subst (Nearing n rd' e 0 t 0 l) (sym (op-kept n rd rd' e (keeps n rd rd' e l A) 0)) m')
phase-same n rd rd' e g c locks j (due s l k m q) A =
    subst (λ (x : Op). Phase n rd' e g (on s (target_turn x)) l 0) (op-kept n rd rd' e (keeps n rd rd' e l A) s)
    (due s l (sectioned-same n rd rd' e l A k) (named-kept n rd rd' e (keeps n rd rd' e l A) s m)
    (subst (Due n rd' e s l) (sym (op-kept n rd rd' e (keeps n rd rd' e l A) s)) (due-same n rd rd' e l A s (op_at n rd e s) q)))
phase-same n rd rd' e g c locks j (unlocking s a l k m o w i q) A =
    unlocking s a l (sectioned-same n rd rd' e l A k) (named-kept n rd rd' e (keeps n rd rd' e l A) s m) (op-kept n rd rd' e (keeps n rd rd' e l A) s ∙ o)
    (A.fields Owned ∙ (w ∙ sym (held_kept n rd rd' e (keeps n rd rd' e l A) (suc s))))
    (intent-same n rd rd' e l A s i) (q ∙ sym (A.fields Intent))
phase-same n rd rd' e g c locks j (unlocked s a l k m o w i q) A =
    unlocked s a l (sectioned-same n rd rd' e l A k) (named-kept n rd rd' e (keeps n rd rd' e l A) s m) (op-kept n rd rd' e (keeps n rd rd' e l A) s ∙ o)
    (A.fields Owned ∙ (w ∙ sym (held_kept n rd rd' e (keeps n rd rd' e l A) (suc s))))
    (intent-same n rd rd' e l A s i) (q ∙ sym (held_kept n rd rd' e (keeps n rd rd' e l A) (suc s)))
phase-same n rd rd' e g c locks j (between s k t l jj q m f u z o h y) A =
    let w = nearing-within n rd e k t (held_at n rd e k) l (op_at n rd e k) y in
    let f' =
    target-same n rd rd' e l A (held_at n rd e k) s w
    (λ a x p. subst (λ (g : ℕ). covered g a ≡ true) (sym (h ∙ after-assign (code_in n rd e) s a x p)) (q.valid.targets s a x m.below p))
    in
    let y' =
    nearing-same n rd rd' e l A k t (held_at n rd e k) (op_at n rd e k) w
    (λ a x p. (q.valid.operands k a x z p, expr-range n (code_in n rd e k) a x (q.valid.ranges k z) p)) y
    in
    between s k t l jj (sectioned-same n rd rd' e l A q) (named-kept n rd rd' e (keeps n rd rd' e l A) s m)
    (rw (op-kept n rd rd' e (keeps n rd rd' e l A) s) (f' ∙ (f ∙ sym (value-kept n rd rd' e (keeps n rd rd' e l A)))))
    (jumps-same n rd rd' e l A (suc s) jj k q.valid (subst (λ (x : ℕ). Subset x l) h w) u)
    (rw (A.fields Count) z)
    (A.fields Owned ∙ (o ∙ sym (held_kept n rd rd' e (keeps n rd rd' e l A) k)))
    (held_kept n rd rd' e (keeps n rd rd' e l A) k ∙ (h ∙ sym (held_kept n rd rd' e (keeps n rd rd' e l A) (suc s))))
    (subst (Nearing n rd' e k t (held_at n rd' e k) l) (sym (op-kept n rd rd' e (keeps n rd rd' e l A) k))
    (subst (λ (x : ℕ). Nearing n rd' e k t x l (op_at n rd e k)) (sym (held_kept n rd rd' e (keeps n rd rd' e l A) k)) y'))
phase-same n rd rd' e g c locks j (ended s k p o i b q) A =
    ended s (sectioned-same n rd rd' e 0 A k) (A.fields Pc ∙ p) (A.fields Owned ∙ o) (A.fields Intent ∙ i) (rw (A.fields Count) b)
    (op-kept n rd rd' e (keeps n rd rd' e 0 A) s ∙ q)
