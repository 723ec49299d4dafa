-- The steps that jumps lead through, from a step on: a function of the memory (`chain`), the steps of any jumps that are made there (`lands`), and the same
-- in two memories that agree on what the jumps read (`chain_same`, `phase-chain`, `own-chain`).
use Prim.Native.Nat.{ℕ, zero, suc, ◌+◌, ◌-◌, ◌%◌, ◌/◌, ◌^◌, ◌≤◌}
use mathlib.Core.Path.{◌≡◌, refl, sym, ap, subst, ◌∙◌}
use mathlib.Core.Bool.{Bool, true, false, cond}
use mathlib.Core.List.{List, [], ◌∷◌, ◌++◌}
use lib.Dec.{eqb, ltb, leb}
use borrow.Author.Tests.{ltb-true, leb-true}
use native.Mathlib.Omega.{arith}
use Rattle.mask.specs.Mask.{has}
use Rattle.image.specs.declared.Field.TheVariants.{Count, Pc}
use Rattle.image.specs.Place.{Place, cell, lock, field, own, step, Memory}
use Rattle.image.specs.Inner.Same.{upd}
use Rattle.code.specs.declared.Op.{Op}
use Rattle.code.specs.declared.Op.TheVariants.{Acquire, Release, Assign, Jump, Finish, Unknown}
use Rattle.rules.specs.Rules.{covered}
use Rattle.section.specs.Valid.{Valid}
use Rattle.working.specs.Cursor.{Cursor, on}
use Rattle.worklog.specs.Log.{operand, code_in, word_in}
use Rattle.plan.specs.Turn.{Outcome, stored, passed, waiting, resting, refused, op_turn, turn_at, logged}
use Rattle.claims.specs.Reference.{Given}
use Rattle.claims.proofs.Invariant.{op_at, held_at, Nearing, Jumps, stay, leap}
use Rattle.claims.proofs.Invariant.{Phase, resting as rests, fresh, due, unlocking, unlocked, between, ended}
use Rattle.claims.proofs.Sets.{Subset}
use Rattle.claims.proofs.Frame.{Agree, jumps-held, nearing-within}
use Rattle.claims.proofs.Ready.{turn-op}
use Rattle.claims.proofs.Origins.{near-ready}

module _ (n : ℕ) (rd : Memory) (d : ℕ) where
  -- where a step leads, if it is a jump
  abbrev pub hop_by : ℕ → Op → ℕ
  hop_by k (Acquire a) = suc k
  hop_by k (Release a) = suc k
  hop_by k (Assign a e) = suc k
  hop_by k (Jump a b) = cond (eqb (word_in n rd d a) 0) b (suc k)
  hop_by k Finish = suc k
  hop_by k Unknown = suc k

  -- j hops from step i
  abbrev pub landing : ℕ → ℕ → ℕ
  landing i zero = i
  landing i (suc j) = hop_by (landing i j) (op_at n rd d (landing i j))

  abbrev pub chain : ℕ → ℕ → List ℕ
  chain i zero = []
  chain i (suc j) = chain i j ++ (landing i j ∷ [])

  pub lands : {i j k : ℕ} → Jumps n rd d i j k → landing i j ≡ k
  lands stay = refl
  lands (leap j k a b J l o) = rw (lands J, o)

-- memories that agree on the words that a held set covers
module _ (n : ℕ) (rd rd' : Memory) (e i : ℕ) (valid : Valid n (rd (field Count e)) (code_in n rd e)) (steps : (y : ℕ) → rd' (step e y) ≡ rd (step e y))
    (words : (a : ℕ) → covered (held_at n rd e i) a ≡ true → word_in n rd' e a ≡ word_in n rd e a) where
  same-both : {j k : ℕ} → Jumps n rd e i j k → (chain n rd' e i j ≡ chain n rd e i j) × (landing n rd' e i j ≡ landing n rd e i j)
  same-both stay = (refl, refl)
  same-both (leap j k a b J l o) =
      let (p, q) = same-both J in
      let at : landing n rd e i j ≡ k = lands n rd e J in
      let o' : op_at n rd' e k ≡ Jump a b = rw (steps k) o in
      let held = jumps-held n rd e i j k valid J in
      let c : covered (held_at n rd e i) a ≡ true = rw (← held) (valid.tests k a b l o) in
      (rw (p, q), rw (q, at, o', o, words a c))

  pub chain_same : {j k : ℕ} → Jumps n rd e i j k → chain n rd' e i j ≡ chain n rd e i j
  chain_same J = (same-both J).0

-- ---- another's turn

word-agrees :
    (n : ℕ) (rd rd' : Memory) (e locks : ℕ) → Agree rd rd' e locks → (h x : ℕ) → Subset h locks → covered h x ≡ true → word_in n rd' e x ≡ word_in n rd e x
unfolding operand
word-agrees n rd rd' e locks A h x w c = by (ltb x 512) refl (leb 512 x) refl
  where
    by : (t : Bool) → ltb x 512 ≡ t → (u : Bool) → leb 512 x ≡ u
        → rd' (cond (ltb x 512) (cell x) (own e (x - 512))) ≡ rd (cond (ltb x 512) (cell x) (own e (x - 512)))
    by true t u v = rw t (A.cells x (ltb-true x 512 t) (w (x / 8) (in_cell u v)))
      where
        in_cell : (u : Bool) → leb 512 x ≡ u → has h (x / 8) ≡ true
        in_cell true v = absurd (let a = leb-true 512 x v in let b = ltb-true x 512 t in omega arith)
        in_cell false v = rw v at c
    by false t u v = rw t (A.owns (x - 512))

pub phase-chain :
    (n : ℕ) (rd rd' : Memory) (e : ℕ) (g : Given) (c : Cursor) (locks j : ℕ) → Phase n rd e g c locks j → Agree rd rd' e locks
    → (s : ℕ) → rd (field Pc e) % 2 ^ 63 ≡ suc s → chain n rd' e (suc s) j ≡ chain n rd e (suc s) j
phase-chain n rd rd' e g _ _ _ (rests k p i o) A s q = refl
phase-chain n rd rd' e g _ _ _ (fresh t locks sec h p o m) A s q = refl
phase-chain n rd rd' e g _ _ _ (due r locks sec m u) A s q = refl
phase-chain n rd rd' e g _ _ _ (unlocking r a locks sec m o w i u) A s q = refl
phase-chain n rd rd' e g _ _ _ (unlocked r a locks sec m o w i u) A s q = refl
phase-chain n rd rd' e g _ _ _ (between r k t locks j sec m f js l w h near) A s q =
    let z = m.pc in
    let same : r ≡ s = omega arith in
    let sub : Subset (held_at n rd e (suc s)) locks =
    subst (λ (x : ℕ). Subset x locks) (h ∙ ap (λ (x : ℕ). held_at n rd e (suc x)) same)
    (nearing-within n rd e k t (held_at n rd e k) locks (op_at n rd e k) near) in
    chain_same n rd rd' e (suc s) sec.valid A.steps (λ a c. word-agrees n rd rd' e locks A (held_at n rd e (suc s)) a sub c)
    (subst (λ (x : ℕ). Jumps n rd e (suc x) j k) same js)
phase-chain n rd rd' e g _ _ _ (ended r sec p w i l o) A s q = refl

-- ---- a worker's own

-- a field or a lock
abbrev no_word : Place → Type 0
no_word (cell x) = ⊥
no_word (lock b) = Unit {0}
no_word (field f d) = Unit {0}
no_word (own d i) = ⊥
no_word (step d i) = ⊥

abbrev Aside : Outcome → Type 0
Aside (stored p v c) = no_word p
Aside (passed why c) = Unit {0}
Aside (waiting b) = Unit {0}
Aside resting = Unit {0}
Aside (refused r) = Unit {0}

module _ (n : ℕ) (rd : Memory) (d : ℕ) where
  logged-aside : (s t : ℕ) (p : Place) (v : ℕ) (c : Cursor) (i : ℕ) → i ≤ 2 → Aside (logged n rd d s t p v c i)
  logged-aside s t p v c zero l = tt
  logged-aside s t p v c (suc zero) l = tt
  logged-aside s t p v c (suc (suc zero)) l = tt
  logged-aside s t p v c (suc (suc (suc i))) l = absurd (omega arith)

  near-aside : (s t h locks : ℕ) (x : Op) → Nearing n rd d s t h locks x → Aside (op_turn n rd d s t x)
  near-aside s zero h locks (Acquire a) m = tt
  near-aside s (suc zero) h locks (Acquire a) m = by (eqb (rd (lock a)) 0)
    where
      by : (b : Bool) → Aside (cond b (stored (lock a) (d + 1) (on s 2)) (waiting a))
      by true = tt
      by false = tt
  near-aside s (suc (suc t)) h locks (Acquire a) m = let l = m.0 in logged-aside s (suc (suc t)) _ _ _ t (omega arith)
  near-aside s zero h locks (Release a) m = tt
  near-aside s (suc zero) h locks (Release a) m = tt
  near-aside s (suc (suc zero)) h locks (Release a) m = tt
  near-aside s (suc (suc (suc t))) h locks (Release a) m = let l = m.0 in absurd (omega arith)
  near-aside s t h locks (Assign a e) m = let l = m.0 in logged-aside s t _ _ _ t (omega arith)
  near-aside s t h locks (Jump a b) m = tt
  near-aside s zero h locks Finish m = tt
  near-aside s (suc zero) h locks Finish m = tt
  near-aside s (suc (suc t)) h locks Finish m = let l = m.0 in absurd (omega arith)
  near-aside s t h locks Unknown m = absurd m

  no-word : (p : Place) (v x : ℕ) → no_word p → word_in n (upd rd p v) d x ≡ word_in n rd d x
  unfolding operand
  no-word p v x h = by (ltb x 512) p h
    where
      by : (b : Bool) (p : Place) → no_word p → upd rd p v (cond b (cell x) (own d (x - 512))) ≡ rd (cond b (cell x) (own d (x - 512)))
      by true (lock b) h = refl
      by true (field f e) h = refl
      by true (cell y) h = absurd h
      by true (own e y) h = absurd h
      by true (step e y) h = absurd h
      by false (lock b) h = refl
      by false (field f e) h = refl
      by false (cell y) h = absurd h
      by false (own e y) h = absurd h
      by false (step e y) h = absurd h

  no_step : (p : Place) (v y : ℕ) → no_word p → upd rd p v (step d y) ≡ rd (step d y)
  no_step (lock b) v y h = refl
  no_step (field f e) v y h = refl
  no_step (cell x) v y h = absurd h
  no_step (own e x) v y h = absurd h
  no_step (step e x) v y h = absurd h

  pub own-chain :
      (g : Given) (c : Cursor) (locks j : ℕ) → Phase n rd d g c locks j → (p : Place) (v : ℕ) (c' : Cursor) → turn_at n rd d c ≡ stored p v c'
      → (s : ℕ) → rd (field Pc d) % 2 ^ 63 ≡ suc s → chain n (upd rd p v) d (suc s) j ≡ chain n rd d (suc s) j
  own-chain g _ _ _ (rests k p i o) _ v c' e s q = refl
  own-chain g _ _ _ (fresh t locks sec h p o m) _ v c' e s q = refl
  own-chain g _ _ _ (due r locks sec m u) _ v c' e s q = refl
  own-chain g _ _ _ (unlocking r a locks sec m o w i u) _ v c' e s q = refl
  own-chain g _ _ _ (unlocked r a locks sec m o w i u) _ v c' e s q = refl
  own-chain g _ _ _ (between r k t locks j sec m f js l w h near) p v c' e s q =
      let z = m.pc in
      let same : r ≡ s = omega arith in
      let o = turn-op n rd d k t (op_at n rd d k) sec.valid l refl (near-ready n rd d k t (held_at n rd d k) locks (op_at n rd d k) near) in
      let off : no_word p = subst Aside (sym o ∙ e) (near-aside k t (held_at n rd d k) locks (op_at n rd d k) near) in
      chain_same n rd (upd rd p v) d (suc s) sec.valid (λ y. no_step p v y off) (λ a c. no-word p v a off)
      (subst (λ (x : ℕ). Jumps n rd d (suc x) j k) same js)
  own-chain g _ _ _ (ended r sec p w i l o) _ v c' e s q = refl
