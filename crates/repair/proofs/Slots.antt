-- The slots of a repair. What making one slot's store leaves is what the slot's list of stores leaves, so a loop over
-- the slots makes the stores of all of them. And the slots of the repair of an image are the plan of the definition: the
-- four stages one after the other, each over the workers that the image has, with empty slots for the others.
use Prim.Native.Nat.{ℕ, suc, zero, ◌+◌, ◌-◌, ◌*◌, ◌/◌, ◌%◌, ◌<◌, ◌≤◌}
use borrow.Author.Tests.{lt-ltb, le-ltb}
use mathlib.Core.Path.{◌≡◌, refl, sym, ap, ◌∙◌}
use mathlib.Core.Bool.{Bool, true, false, cond}
use mathlib.Core.List.{List, [], ◌∷◌, ◌++◌, append-nil}
use native.Mathlib.Omega.{arith}
use lib.ListN.{length, get_or, replicate, length-append}
use lib.Dec.{ltb}
use Rattle.base.proofs.Counting.{left_step, left-none}
use Rattle.mask.specs.Mask.{has}
use Rattle.mask.proofs.Laws.{has-none}
use Rattle.image.specs.Place.{Memory, Store}
use Rattle.image.specs.Image.{Image, at, workers, put_all}
use Rattle.image.proofs.Lists.{put_all-append}
use Rattle.repair.specs.declared.Repair.{Repair}
use Rattle.owed.specs.Owed.{owed}
use Rattle.soundness.specs.Sound.{eight, owed_at}
use Rattle.repair.specs.Plan.{rows, when, intend, withdraw, relock, relocks, unlock, plan}
use Rattle.repair.specs.Repair.{freed_by, withdrawn_by, repair_of, no_repair}
use Rattle.repair.specs.Repair.{lock_slot, intent_slot, withdraw_slot, relock_slot, slot_at, Slot, slot_of, slot_put, slot_left}
use Rattle.repair.proofs.Rows.{rows_at, rows_same, rows_none, rows-part}
use Rattle.soundness.proofs.Sets.{eight-at, owed-inside, owed-outside}
use Rattle.repair.proofs.Sets.{freed-has, withdrawn-has, withdrawn-past}

-- ---- one slot

-- a list that is empty or one store
abbrev pub single : List Store → Type 0
single [] = Unit {0}
single (s ∷ []) = Unit {0}
single (s ∷ (t ∷ ss)) = ⊥

private-single : (t : Bool) (s : Store) → single (cond t (s ∷ []) [])
private-single true s = tt
private-single false s = tt

private-four : (p q u v : Bool) (a b c e : List Store) → single a → single b → single c → single e → single (cond p a (cond q b (cond u c (cond v e []))))
private-four true q u v a b c e x y z w = x
private-four false true u v a b c e x y z w = y
private-four false false true v a b c e x y z w = z
private-four false false false true a b c e x y z w = w
private-four false false false false a b c e x y z w = tt

pub slot-single : (r : Repair) (c : ℕ) → single (slot_at r c)
unfolding slot_at
slot-single r c =
    private-four (ltb c 64) (ltb c 72) (ltb c 80) (ltb c 592) _ _ _ _ (private-single (has r.freed c) _) (private-single (ltb (c - 64) r.workers) _)
    (private-single (has r.withdrawn (c - 72)) _)
    (private-single (has (get_or r.owed ((c - 80) / 64) 0) ((c - 80) % 64)) _)

pub put-slot : (n left : ℕ) (m : Image) (ss : List Store) → single ss → slot_put left m (slot_of n ss) ≡ put_all n left m ss
unfolding put_all
put-slot n left m [] h = refl
put-slot n left m (s ∷ []) h = refl
put-slot n left m (s ∷ (t ∷ ss)) h = absurd h

pub left-slot : (n left : ℕ) (ss : List Store) → single ss → slot_left left (slot_of n ss) ≡ left - length ss
left-slot n left [] h = omega arith
left-slot n left (s ∷ []) h = refl
left-slot n left (s ∷ (t ∷ ss)) h = absurd h

-- ---- a loop over rows that are slots

at-most : (ss : List Store) → length ss ≤ 1 → single ss
at-most [] h = tt
at-most (s ∷ []) h = tt
at-most (s ∷ (t ∷ ss)) h = absurd (omega arith)

module _ (f : ℕ → List Store) (k d : ℕ) where
  -- the rows that are left of k, after d of them

  rows-step : d < k → rows f d (k - d) ≡ f d ++ rows f (d + 1) (k - (d + 1))
  unfolding rows
  rows-step h = rw (left_step k d h)

  pub rows_end : k ≤ d → rows f d (k - d) ≡ []
  unfolding rows
  rows_end h = rw (left-none k d h)

  module _ (n : ℕ) (h : d < k) (s : Slot) (is : s ≡ slot_of n (f d)) (few : length (f d) ≤ 1) (left left' : ℕ) (q : left' ≡ slot_left left s) where
    pub image-step : (m m' : Image) → m' ≡ slot_put left m s → put_all n left' m' (rows f (d + 1) (k - (d + 1))) ≡ put_all n left m (rows f d (k - d))
    image-step m m' p =
        let one = at-most (f d) few in
        rw (p, q, is, rows-step h, put-slot n left m (f d) one, left-slot n left (f d) one)
        (sym (put_all-append n left m (f d) (rows f (d + 1) (k - (d + 1)))))

    pub left-step-slot : left' - length (rows f (d + 1) (k - (d + 1))) ≡ left - length (rows f d (k - d))
    left-step-slot =
        rw (q, is, rows-step h, left-slot n left (f d) (at-most (f d) few), length-append (f d) (rows f (d + 1) (k - (d + 1))))
        (omega arith)

-- a store that is made or not is one at most
pub few_when : (t : Bool) (s : Store) → length (when t s) ≤ 1
few_when true s = omega arith
few_when false s = omega arith

-- ---- the slots by their number

module _ (r : Repair) where
  slot-unlock : (c : ℕ) → c < 64 → slot_at r c ≡ lock_slot r.freed 0 c
  unfolding slot_at
  slot-unlock c h = rw (lt-ltb c 64 h)

  pub slot-intent : (c d : ℕ) → c ≡ 64 + d → d < 8 → slot_at r c ≡ intent_slot r d
  unfolding slot_at
  slot-intent c d q h =
      let e : 64 + d - 64 ≡ d = omega arith in
      rw (q, le-ltb (64 + d) 64 (omega arith), lt-ltb (64 + d) 72 (omega arith), e)

  pub slot-withdraw : (c d : ℕ) → c ≡ 72 + d → d < 8 → slot_at r c ≡ withdraw_slot r d
  unfolding slot_at
  slot-withdraw c d q h =
      let e : 72 + d - 72 ≡ d = omega arith in
      rw (q, le-ltb (72 + d) 64 (omega arith), le-ltb (72 + d) 72 (omega arith), lt-ltb (72 + d) 80 (omega arith), e)

  slot-relock : (c d b : ℕ) → c ≡ 80 + 64 * d + b → d < 8 → b < 64 → slot_at r c ≡ relock_slot r d b
  unfolding slot_at
  slot-relock c d b q h g =
      let e : (c - 80) / 64 ≡ d = omega arith in
      let f : (c - 80) % 64 ≡ b = omega arith in
      rw (le-ltb c 64 (omega arith), le-ltb c 72 (omega arith), le-ltb c 80 (omega arith), lt-ltb c 592 (omega arith), e, f)

  -- ---- the stages as the code makes them

  unlock-stores : rows (slot_at r) 0 64 ≡ rows (lock_slot r.freed 0) 0 64
  unlock-stores = rows_same (slot_at r) (lock_slot r.freed 0) 64 0 0 (λ i l. slot-unlock (0 + i) (omega arith))

  intent-stores : rows (slot_at r) 64 8 ≡ rows (intent_slot r) 0 8
  intent-stores = rows_same (slot_at r) (intent_slot r) 8 64 0 (λ i l. slot-intent (64 + i) (0 + i) (omega arith) (omega arith))

  withdraw-stores : rows (slot_at r) 72 8 ≡ rows (withdraw_slot r) 0 8
  withdraw-stores = rows_same (slot_at r) (withdraw_slot r) 8 72 0 (λ i l. slot-withdraw (72 + i) (0 + i) (omega arith) (omega arith))

  relock-stores : (d : ℕ) → d < 8 → rows (slot_at r) (80 + 64 * d) 64 ≡ rows (lock_slot (get_or r.owed d 0) (d + 1)) 0 64
  relock-stores d h =
      rows_same (slot_at r) (lock_slot (get_or r.owed d 0) (d + 1)) 64 (80 + 64 * d) 0
      (λ i l. slot-relock (80 + 64 * d + i) d (0 + i) (omega arith) h (omega arith))

  -- the relocks that are left after those of d workers
  abbrev Relocks : ℕ → List Store
  Relocks d = rows (slot_at r) (80 + 64 * d) (512 - 64 * d)

  relocks-step : (d : ℕ) → d < 8 → Relocks d ≡ rows (lock_slot (get_or r.owed d 0) (d + 1)) 0 64 ++ Relocks (d + 1)
  relocks-step d h =
      rw (
        rows_at (slot_at r) (80 + 64 * d) 64 (512 - 64 * (d + 1)) (80 + 64 * (d + 1)) (512 - 64 * d) (omega arith) (omega arith),
        relock-stores d h,
      )

  pub relocks-end : (d : ℕ) → 8 ≤ d → Relocks d ≡ []
  unfolding rows
  relocks-end d h = let e : 512 - 64 * d ≡ 0 = omega arith in rw e

  module _ (n d : ℕ) (h : d < 8) (left left' : ℕ) (q : left' ≡ left - length (rows (lock_slot (get_or r.owed d 0) (d + 1)) 0 64)) where
    pub image-relock : (m m' : Image) → m' ≡ put_all n left m (rows (lock_slot (get_or r.owed d 0) (d + 1)) 0 64)
        → put_all n left' m' (Relocks (d + 1)) ≡ put_all n left m (Relocks d)
    image-relock m m' p = rw (p, q, relocks-step d h) (sym (put_all-append n left m (rows (lock_slot (get_or r.owed d 0) (d + 1)) 0 64) (Relocks (d + 1))))

    pub left-relock : left' - length (Relocks (d + 1)) ≡ left - length (Relocks d)
    left-relock = rw (q, relocks-step d h, length-append (rows (lock_slot (get_or r.owed d 0) (d + 1)) 0 64) (Relocks (d + 1))) (omega arith)

  stages : rows (slot_at r) 0 592 ≡ rows (lock_slot r.freed 0) 0 64 ++ (rows (intent_slot r) 0 8 ++ (rows (withdraw_slot r) 0 8 ++ rows (slot_at r) 80 512))
  stages =
      rw (
        rows_at (slot_at r) 0 64 528 64 592 refl refl,
        unlock-stores,
        rows_at (slot_at r) 64 8 520 72 528 refl refl,
        intent-stores,
        rows_at (slot_at r) 72 8 512 80 520 refl refl,
        withdraw-stores,
      )

  -- what the four stages leave, one after the other
  pub stages-leave : (n left left₁ left₂ left₃ left₄ : ℕ) (m m₁ m₂ m₃ m₄ : Image)
      → m₁ ≡ put_all n left m (rows (lock_slot r.freed 0) 0 64) → left₁ ≡ left - length (rows (lock_slot r.freed 0) 0 64)
      → m₂ ≡ put_all n left₁ m₁ (rows (intent_slot r) 0 8) → left₂ ≡ left₁ - length (rows (intent_slot r) 0 8)
      → m₃ ≡ put_all n left₂ m₂ (rows (withdraw_slot r) 0 8) → left₃ ≡ left₂ - length (rows (withdraw_slot r) 0 8)
      → m₄ ≡ put_all n left₃ m₃ (rows (slot_at r) 80 512) → left₄ ≡ left₃ - length (rows (slot_at r) 80 512)
      → (m₄ ≡ put_all n left m (rows (slot_at r) 0 592)) × (left₄ ≡ left - length (rows (slot_at r) 0 592))
  stages-leave n left left₁ left₂ left₃ left₄ m m₁ m₂ m₃ m₄ p₁ q₁ p₂ q₂ p₃ q₃ p₄ q₄ =
      let A = rows (lock_slot r.freed 0) 0 64 in
      let B = rows (intent_slot r) 0 8 in
      let C = rows (withdraw_slot r) 0 8 in
      let D = rows (slot_at r) 80 512 in (
        rw (
          stages,
          put_all-append n left m A (B ++ (C ++ D)),
          ← q₁,
          ← p₁,
          put_all-append n left₁ m₁ B (C ++ D),
          ← q₂,
          ← p₂,
          put_all-append n left₂ m₂ C D,
          ← q₃,
          ← p₃,
        )
            p₄,
        rw (stages, length-append A (B ++ (C ++ D)), length-append B (C ++ D), length-append C D) (omega arith),
      )

-- ---- the four stages

module _ (n : ℕ) (rd : Memory) (D : ℕ) (few : D ≤ 8) where
  abbrev R : Repair
  R = record { workers = D; freed = freed_by rd D; withdrawn = withdrawn_by rd D; owed = eight (owed_at n rd D) }

  owed-in : (d : ℕ) → d < D → get_or R.owed d 0 ≡ owed n rd d
  owed-in d h = eight-at (owed_at n rd D) 0 d (omega arith) ∙ owed-inside n rd D d h

  owed-out : (d : ℕ) → D ≤ d → d < 8 → get_or R.owed d 0 ≡ 0
  owed-out d h g = eight-at (owed_at n rd D) 0 d g ∙ owed-outside n rd D d h

  unlocks-are : rows (slot_at R) 0 64 ≡ rows (unlock n rd D) 0 64
  unlocks-are = rows_same (slot_at R) (unlock n rd D) 64 0 0 (λ i l. rw (slot-unlock R (0 + i) (omega arith), freed-has n rd D (0 + i)))

  intents-are : rows (slot_at R) 64 D ≡ rows (intend n rd) 0 D
  intents-are =
      rows_same (slot_at R) (intend n rd) D 64 0
      (λ i l. rw (slot-intent R (64 + i) (0 + i) (omega arith) (omega arith), lt-ltb (0 + i) D (omega arith), owed-in (0 + i) (omega arith)))

  withdraws-are : rows (slot_at R) 72 D ≡ rows (withdraw n rd) 0 D
  withdraws-are =
      rows_same (slot_at R) (withdraw n rd) D 72 0
      (λ i l. rw (slot-withdraw R (72 + i) (0 + i) (omega arith) (omega arith), withdrawn-has rd D (0 + i) (omega arith)))

  relocks-are : (d c : ℕ) → c ≡ 80 + 64 * d → d < D → rows (slot_at R) c 64 ≡ rows (relock n rd d) 0 64
  relocks-are d c q h =
      rows_same (slot_at R) (relock n rd d) 64 c 0 (λ i l. rw (slot-relock R (c + i) d (0 + i) (omega arith) (omega arith) (omega arith), owed-in d h))

  all-relocks-are : (k d c : ℕ) → c ≡ 80 + 64 * d → d + k ≤ D → rows (slot_at R) c (64 * k) ≡ rows (relocks n rd) d k
  unfolding rows
  all-relocks-are zero d c q h = refl
  all-relocks-are (suc k) d c q h =
      rw (
        rows_at (slot_at R) c 64 (64 * k) (c + 64) (64 * suc k) (omega arith) refl,
        relocks-are d c q (omega arith),
        all-relocks-are k (d + 1) (c + 64) (omega arith) (omega arith),
      )

  -- ---- and the workers that the image has not

  no-intent : (c d : ℕ) → c ≡ 64 + d → D ≤ d → d < 8 → slot_at R c ≡ []
  no-intent c d q h g = rw (slot-intent R c d q g, le-ltb d D h)

  no-withdraw : (c d : ℕ) → c ≡ 72 + d → D ≤ d → d < 8 → slot_at R c ≡ []
  no-withdraw c d q h g = rw (slot-withdraw R c d q g, withdrawn-past rd D d h)

  no-relock : (c d b : ℕ) → c ≡ 80 + 64 * d + b → D ≤ d → d < 8 → b < 64 → slot_at R c ≡ []
  no-relock c d b q h g l = rw (slot-relock R c d b q g l, owed-out d h g, has-none b)

  abbrev Relocked : List Store
  Relocked = rows (relocks n rd) 0 D

  last-stage : rows (slot_at R) 80 512 ≡ Relocked
  last-stage =
      let past : (i : ℕ) → i < 512 - 64 * D → slot_at R (80 + 64 * D + i) ≡ [] = λ i l.
      no-relock (80 + 64 * D + i) (D + i / 64) (i % 64) (omega arith) (omega arith) (omega arith) (omega arith) in
      rw (rows_at (slot_at R) 80 (64 * D) (512 - 64 * D) (80 + 64 * D) 512 (omega arith) refl, all-relocks-are D 0 80 refl (omega arith))
      (ap (λ (l : List Store). Relocked ++ l) (rows_none (slot_at R) (512 - 64 * D) (80 + 64 * D) past) ∙ append-nil Relocked)

  third-stage : rows (slot_at R) 72 520 ≡ rows (withdraw n rd) 0 D ++ Relocked
  third-stage =
      rw (
        rows_at (slot_at R) 72 D (520 - D) (72 + D) 520 (omega arith) refl,
        withdraws-are,
        rows-part (slot_at R) (72 + D) (8 - D) 512 80 (520 - D) (omega arith) (omega arith)
            (λ i l. no-withdraw (72 + D + i) (D + i) (omega arith) (omega arith) (omega arith)),
        last-stage,
      )

  pub plan-slots : rows (slot_at R) 0 592 ≡ plan n rd D
  unfolding plan
  plan-slots =
      rw (
        rows_at (slot_at R) 0 64 528 64 592 refl refl,
        unlocks-are,
        rows_at (slot_at R) 64 D (528 - D) (64 + D) 528 (omega arith) refl,
        intents-are,
        rows-part (slot_at R) (64 + D) (8 - D) 520 72 (528 - D) (omega arith) (omega arith)
            (λ i l. no-intent (64 + D + i) (D + i) (omega arith) (omega arith) (omega arith)),
        third-stage,
      )

-- the slots of an image's repair are its plan
pub repair-slots : (n : ℕ) (m : Image) → workers m ≤ 8 → rows (slot_at (repair_of n m)) 0 592 ≡ plan n (at n m) (workers m)
unfolding repair_of
repair-slots n m few = plan-slots n (at n m) (workers m) few

-- ---- the repair that stores nothing

private-zeros : (d : ℕ) → get_or {A = ℕ} (replicate 8 0) d 0 ≡ 0
private-zeros zero = refl
private-zeros (suc zero) = refl
private-zeros (suc (suc zero)) = refl
private-zeros (suc (suc (suc zero))) = refl
private-zeros (suc (suc (suc (suc zero)))) = refl
private-zeros (suc (suc (suc (suc (suc zero))))) = refl
private-zeros (suc (suc (suc (suc (suc (suc zero)))))) = refl
private-zeros (suc (suc (suc (suc (suc (suc (suc zero))))))) = refl
private-zeros (suc (suc (suc (suc (suc (suc (suc (suc d)))))))) = refl

private-all : (p q u v : Bool) (a b c e : List Store) → a ≡ [] → b ≡ [] → c ≡ [] → e ≡ [] → cond p a (cond q b (cond u c (cond v e []))) ≡ []
private-all true q u v a b c e x y z w = x
private-all false true u v a b c e x y z w = y
private-all false false true v a b c e x y z w = z
private-all false false false true a b c e x y z w = w
private-all false false false false a b c e x y z w = refl

empty-slot : (c : ℕ) → slot_at no_repair c ≡ []
unfolding slot_at no_repair
empty-slot c =
    private-all (ltb c 64) (ltb c 72) (ltb c 80) (ltb c 592) _ _ _ _ (rw (has-none c)) (rw (le-ltb (c - 64) 0 (omega arith))) (rw (has-none (c - 72)))
    (rw (private-zeros ((c - 80) / 64), has-none ((c - 80) % 64)))

pub empty-slots : rows (slot_at no_repair) 0 592 ≡ []
empty-slots = rows_none (slot_at no_repair) 592 0 (λ i l. empty-slot (0 + i))
