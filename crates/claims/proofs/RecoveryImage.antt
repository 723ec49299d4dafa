-- A recovery on an image. The cursors that it answers are those of the memory; each store is at a place of the image, so what a
-- cut recovery leaves is a prefix of its stores, which a recovery accepts (`recovery-cut`), and what a whole one leaves is live
-- (`recovery-whole`). A plan has at most 592 stores.
use Prim.Native.Nat.{ℕ, suc, zero, ◌+◌, ◌*◌, ◌<◌, ◌≤◌}
use mathlib.Core.Path.{◌≡◌, refl, fun_ext, sym}
use mathlib.Core.Bool.{Bool, true, false, cond}
use mathlib.Core.List.{List, [], ◌∷◌, ◌++◌}
use native.Mathlib.Omega.{arith}
use native.Mathlib.Nat.{suc-mul}
use lib.ListN.{length, get_or, take, length-append}
use lib.Seq.{take_all}
use lib.Dec.{eqb}
use borrow.Author.Tests.{lt-ltb, ne_eqb}
use Rattle.mask.specs.Mask.{has}
use Rattle.image.specs.declared.Field.TheVariants.{Pc}
use Rattle.image.specs.Place.{field, Memory, Store}
use Rattle.image.specs.Inner.Same.{upd_all}
use Rattle.image.specs.Image.{Image, at, workers, header_ok, put_all}
use Rattle.image.proofs.Header.{header-sized, header-workers}
use Rattle.image.proofs.Lists.{at_all}
use Rattle.code.specs.declared.Op.{Op}
use Rattle.code.specs.declared.Op.TheVariants.{Acquire, Release, Assign, Jump, Finish, Unknown}
use Rattle.working.specs.Cursor.{Cursor, idle, on, step_no, turn_no, cursor_at}
use Rattle.working.proofs.Placed.{Full, sayable}
use Rattle.repair.specs.Plan.{rows, unbegun, intended, intend, withdraw, relock, relocks, unlock, plan}
use Rattle.owed.specs.Owed.{owed}
use Rattle.owed.specs.Owed.{named_step, named_op}
use Rattle.resuming.specs.Resumed.{target_turn, resumed, resumed_at, resumed_all}
use Rattle.soundness.proofs.Sets.{eight-at}
use Rattle.claims.specs.Reference.{Given}
use Rattle.claims.proofs.Invariant.{Live, Crashed}
use Rattle.claims.proofs.Stages.{plan-prefix}
use Rattle.claims.proofs.Recovered.{plan-valid, recovered-live}
use Rattle.claims.proofs.LiveTurn.{live-cursors}

-- ---- cursors

module _ (n : ℕ) (rd : Memory) (D : ℕ) where
  pub resumed-turn : (d : ℕ) → d < 8 → get_or (resumed_all n rd D).turn d 255 ≡ turn_no (resumed_at n rd D d)
  unfolding resumed_all
  resumed-turn d l = eight-at (λ e. turn_no (resumed_at n rd D e)) 255 d l

  pub resumed-step : (d : ℕ) → d < 8 → get_or (resumed_all n rd D).step d 0 ≡ step_no (resumed_at n rd D d)
  unfolding resumed_all
  resumed-step d l = eight-at (λ e. step_no (resumed_at n rd D e)) 0 d l

  pub resumed-full : Full (resumed_all n rd D)
  unfolding resumed_all
  resumed-full = record { steps = refl; turns = refl }

  private-target : (d : ℕ) (x : Op) → sayable (on (named_step n rd d) (target_turn x))
  private-target d (Acquire a) = λ e. omega arith
  private-target d (Release a) = λ e. omega arith
  private-target d (Assign a x) = λ e. omega arith
  private-target d (Jump a b) = λ e. omega arith
  private-target d Finish = λ e. omega arith
  private-target d Unknown = λ e. omega arith

  private-sayable : (d : ℕ) → sayable (resumed n rd d)
  unfolding resumed
  private-sayable d = by (eqb (rd (field Pc d)) 0)
    where
      by : (t : Bool) → sayable (cond t idle (on (named_step n rd d) (target_turn (named_op n rd d))))
      by true = tt
      by false = private-target d (named_op n rd d)

  private-said : (x : Cursor) → sayable x → cond (eqb (turn_no x) 255) idle (on (step_no x) (turn_no x)) ≡ x
  private-said idle h = refl
  private-said (on s t) h = rw (ne_eqb t 255 h)

  -- the cursors that a recovery answers
  pub resumed-cursor : (d : ℕ) → d < D → D ≤ 8 → cursor_at (resumed_all n rd D) d ≡ resumed n rd d
  unfolding cursor_at
  resumed-cursor d l u = rw (resumed-turn d (omega arith), resumed-step d (omega arith), lt-ltb d D l) (private-said (resumed n rd d) (private-sayable d))

-- ---- how many stores

rows-length : (f : ℕ → List Store) (i k c : ℕ) → ((j : ℕ) → length (f j) ≤ c) → length (rows f i k) ≤ k * c
unfolding rows
rows-length f i zero c h = omega arith
rows-length f i (suc k) c h =
    let r = rows-length f (i + 1) k c h in
    let o = h i in
    let m : suc k * c ≡ k * c + c = suc-mul k c in
    rw (length-append (f i) (rows f (i + 1) k)) (omega arith)

cond-length : (t : Bool) (s : Store) → length (cond t (s ∷ []) []) ≤ 1
cond-length true s = omega arith
cond-length false s = omega arith

module _ (n : ℕ) (rd : Memory) (D : ℕ) where
  pub plan-length : D ≤ 8 → length (plan n rd D) ≤ 592
  unfolding plan
  plan-length h =
      let us = rows (unlock n rd D) 0 64 in
      let is = rows (intend n rd) 0 D in
      let ws = rows (withdraw n rd) 0 D in
      let rs = rows (relocks n rd) 0 D in
      let u : length us ≤ 64 * 1 = rows-length (unlock n rd D) 0 64 1 (λ b. cond-length (intended n rd D b) _) in
      let i : length is ≤ D * 1 = rows-length (intend n rd) 0 D 1 (λ d. omega arith) in
      let w : length ws ≤ D * 1 = rows-length (withdraw n rd) 0 D 1 (λ d. cond-length (unbegun rd d) _) in
      let q : (e : ℕ) → length (relocks n rd e) ≤ 64 * 1 = λ e. rows-length (relock n rd e) 0 64 1 (λ b. cond-length (has (owed n rd e) b) _) in
      let r : length rs ≤ D * 64 = rows-length (relocks n rd) 0 D 64 (λ e. omega (arith, q e)) in
      rw (length-append us (is ++ (ws ++ rs)), length-append is (ws ++ rs), length-append ws rs) (omega arith)

-- ---- the image

module _ (mark n : ℕ) (m : Image) (h : header_ok mark n m ≡ true) where
  pub recovery-at : (left : ℕ) → at n (put_all n left m (plan n (at n m) (workers m))) ≡ upd_all (at n m) (take left (plan n (at n m) (workers m)))
  recovery-at left =
      fun_ext (at_all n (workers m) left m (plan n (at n m) (workers m)) (header-sized mark n m h) (plan-valid n (at n m) (workers m)))

  -- a recovery that is cut
  pub recovery-cut : Crashed n (workers m) (at n m) → (left : ℕ) → Crashed n (workers m) (at n (put_all n left m (plan n (at n m) (workers m))))
  recovery-cut c left = rw (recovery-at left) (plan-prefix n (workers m) (at n m) c left)

  -- and one that is not
  pub recovery-whole : Crashed n (workers m) (at n m) → (left : ℕ) → 592 ≤ left → (given : ℕ → Given)
      → Live n (workers m) (at n (put_all n left m (plan n (at n m) (workers m)))) (cursor_at (resumed_all n (at n m) (workers m))) (owed n (at n m)) (λ d. 0)
      given
  recovery-whole c left l given =
      let few = (header-workers mark n m h).1 in
      let short = plan-length n (at n m) (workers m) few in
      rw (recovery-at left, take_all left (plan n (at n m) (workers m)) (omega arith))
      (live-cursors n (workers m) (upd_all (at n m) (plan n (at n m) (workers m))) (resumed n (at n m)) (cursor_at (resumed_all n (at n m) (workers m)))
      (owed n (at n m)) (λ d. 0) given
      (λ d u. sym (resumed-cursor n (at n m) (workers m) d u few))
      (recovered-live n (at n m) (workers m) c given))
