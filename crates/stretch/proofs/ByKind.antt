-- An instruction's turns in sequence, one law a kind: what its stores leave of the image, the stores left, the cursor, the locks held and the tally.
-- (Document 01, the table of 'Turns'.)
use Prim.Native.Nat.{ℕ, suc, zero, ◌+◌, ◌-◌, ◌<◌}
use mathlib.Core.Path.{◌≡◌, refl, ap, ◌∙◌}
use mathlib.Core.Bool.{Bool, true, false, cond}
use native.Mathlib.Omega.{arith}
use lib.Dec.{eqb, ltb}
use borrow.Author.Tests.{ne_eqb}
use Rattle.mask.specs.Mask.{with, without}
use Rattle.image.specs.declared.Field.{Field}
use Rattle.image.specs.declared.Field.TheVariants.{Count, Pc, Intent, Owned, Number, Finished}
use Rattle.image.specs.Place.{cell, own, lock, field, Memory}
use Rattle.image.specs.Inner.Same.{same}
use Rattle.image.specs.Image.{Image, index_of, at, put, workers}
use Rattle.image.specs.Inner.Inside.{Inside}
use Rattle.code.specs.declared.Expr.{Expr}
use Rattle.code.specs.declared.Expr.TheVariants.{Literal, Sum, Difference, Less}
use Rattle.code.specs.declared.Op.{Op}
use Rattle.code.specs.declared.Op.TheVariants.{Acquire, Release, Assign, Jump, Finish}
use Rattle.code.specs.Op.{eval}
use Rattle.tally.specs.declared.Tally.{Tally}
use Rattle.tally.specs.Tally.{with_jump, with_already_free, with_others}
use Rattle.working.specs.Cursor.{on, step_no, turn_no}
use Rattle.worklog.specs.declared.Passing.TheVariants.{AlreadyFree as PassedFree, Others as PassedOthers}
use Rattle.worklog.specs.Log.{operand, word_in, spare_addr}
use Rattle.plan.specs.declared.Report.TheVariants.{Freed, AlreadyFree, Others}
use Rattle.plan.specs.Report.{report_of}
use Rattle.plan.specs.Turn.{stored, passed}
use Rattle.plan.proofs.Quiet.{Spares, quiet-field, quiet-lock, quiet-operand, at_other}
use Rattle.turn.specs.Call.{held_by}
use Rattle.stretch.specs.Inner.Single.{Single, single, Turns, none}
use Rattle.stretch.specs.Inner.Logged.{with_address, with_target}
use Rattle.stretch.specs.Inner.Locks.{with_owner, took_image, disowned_image, unwanted_image}
use Rattle.stretch.specs.Inner.Whole.{closed_image, Fetched}
use Rattle.stretch.proofs.Running.{with_stores, Running, running, running-store, fetched_fits, fetched_step, makes, inside_store, stores-more, counts}
use Rattle.stretch.proofs.LogTurns.{other-addr, spares-addr, logged-running, logged-turns}

-- ---- what a store of an address leaves of what is read after it

operand-apart : (d a e : ℕ) (f : Field) → same (operand d a) (field f e) ≡ false
unfolding operand
operand-apart d a e f = by (ltb a 512)
  where
    by : (b : Bool) → same (cond b (cell a) (own d (a - 512))) (field f e) ≡ false
    by true = refl
    by false = refl

operand-held : (d a v h : ℕ) → held_by (operand d a) v h ≡ h
unfolding operand
operand-held d a v h = by (ltb a 512)
  where
    by : (b : Bool) → held_by (cond b (cell a) (own d (a - 512))) v h ≡ h
    by true = refl
    by false = refl

eval-same : (f g : ℕ → ℕ) → ((x : ℕ) → g x ≡ f x) → (e : Expr) → eval g e ≡ eval f e
unfolding eval
eval-same f g same (Literal b c) = refl
eval-same f g same (Sum b c) = rw (same b, same c)
eval-same f g same (Difference b c) = rw (same b, same c)
eval-same f g same (Less b c) = rw (same b, same c)

-- ---- a release's last two turns

module _ (D n d s a : ℕ) (l : d < D) (ok : a < 64) (m : Image) (r : Running D n d s (Release a) m) (left h : ℕ) (y : Tally) where
  -- the intent
  intent-turn : (v : Image) (rest g : ℕ) (z : Tally) → Running D n d s (Release a) v → (t : Tally) → with_stores 1 z ≡ t
      → Turns n d 1 (single v rest s 5 g z) (single (unwanted_image n d a v rest) (rest - 1) (s + 1) 0 g t)
  intent-turn v rest g z q t e = makes D n d s (Release a) v q 0 5 rest g z _ (omega arith) refl (counts n d _ _ (s + 1) 0 g e)

  -- the owner word is the worker's
  unlock-frees : report_of d (at n m (lock a)) ≡ Freed
      → Turns n d 2 (single m left s 4 h (with_stores 4 y))
      (single (unwanted_image n d a (put left m (index_of n (lock a)) 0) (left - 1)) (left - 1 - 1) (s + 1) 0 (without h a) (with_stores 6 y))
  unlock-frees e =
      makes D n d s (Release a) m r 1 4 left h (with_stores 4 y) (stored (lock a) 0 (on s 5)) (omega arith) (rw e)
      (intent-turn _ _ _ _ (running-store D n d s (Release a) m r left (lock a) 0 (quiet-lock D n a ok)) _
      (ap (with_stores 1) (stores-more 4 1 y) ∙ stores-more 5 1 y))

  -- it is 0, or another's: the store behind it may be counted before it
  unlock-free : report_of d (at n m (lock a)) ≡ AlreadyFree
      → Turns n d 2 (single m left s 4 h (with_stores 4 y))
      (single (unwanted_image n d a m left) (left - 1) (s + 1) 0 h (with_already_free (with_stores 5 y)))
  unlock-free e =
      makes D n d s (Release a) m r 1 4 left h (with_stores 4 y) (passed PassedFree (on s 5)) (omega arith) (rw e)
      (intent-turn m left h _ r _ (ap with_already_free (stores-more 4 1 y)))

  unlock-others : report_of d (at n m (lock a)) ≡ Others
      → Turns n d 2 (single m left s 4 h (with_stores 4 y)) (single (unwanted_image n d a m left) (left - 1) (s + 1) 0 h (with_others (with_stores 5 y)))
  unlock-others e =
      makes D n d s (Release a) m r 1 4 left h (with_stores 4 y) (passed PassedOthers (on s 5)) (omega arith) (rw e)
      (intent-turn m left h _ r _ (ap with_others (stores-more 4 1 y)))

-- the image keeps its size through a release's logged store
pub disowned-inside : (n d s a : ℕ) (m : Image) (left : ℕ) → Inside n m d → Inside n (disowned_image n d s a m left) d
disowned-inside n d s a m left w =
    inside_store n d _ (left - 1 - 1 - 1) (field Owned d) _ (inside_store n d _ (left - 1 - 1) (field Pc d) _
    (inside_store n d _ (left - 1) _ _ (inside_store n d m left _ _ w)))

-- ---- each kind

module _ (n d s : ℕ) (m : Image) (left h : ℕ) (y : Tally) where
  -- an assignment
  pub assign-turns : (a : ℕ) (e : Expr) → Fetched n d s m (Assign a e)
      → Turns n d 4 (single m left s 0 h y)
      (single (with_target n d s (index_of n (operand d a)) (eval (word_in n (at n m) d) e) m left) (left - 1 - 1 - 1 - 1) (s + 1) 0 h (with_stores 4 y))
  assign-turns a e f =
      let D = workers m in
      let l = f.inside.below in
      let r = running n d s m (Assign a e) f in
      let p = operand d a in
      let v = eval (word_in n (at n m) d) e in
      let sa = field (spare_addr n (at n m) d) d in
      let kept = eval-same (word_in n (at n m) d) (word_in n (at n (with_address n d s (index_of n p) v m left)) d)
      (λ x. at_other D n left m r.size sa (operand d x) (index_of n p) (spares-addr n (at n m) d D l).there
      (operand-apart d x d (spare_addr n (at n m) d))) e in
      logged-turns D n d s l (fetched_step n d s m _ f) (Assign a e) m r 0 0 left h y p (λ (rd : Memory). eval (word_in n rd d) e) (on (s + 1) 0)
      (quiet-operand D n d a l (fetched_fits n d s m _ f).0) (λ w. operand-held d a w h)
      (record { address = λ rd. refl; value = λ rd. refl; pc = λ rd. refl; target = λ rd. refl; has = omega arith }) kept (none _)

  -- an acquire whose lock is not free: its first turn
  pub acquire-begins : (a : ℕ) → Fetched n d s m (Acquire a)
      → Turns n d 1 (single m left s 0 h y)
      (single (put left m (index_of n (field Intent d)) (with (at n m (field Intent d)) a)) (left - 1) s 1 h (with_stores 1 y))
  acquire-begins a f = makes (workers m) n d s (Acquire a) m (running n d s m _ f) 0 0 left h y _ (omega arith) refl (none _)

  -- one whose lock is free: the intent, the owner word, and a logged store of the owned mask
  pub acquire-turns : (a : ℕ) → Fetched n d s m (Acquire a)
      → (v : Image) → v ≡ put left m (index_of n (field Intent d)) (with (at n m (field Intent d)) a) → at n v (lock a) ≡ 0
      → Turns n d 6 (single m left s 0 h y) (single (took_image n d s a v (left - 1)) (left - 1 - 1 - 1 - 1 - 1 - 1) (s + 1) 0 (with h a) (with_stores 6 y))
  acquire-turns a f v first free =
      let D = workers m in
      let l = f.inside.below in
      let x = Acquire a in
      let r = running n d s m x f in
      let r1 : Running D n d s x v = rw first (running-store D n d s x m r left (field Intent d) _ (quiet-field D n Intent d l refl)) in
      let w = with_owner n d s a v (left - 1) in
      let r2 : Running D n d s x w = running-store D n d s x v r1 (left - 1) (lock a) (d + 1) (quiet-lock D n a (fetched_fits n d s m x f)) in
      let kept = at_other D n (left - 1 - 1) w r2.size (field (spare_addr n (at n w) d) d) (field Owned d) (index_of n (field Owned d))
      (spares-addr n (at n w) d D l).there (other-addr n (at n w) d Owned refl refl) in
      let took : held_by (lock a) (d + 1) h ≡ with h a = rw (ne_eqb (d + 1) 0 (λ e. omega arith)) in
      let count : with_stores 4 (with_stores 1 (with_stores 1 y)) ≡ with_stores 6 y = ap (with_stores 4) (stores-more 1 1 y) ∙ stores-more 2 4 y in
      makes D n d s x m r 5 0 left h y _ (omega arith) refl
      (rw (← first)
      (makes D n d s x v r1 4 1 (left - 1) h (with_stores 1 y) (stored (lock a) (d + 1) (on s 2)) (omega arith) (rw free)
      (rw took
      (logged-turns D n d s l (fetched_step n d s m x f) x w r2 0 2 (left - 1 - 1) (with h a) (with_stores 1 (with_stores 1 y)) (field Owned d)
      (λ (rd : Memory). with (rd (field Owned d)) a) (on (s + 1) 0) (quiet-field D n Owned d l refl) (λ w. refl)
      (record { address = λ rd. refl; value = λ rd. refl; pc = λ rd. refl; target = λ rd. refl; has = omega arith }) (rw kept)
      (counts n d _ _ (s + 1) 0 (with h a) count)))))

  -- a release: a logged store of the owned mask, and two turns by what it finds
  module _ (a : ℕ) (f : Fetched n d s m (Release a)) (v : Image) (first : v ≡ disowned_image n d s a m left) where
    released-running : Running (workers m) n d s (Release a) v
    released-running =
        rw first (logged-running (workers m) n d s f.inside.below (Release a) m (running n d s m (Release a) f) left (field Owned d)
        (without (at n m (field Owned d)) a) (quiet-field (workers m) n Owned d f.inside.below refl))

    release-turns : {b : Single} → Turns n d 2 (single v (left - 1 - 1 - 1 - 1) s 4 h (with_stores 4 y)) b → Turns n d 6 (single m left s 0 h y) b
    release-turns more =
        let D = workers m in
        let l = f.inside.below in
        let x = Release a in
        let r = running n d s m x f in
        let sa = field (spare_addr n (at n m) d) d in
        let kept = at_other D n left m r.size sa (field Owned d) (index_of n (field Owned d)) (spares-addr n (at n m) d D l).there
        (other-addr n (at n m) d Owned refl refl) in
        logged-turns D n d s l (fetched_step n d s m x f) x m r 2 0 left h y (field Owned d)
        (λ (rd : Memory). without (rd (field Owned d)) a) (on s 4) (quiet-field D n Owned d l refl) (λ w. refl)
        (record { address = λ rd. refl; value = λ rd. refl; pc = λ rd. refl; target = λ rd. refl; has = omega arith }) (rw kept) (rw (← first) more)

    pub release-frees : report_of d (at n v (lock a)) ≡ Freed
        → Turns n d 6 (single m left s 0 h y)
        (single (unwanted_image n d a (put (left - 1 - 1 - 1 - 1) v (index_of n (lock a)) 0) (left - 1 - 1 - 1 - 1 - 1))
        (left - 1 - 1 - 1 - 1 - 1 - 1) (s + 1) 0 (without h a) (with_stores 6 y))
    release-frees e =
        release-turns (unlock-frees (workers m) n d s a f.inside.below (fetched_fits n d s m _ f) v released-running (left - 1 - 1 - 1 - 1) h y e)

    pub release-free : report_of d (at n v (lock a)) ≡ AlreadyFree
        → Turns n d 6 (single m left s 0 h y)
        (single (unwanted_image n d a v (left - 1 - 1 - 1 - 1)) (left - 1 - 1 - 1 - 1 - 1) (s + 1) 0 h (with_already_free (with_stores 5 y)))
    release-free e =
        release-turns (unlock-free (workers m) n d s a f.inside.below (fetched_fits n d s m _ f) v released-running (left - 1 - 1 - 1 - 1) h y e)

    pub release-others : report_of d (at n v (lock a)) ≡ Others
        → Turns n d 6 (single m left s 0 h y)
        (single (unwanted_image n d a v (left - 1 - 1 - 1 - 1)) (left - 1 - 1 - 1 - 1 - 1) (s + 1) 0 h (with_others (with_stores 5 y)))
    release-others e =
        release-turns (unlock-others (workers m) n d s a f.inside.below (fetched_fits n d s m _ f) v released-running (left - 1 - 1 - 1 - 1) h y e)

  -- a jump
  pub jump-turns : (a b : ℕ) → Fetched n d s m (Jump a b) → (t : ℕ) → cond (eqb (word_in n (at n m) d a) 0) b (s + 1) ≡ t
      → Turns n d 1 (single m left s 0 h y) (single m left t 0 h (with_jump y))
  jump-turns a b f t e =
      makes (workers m) n d s (Jump a b) m (running n d s m _ f) 0 0 left h y _ (omega arith) refl (by (eqb (word_in n (at n m) d a) 0) e)
    where
      by : (z : Bool) → cond z b (s + 1) ≡ t → Turns n d 0
          (single m left (step_no (cond z (on b 0) (on (s + 1) 0))) (turn_no (cond z (on b 0) (on (s + 1) 0))) h (with_jump y))
          (single m left t 0 h (with_jump y))
      by true q = rw q (none _)
      by false q = rw q (none _)

  -- a finish
  pub finish-turns : Fetched n d s m Finish
      → Turns n d 3 (single m left s 0 h y)
      (single (closed_image n d m left) (left - 1 - 1 - 1) 0 255 h (with_stores 3 y))
  finish-turns f =
      let D = workers m in
      let l = f.inside.below in
      let r = running n d s m Finish f in
      let r1 = running-store D n d s Finish m r left (field Finished d) (at n m (field Number d)) (quiet-field D n Finished d l refl) in
      let r2 = running-store D n d s Finish _ r1 (left - 1) (field Pc d) 0 (quiet-field D n Pc d l refl) in
      makes D n d s Finish m r 2 0 left h y _ (omega arith) refl
      (makes D n d s Finish _ r1 1 1 (left - 1) h (with_stores 1 y) _ (omega arith) refl
      (makes D n d s Finish _ r2 0 2 (left - 1 - 1) h (with_stores 1 (with_stores 1 y)) _ (omega arith) refl
      (counts n d _ _ 0 255 h (ap (with_stores 1) (stores-more 1 1 y) ∙ stores-more 2 1 y))))
