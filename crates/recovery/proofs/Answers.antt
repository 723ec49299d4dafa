-- The call by its answer: what the tests find, in their order; what an answer that is done says of the image;
-- and that the slots of the repair of a call are the stores of the definition, so what they leave is what the definition
-- says.
use Prim.Native.Nat.{ℕ, ◌-◌, ◌≤◌}
use mathlib.Core.Path.{◌≡◌, refl, sym, ap, ◌∙◌}
use mathlib.Core.Bool.{Bool, true, false, cond, false≢true, true≢false}
use mathlib.Core.List.{List, [], ◌∷◌}
use native.Mathlib.Omega.{arith}
use lib.ListN.{length}
use Rattle.std.proofs.Common.{Result, Ok, Err}
use Rattle.image.specs.Place.{Store, Memory}
use Rattle.image.specs.Image.{Image, at, workers, header_ok, put_all}
use Rattle.image.proofs.Header.{header-true}
use Rattle.image.proofs.Lists.{put_all-nil}
use Rattle.working.specs.declared.Cursors.{Cursors}
use Rattle.working.specs.Cursor.{all_idle}
use Rattle.soundness.specs.declared.Refusal.{Refusal}
use Rattle.soundness.specs.declared.Refusal.TheVariants.{Image as ImageRefused, Record, Lock}
use Rattle.resuming.specs.Resumed.{resumed_all}
use Rattle.repair.specs.Plan.{rows, plan}
use Rattle.soundness.specs.Sound.{eight, unsound, bad_lock, owed_at}
use Rattle.recovery.specs.Recovery.{Recovered, accepted, rejected, by_first, recovery}
use Rattle.soundness.specs.Answer.{Answer}
use Rattle.soundness.specs.Inner.Reading.{Restorable, owed_by}
use Rattle.repair.specs.Repair.{no_repair, slot_at}
use Rattle.soundness.specs.Inner.Tests.{is_done, by_record, by_lock, found}
use Rattle.recovery.specs.Recover.{answer_of, cursors_of, stores_of, recovery_leaves, recovery_left}
use Rattle.recovery.specs.Inner.Found.{owed_found}
use Rattle.recovery.specs.Repairs.{repair_by}
use Rattle.soundness.proofs.Legible.{restorable}
use Rattle.repair.proofs.Slots.{repair-slots, empty-slots}

-- ---- the tests in their order

-- a refusal of the records, and none
record-found : (r : Refusal) (g : Recovered) (l : List ℕ) (s t : List ℕ) → Err r ≡ found (by_record l) s → Err r ≡ found (answer_of (by_first Record g l)) t
record-found r g [] s t e = cc
record-found r g (d ∷ ds) s t e = e

pub record-none : (l : List ℕ) → is_done (by_record l) ≡ true → l ≡ []
record-none [] e = refl
record-none (d ∷ ds) e = absurd (false≢true e)

-- and then the sets that are found
record-sets : (n : ℕ) (rd : Memory) (D : ℕ) (l : List ℕ) (sets : List ℕ) → Ok sets ≡ found (by_record l) (owed_by n rd D l)
    → (l ≡ []) × (sets ≡ eight (owed_at n rd D))
record-sets n rd D [] sets e = (refl, (cc))
record-sets n rd D (d ∷ ds) sets e = cc

lock-found : (ss : List Store) (cs : Cursors) (l : List ℕ) → by_lock l ≡ answer_of (by_first Lock (accepted ss cs) l)
lock-found ss cs [] = refl
lock-found ss cs (b ∷ bs) = refl

-- sets that are found are those of an answer that is no refusal
found-done : (a : Answer) (s t : List ℕ) → Ok t ≡ found a s → (is_done a ≡ true) × (t ≡ s)
found-done (Ok u) s t e = (refl, (cc))
found-done (Err r) s t e = cc

module _ (mark n : ℕ) (m : Image) where
  abbrev Unsound : List ℕ
  Unsound = unsound n (at n m) (workers m) 0 (workers m)

  abbrev Bad : List ℕ
  Bad = bad_lock n (at n m) (workers m) 0 64

  abbrev Good : Recovered
  Good = accepted (plan n (at n m) (workers m)) (resumed_all n (at n m) (workers m))

  -- what the tests are to find
  abbrev Found : Result (List ℕ) Refusal
  Found = found (answer_of (recovery mark n m)) (owed_found mark n m)

  pub by-header : header_ok mark n m ≡ false → Err ImageRefused ≡ Found
  unfolding recovery
  by-header h = rw h

  -- the records as they are told of, where the header is right
  module _ (h : header_ok mark n m ≡ true) (told : Result (List ℕ) Refusal)
      (e : told ≡ found (by_record Unsound) (owed_by n (at n m) (workers m) Unsound)) where
    pub by-record : (r : Refusal) → told ≡ Err r → Err r ≡ Found
    unfolding recovery
    by-record r q = rw h (record-found r (by_first Lock Good Bad) Unsound _ _ (sym q ∙ e))

    module _ (sets : List ℕ) (q : told ≡ Ok sets) where
      none : (Unsound ≡ []) × (sets ≡ eight (owed_at n (at n m) (workers m)))
      none = record-sets n (at n m) (workers m) Unsound sets (sym q ∙ e)

      pub sets-are : sets ≡ eight (owed_at n (at n m) (workers m))
      sets-are = none.1

      -- and then the locks
      pub by-lock : (a : Answer) → a ≡ by_lock Bad → found a sets ≡ Found
      unfolding recovery
      by-lock a f = rw (h, none.0, f, sets-are, lock-found (plan n (at n m) (workers m)) (resumed_all n (at n m) (workers m)) Bad)

  -- ---- what an answer says

  private-done : (b : Bool) (g : Recovered) (us ls : List ℕ)
      → is_done (answer_of (cond b (by_first Record (by_first Lock g ls) us) (rejected ImageRefused))) ≡ true
      → (b ≡ true) × (us ≡ []) × (cond b (by_first Record (by_first Lock g ls) us) (rejected ImageRefused) ≡ g)
  private-done true g [] [] e = (refl, refl, refl)
  private-done true g [] (b ∷ bs) e = absurd (false≢true e)
  private-done true g (d ∷ ds) ls e = absurd (false≢true e)
  private-done false g us ls e = absurd (false≢true e)

  -- sets that are found are those of a recovery that is accepted
  module _ (sets : List ℕ) (e : Ok sets ≡ Found) where
    accepts : (header_ok mark n m ≡ true) × (Unsound ≡ []) × (recovery mark n m ≡ Good)
    unfolding recovery
    accepts = private-done (header_ok mark n m) Good Unsound Bad (found-done _ _ _ e).0

    pub found-is : recovery mark n m ≡ Good
    found-is = accepts.2

    pub found-right : n ≤ 64 → Restorable n m × (sets ≡ eight (owed_at n (at n m) (workers m)))
    found-right few =
        let h = header-true mark n m accepts.0 in
        let owed : owed_found mark n m ≡ eight (owed_at n (at n m) (workers m)) = rw (accepts.0, accepts.1) in
        (restorable n m few h.few h.size accepts.1, (found-done _ _ _ e).1 ∙ owed)

-- a recovery that is refused leaves all workers idle, and nothing to store
pub refused-idle : (r : Recovered) → is_done (answer_of r) ≡ false → all_idle ≡ cursors_of r
refused-idle (accepted ss cs) e = absurd (true≢false e)
refused-idle (rejected r) e = refl

pub refused-repair : (n : ℕ) (m : Image) (r : Recovered) → is_done (answer_of r) ≡ false → no_repair ≡ repair_by n m r
refused-repair n m (accepted ss cs) e = absurd (true≢false e)
refused-repair n m (rejected r) e = refl

-- ---- the stores

private-stores : (n : ℕ) (m : Image) (g : Recovered) (us ls : List ℕ) → rows (slot_at (repair_by n m g)) 0 592 ≡ stores_of g
    → rows (slot_at (repair_by n m (by_first Record (by_first Lock g ls) us))) 0 592 ≡ stores_of (by_first Record (by_first Lock g ls) us)
private-stores n m g [] [] h = h
private-stores n m g [] (b ∷ bs) h = empty-slots
private-stores n m g (d ∷ ds) ls h = empty-slots

pub stores-are : (mark n : ℕ) (m : Image) → rows (slot_at (repair_by n m (recovery mark n m))) 0 592 ≡ stores_of (recovery mark n m)
unfolding recovery
stores-are mark n m = by (header_ok mark n m) refl
  where
    by : (b : Bool) → header_ok mark n m ≡ b
        → let r = cond b (by_first Record (by_first Lock (Good mark n m) (Bad mark n m)) (Unsound mark n m)) (rejected ImageRefused) in
        rows (slot_at (repair_by n m r)) 0 592 ≡ stores_of r
    by true h = private-stores n m (Good mark n m) (Unsound mark n m) (Bad mark n m) (repair-slots n m (header-true mark n m h).few)
    by false h = empty-slots

leaves-stores : (n left : ℕ) (m : Image) (r : Recovered) → put_all n left m (stores_of r) ≡ recovery_leaves n left m r
leaves-stores n left m (accepted ss cs) = refl
leaves-stores n left m (rejected r) = put_all-nil n left m

left-stores : (left : ℕ) (r : Recovered) → left - length (stores_of r) ≡ recovery_left left r
left-stores left (accepted ss cs) = refl
left-stores left (rejected r) = omega arith

-- what the slots of the repair leave
module _ (mark n left : ℕ) (m : Image) where
  pub slots-leave : put_all n left m (rows (slot_at (repair_by n m (recovery mark n m))) 0 592) ≡ recovery_leaves n left m (recovery mark n m)
  slots-leave = ap (put_all n left m) (stores-are mark n m) ∙ leaves-stores n left m (recovery mark n m)

  pub slots-left : left - length (rows (slot_at (repair_by n m (recovery mark n m))) 0 592) ≡ recovery_left left (recovery mark n m)
  slots-left = ap (λ (ss : List Store). left - length ss) (stores-are mark n m) ∙ left-stores left (recovery mark n m)
