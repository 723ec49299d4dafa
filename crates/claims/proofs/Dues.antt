-- The turns of a worker from the store of a step's pc on: its target store; of a release the lock, and then the intent; of a
-- finish the count. Each keeps the worker's part of the invariant. Where a turn is the step's last, the worker stands before
-- the next step (`over`), which there is, since only a finish is last.
use Prim.Native.Nat.{ℕ, suc, ◌+◌, ◌-◌, ◌/◌, ◌<◌, ◌≤◌}
use mathlib.Core.Path.{◌≡◌, refl, sym, ap, ◌∙◌}
use mathlib.Core.Logic.{◌⊎◌, inl, inr}
use mathlib.Core.Bool.{Bool, true, false, cond}
use native.Mathlib.Omega.{arith}
use native.Mathlib.Numerals.{add-one}
use lib.Dec.{ltb}
use borrow.Author.Tests.{ltb-true, ltb-false, lt-leb}
use Rattle.mask.specs.Mask.{has, without}
use Rattle.mask.proofs.Laws.{has-without}
use Rattle.mask.proofs.Sets.{without-stranger}
use Rattle.image.specs.declared.Field.TheVariants.{Count, Pc, Intent, Owned, Number, Finished}
use Rattle.image.specs.Place.{cell, lock, field, own, Memory}
use Rattle.image.specs.Inner.Same.{upd}
use Rattle.image.proofs.Places.{upd_same}
use Rattle.code.specs.Op.{is_finish}
use Rattle.code.specs.declared.Expr.{Expr}
use Rattle.code.specs.declared.Op.{Op}
use Rattle.code.specs.declared.Op.TheVariants.{Acquire, Release, Assign, Jump, Finish, Unknown}
use Rattle.section.proofs.Held.{after-release, after-assign}
use Rattle.code.proofs.Ranges.{release-range, assign-range, op_turns}
use Rattle.working.specs.Cursor.{on}
use Rattle.worklog.specs.Log.{operand, code_in, active_val}
use Rattle.plan.specs.declared.Report.{Report}
use Rattle.plan.specs.declared.Report.TheVariants.{Freed, AlreadyFree, Others}
use Rattle.plan.specs.Report.{report_of}
use Rattle.plan.specs.Turn.{stored, unlock_by, op_turn, turn_at}
use Rattle.plan.proofs.Outcomes.{Found, found}
use Rattle.owed.specs.Owed.{target_of}
use Rattle.resuming.specs.Resumed.{target_turn}
use Rattle.claims.specs.Reference.{Given}
use Rattle.claims.proofs.Invariant.{op_at, held_at, Sectioned, Named, Due, stay, resting, unlocking, unlocked}
use Rattle.claims.proofs.Turns.{in_record, own_word, own_cell, frees, Stepped}
use Rattle.claims.proofs.Fields.{KeepsNamed, keeps-field, keeps-lock, keeps-cell, keeps-own}
use Rattle.claims.proofs.Ready.{turn-op, step-behind}
use Rattle.claims.proofs.Origins.{op-kept, held_kept, value-kept, sectioned-kept, named-kept, after, Before, arrive}
use Rattle.claims.proofs.Entries.{named-logs}

module _ (n : ℕ) (rd : Memory) (d : ℕ) (g : Given) (s locks : ℕ) (sec : Sectioned n rd d) (m : Named n rd d s) where
  -- step s is over in rd'
  over :
      (rd' : Memory) (x : Op) → KeepsNamed n rd rd' d → rd' (field Number d) ≡ rd (field Number d) → rd' (field Finished d) ≤ rd' (field Number d)
      → op_at n rd d s ≡ x → is_finish x ≡ false
      → rd' (target_of d x) ≡ rd (field (active_val n rd d) d) → rd' (field Owned d) ≡ held_at n rd d (suc s) → Before n rd' d g (suc s) 0
  over rd' x k e f o i done w =
      record {
        sectioned = sectioned-kept n rd rd' d k e f sec;
        origin =
            after s (suc s) 0 (named-kept n rd rd' d k s m)
            (ap (λ (y : Op). rd' (target_of d y)) (op-kept n rd rd' d k s ∙ o) ∙ (done ∙ sym (value-kept n rd rd' d k))) stay refl;
        below = rw k.count (step-behind n (rd (field Count d)) (code_in n rd d) sec.valid s x m.below o i);
        owned = w ∙ sym (held_kept n rd rd' d k (suc s));
      }

  -- ---- target stores

  due-acquire : (a : ℕ) → op_at n rd d s ≡ Acquire a → Due n rd d s locks (Acquire a) → Stepped n rd d g locks 0 (op_turn n rd d s 5 (Acquire a))
  due-acquire a o u =
      let v = rd (field (active_val n rd d) d) in
      let rd' = upd rd (field Owned d) v in
      let done : rd' (field Owned d) ≡ v = upd_same rd (field Owned d) v in
      let b = over rd' (Acquire a) (keeps-field n rd d v Owned refl refl refl refl refl refl) refl sec.unfinished o refl done
      (done ∙ named-logs n rd d s m (Acquire a) o) in
      (locks, in_record Owned v, rw (add-one s) (arrive n rd' d g (suc s) 0 locks b u.1 u.2))

  due-release : (a : ℕ) → op_at n rd d s ≡ Release a → Due n rd d s locks (Release a) → Stepped n rd d g locks 0 (op_turn n rd d s 3 (Release a))
  due-release a o u =
      let v = rd (field (active_val n rd d) d) in
      let rd' = upd rd (field Owned d) v in
      let k = keeps-field n rd d v Owned refl refl refl refl refl refl in
      let sec' = sectioned-kept n rd rd' d k refl sec.unfinished sec in
      let w = upd_same rd (field Owned d) v ∙ named-logs n rd d s m (Release a) o in
      (locks, in_record Owned v, unlocking s a locks sec' (named-kept n rd rd' d k s m) o w (either u.0) u.1)
    where
      either :
          ((rd (field Owned d) ≡ held_at n rd d s) × (rd (field Intent d) ≡ held_at n rd d s)) ⊎
          ((rd (field Owned d) ≡ held_at n rd d (suc s)) × (rd (field Intent d) ≡ held_at n rd d (suc s)))
          → (rd (field Intent d) ≡ held_at n rd d s) ⊎ (rd (field Intent d) ≡ held_at n rd d (suc s))
      either (inl x) = inl x.1
      either (inr x) = inr x.1

  -- an assignment to a cell, whose lock the worker has, or to an own word
  module _ (a : ℕ) (e : Expr) (o : op_at n rd d s ≡ Assign a e) (u : Due n rd d s locks (Assign a e)) where
    same-held : held_at n rd d (suc s) ≡ held_at n rd d s
    same-held = after-assign (code_in n rd d) s a e o

    to_cell : (v : ℕ) → v ≡ rd (field (active_val n rd d) d) → a < 512 → operand d a ≡ cell a → Stepped n rd d g locks 0 (stored (cell a) v (on (s + 1) 0))
    to_cell v w l p =
        let rd' = upd rd (cell a) v in
        let done : rd' (operand d a) ≡ rd (field (active_val n rd d) d) = ap rd' p ∙ (upd_same rd (cell a) v ∙ w) in
        let b = over rd' (Assign a e) (keeps-cell n rd d v a) refl sec.unfinished o refl done (u.0 ∙ sym same-held) in
        let c : has (held_at n rd d s) (a / 8) ≡ true = rw (lt-leb 512 a l) at (sec.valid.targets s a e m.below o) in
        (locks, own_cell a v l (rw u.2 c), rw (add-one s) (arrive n rd' d g (suc s) 0 locks b (u.1 ∙ sym same-held) (u.2 ∙ sym same-held)))

    to-own : (v i : ℕ) → v ≡ rd (field (active_val n rd d) d) → i < n → operand d a ≡ own d i → Stepped n rd d g locks 0 (stored (own d i) v (on (s + 1) 0))
    to-own v i w l p =
        let rd' = upd rd (own d i) v in
        let done : rd' (operand d a) ≡ rd (field (active_val n rd d) d) = ap rd' p ∙ (upd_same rd (own d i) v ∙ w) in
        let b = over rd' (Assign a e) (keeps-own n rd d v i) refl sec.unfinished o refl done (u.0 ∙ sym same-held) in
        (locks, own_word i v l, rw (add-one s) (arrive n rd' d g (suc s) 0 locks b (u.1 ∙ sym same-held) (u.2 ∙ sym same-held)))

    due-assign : Stepped n rd d g locks 0 (op_turn n rd d s 3 (Assign a e))
    unfolding operand
    due-assign = by (ltb a 512) refl
      where
        by :
            (q : Bool) → ltb a 512 ≡ q
            → Stepped n rd d g locks 0 (stored (cond q (cell a) (own d (a - 512))) (rd (field (active_val n rd d) d)) (on (s + 1) 0))
        by true p = to_cell (rd (field (active_val n rd d) d)) refl (ltb-true a 512 p) (rw p)
        by false p =
            let l = ltb-false a 512 p in
            let r : a < 512 + n = assign-range n (code_in n rd d s) a e (sec.valid.ranges s m.below) o in
            to-own (rd (field (active_val n rd d) d)) (a - 512) refl (omega arith) (rw p)

  due-op : (x : Op) → op_at n rd d s ≡ x → Due n rd d s locks x → Stepped n rd d g locks 0 (op_turn n rd d s (target_turn x) x)
  due-op (Acquire a) o u = due-acquire a o u
  due-op (Release a) o u = due-release a o u
  due-op (Assign a e) o u = due-assign a e o u
  due-op (Jump a b) o u = absurd u
  due-op Finish o u = absurd u
  due-op Unknown o u = absurd u

  due-ready : (x : Op) → Due n rd d s locks x → target_turn x < op_turns x
  due-ready (Acquire a) u = omega arith
  due-ready (Release a) u = omega arith
  due-ready (Assign a e) u = omega arith
  due-ready (Jump a b) u = absurd u
  due-ready Finish u = absurd u
  due-ready Unknown u = absurd u

  pub due-turn : Due n rd d s locks (op_at n rd d s) → Stepped n rd d g locks 0 (turn_at n rd d (on s (target_turn (op_at n rd d s))))
  due-turn u =
      let x = op_at n rd d s in
      rw (turn-op n rd d s (target_turn x) x sec.valid m.below refl (due-ready x u)) (due-op x refl u)

  -- ---- the lock and the intent of a release

  module _ (a : ℕ) (o : op_at n rd d s ≡ Release a) (w : rd (field Owned d) ≡ held_at n rd d (suc s))
      (z : (rd (field Intent d) ≡ held_at n rd d s) ⊎ (rd (field Intent d) ≡ held_at n rd d (suc s))) where
    shrunk : held_at n rd d (suc s) ≡ without (held_at n rd d s) a
    shrunk = after-release (code_in n rd d) s a o

    shrunk-lacks : has (held_at n rd d (suc s)) a ≡ false
    shrunk-lacks = rw shrunk (has-without (held_at n rd d s) a)

    -- both alternatives lead to one set
    intent-without : without (rd (field Intent d)) a ≡ held_at n rd d (suc s)
    intent-without = by z
      where
        by : (rd (field Intent d) ≡ held_at n rd d s) ⊎ (rd (field Intent d) ≡ held_at n rd d (suc s))
            → without (rd (field Intent d)) a ≡ held_at n rd d (suc s)
        by (inl e) = rw e (sym shrunk)
        by (inr e) = rw e (without-stranger (held_at n rd d (suc s)) a shrunk-lacks)

    range : a < 64
    range = release-range n (code_in n rd d s) a (sec.valid.ranges s m.below) o

    lock-op :
        locks ≡ rd (field Intent d) → (has locks a ≡ true → rd (lock a) ≡ d + 1) → (rd (lock a) ≡ d + 1 → has locks a ≡ true)
        → Stepped n rd d g locks 0 (op_turn n rd d s 4 (Release a))
    lock-op e mine named = by (report_of d (rd (lock a))) (found d (rd (lock a)))
      where
        rd' : Memory
        rd' = upd rd (lock a) 0

        lacks : ((rd (lock a) ≡ d + 1) → ⊥) → (rd (field Intent d) ≡ held_at n rd d s) ⊎ (rd (field Intent d) ≡ held_at n rd d (suc s))
            → locks ≡ held_at n rd d (suc s)
        lacks f (inl i) = absurd (f (mine (rw (e ∙ i) (sec.valid.releases s a m.below o))))
        lacks f (inr i) = e ∙ i

        by : (r : Report) → Found d (rd (lock a)) r → Stepped n rd d g locks 0 (unlock_by n rd d a s r)
        by Freed q =
            let k = keeps-lock n rd d 0 a in
            let sec' = sectioned-kept n rd rd' d k refl sec.unfinished sec in (
              without locks a,
              frees a range (named q),
              unlocked s a (without locks a) sec' (named-kept n rd rd' d k s m) o w z
                  (rw e intent-without),
            )
        by AlreadyFree q = unlocked s a locks sec m o w z (lacks q.0 z)
        by Others q = unlocked s a locks sec m o w z (lacks q.0 z)

    pub unlocking-turn :
        locks ≡ rd (field Intent d) → (has locks a ≡ true → rd (lock a) ≡ d + 1) → (rd (lock a) ≡ d + 1 → has locks a ≡ true) → Stepped n rd d g locks 0
        (turn_at n rd d (on s 4))
    unlocking-turn e mine named = rw (turn-op n rd d s 4 (Release a) sec.valid m.below o (omega arith)) (lock-op e mine named)

    intent-op : locks ≡ held_at n rd d (suc s) → Stepped n rd d g locks 0 (op_turn n rd d s 5 (Release a))
    intent-op e =
        let v = without (rd (field Intent d)) a in
        let rd' = upd rd (field Intent d) v in
        let done : rd (field Owned d) ≡ rd (field (active_val n rd d) d) = w ∙ sym (named-logs n rd d s m (Release a) o) in
        let b = over rd' (Release a) (keeps-field n rd d v Intent refl refl refl refl refl refl) refl sec.unfinished o refl done w in
        (locks, in_record Intent v, rw (add-one s) (arrive n rd' d g (suc s) 0 locks b (upd_same rd (field Intent d) v ∙ intent-without) e))

    pub unlocked-turn : locks ≡ held_at n rd d (suc s) → Stepped n rd d g locks 0 (turn_at n rd d (on s 5))
    unlocked-turn e = rw (turn-op n rd d s 5 (Release a) sec.valid m.below o (omega arith)) (intent-op e)

-- ---- the count of a finish

pub ended-turn :
    (n : ℕ) (rd : Memory) (d : ℕ) (g : Given) (s : ℕ) → Sectioned n rd d → rd (field Pc d) ≡ 0 → rd (field Owned d) ≡ 0 → rd (field Intent d) ≡ 0
    → s < rd (field Count d) → op_at n rd d s ≡ Finish
    → Stepped n rd d g 0 0 (turn_at n rd d (on s 2))
ended-turn n rd d g s sec p w i l o =
    rw (turn-op n rd d s 2 Finish sec.valid l o (omega arith))
    (0, in_record Count 0, resting (upd_same rd (field Count d) 0) p i w)
