-- The turns of a worker up to the store of a step's pc, with jumps and finishes: each keeps the worker's part of the
-- invariant. A worker stands before step k as `Before` says, whether its section is begun or not; the three stores of a log
-- entry are shown once for every instruction, and then each instruction turn by turn.
use Prim.Native.Nat.{ℕ, suc, zero, ◌+◌, ◌<◌, ◌≤◌}
use mathlib.Core.Path.{◌≡◌, refl, sym, ap, subst, ◌∙◌}
use mathlib.Core.Logic.{inl}
use mathlib.Core.Bool.{Bool, true, false, cond, true≢false}
use native.Mathlib.Omega.{arith}
use native.Mathlib.Numerals.{add-one}
use native.Mathlib.Decide.{dec_lt}
use lib.Dec.{eqb}
use borrow.Author.Tests.{eqb-true, eqb-false}
use Rattle.mask.specs.Mask.{has, with, without}
use Rattle.image.specs.declared.Field.TheVariants.{Count, Pc, Intent, Owned, Number, Finished}
use Rattle.image.specs.Place.{lock, field, Memory}
use Rattle.image.specs.Inner.Same.{upd}
use Rattle.image.specs.Image.{index_of}
use Rattle.image.proofs.Places.{upd_same}
use Rattle.code.specs.declared.Expr.{Expr}
use Rattle.code.specs.declared.Op.{Op}
use Rattle.code.specs.declared.Op.TheVariants.{Acquire, Release, Assign, Jump, Finish, Unknown}
use Rattle.code.specs.Op.{eval}
use Rattle.section.specs.Valid.{Valid}
use Rattle.section.proofs.Facts.{acquire-above}
use Rattle.section.proofs.Held.{after-acquire, after-release, after-jump}
use Rattle.code.proofs.Ranges.{acquire-range}
use Rattle.working.specs.Cursor.{on}
use Rattle.worklog.specs.Log.{operand, code_in, word_in, spare_addr, spare_val, switched}
use Rattle.plan.specs.Turn.{op_turn, turn_at, stored, waiting}
use Rattle.owed.specs.Owed.{target_of}
use Rattle.resuming.specs.Resumed.{target_turn}
use Rattle.claims.specs.Reference.{Given}
use Rattle.claims.proofs.Invariant.{op_at, held_at, Sectioned, logs_held, Named, Nearing, Due, leap, Phase, due, ended}
use Rattle.claims.proofs.Turns.{in_record, takes, Stepped}
use Rattle.claims.proofs.Fields.{quiet-intent, quiet-finished, quiet-lock, quiet-spare-addr, quiet-spare-val, spare-addr-other, spare-val-other}
use Rattle.claims.proofs.Fields.{spare-addr-now, spare-val-now, spare-val-addr, next-step, next_address, next-value}
use Rattle.claims.proofs.Ready.{turn-op, step-behind, finish-free}
use Rattle.claims.proofs.Origins.{Origin, began, after, reads_kept, Before, before-kept, near, arrive, near-ready}
use Rattle.claims.proofs.Entries.{addr-no-pc, val-no-pc}

-- a jump is never first, so that there is a step that is over
jump-origin :
    (n : ℕ) (rd : Memory) (d : ℕ) (g : Given) → Valid n (rd (field Count d)) (code_in n rd d) → (a c : ℕ) (q : Bool) → eqb (word_in n rd d a) 0 ≡ q → {k j : ℕ}
    → k < rd (field Count d) → op_at n rd d k ≡ Jump a c
    → held_at n rd d (cond q c (suc k)) ≡ held_at n rd d k → Origin n rd d g k j → Origin n rd d g (cond q c (suc k)) (suc j)
jump-origin n rd d g v a c q e l o h (began x p) = let y = v.first.1 in let z : ◌≡◌ {A = ℕ} 0 1 = cc in absurd (omega arith)
jump-origin n rd d g v a c q e l o h (after s k j m done js f) = after s (cond q c (suc k)) (suc j) m done (rw e at (leap j k a c js l o)) (h ∙ f)

module _ (n : ℕ) (rd : Memory) (d : ℕ) (g : Given) (k j locks : ℕ) (b : Before n rd d g k j) where
  -- ---- the stores of a log entry

  small : k < 64
  small = let m = b.sectioned.valid.most in let l = b.below in omega arith

  log-address :
      (w t : ℕ) (x : Op) → op_at n rd d k ≡ x → Nearing n (upd rd (field (spare_addr n rd d) d) w) d k t (held_at n rd d k) locks x
      → Stepped n rd d g locks j (stored (field (spare_addr n rd d) d) w (on k t))
  log-address w t x o r =
      let rd' = upd rd (field (spare_addr n rd d) d) w in
      let f : rd' (field Finished d) ≤ rd' (field Number d) = rw (spare-addr-other n rd d w Finished refl refl, spare-addr-other n rd d w Number refl refl)
      b.sectioned.unfinished in (
        locks,
        in_record (spare_addr n rd d) w,
        rw (addr-no-pc n rd d)
            (near n rd' d g k j t locks x (before-kept n rd rd' d g k j (quiet-spare-addr n rd d w) f b) o r),
      )

  log-value :
      (w t : ℕ) (x : Op) → op_at n rd d k ≡ x → Nearing n (upd rd (field (spare_val n rd d) d) w) d k t (held_at n rd d k) locks x
      → Stepped n rd d g locks j (stored (field (spare_val n rd d) d) w (on k t))
  log-value w t x o r =
      let rd' = upd rd (field (spare_val n rd d) d) w in
      let f : rd' (field Finished d) ≤ rd' (field Number d) = rw (spare-val-other n rd d w Finished refl refl, spare-val-other n rd d w Number refl refl)
      b.sectioned.unfinished in (
        locks,
        in_record (spare_val n rd d) w,
        rw (val-no-pc n rd d)
            (near n rd' d g k j t locks x (before-kept n rd rd' d g k j (quiet-spare-val n rd d w) f b) o r),
      )

  log-pc :
      (x : Op) → op_at n rd d k ≡ x → rd (field (spare_addr n rd d) d) ≡ index_of n (target_of d x)
      → logs_held n (upd rd (field Pc d) (switched n rd d k)) d k x → Due n (upd rd (field Pc d) (switched n rd d k)) d k locks x
      → Stepped n rd d g locks j (stored (field Pc d) (switched n rd d k) (on k (target_turn x)))
  log-pc x o a v u =
      let rd' = upd rd (field Pc d) (switched n rd d k) in
      let s : Sectioned n rd' d = record { valid = b.sectioned.valid; numbered = b.sectioned.numbered; unfinished = b.sectioned.unfinished } in
      let m : Named n rd' d k =
      record {
        pc = next-step n rd d k small;
        below = b.below;
        address = next_address n rd d k small ∙ (a ∙ ap (λ (y : Op). index_of n (target_of d y)) (sym o));
        logs = subst (λ (y : Op). logs_held n rd' d k y) (sym o) v;
      }
      in
      let p = due k locks s m (subst (λ (y : Op). Due n rd' d k locks y) (sym o) u) in
      (locks, in_record Pc (switched n rd d k), subst (λ (y : Op). Phase n rd' d g (on k (target_turn y)) locks 0) o p)

  -- ---- an acquire

  module _ (a : ℕ) (o : op_at n rd d k ≡ Acquire a) where
    grown : held_at n rd d (suc k) ≡ with (held_at n rd d k) a
    grown = after-acquire (code_in n rd d) k a o

    acquire-intent : Nearing n rd d k 0 (held_at n rd d k) locks (Acquire a) → Stepped n rd d g locks j (op_turn n rd d k 0 (Acquire a))
    acquire-intent r =
        let w = with (rd (field Intent d)) a in
        let rd' = upd rd (field Intent d) w in
        let e : rd' (field Intent d) ≡ with (held_at n rd d k) a = upd_same rd (field Intent d) w ∙ ap (λ (m : ℕ). with m a) r.1 in
        let b' = before-kept n rd rd' d g k j (quiet-intent n rd d w) b.sectioned.unfinished b in
        (locks, in_record Intent w, near n rd' d g k j 1 locks (Acquire a) b' o (omega arith, e, r.2, (λ m. absurd (omega arith)), (λ m. absurd (omega arith))))

    range : a < 64
    range = acquire-range n (code_in n rd d k) a (b.sectioned.valid.ranges k b.below) o

    -- every lock that the worker has is below the acquire's
    above : locks ≡ held_at n rd d k → (c : ℕ) → has locks c ≡ true → c < a
    above e c h = by (dec_lt c a)
      where
        by : Dec (c < a) → c < a
        by (yes l) = l
        by (no l) =
            let f : has locks c ≡ false = rw e (acquire-above n (rd (field Count d)) (code_in n rd d) k a b.sectioned.valid b.below o c (omega arith)) in
            absurd (true≢false (sym h ∙ f))

    acquire-lock : Nearing n rd d k 1 (held_at n rd d k) locks (Acquire a) → Stepped n rd d g locks j (op_turn n rd d k 1 (Acquire a))
    acquire-lock r = by (eqb (rd (lock a)) 0) refl
      where
        rd' : Memory
        rd' = upd rd (lock a) (d + 1)

        by : (t : Bool) → eqb (rd (lock a)) 0 ≡ t → Stepped n rd d g locks j (cond t (stored (lock a) (d + 1) (on k 2)) (waiting a))
        by true e =
            let b' = before-kept n rd rd' d g k j (quiet-lock n rd d (d + 1) a) b.sectioned.unfinished b in
            let f : with locks a ≡ with (held_at n rd d k) a = ap (λ (m : ℕ). with m a) r.2 in (
              with locks a,
              takes a range (eqb-true _ _ e),
              near n rd' d g k j 2 (with locks a) (Acquire a) b' o
                  (omega arith, r.1, f, (λ m. absurd (omega arith)), (λ m. absurd (omega arith))),
            )
        by false e = (range, eqb-false _ _ e, above r.2)

    acquire-turn : (t : ℕ) → Nearing n rd d k t (held_at n rd d k) locks (Acquire a) → Stepped n rd d g locks j (op_turn n rd d k t (Acquire a))
    acquire-turn zero r = acquire-intent r
    acquire-turn (suc zero) r = acquire-lock r
    acquire-turn (suc (suc zero)) r =
        let w = index_of n (field Owned d) in
        log-address w 3 (Acquire a) o (
          omega arith,
          spare-addr-other n rd d w Intent refl refl ∙ r.1,
          r.2,
          (λ m. spare-addr-now n rd d w),
          (λ m. absurd (omega arith)),
        )
    acquire-turn (suc (suc (suc zero))) r =
        let w = with (rd (field Owned d)) a in
        let v : w ≡ with (held_at n rd d k) a = ap (λ (m : ℕ). with m a) b.owned in
        log-value w 4 (Acquire a) o (
          omega arith,
          spare-val-other n rd d w Intent refl refl ∙ r.1,
          r.2,
          (λ m. spare-val-addr n rd d w ∙ r.3 (omega arith)),
          (λ m. spare-val-now n rd d w ∙ v),
        )
    acquire-turn (suc (suc (suc (suc zero)))) r =
        log-pc (Acquire a) o (r.3 (omega arith)) (next-value n rd d k small ∙ (r.4 (omega arith) ∙ sym grown))
        (inl b.owned, r.1 ∙ sym grown, r.2 ∙ sym grown)
    acquire-turn (suc (suc (suc (suc (suc t))))) r = absurd (let l = r.0 in omega arith)

  -- ---- a release

  module _ (a : ℕ) (o : op_at n rd d k ≡ Release a) where
    release-turn : (t : ℕ) → Nearing n rd d k t (held_at n rd d k) locks (Release a) → Stepped n rd d g locks j (op_turn n rd d k t (Release a))
    release-turn zero r =
        let w = index_of n (field Owned d) in
        log-address w 1 (Release a) o (
          omega arith,
          spare-addr-other n rd d w Intent refl refl ∙ r.1,
          r.2,
          (λ m. spare-addr-now n rd d w),
          (λ m. absurd (omega arith)),
        )
    release-turn (suc zero) r =
        let w = without (rd (field Owned d)) a in
        let v : w ≡ without (held_at n rd d k) a = ap (λ (m : ℕ). without m a) b.owned in
        log-value w 2 (Release a) o (
          omega arith,
          spare-val-other n rd d w Intent refl refl ∙ r.1,
          r.2,
          (λ m. spare-val-addr n rd d w ∙ r.3 (omega arith)),
          (λ m. spare-val-now n rd d w ∙ v),
        )
    release-turn (suc (suc zero)) r =
        log-pc (Release a) o (r.3 (omega arith)) (next-value n rd d k small ∙ (r.4 (omega arith) ∙ sym (after-release (code_in n rd d) k a o)))
        (inl (b.owned, r.1), r.2 ∙ sym r.1)
    release-turn (suc (suc (suc t))) r = absurd (let l = r.0 in omega arith)

  -- ---- an assignment

  module _ (a : ℕ) (e : Expr) (o : op_at n rd d k ≡ Assign a e) where
    assign-turn : (t : ℕ) → Nearing n rd d k t (held_at n rd d k) locks (Assign a e) → Stepped n rd d g locks j (op_turn n rd d k t (Assign a e))
    assign-turn zero r =
        let w = index_of n (operand d a) in
        log-address w 1 (Assign a e) o
        (omega arith, spare-addr-other n rd d w Intent refl refl ∙ r.1, r.2, (λ m. spare-addr-now n rd d w), (λ m. absurd (omega arith)))
    assign-turn (suc zero) r =
        let w = eval (word_in n rd d) e in
        let rd' = upd rd (field (spare_val n rd d) d) w in
        let v : w ≡ eval (word_in n rd' d) e = ap (λ (f : ℕ → ℕ). eval f e) (sym (reads_kept n rd rd' d (quiet-spare-val n rd d w))) in
        log-value w 2 (Assign a e) o (
          omega arith,
          spare-val-other n rd d w Intent refl refl ∙ r.1,
          r.2,
          (λ m. spare-val-addr n rd d w ∙ r.3 (omega arith)),
          (λ m. spare-val-now n rd d w ∙ v),
        )
    assign-turn (suc (suc zero)) r = log-pc (Assign a e) o (r.3 (omega arith)) tt (b.owned, r.1, r.2)
    assign-turn (suc (suc (suc t))) r = absurd (let l = r.0 in omega arith)

  -- ---- a jump

  module _ (a c : ℕ) (o : op_at n rd d k ≡ Jump a c) where
    landed-held : (q : Bool) → held_at n rd d (cond q c (suc k)) ≡ held_at n rd d k
    landed-held true = (b.sectioned.valid.jumps k a c b.below o).2
    landed-held false = after-jump (code_in n rd d) k a c o

    landed-below : (q : Bool) → cond q c (suc k) < rd (field Count d)
    landed-below true = (b.sectioned.valid.jumps k a c b.below o).1
    landed-below false = step-behind n (rd (field Count d)) (code_in n rd d) b.sectioned.valid k (Jump a c) b.below o refl

    -- behind the jump, q: its word is 0
    landed : (q : Bool) → eqb (word_in n rd d a) 0 ≡ q → Before n rd d g (cond q c (suc k)) (suc j)
    landed q e =
        record {
          sectioned = b.sectioned;
          origin = jump-origin n rd d g b.sectioned.valid a c q e b.below o (landed-held q) b.origin;
          below = landed-below q;
          owned = b.owned ∙ sym (landed-held q);
        }

    jump-turn : (t : ℕ) → Nearing n rd d k t (held_at n rd d k) locks (Jump a c) → Stepped n rd d g locks j (op_turn n rd d k t (Jump a c))
    jump-turn t r = by (eqb (word_in n rd d a) 0) refl
      where
        by : (q : Bool) → eqb (word_in n rd d a) 0 ≡ q → Phase n rd d g (cond q (on c 0) (on (k + 1) 0)) locks (suc j)
        by true e = arrive n rd d g c (suc j) locks (landed true e) (r.1 ∙ sym (landed-held true)) (r.2 ∙ sym (landed-held true))
        by false e = rw (add-one k) (arrive n rd d g (suc k) (suc j) locks (landed false e) (r.1 ∙ sym (landed-held false)) (r.2 ∙ sym (landed-held false)))

  -- ---- a finish

  module _ (o : op_at n rd d k ≡ Finish) where
    none : held_at n rd d k ≡ 0
    none = finish-free n (rd (field Count d)) (code_in n rd d) b.sectioned.valid k b.below o

    finish-turn : (t : ℕ) → Nearing n rd d k t (held_at n rd d k) locks Finish → Stepped n rd d g locks j (op_turn n rd d k t Finish)
    finish-turn zero r =
        let w = rd (field Number d) in
        let rd' = upd rd (field Finished d) w in
        let f : rd' (field Finished d) ≤ rd' (field Number d) = rw (upd_same rd (field Finished d) w) (omega arith) in (
          locks,
          in_record Finished w,
          near n rd' d g k j 1 locks Finish (before-kept n rd rd' d g k j (quiet-finished n rd d w) f b) o
              (omega arith, r.1, r.2, λ m. upd_same rd (field Finished d) w),
        )
    finish-turn (suc zero) r =
        let rd' = upd rd (field Pc d) 0 in
        let s : Sectioned n rd' d = record { valid = b.sectioned.valid; numbered = b.sectioned.numbered; unfinished = b.sectioned.unfinished } in (
          locks,
          in_record Pc 0,
          subst (λ (m : ℕ). Phase n rd' d g (on k 2) m 0) (sym (r.2 ∙ none))
              (ended k s (upd_same rd (field Pc d) 0) (b.owned ∙ none) (r.1 ∙ none) b.below o),
        )
    finish-turn (suc (suc t)) r = absurd (let l = r.0 in omega arith)

  -- ---- all of them

  near-op : (t : ℕ) (x : Op) → op_at n rd d k ≡ x → Nearing n rd d k t (held_at n rd d k) locks x → Stepped n rd d g locks j (op_turn n rd d k t x)
  near-op t (Acquire a) o r = acquire-turn a o t r
  near-op t (Release a) o r = release-turn a o t r
  near-op t (Assign a e) o r = assign-turn a e o t r
  near-op t (Jump a c) o r = jump-turn a c o t r
  near-op t Finish o r = finish-turn o t r
  near-op t Unknown o r = absurd r

  -- a turn on the way to the pc
  pub near-turn : (t : ℕ) → Nearing n rd d k t (held_at n rd d k) locks (op_at n rd d k) → Stepped n rd d g locks j (turn_at n rd d (on k t))
  near-turn t r =
      let x = op_at n rd d k in
      rw (turn-op n rd d k t x b.sectioned.valid b.below refl (near-ready n rd d k t (held_at n rd d k) locks x r)) (near-op t x refl r)
