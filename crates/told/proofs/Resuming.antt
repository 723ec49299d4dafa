-- Laws of one worker's turns around a release. A turn goes on to the next turn of its step or to the first of another (`turn-onward`); up to
-- its target store a release leaves the intent (`turn-releases`); it passes with a report only at its lock, which is then not the worker's
-- (`turn-reports`). By the worker's phase (`release-stands`): before its pc names it, a release's intent is what was held (`near-intent`); at its
-- lock the pc names it, and where the intent still is what was held, the lock is the worker's (`at-lock`).
use Prim.Native.Nat.{ℕ, suc, zero, ◌+◌, ◌%◌, ◌^◌, ◌<◌, ◌≤◌}
use mathlib.Core.Path.{◌≡◌, refl, sym, ap, subst, ◌∙◌}
use mathlib.Core.Logic.{◌≢◌}
use mathlib.Core.Bool.{Bool, true, false, cond}
use lib.Dec.{ltb, eqb}
use borrow.Author.Tests.{ltb-true, ltb-false, eqb-true}
use native.Mathlib.Omega.{arith}
use Rattle.mask.specs.Mask.{has}
use Rattle.image.specs.declared.Field.TheVariants.{Count, Pc, Intent, Owned}
use Rattle.image.specs.Inner.Same.{same_field}
use Rattle.image.specs.Place.{Place, cell, lock, field, own, step, Memory}
use Rattle.code.specs.declared.Op.{Op}
use Rattle.code.specs.declared.Op.TheVariants.{Acquire, Release, Assign, Jump, Finish, Unknown}
use Rattle.code.specs.Op.{op_of}
use Rattle.code.proofs.Ranges.{release-range}
use Rattle.section.proofs.Held.{held-zero}
use Rattle.working.specs.Cursor.{Cursor, idle, on, step_no, turn_no}
use Rattle.worklog.specs.declared.Passing.TheVariants.{Jump as PassedJump}
use Rattle.worklog.specs.Log.{code_in, word_in}
use Rattle.plan.specs.declared.Report.{Report}
use Rattle.plan.specs.declared.Report.TheVariants.{Freed, AlreadyFree, Others}
use Rattle.plan.specs.Report.{report_of}
use Rattle.plan.specs.Turn.{Outcome, stored, passed, waiting, resting as rests, refused, logged, unlock_by, acquire_turn, release_turn}
use Rattle.plan.specs.Turn.{finish_turn, op_turn, ready, turn_at}
use Rattle.plan.proofs.Outcomes.{either, Found, found, unlock-either}
use Rattle.resuming.specs.Resumed.{target_turn}
use Rattle.claims.specs.Reference.{Given}
use Rattle.claims.specs.Calls.{is_pc}
use Rattle.claims.proofs.Submitting.{on-not-idle}
use Rattle.claims.proofs.Entries.{spare-addr-apart, spare-val-apart}
use Rattle.claims.proofs.Ready.{turn-op}
use Rattle.claims.proofs.Invariant.{op_at, held_at, Nearing, Phase, resting, fresh, due, unlocking, unlocked, between, ended}

-- ---- where a turn goes

-- from step s, turn t: to the next turn, or to the first of another step
abbrev pub Onto : ℕ → ℕ → Cursor → Type 0
Onto s t idle = Unit {0}
Onto s t (on r u) = u ≢ 0 → (r ≡ s) × (u ≡ t + 1)

abbrev pub Onward : ℕ → ℕ → Outcome → Type 0
Onward s t (stored p v c) = Onto s t c
Onward s t (passed why c) = Onto s t c
Onward s t (waiting b) = Unit {0}
Onward s t rests = Unit {0}
Onward s t (refused r) = Unit {0}

module _ (n : ℕ) (rd : Memory) (d s : ℕ) where
  logged-onward : (t : ℕ) (p : Place) (v : ℕ) (c : Cursor) (j : ℕ) → (3 ≤ j → Onto s t c) → Onward s t (logged n rd d s t p v c j)
  logged-onward t p v c zero h = λ u. (refl, refl)
  logged-onward t p v c (suc zero) h = λ u. (refl, refl)
  logged-onward t p v c (suc (suc zero)) h = λ u. (refl, refl)
  logged-onward t p v c (suc (suc (suc j))) h = h (omega arith)

  first-onward : (t r : ℕ) → Onto s t (on r 0)
  first-onward t r u = absurd (u refl)

  acquire-onward : (a t : ℕ) → Onward s t (acquire_turn n rd d a s t)
  acquire-onward a zero = λ u. (refl, refl)
  acquire-onward a (suc zero) = either (Onward s 1) (eqb (rd (lock a)) 0) _ _ (λ e u. (refl, refl)) (λ e. tt)
  acquire-onward a (suc (suc j)) = logged-onward (suc (suc j)) _ _ _ j (λ h. first-onward (suc (suc j)) (s + 1))

  release-onward : (a t : ℕ) → Onward s t (release_turn n rd d a s t)
  release-onward a t =
      either (Onward s t) (ltb t 4) _ _ (λ e. logged-onward t _ _ _ t (λ h u. let l = ltb-true t 4 e in (refl, omega arith)))
      (λ e. either (Onward s t) (eqb t 4) _ _
      (λ f. let l = eqb-true t 4 f in unlock-either n rd d a s (Onward s t) (λ u. (refl, omega arith)) (λ why u. (refl, omega arith)))
      (λ f. first-onward t (s + 1)))

  finish-onward : (t : ℕ) → Onward s t (finish_turn n rd d s t)
  finish-onward zero = λ u. (refl, refl)
  finish-onward (suc zero) = λ u. (refl, refl)
  finish-onward (suc (suc t)) = tt

  jump-onward : (t b : ℕ) (q : Bool) → Onto s t (cond q (on b 0) (on (s + 1) 0))
  jump-onward t b true = first-onward t b
  jump-onward t b false = first-onward t (s + 1)

  op-onward : (t : ℕ) (x : Op) → Onward s t (op_turn n rd d s t x)
  op-onward t (Acquire a) = acquire-onward a t
  op-onward t (Release a) = release-onward a t
  op-onward t (Assign a e) = logged-onward t _ _ _ t (λ h. first-onward t (s + 1))
  op-onward t (Jump a b) = jump-onward t b (eqb (word_in n rd d a) 0)
  op-onward t Finish = finish-onward t
  op-onward t Unknown = tt

  pub turn-onward : (t : ℕ) → Onward s t (turn_at n rd d (on s t))
  unfolding turn_at
  turn-onward t = either (Onward s t) (ready n rd d s t) _ _ (λ e. op-onward t (op_of (code_in n rd d s))) (λ e. tt)

-- ---- what a release leaves alone

abbrev pub is_intent : Place → Bool
is_intent (cell x) = false
is_intent (lock b) = false
is_intent (field f d) = same_field Intent f
is_intent (own d i) = false
is_intent (step d i) = false

-- turn t of a release: its target store and those before it are of no intent, the target store is of no pc, and it never waits
abbrev pub Releases : ℕ → Outcome → Type 0
Releases t (stored p v c) = (t < 4 → is_intent p ≡ false) × (t ≡ 3 → is_pc p ≡ false)
Releases t (passed why c) = Unit {0}
Releases t (waiting b) = ⊥
Releases t rests = Unit {0}
Releases t (refused r) = Unit {0}

module _ (n : ℕ) (rd : Memory) (d s a : ℕ) where
  logged-releases : (t v : ℕ) (c : Cursor) → Releases t (logged n rd d s t (field Owned d) v c t)
  logged-releases zero v c = ((λ l. spare-addr-apart n rd d Intent refl refl), λ e. absurd (omega arith))
  logged-releases (suc zero) v c = ((λ l. spare-val-apart n rd d Intent refl refl), λ e. absurd (omega arith))
  logged-releases (suc (suc zero)) v c = ((λ l. refl), λ e. absurd (omega arith))
  logged-releases (suc (suc (suc j))) v c = ((λ l. refl), λ e. refl)

  release-releases : (t : ℕ) → Releases t (release_turn n rd d a s t)
  release-releases t =
      either (Releases t) (ltb t 4) _ _ (λ e. logged-releases t _ _)
      (λ e. either (Releases t) (eqb t 4) _ _ (λ f. unlock-either n rd d a s (Releases t) ((λ l. refl), λ q. refl) (λ why. tt))
      (λ f. let l = ltb-false t 4 e in ((λ k. absurd (omega arith)), λ q. absurd (omega arith))))

  pub turn-releases : op_at n rd d s ≡ Release a → (t : ℕ) → Releases t (turn_at n rd d (on s t))
  unfolding turn_at
  turn-releases o t = either (Releases t) (ready n rd d s t) _ _ (λ e. rw o (release-releases t)) (λ e. tt)

-- ---- where a turn reports

-- a report comes from turn 4 of a release whose lock is not the worker's
abbrev pub ReportsAt : ℕ → Memory → ℕ → ℕ → ℕ → Outcome → Type 0
ReportsAt n rd d s t (stored p v c) = Unit {0}
ReportsAt n rd d s t (passed why c) = why ≢ PassedJump → (a : ℕ) × (op_at n rd d s ≡ Release a) × (t ≡ 4) × (rd (lock a) ≢ d + 1)
ReportsAt n rd d s t (waiting b) = Unit {0}
ReportsAt n rd d s t rests = Unit {0}
ReportsAt n rd d s t (refused r) = Unit {0}

module _ (n : ℕ) (rd : Memory) (d s t : ℕ) where
  logged-reports : (p : Place) (v : ℕ) (c : Cursor) (j : ℕ) → ReportsAt n rd d s t (logged n rd d s t p v c j)
  logged-reports p v c zero = tt
  logged-reports p v c (suc zero) = tt
  logged-reports p v c (suc (suc zero)) = tt
  logged-reports p v c (suc (suc (suc j))) = tt

  unlock-reports : (a : ℕ) → op_at n rd d s ≡ Release a → t ≡ 4 → (r : Report) → Found d (rd (lock a)) r → ReportsAt n rd d s t (unlock_by n rd d a s r)
  unlock-reports a o e Freed f = tt
  unlock-reports a o e AlreadyFree f = λ h. (a, o, e, f.0)
  unlock-reports a o e Others f = λ h. (a, o, e, f.0)

  release-reports : (a : ℕ) → op_at n rd d s ≡ Release a → ReportsAt n rd d s t (release_turn n rd d a s t)
  release-reports a o =
      either (ReportsAt n rd d s t) (ltb t 4) _ _ (λ e. logged-reports _ _ _ t)
      (λ e. either (ReportsAt n rd d s t) (eqb t 4) _ _
      (λ f. unlock-reports a o (eqb-true t 4 f) (report_of d (rd (lock a))) (found d (rd (lock a)))) (λ f. tt))

  op-reports : (x : Op) → op_at n rd d s ≡ x → ReportsAt n rd d s t (op_turn n rd d s t x)
  op-reports (Acquire a) o = acquire-reports t
    where
      acquire-reports : (u : ℕ) → ReportsAt n rd d s t (acquire_turn n rd d a s u)
      acquire-reports zero = tt
      acquire-reports (suc zero) = either (ReportsAt n rd d s t) (eqb (rd (lock a)) 0) _ _ (λ e. tt) (λ e. tt)
      acquire-reports (suc (suc zero)) = tt
      acquire-reports (suc (suc (suc zero))) = tt
      acquire-reports (suc (suc (suc (suc zero)))) = tt
      acquire-reports (suc (suc (suc (suc (suc j))))) = tt
  op-reports (Release a) o = release-reports a o
  op-reports (Assign a e) o = logged-reports _ _ _ t
  op-reports (Jump a b) o = λ h. absurd (h refl)
  op-reports Finish o = finish-reports t
    where
      finish-reports : (u : ℕ) → ReportsAt n rd d s t (finish_turn n rd d s u)
      finish-reports zero = tt
      finish-reports (suc zero) = tt
      finish-reports (suc (suc u)) = tt
  op-reports Unknown o = tt

  pub turn-reports : ReportsAt n rd d s t (turn_at n rd d (on s t))
  unfolding turn_at
  turn-reports = either (ReportsAt n rd d s t) (ready n rd d s t) _ _ (λ e. op-reports (op_of (code_in n rd d s)) refl) (λ e. tt)

-- ---- what a worker's phase says at a release

pub same_step : {s t i j : ℕ} → on s t ≡ on i j → (s ≡ i) × (t ≡ j)
same_step e = (ap step_no e, ap turn_no e)

near-release :
    (n : ℕ) (rd : Memory) (d s t h locks : ℕ) (x : Op) (a : ℕ) → x ≡ Release a → Nearing n rd d s t h locks x → (t ≤ 2) × (rd (field Intent d) ≡ h)
near-release n rd d s t h locks x a o y = let z = subst (Nearing n rd d s t h locks) o y in (z.0, z.1)

module _ (n : ℕ) (rd : Memory) (d : ℕ) (g : Given) where
  -- at the lock: the pc names the step, and where the intent is still what was held, the lock is the worker's
  pub record AtLock (s a locks : ℕ) : Type 0 where
    pub names : rd (field Pc d) % 2 ^ 63 ≡ suc s
    pub mine : rd (field Intent d) ≡ held_at n rd d s → has locks a ≡ true
    pub range : a < 64
    pub turn : turn_at n rd d (on s 4) ≡ op_turn n rd d s 4 (Release a)

  -- at turn t of a release of lock a, by the turn
  data Stands (s a locks : ℕ) : ℕ → Type 0 where
    near : (t : ℕ) → t ≤ 2 → rd (field Intent d) ≡ held_at n rd d s → Stands s a locks t
    target : Stands s a locks 3
    at-its-lock : AtLock s a locks → Stands s a locks 4
    behind : Stands s a locks 5

  release-stands :
      (c : Cursor) (locks j : ℕ) → Phase n rd d g c locks j → (s t a : ℕ) → c ≡ on s t → op_at n rd d s ≡ Release a → Stands s a locks t
  release-stands _ _ _ (resting e p i w) s t a q o = absurd (on-not-idle s t (sym q))
  release-stands _ _ _ (fresh u locks sec h p w r) s t a q o =
      let (k, m) = same_step q in
      let (l, intent) = near-release n rd d 0 u 0 locks (op_at n rd d 0) a (rw k o) r in
      near t (rw (← m) l) (intent ∙ sym (ap (held_at n rd d) (sym k) ∙ held-zero (code_in n rd d)))
  release-stands _ _ _ (due i locks sec m u) s t a q o =
      let (k, z) = same_step q in
      let three : target_turn (op_at n rd d i) ≡ 3 = rw (k, o) in
      subst (Stands s a locks) (sym three ∙ z) target
  release-stands _ _ _ (unlocking i b locks sec m p w z e) s t a q o =
      let (k, f) = same_step q in
      let below : s < rd (field Count d) = rw (← k) m.below in
      subst (Stands s a locks) f
      (at-its-lock (record {
        names = m.pc ∙ ap suc k;
        mine = λ h. rw (e ∙ h) (sec.valid.releases s a below o);
        range = release-range n (code_in n rd d s) a (sec.valid.ranges s below) o;
        turn = turn-op n rd d s 4 (Release a) sec.valid below o (omega arith);
      }))
  release-stands _ _ _ (unlocked i b locks sec m p w z e) s t a q o = subst (Stands s a locks) (same_step q).1 behind
  release-stands _ _ _ (between i k u locks j sec m done js b w e r) s t a q o =
      let (f, z) = same_step q in
      let (l, intent) = near-release n rd d k u (held_at n rd d k) locks (op_at n rd d k) a (rw f o) r in
      near t (rw (← z) l) (intent ∙ ap (held_at n rd d) f)
  release-stands _ _ _ (ended i sec p w z b f) s t a q o =
      let e : Finish ≡ Release a = sym f ∙ (ap (op_at n rd d) (same_step q).0 ∙ o) in
      let y : ◌≡◌ {A = ℕ} 0 1 = cc in
      absurd (omega arith)

  pub near-intent :
      (c : Cursor) (locks j : ℕ) → Phase n rd d g c locks j → (s t a : ℕ) → c ≡ on s t → t ≤ 2 → op_at n rd d s ≡ Release a
      → rd (field Intent d) ≡ held_at n rd d s
  near-intent c locks j ph s t a q l o = by (release-stands c locks j ph s t a q o) l
    where
      by : {u : ℕ} → Stands s a locks u → u ≤ 2 → rd (field Intent d) ≡ held_at n rd d s
      by (near u k e) h = e
      by target h = absurd (omega arith)
      by (at-its-lock x) h = absurd (omega arith)
      by behind h = absurd (omega arith)

  pub at-lock :
      (c : Cursor) (locks j : ℕ) → Phase n rd d g c locks j → (s a : ℕ) → c ≡ on s 4 → op_at n rd d s ≡ Release a → AtLock s a locks
  at-lock c locks j ph s a q o = by (release-stands c locks j ph s 4 a q o) refl
    where
      by : {u : ℕ} → Stands s a locks u → u ≡ 4 → AtLock s a locks
      by (near u k e) h = absurd (omega arith)
      by target h = absurd (omega arith)
      by (at-its-lock x) h = x
      by behind h = absurd (omega arith)
