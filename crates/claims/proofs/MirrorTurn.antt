-- A turn of a worker in a live memory, on the reference machine: a store of a pc is a whole instruction, with the jumps before
-- it, and every other store changes nothing. First the turns of each instruction up to its pc store, which is given; then the
-- phases, one by one; last what this says of a store, and of the order of whole instructions so far.
use Prim.Native.Nat.{ℕ, suc, zero, ◌+◌, ◌<◌, ◌≤◌}
use mathlib.Core.Path.{◌≡◌, refl, subst, ◌∙◌}
use mathlib.Core.Bool.{Bool, true, false, cond}
use mathlib.Core.List.{List, [], ◌∷◌, ◌++◌}
use mathlib.Core.Option.{some}
use native.Mathlib.Omega.{arith}
use lib.ListN.{get_or, replicate}
use lib.Dec.{eqb}
use borrow.Author.Tests.{eqb-true}
use Rattle.mask.proofs.Laws.{has-with}
use Rattle.image.specs.declared.Field.TheVariants.{Count, Pc, Intent, Owned, Finished}
use Rattle.image.specs.Place.{Place, lock, field, Memory}
use Rattle.image.specs.Inner.Same.{upd}
use Rattle.code.specs.declared.Op.{Op}
use Rattle.code.specs.declared.Op.TheVariants.{Acquire, Release, Assign, Jump, Finish, Unknown}
use Rattle.code.specs.Op.{eval}
use Rattle.working.specs.Cursor.{Cursor, idle, on}
use Rattle.worklog.specs.Log.{operand, word_in, spare_addr, spare_val, active_val, switched}
use Rattle.plan.specs.Turn.{Outcome, stored, passed, waiting, resting, refused, logged}
use Rattle.plan.specs.Turn.{lock_turn, unlock_turn, acquire_turn, release_turn, finish_turn, turn_at}
use Rattle.plan.proofs.Outcomes.{unlock-either}
use Rattle.owed.specs.Owed.{target_of}
use Rattle.resuming.specs.Resumed.{target_turn}
use Rattle.claims.specs.Reference.{Given, Job, State, follow, enqueue, initial}
use Rattle.claims.specs.Calls.{is_pc}
use Rattle.claims.proofs.Invariant.{op_at, held_at, Sectioned, logs_held, Nearing, Jumps, Lodged, Phase, resting as rests, fresh, due, unlocking, unlocked}
use Rattle.claims.proofs.Invariant.{between, ended, Live, JobOf, Mirrors}
use Rattle.claims.proofs.Machine.{follow-then, initial-more}
use Rattle.claims.proofs.Entries.{named-pc, operand-no-pc, addr-no-pc, val-no-pc}
use Rattle.claims.proofs.Stutter.{mirror-kept, unmirrored-lock, unmirrored-intent, unmirrored-finished, unmirrored-spare-addr, unmirrored-spare-val}
use Rattle.claims.proofs.Stutter.{unmirrored-resting, mirror-target}
use Rattle.claims.proofs.Apart.{Busy, busy-due, busy-between, target-guarded, misses-guarded}
use Rattle.claims.proofs.PcTurn.{began, Counted, fresh-counted, counted-acquire, counted-release, counted-assign, counted-finish}
use Rattle.claims.proofs.Ready.{turn-op}

-- ---- what a turn is on the reference machine

-- a store of v at p, with j jumps made before; by whether it is a store of a pc. A section that begins is worker d's
abbrev pub MirroredStore : ℕ → ℕ → Memory → State → ℕ → Given → ℕ → Place → ℕ → Bool → Type 0
MirroredStore n D rd S j g d p v false = Mirrors n D (upd rd p v) S
MirroredStore n D rd S j g d p v true = (p ≡ field Pc d) × (rd (field Pc d) ≡ 0 → g.worker ≡ d) ×
    ((S' : State) × (follow (began n rd S g d) (replicate (suc j) d) ≡ some S') × Mirrors n D (upd rd p v) S')

-- a turn of worker d, by its outcome
abbrev pub Mirrored : ℕ → ℕ → Memory → State → ℕ → Given → ℕ → Outcome → Type 0
Mirrored n D rd S j g d (stored p v c) = MirroredStore n D rd S j g d p v (is_pc p)
Mirrored n D rd S j g d (passed why c) = Unit {0}
Mirrored n D rd S j g d (waiting b) = Unit {0}
Mirrored n D rd S j g d resting = Unit {0}
Mirrored n D rd S j g d (refused r) = Unit {0}

-- ---- the turns of an instruction up to its pc store

module _ (n D : ℕ) (rd : Memory) (S : State) (M : Mirrors n D rd S) (j : ℕ) (g : Given) (d : ℕ) (mine : rd (field Pc d) ≡ 0 → g.worker ≡ d) where
  addr-turn : (v : ℕ) → MirroredStore n D rd S j g d (field (spare_addr n rd d) d) v (is_pc (field (spare_addr n rd d) d))
  addr-turn v = rw (addr-no-pc n rd d) (mirror-kept n D rd (field (spare_addr n rd d) d) v (unmirrored-spare-addr n D rd d) S M)

  val-turn : (v : ℕ) → MirroredStore n D rd S j g d (field (spare_val n rd d) d) v (is_pc (field (spare_val n rd d) d))
  val-turn v = rw (val-no-pc n rd d) (mirror-kept n D rd (field (spare_val n rd d) d) v (unmirrored-spare-val n D rd d) S M)

  lock-turn : (a k : ℕ) → Mirrored n D rd S j g d (lock_turn n rd d a k)
  lock-turn a k = by (eqb (rd (lock a)) 0)
    where
      by : (b : Bool) → Mirrored n D rd S j g d (cond b (stored (lock a) (d + 1) (on k 2)) (waiting a))
      by true = mirror-kept n D rd (lock a) (d + 1) (unmirrored-lock n D rd a) S M
      by false = tt

  unlock-turn : (a s : ℕ) → Mirrored n D rd S j g d (unlock_turn n rd d a s)
  unlock-turn a s = unlock-either n rd d a s (Mirrored n D rd S j g d) (mirror-kept n D rd (lock a) 0 (unmirrored-lock n D rd a) S M) (λ why. tt)

  -- address, value, pc
  logged-turns :
      (k t : ℕ) (p : Place) (v : ℕ) (c : Cursor) (i : ℕ) → i ≤ 2 → (i ≡ 2 → Counted n D rd S j g d (switched n rd d k)) → Mirrored n D rd S j g d
      (logged n rd d k t p v c i)
  logged-turns k t p v c zero h f = addr-turn _
  logged-turns k t p v c (suc zero) h f = val-turn _
  logged-turns k t p v c (suc (suc zero)) h f = (refl, mine, f refl)
  logged-turns k t p v c (suc (suc (suc i))) h f = absurd (omega arith)

  acquire-turns : (k t a : ℕ) → t ≤ 4 → (t ≡ 4 → Counted n D rd S j g d (switched n rd d k)) → Mirrored n D rd S j g d (acquire_turn n rd d a k t)
  acquire-turns k zero a h f = mirror-kept n D rd (field Intent d) _ (unmirrored-intent n D rd d) S M
  acquire-turns k (suc zero) a h f = lock-turn a k
  acquire-turns k (suc (suc t)) a h f = logged-turns k (suc (suc t)) (field Owned d) _ _ t (omega arith) (λ e. f (omega arith))

  release-turns : (k t a : ℕ) → t ≤ 2 → (t ≡ 2 → Counted n D rd S j g d (switched n rd d k)) → Mirrored n D rd S j g d (release_turn n rd d a k t)
  release-turns k zero a h f = addr-turn _
  release-turns k (suc zero) a h f = val-turn _
  release-turns k (suc (suc zero)) a h f = (refl, mine, f refl)
  release-turns k (suc (suc (suc t))) a h f = absurd (omega arith)

  finish-turns : (k t : ℕ) → t ≤ 1 → (t ≡ 1 → Counted n D rd S j g d 0) → Mirrored n D rd S j g d (finish_turn n rd d k t)
  finish-turns k zero h f = mirror-kept n D rd (field Finished d) _ (unmirrored-finished n D rd d) S M
  finish-turns k (suc zero) h f = (refl, mine, f refl)
  finish-turns k (suc (suc t)) h f = absurd (omega arith)

-- ---- the phases

turn-idle : (n : ℕ) (rd : Memory) (d : ℕ) → turn_at n rd d idle ≡ resting
unfolding turn_at
turn-idle n rd d = refl

module _ (n D : ℕ) (rd : Memory) (cursor : ℕ → Cursor) (locks jumps : ℕ → ℕ) (given : ℕ → Given) (L : Live n D rd cursor locks jumps given) (d : ℕ) (l : d < D)
    (S : State) (M : Mirrors n D rd S) where
  -- a section that is not begun
  fresh-turn :
      (t : ℕ) → Sectioned n rd d → Lodged n rd d (given d) → rd (field Pc d) ≡ 0 → rd (field Owned d) ≡ 0 → Nearing n rd d 0 t 0 (locks d) (op_at n rd d 0)
      → Mirrored n D rd S 0 (given d) d (turn_at n rd d (on 0 t))
  fresh-turn t sec H p o N =
      let (a, x) = sec.valid.first in
      let c : 3 ≤ rd (field Count d) = sec.valid.least in
      let K : Nearing n rd d 0 t 0 (locks d) (Acquire a) = subst (Nearing n rd d 0 t 0 (locks d)) x N in
      let r : t ≤ 4 = K.0 in
      rw (turn-op n rd d 0 t (Acquire a) sec.valid (omega arith) x (omega arith))
      (acquire-turns n D rd S M 0 (given d) d (λ z. H.by) 0 t a r
      (λ e. fresh-counted n D rd cursor locks jumps given L d l S M sec H p o a x (rw (K.2, e) (has-with 0 a)) (K.4 (omega arith))))

  -- the target store
  due-turn : (s : ℕ) → Busy n rd d (locks d) s → (x : Op) → op_at n rd d s ≡ x → Mirrored n D rd S 0 (given d) d (turn_at n rd d (on s (target_turn x)))
  due-turn s B x o = by x o
    where
      kept : (y : Op) → op_at n rd d s ≡ y → Mirrors n D (upd rd (target_of d y) (rd (field (active_val n rd d) d))) S
      kept y p =
          subst (λ (z : Op). Mirrors n D (upd rd (target_of d z) (rd (field (active_val n rd d) d))) S) p
          (mirror-target n D rd d s S B.named l
          (λ e m h. misses-guarded n D rd cursor locks jumps given L d e l m h (target_of d (op_at n rd d s)) (target-guarded n rd d (locks d) s B)) M)

      logs : (y : Op) → op_at n rd d s ≡ y → logs_held n rd d s y
      logs y p = subst (logs_held n rd d s) p B.named.logs

      by : (y : Op) → op_at n rd d s ≡ y → Mirrored n D rd S 0 (given d) d (turn_at n rd d (on s (target_turn y)))
      by (Acquire a) p = rw (turn-op n rd d s 5 (Acquire a) B.sectioned.valid B.named.below p (omega arith)) (kept (Acquire a) p)
      by (Release a) p = rw (turn-op n rd d s 3 (Release a) B.sectioned.valid B.named.below p (omega arith)) (kept (Release a) p)
      by (Assign a e) p =
          rw (turn-op n rd d s 3 (Assign a e) B.sectioned.valid B.named.below p (omega arith), operand-no-pc d a) (kept (Assign a e) p)
      by (Jump a b) p = absurd (logs (Jump a b) p)
      by Finish p = absurd (logs Finish p)
      by Unknown p = absurd (logs Unknown p)

  -- a step that has not been counted
  between-turn :
      (s k t i : ℕ) → Busy n rd d (locks d) s → rd (target_of d (op_at n rd d s)) ≡ rd (field (active_val n rd d) d) → Jumps n rd d (suc s) i k
      → k < rd (field Count d) → held_at n rd d k ≡ held_at n rd d (suc s) → Nearing n rd d k t (held_at n rd d k) (locks d) (op_at n rd d k)
      → Mirrored n D rd S i (given d) d (turn_at n rd d (on k t))
  between-turn s k t i B made leaps below level near =
      let (j, q, J) = M.some d l (named-pc n rd d s B.named.pc) in
      by j q J (op_at n rd d k) refl near
    where
      sec : Sectioned n rd d
      sec = B.sectioned

      mine : rd (field Pc d) ≡ 0 → (given d).worker ≡ d
      mine z = absurd (named-pc n rd d s B.named.pc z)

      by : (j : Job) → get_or S.queues d [] ≡ j ∷ [] → JobOf n D rd d j → (x : Op) → op_at n rd d k ≡ x → Nearing n rd d k t (held_at n rd d k) (locks d) x
          → Mirrored n D rd S i (given d) d (turn_at n rd d (on k t))
      by j q J (Acquire a) x K =
          let r : t ≤ 4 = K.0 in
          rw (turn-op n rd d k t (Acquire a) sec.valid below x (omega arith))
          (acquire-turns n D rd S M i (given d) d mine k t a r
          (λ e. counted-acquire n D rd cursor locks jumps given L d l S M sec s k i B made leaps below level j q J a x
          (rw (K.2, e) (has-with (held_at n rd d k) a)) (K.4 (omega arith))))
      by j q J (Release a) x K =
          let r : t ≤ 2 = K.0 in
          rw (turn-op n rd d k t (Release a) sec.valid below x (omega arith))
          (release-turns n D rd S M i (given d) d mine k t a r
          (λ e. counted-release n D rd cursor locks jumps given L d l S M sec s k i B made leaps below level j q J a x (K.4 (omega arith))))
      by j q J (Assign a v) x K =
          let r : t ≤ 2 = K.0 in
          rw (turn-op n rd d k t (Assign a v) sec.valid below x (omega arith))
          (logged-turns n D rd S M i (given d) d mine k t (operand d a) (eval (word_in n rd d) v) (on (k + 1) 0) t r
          (λ e. counted-assign n D rd cursor locks jumps given L d l S M sec s k i B made leaps below level j q J a v x (K.4 (omega arith))))
      by j q J (Jump a b) x K = let r : t ≡ 0 = K.0 in rw (turn-op n rd d k t (Jump a b) sec.valid below x (omega arith)) tt
      by j q J Finish x K =
          let r : t ≤ 1 = K.0 in
          rw (turn-op n rd d k t Finish sec.valid below x (omega arith))
          (finish-turns n D rd S M i (given d) d mine k t r
          (λ e. counted-finish n D rd cursor locks jumps given L d l S M sec s k i B made leaps below level j q J x))
      by j q J Unknown x K = absurd K

  phase-turn : (c : Cursor) (w i : ℕ) → locks d ≡ w → Phase n rd d (given d) c w i → Mirrored n D rd S i (given d) d (turn_at n rd d c)
  phase-turn c w i e (rests a b x y) = rw (turn-idle n rd d) tt
  phase-turn c w i e (fresh t lk sec H p o N) = fresh-turn t sec H p o (rw e N)
  phase-turn c w i e (due s lk sec N K) = due-turn s (rw e (busy-due n rd d s lk sec N K)) (op_at n rd d s) refl
  phase-turn c w i e (unlocking s a lk sec N o x y z) =
      rw (turn-op n rd d s 4 (Release a) sec.valid N.below o (omega arith))
      (unlock-turn n D rd S M 0 (given d) d (λ q. absurd (named-pc n rd d s N.pc q)) a s)
  phase-turn c w i e (unlocked s a lk sec N o x y z) =
      rw (turn-op n rd d s 5 (Release a) sec.valid N.below o (omega arith)) (mirror-kept n D rd (field Intent d) _ (unmirrored-intent n D rd d) S M)
  phase-turn c w i e (between s k t lk j sec N made J below o h K) =
      between-turn s k t j (rw e (busy-between n rd d s k t lk sec N o h K)) made J below h (rw e K)
  phase-turn c w i e (ended s sec p o x below f) =
      rw (turn-op n rd d s 2 Finish sec.valid below f (omega arith)) (mirror-kept n D rd (field Count d) 0 (unmirrored-resting n D rd d p Count refl) S M)

-- a turn of a worker in a live memory
pub mirror-turn :
    (n D : ℕ) (rd : Memory) (cursor : ℕ → Cursor) (locks jumps : ℕ → ℕ) (given : ℕ → Given) → Live n D rd cursor locks jumps given → (d : ℕ) → d < D →
    (S : State)
    → Mirrors n D rd S → Mirrored n D rd S (jumps d) (given d) d (turn_at n rd d (cursor d))
mirror-turn n D rd cursor locks jumps given L d l S M = phase-turn n D rd cursor locks jumps given L d l S M (cursor d) (locks d) (jumps d) refl (L.phase d l)

-- ---- what that says of a store

pub mirror-still :
    (n D : ℕ) (rd : Memory) (S : State) (j : ℕ) (g : Given) (d : ℕ) (p : Place) (v : ℕ) (c : Cursor) → is_pc p ≡ false
    → Mirrored n D rd S j g d (stored p v c) → Mirrors n D (upd rd p v) S
mirror-still n D rd S j g d p v c e m = subst (MirroredStore n D rd S j g d p v) e m

pub mirror-counts :
    (n D : ℕ) (rd : Memory) (S : State) (j : ℕ) (g : Given) (d : ℕ) (p : Place) (v : ℕ) (c : Cursor) → is_pc p ≡ true
    → Mirrored n D rd S j g d (stored p v c) → MirroredStore n D rd S j g d p v true
mirror-counts n D rd S j g d p v c e m = subst (MirroredStore n D rd S j g d p v) e m

-- the sections begun and the order so far, and with this instruction: as `recorded` traces them
pub order-grows :
    (n D : ℕ) (rd : Memory) (S S' : State) (j : ℕ) (g : Given) (d : ℕ) (cells : List ℕ) (begun : List Given) (order : List ℕ) → d < D
    → (rd (field Pc d) ≡ 0 → g.worker ≡ d) → follow (initial n D cells begun) order ≡ some S → follow (began n rd S g d) (replicate (suc j) d) ≡ some S'
    → follow (initial n D cells (cond (eqb (rd (field Pc d)) 0) (begun ++ (g ∷ [])) begun)) (order ++ replicate (suc j) d) ≡ some S'
order-grows n D rd S S' j g d cells begun order l mine was is = by (eqb (rd (field Pc d)) 0) refl is
  where
    by :
        (b : Bool) → eqb (rd (field Pc d)) 0 ≡ b → follow (cond b (enqueue n S g) S) (replicate (suc j) d) ≡ some S'
        → follow (initial n D cells (cond b (begun ++ (g ∷ [])) begun)) (order ++ replicate (suc j) d) ≡ some S'
    by true e f =
        let w : g.worker < D = rw (mine (eqb-true (rd (field Pc d)) 0 e)) l in
        follow-then (initial n D cells (begun ++ (g ∷ []))) (enqueue n S g) order (replicate (suc j) d) (initial-more n D cells begun g order S was w) ∙ f
    by false e f = follow-then (initial n D cells begun) S order (replicate (suc j) d) was ∙ f
