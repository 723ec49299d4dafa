-- An instruction that counts: with the store of the pc that names it, or of the pc 0 for a finish, the reference machine makes
-- the whole instruction, and the state after it is the one that the new memory stands for. `Poised` is worker d's section as
-- the machine's job before step k; each instruction puts another job, other cells or nothing in its place, and the virtual
-- memory changes at that instruction's target alone.
use Prim.Native.Nat.{ℕ, suc, ◌+◌, ◌-◌, ◌<◌, ◌≤◌}
use mathlib.Core.Path.{◌≡◌, refl, sym, ap, subst, ◌∙◌}
use mathlib.Core.Logic.{◌≢◌}
use mathlib.Core.Bool.{Bool, true, false}
use mathlib.Core.List.{List, [], ◌∷◌}
use mathlib.Core.Option.{Option, some}
use native.Mathlib.Omega.{arith}
use native.Mathlib.Decide.{ℕ_discrete}
use lib.ListN.{length, get_or, set, length-set}
use lib.Seq.{get_or-set_same, get_or-set_other, set-set}
use lib.Dec.{ltb}
use borrow.Author.Tests.{ltb-false, eq-eqb, ne_eqb}
use Rattle.mask.specs.Mask.{has, with, without}
use Rattle.image.specs.declared.Field.TheVariants.{Count, Pc, Owned}
use Rattle.image.specs.Place.{Place, cell, field, own, step, Memory}
use Rattle.image.specs.Inner.Same.{same, upd}
use Rattle.code.specs.declared.Expr.{Expr}
use Rattle.code.specs.declared.Op.{Op}
use Rattle.code.specs.declared.Op.TheVariants.{Acquire, Release, Assign, Finish}
use Rattle.code.specs.Op.{op_of, eval}
use Rattle.working.specs.Cursor.{Cursor}
use Rattle.worklog.specs.Log.{operand, spare_val, switched}
use Rattle.owed.specs.Owed.{target_of}
use Rattle.claims.specs.Reference.{Given, Job, job, State, state, read_in, held_in, taken, onto, assigned, advance}
use Rattle.claims.proofs.Virtual.{virtual}
use Rattle.claims.proofs.Invariant.{op_at, Live, JobOf, Mirrors}
use Rattle.claims.proofs.Machine.{taken_false, advance-acquire, advance-release, advance-assign, advance-finish}
use Rattle.claims.proofs.Apart.{Guarded, held-within}
use Rattle.claims.proofs.Switching.{after, switched-some, switched-step, Freed, virtual-new, virtual-old, mirror-set}
use Rattle.claims.proofs.LiveTurn.{one-owner}

-- worker d's section as a job whose next step is k
pub record Poised (n D : ℕ) (rd : Memory) (d k : ℕ) (j : Job) : Type 0 where
  pub next : j.next ≡ k
  pub held : j.held ≡ virtual n rd D (field Owned d)
  pub size : length j.own ≡ n
  pub own : (i : ℕ) → i < n → get_or j.own i 0 ≡ virtual n rd D (own d i)
  pub code : (i : ℕ) → i < rd (field Count d) → get_or j.code i 0 ≡ rd (step d i)

pub poised-op : (n D : ℕ) (rd : Memory) (d k : ℕ) (j : Job) → Poised n D rd d k j → k < rd (field Count d) → op_of (get_or j.code j.next 0) ≡ op_at n rd d k
poised-op n D rd d k j P l = rw P.next (ap op_of (P.code k l))

pub operand-cell : (d a : ℕ) → ltb a 512 ≡ true → operand d a ≡ cell a
unfolding operand
operand-cell d a e = rw e

pub operand-own : (d a : ℕ) → ltb a 512 ≡ false → operand d a ≡ own d (a - 512)
unfolding operand
operand-own d a e = rw e

-- what an instruction that counts leaves
abbrev pub Counts : ℕ → ℕ → Memory → State → ℕ → Type 0
Counts n D rd' T d = (S' : State) × (advance T d ≡ some S') × Mirrors n D rd' S'

module _ (n D : ℕ) (rd : Memory) (cursor : ℕ → Cursor) (locks jumps : ℕ → ℕ) (given : ℕ → Given) (L : Live n D rd cursor locks jumps given) (d : ℕ) (l : d < D)
    (k : ℕ) (short : k < 64) (F : Freed n D rd d) (S : State) (M : Mirrors n D rd S) (j : Job) (P : Poised n D rd d k j) where
  queue : get_or (onto S d j []).queues d [] ≡ j ∷ []
  queue = get_or-set_same S.queues d (j ∷ []) [] (rw M.workers l)

  -- the machine's queues after the instruction: the last one set
  reset : (cs : List ℕ) (q : List Job) → ◌≡◌ {A = Option State} (some (state cs (set (onto S d j []).queues d q))) (some (state cs (set S.queues d q)))
  reset cs q = ap (λ (qs : List (List Job)). some (state cs qs)) (set-set S.queues d (j ∷ []) q)

  old : (p q : Place) → target_of d (op_at n rd d k) ≡ p → same q (field Pc d) ≡ false → same q p ≡ false → virtual n (after n rd d k) D q ≡ virtual n rd D q
  old p q t f h = virtual-old n D rd cursor locks jumps given L d l k short F q f (rw t h)

  new : (p : Place) (v : ℕ) → target_of d (op_at n rd d k) ≡ p → Guarded d (locks d) p → rd (field (spare_val n rd d) d) ≡ v
      → virtual n (after n rd d k) D p ≡ v
  new p v t g e =
      subst (λ (r : Place). virtual n (after n rd d k) D r ≡ rd (field (spare_val n rd d) d)) t
      (virtual-new n D rd cursor locks jumps given L d l k short (subst (Guarded d (locks d)) (sym t) g))
      ∙ e

  -- ---- an acquire or a release: the owned set

  held-mirror :
      (h : ℕ) → target_of d (op_at n rd d k) ≡ field Owned d → rd (field (spare_val n rd d) d) ≡ h
      → Mirrors n D (after n rd d k) (state S.cells (set S.queues d (job j.code (suc j.next) j.own h ∷ [])))
  held-mirror h t e =
      let p = field Owned d in
      mirror-set n D rd d (switched n rd d k) S S.cells (job j.code (suc j.next) j.own h ∷ []) l M M.size
      (λ x y. M.cells x y ∙ sym (old p (cell x) t refl refl))
      (λ f i. old p (field Owned f) t refl (ne_eqb f d i))
      (λ f x i. old p (own f x) t refl refl)
      (λ z. absurd (switched-some n rd d k z))
      (λ z. (
        job j.code (suc j.next) j.own h,
        refl,
        record {
          next = ap suc (P.next ∙ sym (switched-step n rd d k short));
          held = sym (new p h t refl e);
          size = P.size;
          own = λ i m. P.own i m ∙ sym (old p (own d i) t refl refl);
          code = P.code;
        },
      ))

  -- ---- an assignment: a cell or an own word

  assign-cell :
      (a v : ℕ) → target_of d (op_at n rd d k) ≡ cell a → Guarded d (locks d) (cell a) → rd (field (spare_val n rd d) d) ≡ v
      → Mirrors n D (after n rd d k) (state (set S.cells a v) (set S.queues d (job j.code (suc j.next) j.own j.held ∷ [])))
  assign-cell a v t g e =
      let p = cell a in
      mirror-set n D rd d (switched n rd d k) S (set S.cells a v) (job j.code (suc j.next) j.own j.held ∷ []) l M
      (length-set S.cells a v ∙ M.size)
      (λ x y. by x y (ℕ_discrete x a))
      (λ f i. old p (field Owned f) t refl refl)
      (λ f x i. old p (own f x) t refl refl)
      (λ z. absurd (switched-some n rd d k z))
      (λ z. (
        job j.code (suc j.next) j.own j.held,
        refl,
        record {
          next = ap suc (P.next ∙ sym (switched-step n rd d k short));
          held = P.held ∙ sym (old p (field Owned d) t refl refl);
          size = P.size;
          own = λ i m. P.own i m ∙ sym (old p (own d i) t refl refl);
          code = P.code;
        },
      ))
    where
      by : (x : ℕ) → x < 512 → Dec (x ≡ a) → get_or (set S.cells a v) x 0 ≡ virtual n (after n rd d k) D (cell x)
      by x y (yes i) = rw i (get_or-set_same S.cells a v 0 (rw M.size g.0) ∙ sym (new (cell a) v t g e))
      by x y (no i) = get_or-set_other S.cells a x v 0 i ∙ (M.cells x y ∙ sym (old (cell a) (cell x) t refl (ne_eqb x a i)))

  assign-own :
      (a v : ℕ) → target_of d (op_at n rd d k) ≡ own d a → a < n → rd (field (spare_val n rd d) d) ≡ v
      → Mirrors n D (after n rd d k) (state S.cells (set S.queues d (job j.code (suc j.next) (set j.own a v) j.held ∷ [])))
  assign-own a v t g e =
      let p = own d a in
      mirror-set n D rd d (switched n rd d k) S S.cells (job j.code (suc j.next) (set j.own a v) j.held ∷ []) l M M.size
      (λ x y. M.cells x y ∙ sym (old p (cell x) t refl refl))
      (λ f i. old p (field Owned f) t refl refl)
      (λ f x i. old p (own f x) t refl (rw (ne_eqb f d i)))
      (λ z. absurd (switched-some n rd d k z))
      (λ z. (
        job j.code (suc j.next) (set j.own a v) j.held,
        refl,
        record {
          next = ap suc (P.next ∙ sym (switched-step n rd d k short));
          held = P.held ∙ sym (old p (field Owned d) t refl refl);
          size = length-set j.own a v ∙ P.size;
          own = λ i m. by i m (ℕ_discrete i a);
          code = P.code;
        },
      ))
    where
      by : (i : ℕ) → i < n → Dec (i ≡ a) → get_or (set j.own a v) i 0 ≡ virtual n (after n rd d k) D (own d i)
      by i m (yes h) = rw h (get_or-set_same j.own a v 0 (rw P.size g) ∙ sym (new (own d a) v t refl e))
      by i m (no h) = get_or-set_other j.own a i v 0 h ∙ (P.own i m ∙ sym (old (own d a) (own d i) t refl (rw (eq-eqb d d refl, ne_eqb i a h))))

  -- ---- a lock that worker d has, and that its section does not hold yet, is not taken

  free-lock : (a : ℕ) → a < 64 → has (locks d) a ≡ true → has j.held a ≡ false → taken (onto S d j []).queues a ≡ false
  free-lock a h p f = taken_false (onto S d j []).queues a (λ e m. by e (rw (length-set S.queues d (j ∷ []), M.workers) at m) (ℕ_discrete e d))
    where
      unheld : (e : ℕ) → e < D → e ≢ d → (q : Job) → JobOf n D rd e q → rd (field Pc e) ≢ 0 → (t : Bool) → has q.held a ≡ t → has q.held a ≡ false
      unheld e m i q J z true t =
          absurd (i (one-owner L a e d h m l (held-within n D rd cursor locks jumps given L e a m z (rw J.held at t)) p))
      unheld e m i q J z false t = t

      other : (e : ℕ) → e < D → e ≢ d → Dec (rd (field Pc e) ≡ 0) → held_in (get_or S.queues e []) a ≡ false
      other e m i (yes z) = rw (M.none e m z)
      other e m i (no z) = let (q, r, J) = M.some e m z in rw r (unheld e m i q J z (has q.held a) refl)

      by : (e : ℕ) → e < D → Dec (e ≡ d) → held_in (get_or (onto S d j []).queues e []) a ≡ false
      by e m (yes i) = rw (i, queue) f
      by e m (no i) = rw (get_or-set_other S.queues d e (j ∷ []) [] i) (other e m i (ℕ_discrete (rd (field Pc e)) 0))

  -- ---- each instruction

  module _ (below : k < rd (field Count d)) where
    code_at : (x : Op) → op_at n rd d k ≡ x → op_of (get_or j.code j.next 0) ≡ x
    code_at x o = poised-op n D rd d k j P below ∙ o

    pub counts-acquire :
        (a : ℕ) → op_at n rd d k ≡ Acquire a → a < 64 → has (locks d) a ≡ true → has j.held a ≡ false → rd (field (spare_val n rd d) d) ≡ with j.held a
        → Counts n D (after n rd d k) (onto S d j []) d
    counts-acquire a o h p f e = (
      state S.cells (set S.queues d (job j.code (suc j.next) j.own (with j.held a) ∷ [])),
      advance-acquire (onto S d j []) d j [] queue a (code_at (Acquire a) o) (free-lock a h p f) ∙ reset S.cells _,
      held-mirror (with j.held a) (ap (target_of d) o) e,
    )

    pub counts-release :
        (a : ℕ) → op_at n rd d k ≡ Release a → rd (field (spare_val n rd d) d) ≡ without j.held a → Counts n D (after n rd d k) (onto S d j []) d
    counts-release a o e = (
      state S.cells (set S.queues d (job j.code (suc j.next) j.own (without j.held a) ∷ [])),
      advance-release (onto S d j []) d j [] queue a (code_at (Release a) o) ∙ reset S.cells _,
      held-mirror (without j.held a) (ap (target_of d) o) e,
    )

    pub counts-assign :
        (a : ℕ) (x : Expr) → op_at n rd d k ≡ Assign a x → a < 512 + n → Guarded d (locks d) (operand d a)
        → rd (field (spare_val n rd d) d) ≡ eval (read_in S.cells j.own) x → Counts n D (after n rd d k) (onto S d j []) d
    counts-assign a x o h g e = by (ltb a 512) refl
      where
        v : ℕ
        v = eval (read_in S.cells j.own) x

        made : advance (onto S d j []) d ≡ some (assigned (onto S d j []) d j [] a (eval (read_in S.cells j.own) x))
        made = advance-assign (onto S d j []) d j [] queue a x (code_at (Assign a x) o)

        by : (b : Bool) → ltb a 512 ≡ b → Counts n D (after n rd d k) (onto S d j []) d
        by true b =
            let t : operand d a ≡ cell a = operand-cell d a b in (
              state (set S.cells a v) (set S.queues d (job j.code (suc j.next) j.own j.held ∷ [])),
              (rw b at made) ∙ reset (set S.cells a v) _,
              assign-cell a v (ap (target_of d) o ∙ t) (subst (Guarded d (locks d)) t g) e,
            )
        by false b =
            let t : operand d a ≡ own d (a - 512) = operand-own d a b in
            let m : 512 ≤ a = ltb-false a 512 b in (
              state S.cells (set S.queues d (job j.code (suc j.next) (set j.own (a - 512) v) j.held ∷ [])),
              (rw b at made) ∙ reset S.cells _,
              assign-own (a - 512) v (ap (target_of d) o ∙ t) (omega arith) e,
            )

    pub counts-finish : op_at n rd d k ≡ Finish → Counts n D (upd rd (field Pc d) 0) (onto S d j []) d
    counts-finish o = (
      state S.cells (set S.queues d []),
      advance-finish (onto S d j []) d j [] queue (code_at Finish o) ∙ reset S.cells [],
      mirror-set n D rd d 0 S S.cells [] l M M.size (λ x y. M.cells x y ∙ sym (F (cell x) refl)) (λ f i. F (field Owned f) refl)
          (λ f x i. F (own f x) refl)
          (λ z. refl) (λ z. absurd (z refl)),
    )
