-- What one entry of an order does to a worker's queue on the reference machine: its own entry takes the first section on, to a step to which its
-- instruction leads, or ends it (`advance-own`); another's leaves the queue (`advance-aside`). By cases on the instruction.
use Prim.Native.Nat.{ℕ, suc, ◌<◌}
use mathlib.Core.Path.{◌≡◌, refl}
use mathlib.Core.Logic.{◌≢◌}
use mathlib.Core.Bool.{Bool, true, false, cond, ◌||◌, or-true}
use mathlib.Core.List.{List, [], ◌∷◌}
use mathlib.Core.Option.{Option, some, none}
use native.Mathlib.Omega.{arith}
use lib.ListN.{length, get_or, set}
use lib.Seq.{get_or-set_same, get_or-set_other}
use lib.Dec.{ltb, eqb}
use borrow.Author.Tests.{eq-eqb}
use Rattle.code.specs.declared.Op.{Op}
use Rattle.code.specs.declared.Op.TheVariants.{Acquire, Release, Assign, Jump, Finish, Unknown}
use Rattle.code.specs.Op.{op_of, is_finish}
use Rattle.needs.specs.Ways.{leads}
use Rattle.claims.specs.Reference.{Job, State, read_in, taken, assigned, whole, front, advance}

-- what an entry does to its worker's queue: the first section goes on, or ends
pub data Entry (j : Job) (js : List Job) : List Job → Type 0 where
  on : (k : Job) → k.code ≡ j.code → leads j.next k.next (op_of (get_or j.code j.next 0)) ≡ true
      → is_finish (op_of (get_or j.code j.next 0)) ≡ false → Entry j js (k ∷ js)
  off : is_finish (op_of (get_or j.code j.next 0)) ≡ true → Entry j js js

entry-some : {x t : State} (d : ℕ) (P : List Job → Type 0) → ◌≡◌ {A = Option State} (some x) (some t) → P (get_or x.queues d []) → P (get_or t.queues d [])
entry-some {x} {t} d P e h = let i : x ≡ t = cc in rw (← i) h

module _ (s : State) (d : ℕ) (l : d < length s.queues) (j : Job) (js : List Job) where
  abbrev this : Op
  this = op_of (get_or j.code j.next 0)

  -- the section goes on as job k
  entry-on : (k : Job) → k.code ≡ j.code → leads j.next k.next this ≡ true → is_finish this ≡ false
      → Entry j js (get_or (set s.queues d (k ∷ js)) d [])
  entry-on k c h f = rw (get_or-set_same s.queues d (k ∷ js) [] l) (on k c h f)

  entry-taken : (t x : State) (b : Bool) → cond b none (some x) ≡ some t → Entry j js (get_or x.queues d []) → Entry j js (get_or t.queues d [])
  entry-taken t x true e h = absurd (let z : ◌≡◌ {A = ℕ} 0 1 = cc in omega arith)
  entry-taken t x false e h = entry-some d (Entry j js) e h

  entry-assigned : (a v : ℕ) → leads j.next (suc j.next) this ≡ true → is_finish this ≡ false → Entry j js (get_or (assigned s d j js a v).queues d [])
  entry-assigned a v h f = by (ltb a 512) refl
    where
      by : (b : Bool) → ltb a 512 ≡ b → Entry j js (get_or (assigned s d j js a v).queues d [])
      by true e = rw e (entry-on _ refl h f)
      by false e = rw e (entry-on _ refl h f)

  entry-by : (t : State) (x : Op) → this ≡ x → whole s d j js x ≡ some t → Entry j js (get_or t.queues d [])
  entry-by t (Acquire a) o e =
      entry-taken t _ (taken s.queues a) e (entry-on _ refl (rw (o, eq-eqb (suc j.next) (suc j.next) refl)) (rw o))
  entry-by t (Release a) o e = entry-some d (Entry j js) e (entry-on _ refl (rw (o, eq-eqb (suc j.next) (suc j.next) refl)) (rw o))
  entry-by t (Assign a v) o e =
      entry-some d (Entry j js) e (entry-assigned a _ (rw (o, eq-eqb (suc j.next) (suc j.next) refl)) (rw o))
  entry-by t (Jump a b) o e = entry-some d (Entry j js) e (entry-on _ refl (rw o (either (eqb (read_in s.cells j.own a) 0))) (rw o))
    where
      either : (z : Bool) → (eqb (cond z b (suc j.next)) (suc j.next) || eqb (cond z b (suc j.next)) b) ≡ true
      either true = rw (eq-eqb b b refl) (or-true (eqb b (suc j.next)))
      either false = rw (eq-eqb (suc j.next) (suc j.next) refl)
  entry-by t Finish o e = entry-some d (Entry j js) e (rw (get_or-set_same s.queues d js [] l) (off (rw o)))
  entry-by t Unknown o e = absurd (let z : ◌≡◌ {A = ℕ} 0 1 = cc in omega arith)

-- an entry of another worker leaves a queue
assigned-aside : (s : State) (e d : ℕ) → d ≢ e → (j : Job) (js : List Job) (a v : ℕ) → get_or (assigned s e j js a v).queues d [] ≡ get_or s.queues d []
assigned-aside s e d i j js a v = by (ltb a 512) refl
  where
    by : (b : Bool) → ltb a 512 ≡ b → get_or (assigned s e j js a v).queues d [] ≡ get_or s.queues d []
    by true q = rw q (get_or-set_other s.queues e d _ [] i)
    by false q = rw q (get_or-set_other s.queues e d _ [] i)

module _ (s : State) (e d : ℕ) (i : d ≢ e) where
  abbrev Aside : List Job → Type 0
  Aside q = q ≡ get_or s.queues d []

  aside-taken : (t x : State) (b : Bool) → cond b none (some x) ≡ some t → Aside (get_or x.queues d []) → Aside (get_or t.queues d [])
  aside-taken t x true q h = absurd (let z : ◌≡◌ {A = ℕ} 0 1 = cc in omega arith)
  aside-taken t x false q h = entry-some d Aside q h

  aside-by : (t : State) (j : Job) (js : List Job) (x : Op) → whole s e j js x ≡ some t → Aside (get_or t.queues d [])
  aside-by t j js (Acquire a) q = aside-taken t _ (taken s.queues a) q (get_or-set_other s.queues e d _ [] i)
  aside-by t j js (Release a) q = entry-some d Aside q (get_or-set_other s.queues e d _ [] i)
  aside-by t j js (Assign a v) q = entry-some d Aside q (assigned-aside s e d i j js a _)
  aside-by t j js (Jump a b) q = entry-some d Aside q (get_or-set_other s.queues e d _ [] i)
  aside-by t j js Finish q = entry-some d Aside q (get_or-set_other s.queues e d js [] i)
  aside-by t j js Unknown q = absurd (let z : ◌≡◌ {A = ℕ} 0 1 = cc in omega arith)

  aside-front : (t : State) (q : List Job) → front s e q ≡ some t → Aside (get_or t.queues d [])
  aside-front t [] h = absurd (let z : ◌≡◌ {A = ℕ} 0 1 = cc in omega arith)
  aside-front t (j ∷ js) h = aside-by t j js (op_of (get_or j.code j.next 0)) h

  pub advance-aside : (t : State) → advance s e ≡ some t → get_or t.queues d [] ≡ get_or s.queues d []
  unfolding advance
  advance-aside t a = aside-front t (get_or s.queues e []) a

-- and one of its own
pub advance-own : (s t : State) (d : ℕ) → d < length s.queues → advance s d ≡ some t → (j : Job) (js : List Job) → get_or s.queues d [] ≡ j ∷ js
    → Entry j js (get_or t.queues d [])
unfolding advance
advance-own s t d l a j js q =
    let h : front s d (j ∷ js) ≡ some t = rw q at a in
    entry-by s d l j js t (op_of (get_or j.code j.next 0)) refl h
