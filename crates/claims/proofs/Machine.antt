-- Laws of the reference machine. An order in two parts is followed part by part; a section submitted at the end of a queue
-- changes nothing for the instructions before it, so the machine can be fed late; and one equation for each instruction of
-- the first section of a worker's queue. By cases on the instruction, and by induction on orders and on queues.
use Prim.Native.Nat.{ℕ, suc, zero, ◌-◌, ◌<◌}
use mathlib.Core.Path.{◌≡◌, refl, sym, ap, ◌∙◌}
use mathlib.Core.Logic.{◌≢◌}
use mathlib.Core.List.{List, [], ◌∷◌, ◌++◌}
use mathlib.Core.Bool.{Bool, true, false, cond}
use mathlib.Core.Option.{Option, some, none}
use native.Mathlib.Omega.{arith}
use native.Mathlib.Decide.{ℕ_discrete}
use lib.ListN.{length, get_or, set, replicate, length-set, length-replicate}
use lib.Seq.{get_or-set_same, get_or-set_other, set-set, set_comm}
use lib.Dec.{ltb, eqb}
use Rattle.mask.specs.Mask.{with, without}
use Rattle.mask.proofs.Laws.{has-none}
use Rattle.code.specs.declared.Expr.{Expr}
use Rattle.code.specs.declared.Op.{Op}
use Rattle.code.specs.declared.Op.TheVariants.{Acquire, Release, Assign, Jump, Finish, Unknown}
use Rattle.code.specs.Op.{op_of, eval}
use Rattle.claims.specs.Reference.{Job, job, State, state, read_in, held_in, taken, onto, assigned, whole, front, advance, and_then, follow, none_left, Given}
use Rattle.claims.specs.Reference.{start, enqueue, feed, initial}

-- ---- orders in two parts

then_append : (o : Option State) (f g h : State → Option State) → ((t : State) → f t ≡ and_then (g t) h) → and_then o f ≡ and_then (and_then o g) h
then_append none f g h e = refl
then_append (some t) f g h e = e t

then_some : (o : Option State) (f : State → Option State) (t : State) → and_then o f ≡ some t → (u : State) × (o ≡ some u) × (f u ≡ some t)
then_some none f t e = absurd (let z : ◌≡◌ {A = ℕ} 0 1 = cc in omega arith)
then_some (some u) f t e = (u, refl, e)

pub follow-append : (s : State) (xs ys : List ℕ) → follow s (xs ++ ys) ≡ and_then (follow s xs) (λ t. follow t ys)
unfolding follow
follow-append s [] ys = refl
follow-append s (d ∷ ds) ys = then_append (advance s d) (λ t. follow t (ds ++ ys)) (λ t. follow t ds) (λ t. follow t ys) (λ t. follow-append t ds ys)

-- after a first part that is followed, the second
pub follow-then : (s t : State) (xs ys : List ℕ) → follow s xs ≡ some t → follow s (xs ++ ys) ≡ follow t ys
follow-then s t xs ys e = follow-append s xs ys ∙ ap (λ (o : Option State). and_then o (λ u. follow u ys)) e

pub follow-none : (s : State) → follow s [] ≡ some s
unfolding follow
follow-none s = refl

-- the first entry
pub follow-first : (s t : State) (d : ℕ) (ds : List ℕ) → advance s d ≡ some t → follow s (d ∷ ds) ≡ follow t ds
unfolding follow
follow-first s t d ds e = rw e

pub follow_one : (s t : State) (d : ℕ) → advance s d ≡ some t → follow s (d ∷ []) ≡ some t
follow_one s t d e = follow-first s t d [] e ∙ follow-none t

replicate-last : (k d : ℕ) → replicate (suc k) d ≡ replicate k d ++ (d ∷ [])
replicate-last zero d = refl
replicate-last (suc k) d = ap (λ (l : List ℕ). d ∷ l) (replicate-last k d)

-- the instructions of one worker, and one more
pub follow-last : (s t u : State) (k d : ℕ) → follow s (replicate k d) ≡ some t → advance t d ≡ some u → follow s (replicate (suc k) d) ≡ some u
follow-last s t u k d e a = ap (follow s) (replicate-last k d) ∙ (follow-then s t (replicate k d) (d ∷ []) e ∙ follow_one t u d a)

-- ---- what one instruction does, each with its section first in the queue

module _ (s : State) (d : ℕ) (j : Job) (js : List Job) (q : get_or s.queues d [] ≡ j ∷ js) where
  pub advance-op : (x : Op) → op_of (get_or j.code j.next 0) ≡ x → advance s d ≡ whole s d j js x
  unfolding advance
  advance-op x o = ap (front s d) q ∙ ap (whole s d j js) o

  pub advance-acquire :
      (a : ℕ) → op_of (get_or j.code j.next 0) ≡ Acquire a → taken s.queues a ≡ false
      → advance s d ≡ some (onto s d (job j.code (suc j.next) j.own (with j.held a)) js)
  advance-acquire a o t = advance-op (Acquire a) o ∙ rw t

  pub advance-release :
      (a : ℕ) → op_of (get_or j.code j.next 0) ≡ Release a → advance s d ≡ some (onto s d (job j.code (suc j.next) j.own (without j.held a)) js)
  advance-release a o = advance-op (Release a) o

  pub advance-assign :
      (a : ℕ) (e : Expr) → op_of (get_or j.code j.next 0) ≡ Assign a e → advance s d ≡ some (assigned s d j js a (eval (read_in s.cells j.own) e))
  advance-assign a e o = advance-op (Assign a e) o

  pub advance-jump :
      (a b : ℕ) → op_of (get_or j.code j.next 0) ≡ Jump a b
      → advance s d ≡ some (onto s d (job j.code (cond (eqb (read_in s.cells j.own a) 0) b (suc j.next)) j.own j.held) js)
  advance-jump a b o = advance-op (Jump a b) o

  pub advance-finish : op_of (get_or j.code j.next 0) ≡ Finish → advance s d ≡ some (state s.cells (set s.queues d js))
  advance-finish o = advance-op Finish o

-- ---- all queues

-- a lock that no worker's section holds is not taken
pub taken_false : (qs : List (List Job)) (b : ℕ) → ((e : ℕ) → e < length qs → held_in (get_or qs e []) b ≡ false) → taken qs b ≡ false
unfolding taken
taken_false [] b h = refl
taken_false (q ∷ qs) b h = rw (h 0 (omega arith)) (taken_false qs b (λ e l. h (suc e) (omega arith)))

pub none_left-all : (qs : List (List Job)) → ((d : ℕ) → d < length qs → get_or qs d [] ≡ []) → none_left qs ≡ true
unfolding none_left
none_left-all [] h = refl
none_left-all ([] ∷ qs) h = none_left-all qs (λ d l. h (suc d) (omega arith))
none_left-all ((j ∷ js) ∷ qs) h = absurd (let e : j ∷ js ≡ [] = h 0 (omega arith) in let z : ◌≡◌ {A = ℕ} 0 1 = cc in omega arith)

-- a queue changed behind its first section changes no lock
taken-set : (qs : List (List Job)) (w : ℕ) (q : List Job) (b : ℕ) → held_in q b ≡ held_in (get_or qs w []) b → taken (set qs w q) b ≡ taken qs b
unfolding taken
taken-set [] w q b e = refl
taken-set (p ∷ qs) zero q b e = rw e
taken-set (p ∷ qs) (suc w) q b e = rw (taken-set qs w q b e)

-- ---- a section submitted late

held-behind : (q : List Job) (n : ℕ) (g : Given) (b : ℕ) → held_in (q ++ (start n g ∷ [])) b ≡ held_in q b
held-behind [] n g b = has-none b
held-behind (j ∷ js) n g b = refl

cond-some : (b : Bool) (x t : State) → cond b none (some x) ≡ some t → (b ≡ false) × (x ≡ t)
cond-some true x t e = absurd (let z : ◌≡◌ {A = ℕ} 0 1 = cc in omega arith)
cond-some false x t e = (refl, (cc))

module _ (n : ℕ) (g : Given) where
  -- behind the section that goes on
  abbrev behind : List Job → List Job
  behind js = js ++ (start n g ∷ [])

  taken-enqueue : (s : State) (b : ℕ) → taken (enqueue n s g).queues b ≡ taken s.queues b
  taken-enqueue s b = taken-set s.queues g.worker (behind (get_or s.queues g.worker [])) b (held-behind (get_or s.queues g.worker []) n g b)

  -- its own worker's queue changes, and the section is still behind it
  put_same :
      (cs : List ℕ) (qs : List (List Job)) (q p : List Job) → g.worker < length qs
      → state cs (set (set qs g.worker p) g.worker (behind q)) ≡ enqueue n (state cs (set qs g.worker q)) g
  put_same cs qs q p l = ap (state cs) (rw (set-set qs g.worker p (behind q), get_or-set_same qs g.worker q [] l, set-set qs g.worker q (behind q)))

  put_other :
      (cs : List ℕ) (qs : List (List Job)) (d : ℕ) (q : List Job) → d ≢ g.worker
      → state cs (set (set qs g.worker (behind (get_or qs g.worker []))) d q) ≡ enqueue n (state cs (set qs d q)) g
  put_other cs qs d q l =
      ap (state cs)
      (rw (get_or-set_other qs d g.worker q [] (λ e. l (sym e)))
      (set_comm qs g.worker d (behind (get_or qs g.worker [])) q (λ e. l (sym e))))

  back : (x y t : State) → y ≡ enqueue n x g → ◌≡◌ {A = Option State} (some x) (some t) → ◌≡◌ {A = Option State} (some y) (some (enqueue n t g))
  back x y t p e = let i : x ≡ t = cc in ap {B = Option State} some (p ∙ ap (λ (u : State). enqueue n u g) i)

  acquire-enqueue :
      (s t x y : State) (a : ℕ) → y ≡ enqueue n x g → cond (taken s.queues a) none (some x) ≡ some t
      → cond (taken (enqueue n s g).queues a) none (some y) ≡ some (enqueue n t g)
  acquire-enqueue s t x y a p e =
      let (f, i) = cond-some (taken s.queues a) x t e in
      rw (taken-enqueue s a, f) (back x y t p (ap some i))

  -- an instruction of worker d, with js behind its section before, and ks after the section is submitted
  module _ (s : State) (d : ℕ) (js ks : List Job)
      (p : (cs : List ℕ) (h : Job) → state cs (set (enqueue n s g).queues d (h ∷ ks)) ≡ enqueue n (state cs (set s.queues d (h ∷ js))) g)
      (q : (cs : List ℕ) → state cs (set (enqueue n s g).queues d ks) ≡ enqueue n (state cs (set s.queues d js)) g) where
    assigned-enqueue : (j : Job) (a v : ℕ) → assigned (enqueue n s g) d j ks a v ≡ enqueue n (assigned s d j js a v) g
    assigned-enqueue j a v = by (ltb a 512) refl
      where
        by : (b : Bool) → ltb a 512 ≡ b → assigned (enqueue n s g) d j ks a v ≡ enqueue n (assigned s d j js a v) g
        by true e = rw e (p (set s.cells a v) (job j.code (suc j.next) j.own j.held))
        by false e = rw e (p s.cells (job j.code (suc j.next) (set j.own (a - 512) v) j.held))

    whole-enqueue : (t : State) (j : Job) (x : Op) → whole s d j js x ≡ some t → whole (enqueue n s g) d j ks x ≡ some (enqueue n t g)
    whole-enqueue t j (Acquire a) e = acquire-enqueue s t _ _ a (p s.cells _) e
    whole-enqueue t j (Release a) e = back _ _ t (p s.cells _) e
    whole-enqueue t j (Assign a x) e = back _ _ t (assigned-enqueue j a _) e
    whole-enqueue t j (Jump a b) e = back _ _ t (p s.cells _) e
    whole-enqueue t j Finish e = back _ _ t (q s.cells) e
    whole-enqueue t j Unknown e = absurd (let z : ◌≡◌ {A = ℕ} 0 1 = cc in omega arith)

  front_same : (s t : State) (q : List Job) → g.worker < length s.queues → front s g.worker q ≡ some t
      → front (enqueue n s g) g.worker (behind q) ≡ some (enqueue n t g)
  front_same s t [] l e = absurd (let z : ◌≡◌ {A = ℕ} 0 1 = cc in omega arith)
  front_same s t (j ∷ js) l e =
      whole-enqueue s g.worker js (behind js)
      (λ cs h. put_same cs s.queues (h ∷ js) _ l) (λ cs. put_same cs s.queues js _ l) t j (op_of (get_or j.code j.next 0)) e

  front-other : (s t : State) (d : ℕ) (q : List Job) → d ≢ g.worker → front s d q ≡ some t → front (enqueue n s g) d q ≡ some (enqueue n t g)
  front-other s t d [] l e = absurd (let z : ◌≡◌ {A = ℕ} 0 1 = cc in omega arith)
  front-other s t d (j ∷ js) l e =
      whole-enqueue s d js js
      (λ cs h. put_other cs s.queues d (h ∷ js) l) (λ cs. put_other cs s.queues d js l) t j (op_of (get_or j.code j.next 0)) e

  pub enqueue-advance : (s t : State) (d : ℕ) → advance s d ≡ some t → g.worker < length s.queues → advance (enqueue n s g) d ≡ some (enqueue n t g)
  unfolding advance
  enqueue-advance s t d e l = by (ℕ_discrete d g.worker)
    where
      by : Dec (d ≡ g.worker) → front (enqueue n s g) d (get_or (enqueue n s g).queues d []) ≡ some (enqueue n t g)
      by (yes i) =
          rw (i, get_or-set_same s.queues g.worker (behind (get_or s.queues g.worker [])) [] l)
          (front_same s t (get_or s.queues g.worker []) l (rw i at e))
      by (no i) = rw (get_or-set_other s.queues g.worker d (behind (get_or s.queues g.worker [])) [] i) (front-other s t d (get_or s.queues d []) i e)

-- ---- as many queues as before

assigned-length : (s : State) (d : ℕ) (j : Job) (js : List Job) (a v : ℕ) → length (assigned s d j js a v).queues ≡ length s.queues
assigned-length s d j js a v = by (ltb a 512) refl
  where
    by : (b : Bool) → ltb a 512 ≡ b → length (assigned s d j js a v).queues ≡ length s.queues
    by true e = rw e (length-set s.queues d _)
    by false e = rw e (length-set s.queues d _)

some-length : (s x t : State) → length x.queues ≡ length s.queues → ◌≡◌ {A = Option State} (some x) (some t) → length t.queues ≡ length s.queues
some-length s x t l e = let i : x ≡ t = cc in rw (← i) l

whole_length : (s t : State) (d : ℕ) (j : Job) (js : List Job) (x : Op) → whole s d j js x ≡ some t → length t.queues ≡ length s.queues
whole_length s t d j js (Acquire a) e =
    let i = (cond-some (taken s.queues a) _ t e).1 in
    rw (← i) (length-set s.queues d _)
whole_length s t d j js (Release a) e = some-length s _ t (length-set s.queues d _) e
whole_length s t d j js (Assign a x) e = some-length s _ t (assigned-length s d j js a _) e
whole_length s t d j js (Jump a b) e = some-length s _ t (length-set s.queues d _) e
whole_length s t d j js Finish e = some-length s _ t (length-set s.queues d js) e
whole_length s t d j js Unknown e = absurd (let z : ◌≡◌ {A = ℕ} 0 1 = cc in omega arith)

front_length : (s t : State) (d : ℕ) (q : List Job) → front s d q ≡ some t → length t.queues ≡ length s.queues
front_length s t d [] e = absurd (let z : ◌≡◌ {A = ℕ} 0 1 = cc in omega arith)
front_length s t d (j ∷ js) e = whole_length s t d j js (op_of (get_or j.code j.next 0)) e

pub advance-length : (s t : State) (d : ℕ) → advance s d ≡ some t → length t.queues ≡ length s.queues
unfolding advance
advance-length s t d e = front_length s t d (get_or s.queues d []) e

pub enqueue-length : (n : ℕ) (s : State) (g : Given) → length (enqueue n s g).queues ≡ length s.queues
enqueue-length n s g = length-set s.queues g.worker _

-- ---- the machine fed late

pub enqueue-follow : (n : ℕ) (g : Given) (s t : State) (xs : List ℕ) → follow s xs ≡ some t → g.worker < length s.queues
    → follow (enqueue n s g) xs ≡ some (enqueue n t g)
unfolding follow
enqueue-follow n g s t [] e l = let i : s ≡ t = cc in rw i
enqueue-follow n g s t (d ∷ ds) e l =
    let (u, a, f) = then_some (advance s d) (λ u. follow u ds) t e in
    rw (enqueue-advance n g s u d a l) (enqueue-follow n g u t ds f (rw (advance-length s u d a) l))

pub feed-append : (n : ℕ) (s : State) (gs : List Given) (g : Given) → feed n s (gs ++ (g ∷ [])) ≡ enqueue n (feed n s gs) g
unfolding feed
feed-append n s [] g = refl
feed-append n s (h ∷ gs) g = feed-append n (enqueue n s h) gs g

pub feed-length : (n : ℕ) (s : State) (gs : List Given) → length (feed n s gs).queues ≡ length s.queues
unfolding feed
feed-length n s [] = refl
feed-length n s (h ∷ gs) = feed-length n (enqueue n s h) gs ∙ enqueue-length n s h

pub initial-snoc : (n D : ℕ) (cells : List ℕ) (gs : List Given) (g : Given) → initial n D cells (gs ++ (g ∷ [])) ≡ enqueue n (initial n D cells gs) g
unfolding initial
initial-snoc n D cells gs g = feed-append n (state cells (replicate D [])) gs g

pub initial-length : (n D : ℕ) (cells : List ℕ) (gs : List Given) → length (initial n D cells gs).queues ≡ D
unfolding initial
initial-length n D cells gs = feed-length n (state cells (replicate D [])) gs ∙ length-replicate D []

-- an order that the machine follows, it follows when it is fed one more section, which then waits
pub initial-more :
    (n D : ℕ) (cells : List ℕ) (gs : List Given) (g : Given) (order : List ℕ) (t : State) → follow (initial n D cells gs) order ≡ some t → g.worker < D
    → follow (initial n D cells (gs ++ (g ∷ []))) order ≡ some (enqueue n t g)
initial-more n D cells gs g order t e l =
    rw (initial-snoc n D cells gs g) (enqueue-follow n g (initial n D cells gs) t order e (rw (initial-length n D cells gs) l))
