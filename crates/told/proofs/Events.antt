-- Laws of what is read off events: one list after the other (`read-append`, `taken-append`), and of each worker the sections begun are
-- those taken with some left out (`begun-within`). By induction on the events, with what is pending counted in.
use Prim.Native.Nat.{ℕ}
use mathlib.Core.Path.{◌≡◌, refl, sym, ap, ◌∙◌}
use mathlib.Core.Logic.{◌≢◌, inl, inr}
use mathlib.Core.List.{List, [], ◌∷◌, ◌++◌, append-nil, append_assoc}
use borrow.Author.Tests.{eq-eqb, ne_eqb}
use native.Mathlib.Decide.{ℕ_discrete}
use Rattle.claims.specs.Reference.{Given}
use Rattle.told.specs.Readings.{taken_in, Reading, reading, learn, read_from, begun_in}
use Rattle.claims.specs.Events.{Event, taken, moved, waited, recorded, ended, lost, but}
use Rattle.claims.specs.Claims.{of_worker}
use Rattle.told.specs.Once.{Within}
use Rattle.claims.proofs.Feeding.{of-append, of-snoc-same, of-snoc-other}

pub read-append : (r : Reading) (xs ys : List Event) → read_from r (xs ++ ys) ≡ read_from (read_from r xs) ys
unfolding read_from
read-append r [] ys = refl
read-append r (x ∷ xs) ys = read-append (learn r x) xs ys

pub read_none : (r : Reading) → read_from r [] ≡ r
unfolding read_from
read_none r = refl

pub read-cons : (r : Reading) (x : Event) (xs : List Event) → read_from r (x ∷ xs) ≡ read_from (learn r x) xs
unfolding read_from
read-cons r x xs = refl

pub taken-append : (xs ys : List Event) → taken_in (xs ++ ys) ≡ taken_in xs ++ taken_in ys
unfolding taken_in
taken-append [] ys = refl
taken-append (taken g ∷ xs) ys = ap (λ (l : List Given). g ∷ l) (taken-append xs ys)
taken-append (moved d s ∷ xs) ys = taken-append xs ys
taken-append (waited d b ∷ xs) ys = taken-append xs ys
taken-append (recorded d s ∷ xs) ys = taken-append xs ys
taken-append (ended d ∷ xs) ys = taken-append xs ys
taken-append (lost ∷ xs) ys = taken-append xs ys

-- ---- lists with some left out

within-front : (xs zs ys : List Given) → Within (xs ++ zs) ys → Within xs ys
within-front [] zs ys h = tt
within-front (x ∷ xs) zs [] h = h
within-front (x ∷ xs) zs (y ∷ ys) (inl h) = inl (h.0, within-front xs zs ys h.1)
within-front (x ∷ xs) zs (y ∷ ys) (inr h) = inr (within-front (x ∷ xs) zs ys h)

within-snoc : (xs ys : List Given) (g : Given) → Within xs ys → Within (xs ++ (g ∷ [])) (ys ++ (g ∷ []))
within-snoc [] [] g h = inl (refl, tt)
within-snoc [] (y ∷ ys) g h = inr (within-snoc [] ys g tt)
within-snoc (x ∷ xs) [] g h = absurd h
within-snoc (x ∷ xs) (y ∷ ys) g (inl h) = inl (h.0, within-snoc xs ys g h.1)
within-snoc (x ∷ xs) (y ∷ ys) g (inr h) = inr (within-snoc (x ∷ xs) ys g h)

-- ---- what is begun, and what is pending, are of those taken

-- one section or none, of worker d
abbrev Own : ℕ → List Given → Type 0
Own d [] = Unit {0}
Own d (g ∷ gs) = (g.worker ≡ d) × Own d gs

own-all : (d : ℕ) (gs : List Given) → Own d gs → of_worker d gs ≡ gs
own-all d [] o = refl
own-all d (g ∷ gs) (e, o) = rw (eq-eqb g.worker d e) (ap (λ (l : List Given). g ∷ l) (own-all d gs o))

own-none : (d e : ℕ) (gs : List Given) → e ≢ d → Own d gs → of_worker e gs ≡ []
own-none d e [] h o = refl
own-none d e (g ∷ gs) h (i, o) = rw (ne_eqb g.worker e (λ q. h (sym q ∙ i))) (own-none d e gs h o)

-- ts: the sections taken so far
record Drawn (ts : List Given) (r : Reading) : Type 0 where
  mine : (d : ℕ) → Own d (r.pending d)
  within : (d : ℕ) → Within (of_worker d r.begun ++ r.pending d) (of_worker d ts)

module _ (ts : List Given) (r : Reading) (a : Drawn ts r) where
  among-taken : (g : Given) → Drawn (ts ++ (g ∷ [])) (learn r (taken g))
  among-taken g =
      record { mine = λ d. by-mine d (ℕ_discrete d g.worker); within = λ d. by-within d (ℕ_discrete d g.worker) }
    where
      by-mine : (d : ℕ) → Dec (d ≡ g.worker) → Own d (but r.pending g.worker (g ∷ []) d)
      by-mine d (yes i) = rw (eq-eqb d g.worker i) (sym i, tt)
      by-mine d (no i) = rw (ne_eqb d g.worker i) (a.mine d)

      by-within : (d : ℕ) → Dec (d ≡ g.worker) → Within (of_worker d r.begun ++ but r.pending g.worker (g ∷ []) d) (of_worker d (ts ++ (g ∷ [])))
      by-within d (yes i) =
          rw (eq-eqb d g.worker i, of-snoc-same d ts g (sym i))
          (within-snoc (of_worker d r.begun) (of_worker d ts) g (within-front (of_worker d r.begun) (r.pending d) (of_worker d ts) (a.within d)))
      by-within d (no i) = rw (ne_eqb d g.worker i, of-snoc-other d ts g (λ q. i (sym q))) (a.within d)

  among-recorded : (e s : ℕ) → Drawn ts (learn r (recorded e s))
  among-recorded e s = record { mine = λ d. by-mine d (ℕ_discrete d e); within = λ d. by-within d (ℕ_discrete d e) }
    where
      by-mine : (d : ℕ) → Dec (d ≡ e) → Own d (but r.pending e [] d)
      by-mine d (yes i) = rw (eq-eqb d e i) tt
      by-mine d (no i) = rw (ne_eqb d e i) (a.mine d)

      by-within : (d : ℕ) → Dec (d ≡ e) → Within (of_worker d (r.begun ++ r.pending e) ++ but r.pending e [] d) (of_worker d ts)
      by-within d (yes i) =
          rw (eq-eqb d e i, append-nil, of-append d r.begun (r.pending e), ← i, own-all d (r.pending d) (a.mine d)) (a.within d)
      by-within d (no i) =
          rw (ne_eqb d e i, of-append d r.begun (r.pending e), own-none e d (r.pending e) i (a.mine e), append-nil) (a.within d)

  among-lost : Drawn ts (learn r lost)
  among-lost =
      record { mine = λ d. tt; within = λ d. rw append-nil (within-front (of_worker d r.begun) (r.pending d) (of_worker d ts) (a.within d)) }

among-all : (ts : List Given) (r : Reading) (es : List Event) → Drawn ts r → Drawn (ts ++ taken_in es) (read_from r es)
unfolding read_from taken_in
among-all ts r [] a = rw append-nil a
among-all ts r (taken g ∷ es) a = rw (← append_assoc ts (g ∷ []) (taken_in es)) (among-all (ts ++ (g ∷ [])) (learn r (taken g)) es (among-taken ts r a g))
among-all ts r (moved d s ∷ es) a = among-all ts r es a
among-all ts r (waited d b ∷ es) a = among-all ts r es a
among-all ts r (recorded d s ∷ es) a = among-all ts (learn r (recorded d s)) es (among-recorded ts r a d s)
among-all ts r (ended d ∷ es) a = among-all ts r es a
among-all ts r (lost ∷ es) a = among-all ts (learn r lost) es (among-lost ts r a)

pub begun-within : (es : List Event) (d : ℕ) → Within (of_worker d (begun_in es)) (of_worker d (taken_in es))
begun-within es d =
    let start : Drawn [] (reading (λ e. []) []) = record { mine = λ e. tt; within = λ e. tt } in
    within-front (of_worker d (begun_in es)) _ (of_worker d (taken_in es)) ((among-all [] (reading (λ e. []) []) es start).within d)
