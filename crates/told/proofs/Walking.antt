-- Laws of the paths that are read off the reference machine: an order in two parts is walked part by part, entries of other workers add nothing,
-- and sections that are fed behind change nothing before them. By induction on the order.
use Prim.Native.Nat.{ℕ, suc, zero, ◌<◌}
use mathlib.Core.Path.{◌≡◌, refl, sym, ap, ◌∙◌}
use mathlib.Core.Logic.{◌≢◌}
use mathlib.Core.List.{List, [], ◌∷◌, ◌++◌}
use mathlib.Core.Option.{Option, some, none}
use native.Mathlib.Omega.{arith}
use native.Mathlib.Decide.{ℕ_discrete}
use lib.ListN.{length, get_or, replicate}
use lib.Seq.{get_or-set_same, get_or-set_other}
use borrow.Author.Tests.{ne_eqb, eq-eqb}
use Rattle.claims.specs.Reference.{Job, State, front, advance, and_then, follow, Given, start, enqueue, initial}
use Rattle.claims.proofs.Machine.{advance-length, enqueue-advance, initial-snoc, initial-length}
use Rattle.told.specs.Paths.{Paths, gone, entered, walk}

-- ---- one entry after the other

pub walk_none : (d : ℕ) (p : Paths) (s : State) → walk d p s [] ≡ p
unfolding walk
walk_none d p s = refl

-- an entry that is made
pub walk-entry : (d : ℕ) (p : Paths) (s t : State) (e : ℕ) (es : List ℕ) → advance s e ≡ some t → walk d p s (e ∷ es) ≡ walk d (entered d p s e) t es
unfolding walk
walk-entry d p s t e es a = rw a

-- and one that is refused
walk_refused : (d : ℕ) (p : Paths) (s : State) (e : ℕ) (es : List ℕ) → advance s e ≡ none → walk d p s (e ∷ es) ≡ entered d p s e
unfolding walk
walk_refused d p s e es a = rw a

-- an order that is followed begins with an entry that is made
pub followed-first : (s t : State) (e : ℕ) (es : List ℕ) → follow s (e ∷ es) ≡ some t → (u : State) × (advance s e ≡ some u) × (follow u es ≡ some t)
unfolding follow
followed-first s t e es f = by (advance s e) refl f
  where
    by : (o : Option State) → advance s e ≡ o → and_then o (λ u. follow u es) ≡ some t → (u : State) × (advance s e ≡ some u) × (follow u es ≡ some t)
    by none a z = absurd (let y : ◌≡◌ {A = ℕ} 0 1 = cc in omega arith)
    by (some u) a z = (u, a, z)

followed-none : (s t : State) → follow s [] ≡ some t → s ≡ t
unfolding follow
followed-none s t f = cc

-- ---- an order in two parts

pub walk-append : (d : ℕ) (p : Paths) (s t : State) (xs ys : List ℕ) → follow s xs ≡ some t → walk d p s (xs ++ ys) ≡ walk d (walk d p s xs) t ys
walk-append d p s t [] ys f = rw (walk_none d p s, followed-none s t f)
walk-append d p s t (e ∷ es) ys f =
    let (u, a, g) = followed-first s t e es f in
    walk-entry d p s u e (es ++ ys) a
    ∙ (walk-append d (entered d p s e) u t es ys g ∙ ap (λ (q : Paths). walk d q t ys) (sym (walk-entry d p s u e es a)))

-- ---- entries of another worker

entered-other : (d e : ℕ) (p : Paths) (s : State) → e ≢ d → entered d p s e ≡ p
entered-other d e p s i = rw (ne_eqb e d i)

pub walk-other : (d e : ℕ) (p : Paths) (k : ℕ) (s : State) → e ≢ d → walk d p s (replicate k e) ≡ p
walk-other d e p zero s i = walk_none d p s
walk-other d e p (suc k) s i = by (λ t. walk-other d e p k t i) (advance s e) refl
  where
    by : ((t : State) → walk d p t (replicate k e) ≡ p) → (o : Option State) → advance s e ≡ o → walk d p s (replicate (suc k) e) ≡ p
    by rest none a = walk_refused d p s e (replicate k e) a ∙ entered-other d e p s i
    by rest (some t) a =
        walk-entry d p s t e (replicate k e) a ∙ (ap (λ (q : Paths). walk d q t (replicate k e)) (entered-other d e p s i) ∙ rest t)

-- ---- a section that is fed behind

gone-behind : (p : Paths) (q more : List Job) → (q ≡ [] → ⊥) → gone p (q ++ more) ≡ gone p q
gone-behind p [] more h = absurd (h refl)
gone-behind p (j ∷ js) more h = refl

pub some-queue : (s t : State) (d : ℕ) → advance s d ≡ some t → get_or s.queues d [] ≡ [] → ⊥
unfolding advance
some-queue s t d a e = let f : front s d [] ≡ some t = rw e at a in let z : ◌≡◌ {A = ℕ} 0 1 = cc in omega arith

module _ (n : ℕ) (g : Given) where
  entered-enqueue :
      (d e : ℕ) (p : Paths) (s t : State) → advance s e ≡ some t → g.worker < length s.queues → entered d p (enqueue n s g) e ≡ entered d p s e
  entered-enqueue d e p s t a l = by (ℕ_discrete e d) (ℕ_discrete d g.worker)
    where
      more : List Job
      more = start n g ∷ []

      by : Dec (e ≡ d) → Dec (d ≡ g.worker) → entered d p (enqueue n s g) e ≡ entered d p s e
      by (no i) k = entered-other d e p (enqueue n s g) i ∙ sym (entered-other d e p s i)
      by (yes i) (yes k) =
          rw (eq-eqb e d i, k, get_or-set_same s.queues g.worker (get_or s.queues g.worker [] ++ more) [] l)
          (gone-behind p (get_or s.queues g.worker []) more (λ z. some-queue s t g.worker (rw (i ∙ k) at a) z))
      by (yes i) (no k) = rw (eq-eqb e d i, get_or-set_other s.queues g.worker d (get_or s.queues g.worker [] ++ more) [] k)

  walk-enqueue :
      (d : ℕ) (p : Paths) (s t : State) (xs : List ℕ) → follow s xs ≡ some t → g.worker < length s.queues
      → walk d p (enqueue n s g) xs ≡ walk d p s xs
  walk-enqueue d p s t [] f l = walk_none d p (enqueue n s g) ∙ sym (walk_none d p s)
  walk-enqueue d p s t (e ∷ es) f l =
      let (u, a, h) = followed-first s t e es f in
      walk-entry d p (enqueue n s g) (enqueue n u g) e es (enqueue-advance n g s u e a l)
      ∙ (ap (λ (q : Paths). walk d q (enqueue n u g) es) (entered-enqueue d e p s u a l)
      ∙ (walk-enqueue d (entered d p s e) u t es h (rw (advance-length s u e a) l) ∙ sym (walk-entry d p s u e es a)))

-- the machine fed one section more
pub walk_more :
    (n D : ℕ) (cells : List ℕ) (gs : List Given) (g : Given) (d : ℕ) (p : Paths) (order : List ℕ) (t : State)
    → follow (initial n D cells gs) order ≡ some t → g.worker < D
    → walk d p (initial n D cells (gs ++ (g ∷ []))) order ≡ walk d p (initial n D cells gs) order
walk_more n D cells gs g d p order t f l =
    rw (initial-snoc n D cells gs g) (walk-enqueue n g d p (initial n D cells gs) t order f (rw (initial-length n D cells gs) l))
