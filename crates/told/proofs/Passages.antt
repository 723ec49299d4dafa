-- Laws of the passages that are read off events: one list after the other, events of others, and the events of a worker's own turn.
use Prim.Native.Nat.{ℕ, suc}
use mathlib.Core.Path.{◌≡◌, refl, ◌∙◌}
use mathlib.Core.Bool.{Bool, true, false, cond}
use mathlib.Core.List.{List, [], ◌∷◌, ◌++◌}
use native.Mathlib.Omega.{arith}
use lib.Dec.{eqb}
use borrow.Author.Tests.{eq-eqb}
use Rattle.claims.specs.Reference.{Given}
use Rattle.claims.specs.Events.{Event, taken, moved, waited, recorded, ended, lost}
use Rattle.told.specs.Reports.{concerning}
use Rattle.told.specs.Turns.{fresh, Passage, passage, turned, naming, finishing, losing, heed, heed_all}
use Rattle.told.proofs.Strode.{named, finished}

pub heed-none : (d : ℕ) (c : Passage) → heed_all d c [] ≡ c
unfolding heed_all
heed-none d c = refl

pub heed-cons : (d : ℕ) (c : Passage) (x : Event) (xs : List Event) → heed_all d c (x ∷ xs) ≡ heed_all d (heed d c x) xs
unfolding heed_all
heed-cons d c x xs = refl

pub heed-append : (d : ℕ) (c : Passage) (xs ys : List Event) → heed_all d c (xs ++ ys) ≡ heed_all d (heed_all d c xs) ys
unfolding heed_all
heed-append d c [] ys = refl
heed-append d c (x ∷ xs) ys = heed-append d (heed d c x) xs ys

heed-one : (d : ℕ) (c : Passage) (x : Event) → heed_all d c (x ∷ []) ≡ heed d c x
heed-one d c x = heed-cons d c x [] ∙ heed-none d (heed d c x)

-- ---- events of others

-- one that does not concern the worker, and then none that does
skipped : (x : Event) (l : List Event) (b : Bool) (y c : Passage) → cond b (x ∷ l) l ≡ [] → (cond b y c ≡ c) × (l ≡ [])
skipped x l true y c e = let z : ◌≡◌ {A = ℕ} 0 1 = cc in absurd (omega arith)
skipped x l false y c e = (refl, e)

never : (x : Event) (l : List Event) → x ∷ l ≡ [] → ⊥
never x l e = let z : ◌≡◌ {A = ℕ} 0 1 = cc in omega arith

pub heed-aside : (d : ℕ) (c : Passage) (es : List Event) → concerning d es ≡ [] → heed_all d c es ≡ c
heed-aside d c [] h = heed-none d c
heed-aside d c (taken g ∷ es) h =
    let (e, k) = skipped (taken g) (concerning d es) (eqb g.worker d) (passage c.ends (fresh g 0) c.spans) c h in
    heed-cons d c (taken g) es ∙ rw e (heed-aside d c es k)
heed-aside d c (moved f s ∷ es) h =
    let (e, k) = skipped (moved f s) (concerning d es) (eqb f d) (turned c c.now) c h in
    heed-cons d c (moved f s) es ∙ rw e (heed-aside d c es k)
heed-aside d c (waited f b ∷ es) h =
    let (e, k) = skipped (waited f b) (concerning d es) (eqb f d) c c h in
    heed-cons d c (waited f b) es ∙ heed-aside d c es k
heed-aside d c (recorded f s ∷ es) h =
    let (e, k) = skipped (recorded f s) (concerning d es) (eqb f d) (passage c.ends (naming s c.now) c.spans) c h in
    heed-cons d c (recorded f s) es ∙ rw e (heed-aside d c es k)
heed-aside d c (ended f ∷ es) h =
    let (e, k) = skipped (ended f) (concerning d es) (eqb f d) (passage (suc c.ends) (finishing c.ends c.now) c.spans) c h in
    heed-cons d c (ended f) es ∙ rw e (heed-aside d c es k)
heed-aside d c (lost ∷ es) h = absurd (never lost (concerning d es) h)

-- ---- a worker's own

pub heed-moved : (d : ℕ) (c : Passage) (s : ℕ) → heed_all d c (moved d s ∷ []) ≡ turned c c.now
heed-moved d c s = heed-one d c (moved d s) ∙ rw (eq-eqb d d refl)

pub heed-waited : (d : ℕ) (c : Passage) (b : ℕ) → heed_all d c (waited d b ∷ []) ≡ c
heed-waited d c b = heed-one d c (waited d b)

pub heed-named : (d : ℕ) (c : Passage) (s i : ℕ) → heed_all d c (moved d s ∷ recorded d i ∷ []) ≡ named c i
heed-named d c s i = heed-cons d c (moved d s) (recorded d i ∷ []) ∙ (heed-one d (heed d c (moved d s)) (recorded d i) ∙ rw (eq-eqb d d refl))

pub heed-finished : (d : ℕ) (c : Passage) (s : ℕ) → heed_all d c (moved d s ∷ ended d ∷ []) ≡ finished c
heed-finished d c s = heed-cons d c (moved d s) (ended d ∷ []) ∙ (heed-one d (heed d c (moved d s)) (ended d) ∙ rw (eq-eqb d d refl))

pub heed-taken : (d : ℕ) (c : Passage) (g : Given) → g.worker ≡ d → heed_all d c (taken g ∷ []) ≡ passage c.ends (fresh g 0) c.spans
heed-taken d c g e = heed-one d c (taken g) ∙ rw (eq-eqb g.worker d e)

pub heed-lost : (d : ℕ) (c : Passage) → heed_all d c (lost ∷ []) ≡ passage c.ends (losing c.now) c.spans
heed-lost d c = heed-one d c lost
