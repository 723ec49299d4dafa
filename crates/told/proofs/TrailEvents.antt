-- The steps that a worker's turns named, event by event: one behind the other (`tread-append`), those that do not concern the worker (`tread-aside`), and
-- those of a turn (`tread-moved`, `tread-named`, `tread-finished`).
use Prim.Native.Nat.{ℕ}
use mathlib.Core.Path.{◌≡◌, refl, ◌∙◌}
use mathlib.Core.Bool.{Bool, true, false, cond}
use mathlib.Core.List.{List, [], ◌∷◌, ◌++◌}
use lib.Dec.{eqb}
use borrow.Author.Tests.{eq-eqb}
use native.Mathlib.Omega.{arith}
use Rattle.claims.specs.Events.{Event, taken, moved, waited, recorded, ended, lost}
use Rattle.told.specs.Reports.{concerning}
use Rattle.told.specs.Turns.{Passage, heed, heed_all}
use Rattle.told.specs.Treads.{Trail, stepped, tread, tread_all}
use Rattle.told.proofs.Passages.{heed-none, heed-cons}

pub tread-none : (d : ℕ) (p : Passage) (c : Trail) → tread_all d p c [] ≡ c
unfolding tread_all
tread-none d p c = refl

pub tread-cons : (d : ℕ) (p : Passage) (c : Trail) (e : Event) (es : List Event) → tread_all d p c (e ∷ es) ≡ tread_all d (heed d p e) (tread d p.now c e) es
unfolding tread_all
tread-cons d p c e es = refl

pub tread-append :
    (d : ℕ) (p : Passage) (c : Trail) (xs ys : List Event) → tread_all d p c (xs ++ ys) ≡ tread_all d (heed_all d p xs) (tread_all d p c xs) ys
tread-append d p c [] ys = rw (tread-none d p c, heed-none d p)
tread-append d p c (x ∷ xs) ys =
    rw (tread-cons d p c x (xs ++ ys), tread-cons d p c x xs, heed-cons d p x xs) (tread-append d (heed d p x) (tread d p.now c x) xs ys)

pub tread-one : (d : ℕ) (p : Passage) (c : Trail) (e : Event) → tread_all d p c (e ∷ []) ≡ tread d p.now c e
tread-one d p c e = tread-cons d p c e [] ∙ tread-none d (heed d p e) (tread d p.now c e)

-- one that does not concern the worker, and then none that does
skipped : (x : Event) (l : List Event) (b : Bool) → cond b (x ∷ l) l ≡ [] → (b ≡ false) × (l ≡ [])
skipped x l true e = let z : ◌≡◌ {A = ℕ} 0 1 = cc in absurd (omega arith)
skipped x l false e = (refl, e)

never : (x : Event) (l : List Event) → x ∷ l ≡ [] → ⊥
never x l e = let z : ◌≡◌ {A = ℕ} 0 1 = cc in omega arith

pub tread-aside : (d : ℕ) (p : Passage) (c : Trail) (es : List Event) → concerning d es ≡ [] → tread_all d p c es ≡ c
tread-aside d p c [] h = tread-none d p c
tread-aside d p c (taken g ∷ es) h =
    let (e, k) = skipped (taken g) (concerning d es) (eqb g.worker d) h in
    tread-cons d p c (taken g) es ∙ rw e (tread-aside d p c es k)
tread-aside d p c (moved f s ∷ es) h =
    let (e, k) = skipped (moved f s) (concerning d es) (eqb f d) h in
    tread-cons d p c (moved f s) es ∙ rw e (tread-aside d p c es k)
tread-aside d p c (waited f b ∷ es) h =
    let (e, k) = skipped (waited f b) (concerning d es) (eqb f d) h in
    tread-cons d p c (waited f b) es ∙ tread-aside d p c es k
tread-aside d p c (recorded f s ∷ es) h =
    let (e, k) = skipped (recorded f s) (concerning d es) (eqb f d) h in
    tread-cons d p c (recorded f s) es ∙ rw e (tread-aside d p c es k)
tread-aside d p c (ended f ∷ es) h =
    let (e, k) = skipped (ended f) (concerning d es) (eqb f d) h in
    tread-cons d p c (ended f) es ∙ rw e (tread-aside d p c es k)
tread-aside d p c (lost ∷ es) h = absurd (never lost (concerning d es) h)

pub tread-moved : (d : ℕ) (p : Passage) (c : Trail) (s : ℕ) → tread_all d p c (moved d s ∷ []) ≡ stepped c s p.now
tread-moved d p c s = tread-one d p c (moved d s) ∙ rw (eq-eqb d d refl)

pub tread-named : (d : ℕ) (p : Passage) (c : Trail) (s i : ℕ) → tread_all d p c (moved d s ∷ recorded d i ∷ []) ≡ stepped c s p.now
tread-named d p c s i =
    tread-cons d p c (moved d s) (recorded d i ∷ [])
    ∙ (tread-one d (heed d p (moved d s)) (tread d p.now c (moved d s)) (recorded d i) ∙ rw (eq-eqb d d refl))

pub tread-finished : (d : ℕ) (p : Passage) (c : Trail) (s : ℕ) → tread_all d p c (moved d s ∷ ended d ∷ []) ≡ stepped c s p.now
tread-finished d p c s =
    tread-cons d p c (moved d s) (ended d ∷ []) ∙ (tread-one d (heed d p (moved d s)) (tread d p.now c (moved d s)) (ended d) ∙ rw (eq-eqb d d refl))
