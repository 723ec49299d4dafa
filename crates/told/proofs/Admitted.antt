-- Every section begun is admissible: a list of admissible sections with another behind it is one (`admitted-append`), a section that is
-- taken is admissible (`admitted-taken`), and what is begun is of what is taken, by the events (`begun-admitted`).
use Prim.Native.Nat.{ℕ, ◌<◌, ◌^◌}
use mathlib.Core.Path.{◌≡◌, refl}
use mathlib.Core.Bool.{Bool, true, ◌&&◌}
use mathlib.Core.List.{List, [], ◌∷◌, ◌++◌}
use lib.ListN.{length}
use lib.Dec.{eqb, ltb}
use borrow.Author.Tests.{ne_eqb, eq-eqb, lt-ltb}
use native.Mathlib.Decide.{ℕ_discrete}
use Rattle.base.proofs.Bools.{and_left, and_right, and_both}
use Rattle.section.specs.Check.{code_of, check, passes}
use Rattle.claims.specs.Reference.{Given, given}
use Rattle.told.specs.Readings.{taken_in, Reading, reading, learn, read_from, begun_in}
use Rattle.claims.specs.Events.{Event, taken, moved, waited, recorded, ended, lost, but}
use Rattle.claims.specs.Calls.{submits, callable, are_words}
use Rattle.claims.specs.Claims.{admissible}

module _ (mark n D : ℕ) where
  abbrev Good : List Given → Type 0
  Good gs = admissible mark n D gs ≡ true

  -- what is tested of one section
  abbrev fits : Given → Bool
  fits x =
      ltb x.worker D && eqb (length x.args) 8 && are_words x.args && are_words x.code && passes (check n (length x.code) (code_of x.code))

  pub admitted-append : (xs ys : List Given) → Good xs → Good ys → Good (xs ++ ys)
  admitted-append [] ys a b = b
  admitted-append (x ∷ xs) ys a b =
      and_both (fits x) (admissible mark n D (xs ++ ys)) (and_left (fits x) (admissible mark n D xs) a)
      (admitted-append xs ys (and_right (fits x) (admissible mark n D xs) a) b)

  pub admitted-taken :
      (d k : ℕ) (args ws : List ℕ) → d < D → callable (submits d k args ws) ≡ true → passes (check n (length ws) (code_of ws)) ≡ true
      → Good (given d k args ws ∷ [])
  admitted-taken d k args ws l h p =
      let a = ltb d (2 ^ 64) && ltb k (2 ^ 64) in
      let e = eqb (length args) 8 in
      let q = and_left (a && e && are_words args) (are_words ws) h in
      let r = and_left (a && e) (are_words args) q in
      rw (lt-ltb d D l, and_right a e r, and_right (a && e) (are_words args) q, and_right (a && e && are_words args) (are_words ws) h, p)

  first_good : (x : Given) (xs : List Given) → Good (x ∷ xs) → Good (x ∷ []) × Good xs
  first_good x xs a =
      (and_both (fits x) true (and_left (fits x) (admissible mark n D xs) a) refl, and_right (fits x) (admissible mark n D xs) a)

  private-read : (r : Reading) (es : List Event) → Good r.begun → ((d : ℕ) → Good (r.pending d)) → Good (taken_in es) → Good (read_from r es).begun
  unfolding read_from taken_in
  private-read r [] b p t = b
  private-read r (taken g ∷ es) b p t =
      let f = first_good g (taken_in es) t in
      private-read (learn r (taken g)) es b (λ d. by d (ℕ_discrete d g.worker) f.0) f.1
    where
      by : (d : ℕ) → Dec (d ≡ g.worker) → Good (g ∷ []) → Good (but r.pending g.worker (g ∷ []) d)
      by d (yes i) f = rw (eq-eqb d g.worker i) f
      by d (no i) f = rw (ne_eqb d g.worker i) (p d)
  private-read r (moved d s ∷ es) b p t = private-read r es b p t
  private-read r (waited d s ∷ es) b p t = private-read r es b p t
  private-read r (recorded e s ∷ es) b p t =
      private-read (learn r (recorded e s)) es (admitted-append r.begun (r.pending e) b (p e)) (λ d. by d (ℕ_discrete d e)) t
    where
      by : (d : ℕ) → Dec (d ≡ e) → Good (but r.pending e [] d)
      by d (yes i) = rw (eq-eqb d e i)
      by d (no i) = rw (ne_eqb d e i) (p d)
  private-read r (ended d ∷ es) b p t = private-read r es b p t
  private-read r (lost ∷ es) b p t = private-read (learn r lost) es b (λ d. refl) t

  pub begun-admitted : (es : List Event) → Good (taken_in es) → Good (begun_in es)
  begun-admitted es t = private-read (reading (λ d. []) []) es refl (λ d. refl) t
