-- Each section taken has one fate, or is under way (`each-fated`): no event but a taking changes whose fate is decided or owing, and a section is taken
-- from an idle worker, which owes nothing.
use Prim.Native.Nat.{ℕ, ◌<◌, ◌≤◌}
use mathlib.Core.Path.{◌≡◌, refl, sym, ap, ◌∙◌}
use mathlib.Core.Bool.{Bool, true, false, cond}
use mathlib.Core.List.{List, [], ◌∷◌, ◌++◌, append-nil, append_assoc, map-append}
use lib.Dec.{eqb}
use borrow.Author.Tests.{ne_eqb}
use native.Mathlib.Decide.{ℕ_discrete}
use Rattle.std.specs.Prelude.{Ok}
use Rattle.image.specs.Image.{workers, cells_of}
use Rattle.working.specs.Cursor.{idle, cursor_at}
use Rattle.working.proofs.Placed.{idle-is}
use Rattle.plan.specs.Turn.{Outcome}
use Rattle.claims.specs.Reference.{Given, given}
use Rattle.claims.specs.Events.{Event, taken, moved, waited, recorded, ended, lost}
use Rattle.claims.specs.Calls.{Traced, turn_by, from, after_cut}
use Rattle.claims.specs.Claims.{of_worker}
use Rattle.claims.proofs.Feeding.{of-snoc-same, of-snoc-other}
use Rattle.claims.proofs.Called.{dl}
use Rattle.claims.proofs.Moves.{args-full}
use Rattle.told.specs.Turns.{Start, Span, span, Now, nowhere, fresh, going, closing, Passage, passage, turned, losing, heed, heed_all, passage_of, All}
use Rattle.told.specs.Spanned.{counted, owing, Fate, by_turn, by_loss, decided}
use Rattle.told.specs.Spanned.{fates_from, fates_of, overs_by, overs, whose, whose_start, EachFated}
use Rattle.told.proofs.Keeping.{next_turn, submitted, recovered, Keeps}
use Rattle.told.proofs.FromRest.{Any, kept-list}
use Rattle.told.proofs.Accounting.{events_by, events-by}
use Rattle.told.proofs.Passages.{heed-none, heed-cons, heed-append, heed-taken, heed-aside}
use Rattle.told.proofs.Spanning.{Spanning, Moored, spanning-keeps}
use Rattle.told.proofs.Turns.{rested-spanning}
use Rattle.told.proofs.Quieting.{Quiet, turn-quiet, turn-taken, nowhere-at}
use Rattle.told.proofs.Spanned.{naming-owes, finishing-owes}

-- ---- events alone

fates-none : (d : ℕ) (c : Passage) → fates_from d c [] ≡ []
unfolding fates_from
fates-none d c = refl

fates-cons : (d : ℕ) (c : Passage) (x : Event) (xs : List Event) → fates_from d c (x ∷ xs) ≡ decided d c x ++ fates_from d (heed d c x) xs
unfolding fates_from
fates-cons d c x xs = refl

fates-append : (d : ℕ) (c : Passage) (xs ys : List Event) → fates_from d c (xs ++ ys) ≡ fates_from d c xs ++ fates_from d (heed_all d c xs) ys
fates-append d c [] ys = rw (fates-none d c, heed-none d c)
fates-append d c (x ∷ xs) ys =
    rw (fates-cons d c x (xs ++ ys), fates-cons d c x xs, heed-cons d c x xs, fates-append d (heed d c x) xs ys)
    (sym (append_assoc (decided d c x) (fates_from d (heed d c x) xs) (fates_from d (heed_all d (heed d c x) xs) ys)))

overs-append : (xs ys : List (Given × Fate)) → overs (xs ++ ys) ≡ overs xs ++ overs ys
overs-append [] ys = refl
overs-append (x ∷ xs) ys = rw (overs-append xs ys) (sym (append_assoc (overs_by x.0 x.1) (overs xs) (overs ys)))

-- the spans by one event
turned-spans :
    (e : ℕ) (x : Now) (xs : List Span) (b : Bool)
    → counted (cond b (turned (passage e x xs) x) (passage e x xs)).spans ≡ counted xs ++ overs (cond b (by_turn x) [])
turned-spans e x xs false = sym (append-nil (counted xs))
turned-spans e nowhere xs true = sym (append-nil (counted xs))
turned-spans e (fresh g t) xs true = sym (append-nil (counted xs))
turned-spans e (going g b s t) xs true = sym (append-nil (counted xs))
turned-spans e (closing k g b t) xs true = map-append {B = Given × Start} (λ (x : Span). (x.section, x.start)) xs (span k g b _ ∷ [])

same-spans : (b : Bool) (c y : Passage) → y.spans ≡ c.spans → counted (cond b y c).spans ≡ counted c.spans ++ []
same-spans true c y h = ap counted h ∙ sym (append-nil (counted c.spans))
same-spans false c y h = sym (append-nil (counted c.spans))

no-overs : (x : Now) → overs (by_loss x) ≡ []
no-overs nowhere = refl
no-overs (fresh g t) = refl
no-overs (going g b s t) = refl
no-overs (closing k g b t) = refl

one-counted : (d : ℕ) (c : Passage) (x : Event) → counted (heed d c x).spans ≡ counted c.spans ++ overs (decided d c x)
one-counted d c (taken g) = same-spans (eqb g.worker d) c _ refl
one-counted d c (moved e s) = turned-spans c.ends c.now c.spans (eqb e d)
one-counted d c (waited e b) = sym (append-nil (counted c.spans))
one-counted d c (recorded e s) = same-spans (eqb e d) c _ refl
one-counted d c (ended e) = same-spans (eqb e d) c _ refl
one-counted d c lost = rw (no-overs c.now) (sym (append-nil (counted c.spans)))

all-counted : (d : ℕ) (c : Passage) (xs : List Event) → counted (heed_all d c xs).spans ≡ counted c.spans ++ overs (fates_from d c xs)
all-counted d c [] = rw (heed-none d c, fates-none d c) (sym (append-nil (counted c.spans)))
all-counted d c (x ∷ xs) =
    rw (heed-cons d c x xs, fates-cons d c x xs, overs-append (decided d c x) (fates_from d (heed d c x) xs))
    (all-counted d (heed d c x) xs
    ∙ (ap (λ (l : List (Given × Start)). l ++ overs (fates_from d (heed d c x) xs)) (one-counted d c x)
    ∙ append_assoc (counted c.spans) (overs (decided d c x)) (overs (fates_from d (heed d c x) xs))))

-- ---- whose fate is decided or owing

-- of no section more, and of none less
abbrev decides : List (Given × Fate) → Now → List Given
decides fs x = whose fs ++ whose_start (owing x)

-- not a taking
abbrev NoTaking : Event → Type 0
NoTaking (taken g) = ⊥
NoTaking (moved d s) = Unit {0}
NoTaking (waited d b) = Unit {0}
NoTaking (recorded d s) = Unit {0}
NoTaking (ended d) = Unit {0}
NoTaking lost = Unit {0}

turned-decides :
    (e : ℕ) (x : Now) (xs : List Span) (b : Bool)
    → decides (cond b (by_turn x) []) (cond b (turned (passage e x xs) x) (passage e x xs)).now ≡ whose_start (owing x)
turned-decides e x xs false = refl
turned-decides e nowhere xs true = refl
turned-decides e (fresh g t) xs true = refl
turned-decides e (going g b s t) xs true = refl
turned-decides e (closing k g b t) xs true = refl

lost-decides : (x : Now) → decides (by_loss x) (losing x) ≡ whose_start (owing x)
lost-decides nowhere = refl
lost-decides (fresh g t) = refl
lost-decides (going g b s t) = refl
lost-decides (closing k g b t) = refl

same-owing : (b : Bool) (c y : Passage) → owing y.now ≡ owing c.now → whose_start (owing (cond b y c).now) ≡ whose_start (owing c.now)
same-owing true c y h = ap whose_start h
same-owing false c y h = refl

one-decides : (d : ℕ) (c : Passage) (x : Event) → NoTaking x → decides (decided d c x) (heed d c x).now ≡ whose_start (owing c.now)
one-decides d c (taken g) q = absurd q
one-decides d c (moved e s) q = turned-decides c.ends c.now c.spans (eqb e d)
one-decides d c (waited e b) q = refl
one-decides d c (recorded e s) q = same-owing (eqb e d) c _ (naming-owes s c.now)
one-decides d c (ended e) q = same-owing (eqb e d) c _ (finishing-owes c.ends c.now)
one-decides d c lost q = lost-decides c.now

whose-append : (xs ys : List (Given × Fate)) → whose (xs ++ ys) ≡ whose xs ++ whose ys
whose-append xs ys = map-append (λ (x : Given × Fate). x.0) xs ys

all-decide : (d : ℕ) (c : Passage) (xs : List Event) → All NoTaking xs → decides (fates_from d c xs) (heed_all d c xs).now ≡ whose_start (owing c.now)
all-decide d c [] q = rw (fates-none d c, heed-none d c)
all-decide d c (x ∷ xs) (q, qs) =
    let F = decided d c x in
    let G = fates_from d (heed d c x) xs in
    rw (fates-cons d c x xs, heed-cons d c x xs, whose-append F G, append_assoc (whose F) (whose G), all-decide d (heed d c x) xs qs) (one-decides d c x q)

quiet-no : (xs : List Event) → All Quiet xs → All NoTaking xs
quiet-no [] q = tt
quiet-no (taken g ∷ xs) (q, qs) = absurd q
quiet-no (moved d s ∷ xs) (q, qs) = (tt, quiet-no xs qs)
quiet-no (waited d b ∷ xs) (q, qs) = (tt, quiet-no xs qs)
quiet-no (recorded d s ∷ xs) (q, qs) = (tt, quiet-no xs qs)
quiet-no (ended d ∷ xs) (q, qs) = (tt, quiet-no xs qs)
quiet-no (lost ∷ xs) (q, qs) = absurd q

-- ---- worlds

abbrev Every : ℕ → List Event → List Given → Type 0
Every d es ts = decides (fates_of d es) (passage_of d es).now ≡ ts

more-every : (d : ℕ) (es xs : List Event) (ts : List Given) → All NoTaking xs → Every d es ts → Every d (es ++ xs) ts
more-every d es xs ts q h =
    let c = passage 0 nowhere [] in
    let F = fates_of d es in
    let G = fates_from d (passage_of d es) xs in
    rw (fates-append d c es xs, heed-append d c es xs, whose-append F G, append_assoc (whose F) (whose G), all-decide d (passage_of d es) xs q) h

module _ (mark n D : ℕ) (cells : List ℕ) where
  abbrev AllEvery : Traced → Type 0
  AllEvery w = (e : ℕ) → e < D → Every e w.trace.events (of_worker e w.trace.taken)

  record FatedRun (w : Traced) : Type 0 where
    spanning : Spanning mark n D cells w
    every : AllEvery w

  record FatedCut (w : Traced) : Type 0 where
    moored : Moored mark n D cells w
    every : AllEvery w

  turn-every : (w : Traced) (d : ℕ) (o : Outcome) → AllEvery w → AllEvery (turn_by mark n w d o)
  turn-every w d o x e l =
      rw (turn-taken mark n w d o, events-by mark n w d o)
      (more-every e w.trace.events (events_by mark n w d o) (of_worker e w.trace.taken)
      (quiet-no (events_by mark n w d o) (turn-quiet mark n w d o)) (x e l))

  submitted-every :
      (w : Traced) (d k : ℕ) (args ws : List ℕ) → d < D → cursor_at w.world.cursors d ≡ idle → Spanning mark n D cells w → AllEvery w
      → AllEvery (submitted mark n w d k args ws (Ok tt))
  submitted-every w d k args ws low i s x e l = by (ℕ_discrete e d)
    where
      new : Given
      new = given d k args ws

      by : Dec (e ≡ d) → Every e (w.trace.events ++ (taken new ∷ [])) (of_worker e (w.trace.taken ++ (new ∷ [])))
      by (yes q) =
          let c = passage_of d w.trace.events in
          let rests = nowhere-at mark n D cells w s d low i in
          let F = fates_of d w.trace.events in
          rw (
            q,
            fates-append d (passage 0 nowhere []) w.trace.events (taken new ∷ []),
            heed-append d (passage 0 nowhere []) w.trace.events (taken new ∷ []),
            heed-taken d c new refl,
            of-snoc-same d w.trace.taken new refl,
            fates-cons d c (taken new) [],
            fates-none d (heed d c (taken new)),
            append-nil F,
          )
          (ap (λ (l : List Given). l ++ (new ∷ [])) (sym (append-nil (whose F)) ∙ (rw rests at (x d low))))
      by (no q) =
          let c = passage_of e w.trace.events in
          let F = fates_of e w.trace.events in
          rw (
            fates-append e (passage 0 nowhere []) w.trace.events (taken new ∷ []),
            heed-append e (passage 0 nowhere []) w.trace.events (taken new ∷ []),
            heed-aside e c (taken new ∷ []) (rw (ne_eqb d e (λ z. q (sym z)))),
            of-snoc-other e w.trace.taken new (λ z. q (sym z)),
            fates-cons e c (taken new) [],
            fates-none e (heed e c (taken new)),
            append-nil F,
          ) (x e l)

  lost-every : (w v : Traced) → v.trace.events ≡ w.trace.events ++ (lost ∷ []) → v.trace.taken ≡ w.trace.taken → AllEvery w → AllEvery v
  lost-every w v t k x e l = rw (t, k) (more-every e w.trace.events (lost ∷ []) (of_worker e w.trace.taken) (tt, tt) (x e l))

  fated-keeps : 8 ≤ n → Keeps mark n D cells FatedRun FatedCut Any
  fated-keeps wide =
      let K = spanning-keeps mark n D cells wide in
      record {
        turn = λ w d r l fed x. record { spanning = K.turn w d r l fed x.spanning; every = turn-every w d (next_turn n w d) x.every };
        still = λ w d o z x. record { moored = K.still w d o z x.moored; every = turn-every w d o x.every };
        worth = λ w x. record { moored = K.worth w x.spanning; every = x.every };
        lend = λ k w x. record { spanning = K.lend k w x.spanning; every = x.every };
        lend-cut = λ k w x. record { moored = K.lend-cut k w x.moored; every = x.every };
        submit = λ w d k args ws r h t left a x.
            record {
              spanning = K.submit w d k args ws r h t left a x.spanning;
              every =
                  submitted-every w d k args ws (dl mark n D cells w d k args ws wide (args-full d k args ws h) r t) (idle-is _ t.idles) x.spanning
                  x.every;
            };
        submit-cut = λ w j d k args ws r h t a x.
            record {
              moored = K.submit-cut w j d k args ws r h t a x.spanning;
              every =
                  submitted-every w d k args ws (dl mark n D cells w d k args ws wide (args-full d k args ws h) r t) (idle-is _ t.idles) x.spanning
                  x.every;
            };
        recover = λ w k left a x.
            record { spanning = K.recover w k left a x.moored; every = lost-every w (recovered mark n w) refl refl x.every };
        recover-cut = λ w j k a x.
            record { moored = K.recover-cut w j k a x.moored; every = lost-every w (recovered mark n w) refl refl x.every };
        cut_off = λ w x. record { moored = K.cut_off w x.moored; every = lost-every w (after_cut mark n w) refl refl x.every };
      }

pub each-fated : (mark n : ℕ) → 8 ≤ n → n ≤ 64 → EachFated mark n
unfolding EachFated
each-fated mark n wide narrow m rest xs h l d low =
    let D = workers m in
    let cells = cells_of m in
    let start : FatedRun mark n D cells (from m) =
    record {
      spanning = rested-spanning mark n wide narrow m rest;
      every = λ e q. rw (fates-none e (passage 0 nowhere []), heed-none e (passage 0 nowhere []));
    } in
    let k = kept-list mark n wide narrow m rest (FatedRun mark n D cells) (FatedCut mark n D cells) (fated-keeps mark n D cells wide) start xs h l in
    record { every = k.1.every d low; overs-counted = sym (all-counted d (passage 0 nowhere []) _) }
