-- No section is left out of those counted (`every-spanned`): no event but a taking and a loss changes what a worker has counted and owing, and a section
-- is taken from an idle worker, which owes nothing. Behind no call at all that is what holds of a list with no cut and no recovery (`uncut-spanned`).
use Prim.Native.Nat.{ℕ, ◌<◌, ◌≤◌}
use mathlib.Core.Path.{◌≡◌, refl, sym, ap, ◌∙◌}
use mathlib.Core.Bool.{Bool, true, false, cond, false≢true}
use mathlib.Core.List.{List, [], ◌∷◌, ◌++◌, map, append-nil, append_assoc, map-append}
use native.Mathlib.Omega.{arith}
use lib.Dec.{eqb}
use lib.ListN.{get_or, drop}
use borrow.Author.Tests.{ne_eqb}
use native.Mathlib.Decide.{ℕ_discrete}
use Rattle.std.specs.Prelude.{Ok}
use Rattle.image.specs.Image.{workers, cells_of}
use Rattle.working.specs.Cursor.{idle, cursor_at}
use Rattle.working.proofs.Placed.{idle-is}
use Rattle.plan.specs.Turn.{Outcome}
use Rattle.claims.specs.Reference.{Given, given}
use Rattle.claims.specs.Events.{Event, taken, moved, waited, recorded, ended, lost}
use Rattle.claims.specs.Calls.{Trace, Traced, turn_by, play, from, legal, ends_cut, machine}
use Rattle.claims.specs.Claims.{of_worker, after}
use Rattle.claims.proofs.Feeding.{of-snoc-same, of-snoc-other}
use Rattle.claims.proofs.Called.{dl}
use Rattle.claims.proofs.Moves.{args-full, play-append, plain-legal, plain-uncut}
use Rattle.told.specs.Turns.{Start, first, resumed, Span, span, Now, nowhere, fresh, going, closing, Passage, passage, turned, naming, finishing}
use Rattle.told.specs.Turns.{heed, heed_all, passage_of, All, UncutSpanned}
use Rattle.told.specs.Spanned.{counted, owing, from_first, EverySpanned}
use Rattle.told.proofs.Keeping.{next_turn, submitted, Keeps, Kept, play-keeps}
use Rattle.told.proofs.FromRest.{Plain, plain-sorted, kept-uncut}
use Rattle.told.proofs.Accounting.{events_by, events-by}
use Rattle.told.proofs.Passages.{heed-none, heed-cons, heed-append, heed-taken, heed-aside}
use Rattle.told.proofs.Spanning.{Spanning, Moored, spanning-keeps}
use Rattle.told.proofs.Turns.{rested-spanning}
use Rattle.told.proofs.Quieting.{Quiet, turn-quiet, turn-taken, nowhere-at}

-- what a worker has counted and owes
abbrev pub standing : Passage → List (Given × Start)
standing c = counted c.spans ++ owing c.now

one-counted : (xs : List Span) (x : Span) → counted (xs ++ (x ∷ [])) ++ [] ≡ counted xs ++ counted (x ∷ [])
one-counted xs x = append-nil (counted (xs ++ (x ∷ []))) ∙ map-append {B = Given × Start} (λ (x : Span). (x.section, x.start)) xs (x ∷ [])

-- a section that is over is counted, from its taking or from where it was resumed
turned-stands : (e : ℕ) (x : Now) (xs : List Span) → standing (turned (passage e x xs) x) ≡ standing (passage e x xs)
turned-stands e nowhere xs = refl
turned-stands e (fresh g t) xs = refl
turned-stands e (going g b s t) xs = refl
turned-stands e (closing k g first t) xs = one-counted xs (span k g first _)
turned-stands e (closing k g (resumed s) t) xs = one-counted xs (span k g (resumed s) _)

pub naming-owes : (s : ℕ) (x : Now) → owing (naming s x) ≡ owing x
naming-owes s nowhere = refl
naming-owes s (fresh g t) = refl
naming-owes s (going g b r t) = refl
naming-owes s (closing k g b t) = refl

pub finishing-owes : (k : ℕ) (x : Now) → owing (finishing k x) ≡ owing x
finishing-owes k nowhere = refl
finishing-owes k (fresh g t) = refl
finishing-owes k (going g b r t) = refl
finishing-owes k (closing i g b t) = refl

by-test : (b : Bool) (c y : Passage) → standing y ≡ standing c → standing (cond b y c) ≡ standing c
by-test true c y h = h
by-test false c y h = refl

quiet-stands : (d : ℕ) (c : Passage) (x : Event) → Quiet x → standing (heed d c x) ≡ standing c
quiet-stands d c (taken g) q = absurd q
quiet-stands d c (moved e s) q = by-test (eqb e d) c (turned c c.now) (turned-stands c.ends c.now c.spans)
quiet-stands d c (waited e b) q = refl
quiet-stands d c (recorded e s) q = by-test (eqb e d) c _ (ap (λ (l : List (Given × Start)). counted c.spans ++ l) (naming-owes s c.now))
quiet-stands d c (ended e) q = by-test (eqb e d) c _ (ap (λ (l : List (Given × Start)). counted c.spans ++ l) (finishing-owes c.ends c.now))
quiet-stands d c lost q = absurd q

quiet-all-stand : (d : ℕ) (c : Passage) (xs : List Event) → All Quiet xs → standing (heed_all d c xs) ≡ standing c
quiet-all-stand d c [] q = rw (heed-none d c)
quiet-all-stand d c (x ∷ xs) (q, qs) = rw (heed-cons d c x xs) (quiet-all-stand d (heed d c x) xs qs ∙ quiet-stands d c x q)

module _ (mark n D : ℕ) (cells : List ℕ) where
  -- since a trace
  record Since (g : Trace) (w : Traced) : Type 0 where
    during : List Given
    takes : w.trace.taken ≡ g.taken ++ during
    stands : (e : ℕ) → e < D → standing (passage_of e w.trace.events) ≡ standing (passage_of e g.events) ++ from_first (of_worker e during)

  record Owes (g : Trace) (w : Traced) : Type 0 where
    spanning : Spanning mark n D cells w
    since : Since g w

  turn-since : (g : Trace) (w : Traced) (d : ℕ) (o : Outcome) → Since g w → Since g (turn_by mark n w d o)
  turn-since g w d o x =
      record {
        during = x.during;
        takes = turn-taken mark n w d o ∙ x.takes;
        stands = λ e l.
            rw (events-by mark n w d o, heed-append e (passage 0 nowhere []) w.trace.events (events_by mark n w d o))
            (quiet-all-stand e (passage_of e w.trace.events) (events_by mark n w d o) (turn-quiet mark n w d o) ∙ x.stands e l);
      }

  submitted-since :
      (g : Trace) (w : Traced) (d k : ℕ) (args ws : List ℕ) → d < D → cursor_at w.world.cursors d ≡ idle → Owes g w
      → Since g (submitted mark n w d k args ws (Ok tt))
  submitted-since g w d k args ws low i y =
      record {
        during = x.during ++ (new ∷ []);
        takes = ap (λ (l : List Given). l ++ (new ∷ [])) x.takes ∙ append_assoc g.taken x.during (new ∷ []);
        stands = λ e l. by e l (ℕ_discrete e d);
      }
    where
      x : Since g w
      x = y.since

      new : Given
      new = given d k args ws

      by :
          (e : ℕ) → e < D → Dec (e ≡ d)
          → standing (passage_of e (w.trace.events ++ (taken new ∷ [])))
          ≡ standing (passage_of e g.events) ++ from_first (of_worker e (x.during ++ (new ∷ [])))
      by e l (yes q) =
          let c = passage_of d w.trace.events in
          let rests = nowhere-at mark n D cells w y.spanning d low i in
          let old : counted c.spans ≡ standing (passage_of d g.events) ++ from_first (of_worker d x.during) =
          sym (append-nil (counted c.spans)) ∙ (rw rests at (x.stands d low)) in
          rw (
            q,
            heed-append d (passage 0 nowhere []) w.trace.events (taken new ∷ []),
            heed-taken d c new refl,
            of-snoc-same d x.during new refl,
            map-append {B = Given × Start} (λ (h : Given). (h, first)) (of_worker d x.during) (new ∷ []),
          )
          (ap (λ (l : List (Given × Start)). l ++ ((new, first) ∷ [])) old
          ∙ append_assoc (standing (passage_of d g.events)) (from_first (of_worker d x.during)) ((new, first) ∷ []))
      by e l (no q) =
          rw (
            heed-append e (passage 0 nowhere []) w.trace.events (taken new ∷ []),
            heed-aside e (passage_of e w.trace.events) (taken new ∷ []) (rw (ne_eqb d e (λ z. q (sym z)))),
            of-snoc-other e x.during new (λ z. q (sym z)),
          ) (x.stands e l)

  owes-keeps : (g : Trace) → 8 ≤ n → Keeps mark n D cells (Owes g) (λ (w : Traced). Unit {0}) Plain
  owes-keeps g wide =
      let K = spanning-keeps mark n D cells wide in
      record {
        turn = λ w d r l fed x. record { spanning = K.turn w d r l fed x.spanning; since = turn-since g w d (next_turn n w d) x.since };
        still = λ w d o z c. tt;
        worth = λ w x. tt;
        lend = λ k w x.
            record {
              spanning = K.lend k w x.spanning;
              since = record { during = x.since.during; takes = x.since.takes; stands = x.since.stands };
            };
        lend-cut = λ k w c. tt;
        submit = λ w d k args ws r h t left a x.
            record {
              spanning = K.submit w d k args ws r h t left tt x.spanning;
              since = submitted-since g w d k args ws (dl mark n D cells w d k args ws wide (args-full d k args ws h) r t) (idle-is _ t.idles) x;
            };
        submit-cut = λ w j d k args ws r h t a x. tt;
        recover = λ w k left a c. absurd (false≢true a);
        recover-cut = λ w j k a c. tt;
        cut_off = λ w c. tt;
      }

pub every-spanned : (mark n : ℕ) → 8 ≤ n → n ≤ 64 → EverySpanned mark n
unfolding EverySpanned
every-spanned mark n wide narrow m rest xs h l e ys hy p d dl i =
    let D = workers m in
    let cells = cells_of m in
    let v = after mark n m xs in
    let w = play mark n ys v in
    let (run, spanning) = kept-uncut mark n wide narrow m rest (Spanning mark n D cells) (Moored mark n D cells) (spanning-keeps mark n D cells wide)
    (rested-spanning mark n wide narrow m rest) xs h l e in
    let start : Owes mark n D cells v.trace v =
    record {
      spanning = spanning;
      since =
          record {
            during = [];
            takes = sym (append-nil v.trace.taken);
            stands = λ q z. sym (append-nil (standing (passage_of q v.trace.events)));
          };
    } in
    let k = play-keeps mark n D cells (Owes mark n D cells v.trace) (λ (u : Traced). Unit {0}) Plain (owes-keeps mark n D cells v.trace wide) false ys v
    wide narrow hy (plain-legal ys p) (plain-sorted mark n ys v p) (run, start) in
    let u = running (ends_cut false ys) (plain-uncut ys p) k in
    let c = passage_of d w.trace.events in
    let split = play-append mark n xs ys (from m) in
    let b = passage_of d v.trace.events in
    rw split
    (record {
      during = u.since.during;
      takes = u.since.takes;
      spans =
          sym (append-nil (counted c.spans))
          ∙ ((rw (nowhere-at mark n D cells w u.spanning d dl (rw split at i)) at (u.since.stands d dl))
          ∙ append_assoc (counted b.spans) (owing b.now) (from_first (of_worker d u.since.during)));
    })
  where
    running :
        (b : Bool) → b ≡ false
        → Kept mark n (workers m) (cells_of m) (Owes mark n (workers m) (cells_of m) (after mark n m xs).trace) (λ (v : Traced). Unit {0}) Plain
        (owes-keeps mark n (workers m) (cells_of m) (after mark n m xs).trace wide) b (play mark n ys (after mark n m xs))
        → Owes mark n (workers m) (cells_of m) (after mark n m xs).trace (play mark n ys (after mark n m xs))
    running false e k = k.1
    running true e k = absurd (false≢true (sym e))

-- ---- behind no call at all

-- counted from their taking, all of them
first-only :
    (xs : List Span) (gs : List Given) → counted xs ≡ from_first gs → (map (λ (x : Span). x.section) xs ≡ gs) × All (λ (x : Span). x.start ≡ first) xs
first-only [] [] e = (refl, tt)
first-only [] (g ∷ gs) e = let z : ◌≡◌ {A = ℕ} 0 1 = cc in absurd (omega arith)
first-only (x ∷ xs) [] e = let z : ◌≡◌ {A = ℕ} 0 1 = cc in absurd (omega arith)
first-only (x ∷ xs) (g ∷ gs) e =
    let h = ap (λ (l : List (Given × Start)). get_or l 0 (g, first)) e in
    let (s, f) = first-only xs gs (ap (λ (l : List (Given × Start)). drop 1 l) e) in
    let a : x.section ≡ g = ap (λ (p : Given × Start). p.0) h in
    let b : x.start ≡ first = ap (λ (p : Given × Start). p.1) h in
    (rw (a, s), (b, f))

pub uncut-spanned : (mark n : ℕ) → 8 ≤ n → n ≤ 64 → UncutSpanned mark n
unfolding EverySpanned UncutSpanned play legal ends_cut machine
uncut-spanned mark n wide narrow m rest xs h p d dl i =
    let s = every-spanned mark n wide narrow m rest [] refl refl refl xs h p d dl i in
    rw s.takes
    (first-only (passage_of d (after mark n m xs).trace.events).spans (of_worker d s.during) (rw (heed-none d (passage 0 nowhere [])) at s.spans))
