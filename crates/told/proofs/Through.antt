-- A section taken by an uncut submit waits, or is begun, as long as no cut and no recovery comes (`follows-keeps`); with all workers
-- idle none waits, so that it is begun and finished (`through-always`).
use Prim.Native.Nat.{ℕ, ◌*◌, ◌<◌, ◌≤◌}
use mathlib.Core.Path.{◌≡◌, refl, sym, ap, subst, ◌∙◌}
use mathlib.Core.Logic.{◌⊎◌, inl, inr, ⊎_elim}
use mathlib.Core.Bool.{Bool, true, false, ◌&&◌, not, false≢true}
use mathlib.Core.List.{List, [], ◌∷◌, ◌++◌, append_assoc}
use lib.ListN.{length}
use lib.Dec.{eqb}
use borrow.Author.Tests.{eq-eqb, le-leb}
use native.Mathlib.Decide.{ℕ_discrete}
use Rattle.std.specs.Prelude.{Ok}
use Rattle.base.proofs.Bools.{and_left, and_right}
use Rattle.image.specs.declared.Field.TheVariants.{Pc}
use Rattle.image.specs.Place.{field, Memory}
use Rattle.image.specs.Image.{Image, at, workers, cells_of}
use Rattle.working.specs.Cursor.{Cursor, on, cursor_at}
use Rattle.plan.specs.Turn.{Outcome, stored, passed, waiting, resting, refused}
use Rattle.intake.specs.Submit.{submit_answer, free}
use Rattle.asking.specs.declared.Standing.TheVariants.{Finished}
use Rattle.working.proofs.Placed.{idle-is}
use Rattle.claims.specs.Reference.{Given, given}
use Rattle.claims.specs.Events.{but}
use Rattle.claims.specs.Calls.{Traced, is_pc, turn_by, Call, submits, callable, call, lent}
use Rattle.claims.specs.Calls.{Move, whole, move, play, from, legal, ends_cut, plain, machine}
use Rattle.claims.specs.Claims.{Rested, after, mended, working, rounds_in}
use Rattle.told.specs.Once.{Among, standing, ThroughAlways}
use Rattle.claims.proofs.LiveTurn.{but_same, but-other}
use Rattle.claims.proofs.Pending.{pend, pend-idle, pend-start, Passes, Pends, pends-turn}
use Rattle.told.proofs.Writes.{Says, turn-writes}
use Rattle.claims.proofs.Worlds.{Running}
use Rattle.claims.proofs.Turning.{still}
use Rattle.claims.proofs.Called.{TakenAs, taken_as}
use Rattle.claims.proofs.Played.{plenty, running-lent, whole-good}
use Rattle.claims.proofs.Moves.{play-append, args-full, machine-parts, legal-parts, ends-append, plain-uncut, submit-legal}
use Rattle.told.proofs.Keeping.{next_turn, Fed, submitted, Keeps, Kept, play-keeps, working-keeps}
use Rattle.told.proofs.FromRest.{settled-pcs, Plain, plain-sorted}
use Rattle.claims.proofs.Durable.{uncut-running}
use Rattle.told.proofs.Once.{finished-others, tells-settled}
use Rattle.told.proofs.Telling.{begun_then, turn-begun, pending}
use Rattle.told.proofs.Recorded.{telling_of, aside-of}
use Rattle.told.proofs.Reading.{store_keeps}
use Rattle.claims.proofs.Entries.{apart_of}
use Rattle.told.proofs.Behind.{turn_memory, turn_cursor, turned-memory, turned-cursors, submitted-aside, submitted-cursors}
use Rattle.told.proofs.Numbers.{among-number}

-- ---- a section that is taken and not cut off

among-more : (g : Given) (gs : List Given) (x : Given) (a b : Bool) → Among g gs → Among g (begun_then gs x a b)
among-more g gs x false b h = h
among-more g gs x true false h = h
among-more g gs x true true (before, behind, e) = (before, behind ++ (x ∷ []), rw e (append_assoc before (g ∷ behind) (x ∷ [])))

module _ (mark n D : ℕ) (cells : List ℕ) (d : ℕ) (dl : d < D) (g : Given) where
  -- it is the one that worker d has pending
  abbrev Waits : Traced → Type 0
  Waits w = (pending mark n D cells w d ≡ true) × (w.trace.last d ≡ g)

  -- or begun
  abbrev Follows : Traced → Type 0
  Follows w = Among g w.trace.begun ⊎ Waits w

  abbrev Nothing : Traced → Type 0
  Nothing w = Unit {0}

  module _ (w : Traced) (e : ℕ) (r : Running mark n D cells w) (el : e < D) (x : Follows w) where
    abbrev rd : Memory
    rd = at n w.world.image

    abbrev cursors : ℕ → Cursor
    cursors = cursor_at w.world.cursors

    abbrev cursor : Cursor
    cursor = cursors e

    abbrev last : Given
    last = w.trace.last e

    -- what is pending and its pc stay, for another worker's turn or its own
    waits-on :
        (w' : Traced) (c : Cursor) → w'.trace.last d ≡ w.trace.last d → at n w'.world.image (field Pc d) ≡ rd (field Pc d)
        → cursor_at w'.world.cursors d ≡ but cursors e c d → (d ≡ e → pend (rd (field Pc e)) cursor ≡ pend (rd (field Pc e)) c)
        → Waits w → Waits w'
    waits-on w' c t p cs q (h, k) = (rw (p, cs) (by (ℕ_discrete d e)), t ∙ k)
      where
        by : Dec (d ≡ e) → pend (rd (field Pc d)) (but cursors e c d) ≡ true
        by (yes i) = let a : pend (rd (field Pc e)) cursor ≡ true = rw i at h in rw (i, but_same cursors e c) (sym (q i) ∙ a)
        by (no i) = rw (but-other cursors e c d i) h

    -- a turn, by its outcome
    outcome-follows :
        (o : Outcome) → Says n rd e last o → Pends (rd (field Pc e)) cursor o → Fed w o → at n (turn_by mark n w e o).world.image ≡ turn_memory rd o
        → ((f : ℕ) → f < D → cursor_at (turn_by mark n w e o).world.cursors f ≡ but cursors e (turn_cursor cursor o) f) → Follows (turn_by mark n w e o)
    outcome-follows (stored p v c) y ps fed m cs = by x (is_pc p) refl ps (ℕ_discrete d e)
      where
        behind : Traced
        behind = turn_by mark n w e (stored p v c)

        begins : behind.trace.begun ≡ begun_then w.trace.begun last (is_pc p) (eqb (rd (field Pc e)) 0)
        begins = turn-begun mark n w e p v c (fed refl)

        lasts : behind.trace.last d ≡ w.trace.last d
        lasts = ap (λ (f : ℕ → Given). f d) (store_keeps w.trace e (is_pc p && not (eqb w.world.left 0)) (eqb (rd (field Pc e)) 0)).1

        by : Follows w → (b : Bool) → is_pc p ≡ b → Passes (rd (field Pc e)) cursor v c b → Dec (d ≡ e) → Follows behind
        by (inl h) b i k q = inl (rw begins (among-more g w.trace.begun last (is_pc p) (eqb (rd (field Pc e)) 0) h))
        by (inr h) false i k q =
            inr (waits-on behind c lasts (rw (m, apart_of is_pc (field Pc d) p refl i)) (cs d dl) (λ z. k) h)
        by (inr h) true i k (no q) =
            let a = aside-of n rd e last d q p v y in
            inr (waits-on behind c lasts (rw (m, apart_of (telling_of d) (field Pc d) p (eq-eqb d d refl) a)) (cs d dl) (λ z. absurd (q z)) h)
        by (inr (h, t)) true i k (yes q) =
            let z : eqb (rd (field Pc e)) 0 ≡ true = sym k.0 ∙ (rw q at h) in
            let last : w.trace.last e ≡ g = rw q at t in
            inl (w.trace.begun, [], begins ∙ rw (i, z, last))
    outcome-follows (passed why c) y ps fed m cs = ⊎_elim inl (λ h. inr (waits-on (turn_by mark n w e (passed why c)) c refl refl (cs d dl) (λ z. ps) h)) x
    outcome-follows (waiting b) y ps fed m cs = x
    outcome-follows resting y ps fed m cs = x
    outcome-follows (refused q) y ps fed m cs = x

    turn-follows : Fed w (next_turn n w e) → Follows (turn_by mark n w e (next_turn n w e))
    turn-follows fed =
        let ph = r.live.phase e el in
        let says = turn-writes n rd e last cursor (r.locks e) (w.trace.jumps e) ph in
        let pends = pends-turn n rd e last cursor (r.locks e) (w.trace.jumps e) ph in
        outcome-follows (next_turn n w e) says pends fed (turned-memory mark n D cells w e r el fed) (turned-cursors mark n D cells w e r el)

  -- a submission of another worker; the worker's own is refused while one is pending
  submit-follows :
      8 ≤ n → (w : Traced) (e k : ℕ) (args ws : List ℕ) → length args ≡ 8 → Running mark n D cells w → TakenAs mark n w.world e k ws
      → Follows w → Follows (submitted mark n w e k args ws (Ok tt))
  submit-follows wide w e k args ws eight r t (inl h) = inl h
  submit-follows wide w e k args ws eight r t (inr (h, last)) = by (ℕ_discrete d e)
    where
      by : Dec (d ≡ e) → Follows (submitted mark n w e k args ws (Ok tt))
      by (yes i) =
          let q : pend (at n w.world.image (field Pc e)) (cursor_at w.world.cursors e) ≡ true = rw i at h in
          absurd (false≢true (sym (pend-idle (at n w.world.image (field Pc e))) ∙ (rw (idle-is (cursor_at w.world.cursors e) t.idles) at q)))
      by (no i) =
          let pcs = submitted-aside mark n D cells w e k args ws wide eight r t (field Pc d) refl in
          inr (
            rw (pcs, submitted-cursors mark n D cells w e k args ws wide eight r t d dl, but-other (cursor_at w.world.cursors) e (on 0 0) d i) h,
            but-other w.trace.last e (given e k args ws) d i ∙ last,
          )

  follows-keeps : 8 ≤ n → Keeps mark n D cells Follows Nothing Plain
  follows-keeps wide =
      record {
        turn = λ w e r l fed x. turn-follows w e r l x fed;
        still = λ w e o z x. tt;
        worth = λ w x. tt;
        lend = λ k w x. x;
        lend-cut = λ k w x. tt;
        submit = λ w e k args ws r h t left a x. submit-follows wide w e k args ws (args-full e k args ws h) r t x;
        submit-cut = λ w j e k args ws r h t a x. tt;
        recover = λ w k left a x. absurd (false≢true a);
        recover-cut = λ w j k a x. tt;
        cut_off = λ w x. tt;
      }

-- ---- the theorem

module _ (mark n : ℕ) (wide : 8 ≤ n) (narrow : n ≤ 64) (m : Image) (rest : Rested mark n m) (xs ys : List Move) (d k : ℕ) (args ws : List ℕ) where
  abbrev submit : Call
  submit = submits d k args ws

  abbrev later : List Move
  later = whole submit ∷ ys

  abbrev handed : List Move
  handed = xs ++ later

  abbrev section : Given
  section = given d k args ws

  module _
      (h : machine handed ≡ true) (l : legal false handed ≡ true) (p : plain ys ≡ true)
      (t : submit_answer mark n (after mark n m xs).world d k ws ≡ Ok tt) where
    abbrev D : ℕ
    D = workers m

    abbrev cells : List ℕ
    cells = cells_of m

    abbrev w : Traced
    w = after mark n m xs

    -- xs ends with no cut, and ys is legal behind the submit
    legals : (ends_cut false xs ≡ false) × (legal false ys ≡ true)
    legals = submit-legal (ends_cut false xs) d k args ws ys (legal-parts false xs later l).1

    running : Running mark n D cells w
    running = uncut-running mark n wide narrow m rest xs (machine-parts xs later h).0 (legal-parts false xs later l).0 legals.0

    parts : (callable submit ≡ true) × (machine ys ≡ true)
    unfolding machine
    parts =
        let q = (machine-parts xs later h).1 in
        (and_left (callable submit) (machine ys) q, and_right (callable submit) (machine ys) q)

    abbrev lends : Traced
    lends = lent mark n (plenty mark n D cells) w

    taken-lent : submit_answer mark n lends.world d k ws ≡ Ok tt
    unfolding submit_answer free
    taken-lent = t

    taken-as-lent : TakenAs mark n lends.world d k ws
    taken-as-lent = taken_as mark n lends.world d k ws taken-lent

    below : d < D
    below = subst (λ (e : ℕ). d < e) running.reached.many taken-as-lent.below

    abbrev Follow : Traced → Type 0
    Follow = Follows mark n D cells d below section

    abbrev None : Traced → Type 0
    None = Nothing mark n D cells d below section

    abbrev keeps : Keeps mark n D cells Follow None Plain
    keeps = follows-keeps mark n D cells d below section wide

    -- behind the submit it is pending
    abbrev behind : Traced
    behind = move mark n (whole submit) w

    behind-is : behind ≡ submitted mark n lends d k args ws (Ok tt)
    unfolding move call
    behind-is = rw taken-lent

    submitted-follows : Follow behind
    submitted-follows =
        let eight = args-full d k args ws parts.0 in
        let r = running-lent mark n D cells (plenty mark n D cells) w running in
        let pcs = submitted-aside mark n D cells lends d k args ws wide eight r taken-as-lent (field Pc d) refl in
        let cursor = submitted-cursors mark n D cells lends d k args ws wide eight r taken-as-lent d below in
        rw behind-is
        (inr (
          rw (pcs, cursor, but_same (cursor_at w.world.cursors) d (on 0 0)) (pend-start _ 0 taken-as-lent.pc),
          but_same w.trace.last d section,
        ))

    behind-running : Running mark n D cells behind
    behind-running = whole-good mark n D cells false submit w wide narrow parts.0 refl running

    -- and behind the calls after it begun or pending
    list-follows : Running mark n D cells (after mark n m handed) × Follow (after mark n m handed)
    unfolding play
    list-follows =
        let kept =
        play-keeps mark n D cells Follow None Plain keeps false ys behind wide narrow parts.1 legals.1 (plain-sorted mark n ys behind p)
        (behind-running, submitted-follows)
        in
        rw (play-append mark n xs later (from m))
        (subst (λ (b : Bool). Kept mark n D cells Follow None Plain keeps b (play mark n ys behind)) (plain-uncut ys p) kept)

    mended-same : mended mark n handed ≡ handed
    unfolding ends_cut
    mended-same = rw (ends-append false xs later, plain-uncut ys p)

    -- with all workers idle nothing is pending
    list-through :
        (zs : List Move) → working zs ≡ true → 384 * D ≤ rounds_in zs
        → Among section (after mark n m (handed ++ zs)).trace.begun × (standing mark n (after mark n m (handed ++ zs)) d k ≡ Finished)
    list-through zs y rounds =
        let v = after mark n m (handed ++ zs) in
        let f : Follow v =
        rw (play-append mark n handed zs (from m))
        (working-keeps mark n D cells Follow None Plain keeps zs (after mark n m handed) y list-follows.0 list-follows.1)
        in
        let e = mended-same in
        let (cursor, pc) = rw e at (settled-pcs mark n wide narrow m rest handed zs h l y rounds d below) in
        let none : pending mark n D cells v d ≡ false = rw cursor (pend-idle (at n v.world.image (field Pc d))) in
        let begun : Among section v.trace.begun = ⊎_elim (λ a. a) (λ a. absurd (false≢true (sym none ∙ a.0))) f in
        let tells = rw e at (tells-settled mark n wide narrow m rest handed h l zs y d below) in
        (begun, rw (le-leb k _ (finished-others n _ _ (at n v.world.image) d tells k (among-number d section v.trace.begun refl begun) (inl pc))))

pub through-always : (mark n : ℕ) → 8 ≤ n → n ≤ 64 → ThroughAlways mark n
unfolding ThroughAlways
through-always mark n wide narrow m rest xs ys d k args ws h l p t zs y rounds = list-through mark n wide narrow m rest xs ys d k args ws h l p t zs y rounds
