-- A client that numbers a worker's sections one after the other: where each submit has the number above the finished one, the numbers
-- begun are consecutive (`retried-always`), so that what is said to be finished was begun. And one that hands in the same section again
-- and again until the answer is 3 has it begun once (`exactly-once`): what is begun is of what is taken, and its numbers rise.
use Prim.Native.Nat.{ℕ, zero, suc, ◌+◌, ◌<◌, ◌≤◌}
use mathlib.Core.Path.{◌≡◌, refl, sym, ap, ap₂, subst, ◌∙◌}
use mathlib.Core.Logic.{◌≢◌, inl, inr, ⊎_elim}
use mathlib.Core.Bool.{Bool, true, false, ◌&&◌, ◌||◌, not}
use mathlib.Core.List.{List, [], ◌∷◌, ◌++◌, map}
use lib.ListN.{length}
use lib.Dec.{eqb, ltb, leb}
use borrow.Author.Tests.{eq-eqb, ne_eqb, eqb-true, leb-true, ltb-true, ltb-false}
use native.Mathlib.Omega.{arith}
use native.Mathlib.Decide.{ℕ_discrete}
use Rattle.std.specs.Prelude.{Ok, Err}
use Rattle.base.proofs.Bools.{and_left, and_right}
use Rattle.image.specs.declared.Field.TheVariants.{Pc, Number, Finished as FinishedField}
use Rattle.image.specs.Place.{Place, field, Memory}
use Rattle.image.specs.Image.{Image, at, workers, cells_of, header_ok}
use Rattle.section.specs.Check.{Verdict, code_of, check}
use Rattle.working.specs.declared.Refusal.TheVariants.{Number as NumberRefused}
use Rattle.asking.specs.declared.Standing.TheVariants.{Finished}
use Rattle.asking.specs.Asking.{standing_in}
use Rattle.working.specs.Cursor.{Cursor, cursor_at}
use Rattle.plan.specs.Turn.{Outcome, stored, passed, waiting, resting, refused}
use Rattle.working.specs.World.{World}
use Rattle.intake.specs.Submit.{submit_answer, verdict_answer, free}
use Rattle.claims.specs.Reference.{Given, given}
use Rattle.claims.specs.Calls.{Traced, is_pc, turn_by, Call, submits, turns, runs, recovers, Move, move, play, from, of_move}
use Rattle.claims.specs.Claims.{of_worker, after}
use Rattle.told.specs.Once.{numbers_of, rising, last_or, up_from, among, Within, OnlyCall, Only, begun_by, started_at, next_number, in_turn}
use Rattle.told.specs.Once.{Told, OnceAlways, ToldAlways, RetriedAlways, ExactlyOnce}
use Rattle.claims.proofs.Pending.{Passes, Pends, pends-turn}
use Rattle.told.proofs.Writes.{Writes, Says, turn-writes}
use Rattle.claims.proofs.Worlds.{Running}
use Rattle.claims.proofs.Turning.{still}
use Rattle.claims.proofs.Played.{Worth}
use Rattle.told.proofs.Keeping.{next_turn, Fed, recovered, Sorted, Keeps}
use Rattle.told.proofs.FromRest.{kept-sorted}
use Rattle.claims.proofs.Feeding.{of-snoc-same, of-snoc-other}
use Rattle.told.proofs.Numbers.{last_snoc, rising-last}
use Rattle.told.proofs.Recorded.{TellsAt, begun_behind}
use Rattle.told.proofs.Reading.{store_keeps}
use Rattle.told.proofs.Telling.{begun_then, turn-begun, begun-own, begun-other, begins-own, pc-writes, Tells, Telling, telling-keeps}
use Rattle.told.proofs.Once.{starts, rest-telling, finished-others, stands-finished, once-always, told-always}

-- ---- consecutive numbers

consecutive-snoc : (f : ℕ) (bs : List ℕ) → bs ≡ up_from f (length bs) → bs ++ ((last_or f bs + 1) ∷ []) ≡ up_from f (length (bs ++ ((last_or f bs + 1) ∷ [])))
consecutive-snoc f [] e = refl
consecutive-snoc f (x ∷ xs) e =
    let first : x ≡ f + 1 = cc in
    let rest : xs ≡ up_from (f + 1) (length xs) = cc in
    let more = consecutive-snoc x xs (rw first rest) in
    ap₂ ◌∷◌ first (more ∙ ap (λ (y : ℕ). up_from y (length (xs ++ ((last_or x xs + 1) ∷ [])))) first)

up-among : (f j k : ℕ) → f < k → k ≤ last_or f (up_from f j) → among k (up_from f j) ≡ true
up-among f zero k l m = absurd (omega arith)
up-among f (suc j) k l m = by (up-among (f + 1) j k) (ℕ_discrete (f + 1) k)
  where
    by :
        (f + 1 < k → k ≤ last_or (f + 1) (up_from (f + 1) j) → among k (up_from (f + 1) j) ≡ true) → Dec (f + 1 ≡ k)
        → (eqb (f + 1) k || among k (up_from (f + 1) j)) ≡ true
    by more (yes e) = rw (eq-eqb (f + 1) k e)
    by more (no e) = rw (ne_eqb (f + 1) k e) (more (omega arith) m)

-- ---- each submit to worker d has the number above the finished one

module _ (n d : ℕ) where
  abbrev Next : ℕ → ℕ → ℕ → Type 0
  Next e f k = (f < k) × (e ≡ d → k ≡ f + 1)

  abbrev NextCall : Call → Image → Type 0
  NextCall (submits e k args ws) m = e ≡ d → k ≡ at n m (field FinishedField e) + 1
  NextCall (turns e) m = Unit {0}
  NextCall (runs r) m = Unit {0}
  NextCall recovers m = Unit {0}

  abbrev NextMove : Move → Image → Type 0
  NextMove x m = NextCall (of_move x) m

  next-call : (mark : ℕ) (c : Call) (w : Traced) → next_number mark n d c w ≡ true → NextCall c w.world.image
  next-call mark (submits e k args ws) w h = λ i. rw i (eqb-true k _ (rw (eq-eqb e d i) at h))
  next-call mark (turns e) w h = tt
  next-call mark (runs r) w h = tt
  next-call mark recovers w h = tt

  next-sorted : (mark : ℕ) (xs : List Move) (w : Traced) → in_turn mark n d xs w ≡ true → Sorted mark n NextMove xs w
  unfolding in_turn
  next-sorted mark [] w h = tt
  next-sorted mark (x ∷ xs) w h =
      let a = next_number mark n d (of_move x) w in
      let b = in_turn mark n d xs (move mark n x w) in
      (next-call mark (of_move x) w (and_left a b h), next-sorted mark xs (move mark n x w) (and_right a b h))

module _ (mark n D : ℕ) (cells : List ℕ) (start : ℕ → ℕ) (d : ℕ) (dl : d < D) where
  abbrev Ledger : Traced → Type 0
  Ledger w = Telling mark n D cells start (Next n d) (λ e f k q. q.0) w

  abbrev Tell : Traced → Type 0
  Tell w = Tells mark n D cells start (Next n d) (λ e f k q. q.0) w

  -- consecutive, above the number that worker d had finished at the start
  abbrev Row : List ℕ → Type 0
  Row bs = bs ≡ up_from (start d) (length bs)

  -- the numbers that worker d has begun are
  abbrev InRow : Traced → Type 0
  InRow w = Row (begun_by mark n w d)

  module _ (w : Traced) (e : ℕ) (r : Running mark n D cells w) (el : e < D) (x : Ledger w) (c : InRow w) where
    abbrev rd : Memory
    rd = at n w.world.image

    abbrev cursor : Cursor
    cursor = cursor_at w.world.cursors e

    abbrev last : Given
    last = w.trace.last e

    -- the sections begun behind a store of worker f's turn
    abbrev begun_now : ℕ → Place → List Given
    begun_now f p = begun_then w.trace.begun (w.trace.last f) (is_pc p) (eqb (rd (field Pc f)) 0)

    -- worker d's own store
    own_row :
        (p : Place) (v : ℕ) (y : Cursor) → Writes n rd d (w.trace.last d) p v
        → Passes (rd (field Pc d)) (cursor_at w.world.cursors d) v y (is_pc p) → Row (numbers_of d (begun_now d p))
    own_row p v y s ps =
        rw (begun-own d w.trace.begun (w.trace.last d) (is_pc p) (rd (field Pc d)) (begins-own n rd d (w.trace.last d) p v s))
        (by (is_pc p) refl ps (eqb (rd (field Pc d)) 0) refl)
      where
        by :
            (a : Bool) → is_pc p ≡ a → Passes (rd (field Pc d)) (cursor_at w.world.cursors d) v y a → (b : Bool) → eqb (rd (field Pc d)) 0 ≡ b
            → Row (begun_behind (begun_by mark n w d) (rd (field Pc d)) (w.trace.last d).number a)
        by false q k b z = c
        by true q k false z = rw z c
        by true q k true z =
            let pc = eqb-true (rd (field Pc d)) 0 z in
            let named = ((pc-writes n rd d (w.trace.last d) p v s q).0 pc).2 in
            let next = (x.newer d dl (k.0 ∙ z)).1 refl in
            let rests = (x.tells d dl).numbers.rests pc in
            let e : (w.trace.last d).number ≡ last_or (start d) (begun_by mark n w d) + 1 = named ∙ (next ∙ ap (λ (j : ℕ). j + 1) rests) in
            rw (z, e) (consecutive-snoc (start d) (begun_by mark n w d) c)

    outcome-row : (o : Outcome) → Says n rd e last o → Pends (rd (field Pc e)) cursor o → Fed w o → InRow (turn_by mark n w e o)
    outcome-row (stored p v y) s ps fed = rw (turn-begun mark n w e p v y (fed refl)) (by (ℕ_discrete e d))
      where
        by : Dec (e ≡ d) → Row (numbers_of d (begun_now e p))
        by (yes i) = rw i (own_row p v y (rw i at s) (rw i at ps))
        by (no i) =
            rw (begun-other d w.trace.begun last (is_pc p) (rd (field Pc e)) (λ h z q. i (sym (begins-own n rd e last p v s h z) ∙ q))) c
    outcome-row (passed why y) s ps fed = c
    outcome-row (waiting b) s ps fed = c
    outcome-row resting s ps fed = c
    outcome-row (refused q) s ps fed = c

    turn-row : Fed w (next_turn n w e) → InRow (turn_by mark n w e (next_turn n w e))
    turn-row fed =
        let ph = r.live.phase e el in
        let says = turn-writes n rd e last cursor (r.locks e) (w.trace.jumps e) ph in
        let pends = pends-turn n rd e last cursor (r.locks e) (w.trace.jumps e) ph in
        outcome-row (next_turn n w e) says pends fed

  still-row : (w : Traced) (e : ℕ) (o : Outcome) → w.world.left ≡ 0 → InRow w → InRow (turn_by mark n w e o)
  still-row w e (stored p v c) z x = rw (still mark n D cells w e p v c z).0 x
  still-row w e (passed why c) z x = x
  still-row w e (waiting b) z x = x
  still-row w e resting z x = x
  still-row w e (refused r) z x = x

  recovered-row : (w : Traced) → Worth mark n D cells w → InRow w → InRow (recovered mark n w)
  recovered-row w k x = x

  row_keeps : 8 ≤ n → n ≤ 64 → Keeps mark n D cells (λ (w : Traced). Ledger w × InRow w) (λ (w : Traced). Tell w × InRow w) (NextMove n d)
  row_keeps wide narrow =
      let K = telling-keeps mark n D cells start (Next n d) (λ e f k q. q.0) (NextMove n d) (λ m e k args ws a l. (l, a)) wide narrow in
      record {
        turn = λ w e r l fed x. (K.turn w e r l fed x.0, turn-row w e r l x.0 x.1 fed);
        still = λ w e o z x. (K.still w e o z x.0, still-row w e o z x.1);
        worth = λ w x. (K.worth w x.0, x.1);
        lend = λ k w x. (K.lend k w x.0, x.1);
        lend-cut = λ k w x. (K.lend-cut k w x.0, x.1);
        submit = λ w e k args ws r h t left a x. (K.submit w e k args ws r h t left a x.0, x.1);
        submit-cut = λ w j e k args ws r h t a x. (K.submit-cut w j e k args ws r h t a x.0, x.1);
        recover = λ w k left a x. (K.recover w k left a x.0, recovered-row w k x.1);
        recover-cut = λ w j k a x. (K.recover-cut w j k a x.0, recovered-row w k x.1);
        cut_off = λ w x. (K.cut_off w x.0, x.1);
      }

-- ---- the theorem

-- a number that is told to be finished is not above the finished one
told_below : (rd : Memory) (d k : ℕ) → standing_in rd d k ≡ Finished → k ≤ rd (field FinishedField d)
told_below rd d k h = by (leb k (rd (field FinishedField d))) refl (not (eqb (rd (field Pc d)) 0) && eqb (rd (field Number d)) k) refl
  where
    by :
        (a : Bool) → leb k (rd (field FinishedField d)) ≡ a → (b : Bool) → (not (eqb (rd (field Pc d)) 0) && eqb (rd (field Number d)) k) ≡ b
        → k ≤ rd (field FinishedField d)
    by true p b q = leb-true k _ p
    by false p true q = let z : ◌≡◌ {A = ℕ} 0 1 = cc in absurd (omega arith)
    by false p false q = let z : ◌≡◌ {A = ℕ} 0 1 = cc in absurd (omega arith)

-- and the finished one is not above the last that is begun
finished-last : (n f : ℕ) (bs : List ℕ) (rd : Memory) (d : ℕ) → TellsAt n f bs rd d → rd (field FinishedField d) ≤ last_or f bs
finished-last n f bs rd d t = by (ℕ_discrete (rd (field Pc d)) 0)
  where
    by : Dec (rd (field Pc d) ≡ 0) → rd (field FinishedField d) ≤ last_or f bs
    by (yes z) = let e = t.numbers.rests z in omega arith
    by (no z) =
        let (before, e, fin) = t.numbers.works z in
        let last : last_or f bs ≡ rd (field Number d) = ap (last_or f) e ∙ last_snoc f before (rd (field Number d)) in
        let less = rising-last f before (rd (field Number d)) (subst (λ (l : List ℕ). rising f l ≡ true) e t.numbers.rises) in
        ⊎_elim (λ q. omega arith) (λ q. omega arith) fin

pub retried-always : (mark n : ℕ) → 8 ≤ n → n ≤ 64 → RetriedAlways mark n
unfolding RetriedAlways play
retried-always mark n wide narrow m rest xs h l d dl turn =
    let D = workers m in
    let w = after mark n m xs in
    let rd = at n w.world.image in
    let f = starts mark n m rest in
    let K = row_keeps mark n D (cells_of m) f d dl wide narrow in
    let start = rest-telling mark n m rest (Next n d) (λ e f k q. q.0) in
    let kept = (kept-sorted mark n wide narrow m rest _ _ (NextMove n d) K (start, refl) xs h l (next-sorted n d mark xs (from m) turn)).1 in
    let tells = kept.0 d dl in
    record {
      consecutive = kept.1;
      finished = λ k above told.
          let a = told_below rd d k told in
          let b = finished-last n _ _ rd d tells in
          let c : k ≤ last_or (f d) (up_from (f d) (length (begun_by mark n w d))) = subst (λ (bs : List ℕ). k ≤ last_or (f d) bs) kept.1 (omega arith) in
          rw kept.1 (up-among (f d) (length (begun_by mark n w d)) k above c);
      ended = λ k begun over. stands-finished n _ _ rd d tells k (finished-others n _ _ rd d tells k begun over);
    }

-- ---- one section, handed in again and again

-- every section of a list is this one
abbrev AllAre : Given → List Given → Type 0
AllAre g [] = Unit {0}
AllAre g (x ∷ xs) = (x ≡ g) × AllAre g xs

all_snoc : (g : Given) (xs : List Given) (x : Given) → AllAre g xs → x ≡ g → AllAre g (xs ++ (x ∷ []))
all_snoc g [] x a e = (e, tt)
all_snoc g (y ∷ ys) x a e = (a.0, all_snoc g ys x a.1 e)

all-within : (g : Given) (xs ys : List Given) → Within xs ys → AllAre g ys → AllAre g xs
all-within g [] ys w a = tt
all-within g (x ∷ xs) [] w a = absurd w
all-within g (x ∷ xs) (y ∷ ys) (inl w) a = (w.0 ∙ a.0, all-within g xs ys w.1 a.1)
all-within g (x ∷ xs) (y ∷ ys) (inr w) a = all-within g (x ∷ xs) ys w a.1

-- mark, n, D and cells only say of which worlds
module _ (mark n D : ℕ) (cells : List ℕ) (d : ℕ) (g : Given) where
  abbrev OnlyMove : Move → Image → Type 0
  OnlyMove x m = OnlyCall d g (of_move x)

  abbrev OneTaken : Traced → Type 0
  OneTaken w = AllAre g (of_worker d w.trace.taken)

  only-sorted : (xs : List Move) (w : Traced) → Only d g xs → Sorted mark n OnlyMove xs w
  only-sorted [] w o = tt
  only-sorted (x ∷ xs) w o = (o.0, only-sorted xs (move mark n x w) o.1)

  taken-one :
      (e k : ℕ) (args ws : List ℕ) (gs : List Given) → (e ≡ d → given e k args ws ≡ g) → AllAre g (of_worker d gs)
      → AllAre g (of_worker d (gs ++ (given e k args ws ∷ [])))
  taken-one e k args ws gs o a = by (ℕ_discrete e d)
    where
      by : Dec (e ≡ d) → AllAre g (of_worker d (gs ++ (given e k args ws ∷ [])))
      by (yes i) = rw (of-snoc-same d gs (given e k args ws) i) (all_snoc g (of_worker d gs) (given e k args ws) a (o i))
      by (no i) = rw (of-snoc-other d gs (given e k args ws) i) a

  turn_one : (w : Traced) (e : ℕ) (o : Outcome) → OneTaken w → OneTaken (turn_by mark n w e o)
  turn_one w e (stored p v c) x =
      rw (store_keeps w.trace e (is_pc p && not (eqb w.world.left 0)) (eqb (at n w.world.image (field Pc e)) 0)).0 x
  turn_one w e (passed why c) x = x
  turn_one w e (waiting b) x = x
  turn_one w e resting x = x
  turn_one w e (refused r) x = x

  recovered-one : (w : Traced) → Worth mark n D cells w → OneTaken w → OneTaken (recovered mark n w)
  recovered-one w k x = x

  one-keeps : Keeps mark n D cells OneTaken OneTaken OnlyMove
  one-keeps =
      record {
        turn = λ w e r l fed x. turn_one w e (next_turn n w e) x;
        still = λ w e o z x. turn_one w e o x;
        worth = λ w x. x;
        lend = λ k w x. x;
        lend-cut = λ k w x. x;
        submit = λ w e k args ws r h t left a x. taken-one e k args ws w.trace.taken a x;
        submit-cut = λ w j e k args ws r h t a x. taken-one e k args ws w.trace.taken a x;
        recover = λ w k left a x. recovered-one w k x;
        recover-cut = λ w j k a x. recovered-one w k x;
        cut_off = λ w x. x;
      }

-- cause 3 says that the number is not above the finished one
not-number : (v : Verdict) → verdict_answer v ≡ Err NumberRefused → ⊥
not-number (Ok tt) e = let z : ◌≡◌ {A = ℕ} 0 1 = cc in omega arith
not-number (Err f) e = let z : ◌≡◌ {A = ℕ} 0 1 = cc in omega arith

refused-number :
    (mark n : ℕ) (w : World) (d k : ℕ) (ws : List ℕ) → submit_answer mark n w d k ws ≡ Err NumberRefused
    → k ≤ at n w.image (field FinishedField d)
unfolding submit_answer
refused-number mark n w d k ws h =
    by (header_ok mark n w.image) refl (ltb d (workers w.image)) refl (free n w d) refl (ltb (at n w.image (field FinishedField d)) k) refl
  where
    by :
        (a : Bool) → header_ok mark n w.image ≡ a → (b : Bool) → ltb d (workers w.image) ≡ b → (c : Bool) → free n w d ≡ c
        → (e : Bool) → ltb (at n w.image (field FinishedField d)) k ≡ e → k ≤ at n w.image (field FinishedField d)
    by false a b q c r e s = let z : ◌≡◌ {A = ℕ} 0 1 = cc in absurd (omega arith)
    by true a false q c r e s = let z : ◌≡◌ {A = ℕ} 0 1 = cc in absurd (omega arith)
    by true a true q false r e s = let z : ◌≡◌ {A = ℕ} 0 1 = cc in absurd (omega arith)
    by true a true q true r true s = absurd (not-number (check n (length ws) (code_of ws)) (rw (a, q, r, s) at h))
    by true a true q true r false s = let l = ltb-false (at n w.image (field FinishedField d)) k s in omega arith

-- sections that are all this one, under rising numbers, of which there is one
one_only : (g : Given) (f : ℕ) (gs : List Given) → AllAre g gs → rising f (map (λ (x : Given). x.number) gs) ≡ true → gs ≢ [] → gs ≡ g ∷ []
one_only g f [] a r z = absurd (z refl)
one_only g f (x ∷ []) a r z = ap (λ (y : Given). y ∷ []) a.0
one_only g f (x ∷ (y ∷ ys)) a r z =
    let up = and_right (ltb f x.number) (ltb x.number y.number && rising y.number (map (λ (x : Given). x.number) ys)) r in
    let less = ltb-true x.number y.number (and_left (ltb x.number y.number) (rising y.number (map (λ (x : Given). x.number) ys)) up) in
    let p : x.number ≡ g.number = ap (λ (q : Given). q.number) a.0 in
    let q : y.number ≡ g.number = ap (λ (q : Given). q.number) a.1.0 in
    absurd (omega arith)

pub exactly-once : (mark n : ℕ) → 8 ≤ n → n ≤ 64 → ExactlyOnce mark n
unfolding ExactlyOnce OnceAlways ToldAlways
exactly-once mark n wide narrow m rest xs h l d dl g new only refusal =
    let w = after mark n m xs in
    let once = once-always mark n wide narrow m rest xs h l in
    let told = told-always mark n wide narrow m rest xs h l d dl in
    let D = workers m in
    let cells = cells_of m in
    let sorted = only-sorted mark n D cells d g xs (from m) only in
    let one = (kept-sorted mark n wide narrow m rest _ _ (OnlyMove mark n D cells d g) (one-keeps mark n D cells d g) tt xs h l sorted).1 in
    let all = all-within g (of_worker d w.trace.begun) (of_worker d w.trace.taken) (once.within d) one in
    let low = refused-number mark n w.world d g.number g.code refusal in
    one_only g (started_at mark n m d) (of_worker d w.trace.begun) all (once.rises d dl)
    (λ z. by (ℕ_discrete (at n w.world.image (field Pc d)) 0) (rw z) low told)
  where
    by :
        Dec (at n (after mark n m xs).world.image (field Pc d) ≡ 0) → begun_by mark n (after mark n m xs) d ≡ []
        → g.number ≤ at n (after mark n m xs).world.image (field FinishedField d) → Told mark n m (after mark n m xs) d → ⊥
    by (yes p) none low told = let e = told.at_rest p ∙ ap (last_or (started_at mark n m d)) none in omega arith
    by (no p) none low told = (told.under-way p).0 none
