-- Every release is accounted for (`AccountedAt`): at its target store and at its lock, the intent is what was held before it, or the worker was
-- resumed there, and has made the turns between alone since. Kept by every call (`accounted-keeps`): a worker's own turns come there from the
-- turn before, others change neither its record nor what concerns it, and a recovery is a loss.
use Prim.Native.Nat.{ℕ, ◌+◌, ◌<◌, ◌≤◌}
use mathlib.Core.Path.{◌≡◌, refl, sym, ap, subst, fun_ext, ◌∙◌}
use mathlib.Core.Logic.{◌≢◌, ◌⊎◌, inl, inr}
use mathlib.Core.Bool.{Bool, true, false, cond, not, ◌&&◌, and-false}
use mathlib.Core.List.{List, [], ◌∷◌, ◌++◌, append-nil, append_assoc}
use lib.Dec.{eqb}
use lib.ListN.{length}
use borrow.Author.Tests.{ne_eqb, eq-eqb}
use native.Mathlib.Omega.{arith}
use native.Mathlib.Decide.{ℕ_discrete}
use Rattle.std.specs.Prelude.{Ok}
use Rattle.image.specs.declared.Field.{Field}
use Rattle.image.specs.declared.Field.TheVariants.{Pc, Intent}
use Rattle.image.specs.Place.{Place, lock, field, step, Memory}
use Rattle.image.specs.Inner.Same.{same_field, upd}
use Rattle.image.specs.Image.{Image, at}
use Rattle.code.specs.declared.Op.{Op}
use Rattle.code.specs.declared.Op.TheVariants.{Acquire, Release, Assign, Jump, Finish, Unknown}
use Rattle.code.specs.Op.{op_of}
use Rattle.worklog.specs.Log.{code_in}
use Rattle.working.specs.Cursor.{Cursor, idle, on, step_no, turn_no, cursor_at}
use Rattle.plan.specs.Turn.{Outcome, stored, passed, waiting, resting, refused, turn_at}
use Rattle.owed.specs.Owed.{named_step, named_op}
use Rattle.resuming.specs.Resumed.{target_turn, resumed}
use Rattle.claims.specs.Reference.{given}
use Rattle.claims.specs.Events.{Event, taken, moved, waited, recorded, ended, lost, but}
use Rattle.claims.specs.Calls.{Traced, is_pc, step_of, store_events, turn_by, Move, from}
use Rattle.claims.proofs.Invariant.{op_at, held_at}
use Rattle.claims.proofs.Turns.{Touches, in_record, own_word, own_cell, takes, frees, Stepped}
use Rattle.claims.proofs.Entries.{apart_of}
use Rattle.claims.proofs.LiveTurn.{but_same, but-other}
use Rattle.claims.proofs.Worlds.{Running}
use Rattle.claims.proofs.Settling.{steps}
use Rattle.claims.proofs.Submitting.{on-not-idle}
use Rattle.claims.proofs.Cursors.{idle-at}
use Rattle.claims.proofs.Submission.{Aside}
use Rattle.claims.proofs.Called.{TakenAs}
use Rattle.claims.proofs.Played.{Worth}
use Rattle.claims.proofs.Moves.{args-full}
use Rattle.told.specs.Reports.{concerns, concerning, SinceLoss}
use Rattle.told.proofs.Keeping.{next_turn, Fed, submitted, recovered, Keeps}
use Rattle.told.proofs.Behind.{turn_memory, turn_cursor, turned-memory, turned-cursors, submitted-aside, submitted-cursors, recovered-cursors}
use Rattle.told.proofs.Reading.{store_keeps}
use Rattle.told.proofs.Resuming.{Onto, Onward, turn-onward, same_step, is_intent, Releases, turn-releases, near-intent}

-- ---- what concerns a worker

pub concerning-append : (d : ℕ) (xs ys : List Event) → concerning d (xs ++ ys) ≡ concerning d xs ++ concerning d ys
concerning-append d [] ys = refl
concerning-append d (x ∷ xs) ys = by (concerns d x) (concerning d (xs ++ ys)) (concerning d xs) (concerning-append d xs ys)
  where
    by : (b : Bool) (l r : List Event) → l ≡ r ++ concerning d ys → cond b (x ∷ l) l ≡ cond b (x ∷ r) r ++ concerning d ys
    by true l r e = ap (λ (k : List Event). x ∷ k) e
    by false l r e = e

-- more events, of which these concern the worker
more-since : (d : ℕ) (mine es more : List Event) → SinceLoss d mine es → SinceLoss d (mine ++ concerning d more) (es ++ more)
more-since d mine es more x =
    record {
      before = x.before;
      behind = x.behind ++ more;
      split = ap (λ (l : List Event). l ++ more) x.split ∙ append_assoc x.before (lost ∷ x.behind) more;
      alone = concerning-append d x.behind more ∙ ap (λ (l : List Event). l ++ concerning d more) x.alone;
    }

lost-since : (d : ℕ) (es : List Event) → SinceLoss d [] (es ++ (lost ∷ []))
lost-since d es = record { before = es; behind = []; split = refl; alone = refl }

-- ---- the events of a turn

-- every one of them is worker d's
abbrev Own : ℕ → List Event → Type 0
Own d es = (e : ℕ) → e ≢ d → concerning e es ≡ []

module _ (mark n : ℕ) (w : Traced) (d : ℕ) where
  abbrev pub events_by : Outcome → List Event
  events_by (stored p v c) = store_events mark n w d p v
  events_by (passed why c) = moved d (step_of mark n w d) ∷ []
  events_by (waiting b) = waited d b ∷ []
  events_by resting = []
  events_by (refused r) = []

  pub events-by : (o : Outcome) → (turn_by mark n w d o).trace.events ≡ w.trace.events ++ events_by o
  events-by (stored p v c) =
      ap (λ (l : List Event). l ++ store_events mark n w d p v)
      (store_keeps w.trace d (is_pc p && not (eqb w.world.left 0)) (eqb (at n w.world.image (field Pc d)) 0)).2
  events-by (passed why c) = refl
  events-by (waiting b) = refl
  events-by resting = sym (append-nil w.trace.events)
  events-by (refused r) = sym (append-nil w.trace.events)

  own-store : (e : ℕ) → e ≢ d → (q pc z : Bool) (s : ℕ) → concerning e (cond q [] (moved d s ∷ cond pc (cond z (ended d) (recorded d s) ∷ []) [])) ≡ []
  own-store e i true pc z s = refl
  own-store e i false false z s = rw (ne_eqb d e (λ q. i (sym q)))
  own-store e i false true true s = rw (ne_eqb d e (λ q. i (sym q)))
  own-store e i false true false s = rw (ne_eqb d e (λ q. i (sym q)))

  pub own-by : (o : Outcome) → Own d (events_by o)
  own-by (stored p v c) e i = own-store e i (eqb w.world.left 0) (is_pc p) (eqb v 0) (step_of mark n w d)
  own-by (passed why c) e i = rw (ne_eqb d e (λ q. i (sym q)))
  own-by (waiting b) e i = rw (ne_eqb d e (λ q. i (sym q)))
  own-by resting e i = refl
  own-by (refused r) e i = refl

  -- a store that is made, and is none of the pc
  stored-own : (p : Place) (v : ℕ) → 0 < w.world.left → is_pc p ≡ false → concerning d (store_events mark n w d p v) ≡ moved d (step_of mark n w d) ∷ []
  stored-own p v l e = rw (ne_eqb w.world.left 0 (λ q. omega arith), e, eq-eqb d d refl)

  passed-own : (s : ℕ) → concerning d (moved d s ∷ []) ≡ moved d s ∷ []
  passed-own s = rw (eq-eqb d d refl)

-- ---- one worker

-- the intent is what was held before step s
abbrev pub Intact : ℕ → Memory → ℕ → ℕ → Type 0
Intact n rd d s = rd (field Intent d) ≡ held_at n rd d s

-- worker d at cursor c, with these events so far
pub record AccountedAt (n : ℕ) (rd : Memory) (d : ℕ) (c : Cursor) (es : List Event) : Type 0 where
  pub target : (s a : ℕ) → c ≡ on s 3 → op_at n rd d s ≡ Release a → Intact n rd d s ⊎ SinceLoss d [] es
  pub lock : (s a : ℕ) → c ≡ on s 4 → op_at n rd d s ≡ Release a → Intact n rd d s ⊎ SinceLoss d (moved d s ∷ []) es

-- the same instructions
op_same : (n : ℕ) (rd rd' : Memory) (d : ℕ) → code_in n rd' d ≡ code_in n rd d → (s a : ℕ) → op_at n rd' d s ≡ Release a → op_at n rd d s ≡ Release a
op_same n rd rd' d k s a o = ap (λ (f : ℕ → ℕ). op_of (f s)) (sym k) ∙ o

-- where its intent and instructions are the same, and no event more concerns it
module _ (n : ℕ) (rd rd' : Memory) (d : ℕ) (i : rd' (field Intent d) ≡ rd (field Intent d)) (k : code_in n rd' d ≡ code_in n rd d) where
  intact-same : (s : ℕ) → Intact n rd d s → Intact n rd' d s
  intact-same s e = rw (i, k) e

  since-same :
      (s : ℕ) (mine es more : List Event) → concerning d more ≡ [] → Intact n rd d s ⊎ SinceLoss d mine es
      → Intact n rd' d s ⊎ SinceLoss d mine (es ++ more)
  since-same s mine es more h (inl e) = inl (intact-same s e)
  since-same s mine es more h (inr x) =
      inr (subst (λ (l : List Event). SinceLoss d l (es ++ more)) (ap (λ (l : List Event). mine ++ l) h ∙ append-nil mine) (more-since d mine es more x))

  accounted-same : (c : Cursor) (es more : List Event) → concerning d more ≡ [] → AccountedAt n rd d c es → AccountedAt n rd' d c (es ++ more)
  accounted-same c es more h x =
      record {
        target = λ s a q o. since-same s [] es more h (x.target s a q (op_same n rd rd' d k s a o));
        lock = λ s a q o. since-same s (moved d s ∷ []) es more h (x.lock s a q (op_same n rd rd' d k s a o));
      }

-- a turn's store changes no instruction, and of another worker no intent
pub touch-code : (n : ℕ) (rd : Memory) (d locks : ℕ) (p : Place) (v l : ℕ) → Touches n rd d locks p v l → (e : ℕ) → code_in n (upd rd p v) e ≡ code_in n rd e
touch-code n rd d locks _ _ _ (in_record f v) e = refl
touch-code n rd d locks _ _ _ (own_word i v b) e = refl
touch-code n rd d locks _ _ _ (own_cell x v b h) e = refl
touch-code n rd d locks _ _ _ (takes a b z) e = refl
touch-code n rd d locks _ _ _ (frees a b z) e = refl

-- it leaves the fields of others
pub touch-other :
    (n : ℕ) (rd : Memory) (d locks : ℕ) (p : Place) (v l : ℕ) → Touches n rd d locks p v l → (e : ℕ) → e ≢ d → (f : Field)
    → upd rd p v (field f e) ≡ rd (field f e)
touch-other n rd d locks _ _ _ (in_record h v) e i f = rw (ne_eqb e d i, and-false (same_field f h))
touch-other n rd d locks _ _ _ (own_word j v b) e i f = refl
touch-other n rd d locks _ _ _ (own_cell x v b h) e i f = refl
touch-other n rd d locks _ _ _ (takes a b z) e i f = refl
touch-other n rd d locks _ _ _ (frees a b z) e i f = refl

-- ---- its own turn

module _ (mark n D : ℕ) (cells : List ℕ) (w : Traced) (d : ℕ) (r : Running mark n D cells w) (dl : d < D) where
  abbrev rd : Memory
  rd = at n w.world.image

  abbrev cursor : Cursor
  cursor = cursor_at w.world.cursors d

  abbrev es : List Event
  es = w.trace.events

  -- the events of a turn at a release's target store
  one_more : (s : ℕ) (more : List Event) → concerning d more ≡ moved d s ∷ [] → SinceLoss d [] es → SinceLoss d (moved d s ∷ []) (es ++ more)
  one_more s more h x = subst (λ (l : List Event). SinceLoss d l (es ++ more)) h (more-since d [] es more x)

  module _ (k t : ℕ) (q : cursor ≡ on k t) (x : AccountedAt n rd d (on k t) es) where
    intact : (s a : ℕ) → (s ≡ k) × (3 ≡ t + 1) → op_at n rd d s ≡ Release a → Intact n rd d s
    intact s a (e, f) o =
        near-intent n rd d (w.trace.last d) cursor (r.locks d) (w.trace.jumps d) (r.live.phase d dl) s t a (q ∙ ap (λ (i : ℕ). on i t) (sym e))
        (omega arith) o

    -- a turn that goes on, to a memory with the same instructions, and up to the lock with the same intent
    goes_on :
        (rd' : Memory) (more : List Event) → code_in n rd' d ≡ code_in n rd d
        → ((a : ℕ) → op_at n rd d k ≡ Release a → t < 4 → rd' (field Intent d) ≡ rd (field Intent d))
        → ((a : ℕ) → op_at n rd d k ≡ Release a → t ≡ 3 → concerning d more ≡ moved d k ∷ [])
        → (c : Cursor) → Onto k t c → AccountedAt n rd' d c (es ++ more)
    goes_on rd' more code intent own idle u =
        record { target = λ s a e o. absurd (on-not-idle s _ (sym e)); lock = λ s a e o. absurd (on-not-idle s _ (sym e)) }
    goes_on rd' more code intent own (on i j) u = record { target = to-target; lock = to-lock }
      where
        to-target : (s a : ℕ) → on i j ≡ on s 3 → op_at n rd' d s ≡ Release a → Intact n rd' d s ⊎ SinceLoss d [] (es ++ more)
        to-target s a e o =
            let (f, g) = same_step e in
            let (h, m) = u (λ z. omega arith) in
            let here : s ≡ k = sym f ∙ h in
            let old = op_same n rd rd' d code s a o in
            let same = intent a (subst (λ (b : ℕ). op_at n rd d b ≡ Release a) here old) (omega arith) in
            inl (intact-same n rd rd' d same code s (intact s a (here, omega arith) old))

        to-lock : (s a : ℕ) → on i j ≡ on s 4 → op_at n rd' d s ≡ Release a → Intact n rd' d s ⊎ SinceLoss d (moved d s ∷ []) (es ++ more)
        to-lock s a e o =
            let (f, g) = same_step e in
            let (h, m) = u (λ z. omega arith) in
            let here : s ≡ k = sym f ∙ h in
            let three : t ≡ 3 = omega arith in
            let old = op_same n rd rd' d code s a o in
            let at-k = subst (λ (b : ℕ). op_at n rd d b ≡ Release a) here old in
            let same = intent a at-k (omega arith) in
            by same (own a at-k three) here (x.target s a (rw (here, three)) old)
          where
            by :
                rd' (field Intent d) ≡ rd (field Intent d) → concerning d more ≡ moved d k ∷ [] → s ≡ k → Intact n rd d s ⊎ SinceLoss d [] es
                → Intact n rd' d s ⊎ SinceLoss d (moved d s ∷ []) (es ++ more)
            by same one here (inl y) = inl (intact-same n rd rd' d same code s y)
            by same one here (inr y) = inr (one_more s more (one ∙ ap (λ (b : ℕ). moved d b ∷ []) (sym here)) y)

    -- by the outcome
    own-outcome :
        (o : Outcome) → Onward k t o → ((a : ℕ) → op_at n rd d k ≡ Release a → Releases t o)
        → Stepped n rd d (w.trace.last d) (r.locks d) (w.trace.jumps d) o → Fed w o
        → AccountedAt n (turn_memory rd o) d (turn_cursor (on k t) o) (es ++ events_by mark n w d o)
    own-outcome (stored p v c) u rel (l, touch, ph) fed =
        goes_on (upd rd p v) (store_events mark n w d p v) (touch-code n rd d (r.locks d) p v l touch d)
        (λ a o b. rw (apart_of is_intent (field Intent d) p refl ((rel a o).0 b)))
        (λ a o b. stored-own mark n w d p v (fed refl) ((rel a o).1 b) ∙ ap (λ (i : Cursor). moved d (step_no i) ∷ []) q) c u
    own-outcome (passed why c) u rel ph fed =
        goes_on rd (moved d (step_of mark n w d) ∷ []) refl (λ a o b. refl)
        (λ a o b. passed-own mark n w d (step_of mark n w d) ∙ ap (λ (i : Cursor). moved d (step_no i) ∷ []) q) c u
    own-outcome (waiting b) u rel y fed =
        record { target = λ s a e o. absurd (never s a (ap step_no e) o); lock = λ s a e o. absurd (never s a (ap step_no e) o) }
      where
        never : (s a : ℕ) → k ≡ s → op_at n rd d s ≡ Release a → ⊥
        never s a e o = rel a (rw e o)
    own-outcome resting u rel y fed = rw append-nil x
    own-outcome (refused f) u rel y fed = absurd y

  own-accounted :
      AccountedAt n rd d cursor es → Fed w (next_turn n w d)
      → AccountedAt n (turn_memory rd (next_turn n w d)) d (turn_cursor cursor (next_turn n w d)) (es ++ events_by mark n w d (next_turn n w d))
  unfolding turn_at
  own-accounted x fed = by cursor refl x (steps mark n D cells w d r dl) fed
    where
      by :
          (c : Cursor) → cursor ≡ c → AccountedAt n rd d c es → Stepped n rd d (w.trace.last d) (r.locks d) (w.trace.jumps d) (turn_at n rd d c)
          → Fed w (turn_at n rd d c)
          → AccountedAt n (turn_memory rd (turn_at n rd d c)) d (turn_cursor c (turn_at n rd d c)) (es ++ events_by mark n w d (turn_at n rd d c))
      by idle q y st f = rw append-nil y
      by (on k t) q y st f = own-outcome k t q y (turn_at n rd d (on k t)) (turn-onward n rd d k t) (λ a o. turn-releases n rd d k a o t) st f

  -- ---- another's

  other-accounted :
      (e : ℕ) → e ≢ d → (c : Cursor) (o : Outcome) → Stepped n rd d (w.trace.last d) (r.locks d) (w.trace.jumps d) o → AccountedAt n rd e c es
      → AccountedAt n (turn_memory rd o) e c (es ++ events_by mark n w d o)
  other-accounted e i c (stored p v c') (l, touch, ph) x =
      accounted-same n rd (upd rd p v) e (touch-other n rd d (r.locks d) p v l touch e i Intent) (touch-code n rd d (r.locks d) p v l touch e) c es _
      (own-by mark n w d (stored p v c') e i) x
  other-accounted e i c (passed why c') s x = accounted-same n rd rd e refl refl c es _ (own-by mark n w d (passed why c') e i) x
  other-accounted e i c (waiting b) s x = accounted-same n rd rd e refl refl c es _ (own-by mark n w d (waiting b) e i) x
  other-accounted e i c resting s x = accounted-same n rd rd e refl refl c es _ (own-by mark n w d resting e i) x
  other-accounted e i c (refused f) s x = accounted-same n rd rd e refl refl c es _ (own-by mark n w d (refused f) e i) x

-- ---- every call

target-other : (x : Op) → target_turn x ≢ 4
target-other (Acquire a) e = omega arith
target-other (Release a) e = omega arith
target-other (Assign a f) e = omega arith
target-other (Jump a b) e = omega arith
target-other Finish e = omega arith
target-other Unknown e = omega arith

resumed-other : (n : ℕ) (rd : Memory) (d s : ℕ) → resumed n rd d ≡ on s 4 → ⊥
unfolding resumed
resumed-other n rd d s e = by (eqb (rd (field Pc d)) 0) e
  where
    by : (b : Bool) → cond b idle (on (named_step n rd d) (target_turn (named_op n rd d))) ≡ on s 4 → ⊥
    by true q = on-not-idle s 4 (sym q)
    by false q = target-other (named_op n rd d) (ap turn_no q)

module _ (mark n D : ℕ) (cells : List ℕ) where
  abbrev pub Accounted : Traced → Type 0
  Accounted w = (e : ℕ) → e < D → AccountedAt n (at n w.world.image) e (cursor_at w.world.cursors e) w.trace.events

  turn-accounted :
      (w : Traced) (d : ℕ) → Running mark n D cells w → d < D → Fed w (next_turn n w d) → Accounted w → Accounted (turn_by mark n w d (next_turn n w d))
  turn-accounted w d r dl fed x e l =
      let o = next_turn n w d in
      rw (turned-memory mark n D cells w d r dl fed, turned-cursors mark n D cells w d r dl e l, events-by mark n w d o) (by (ℕ_discrete e d))
    where
      by :
          Dec (e ≡ d)
          → AccountedAt n (turn_memory (at n w.world.image) (next_turn n w d)) e
          (but (cursor_at w.world.cursors) d (turn_cursor (cursor_at w.world.cursors d) (next_turn n w d)) e)
          (w.trace.events ++ events_by mark n w d (next_turn n w d))
      by (yes i) = rw (i, but_same (cursor_at w.world.cursors) d (turn_cursor (cursor_at w.world.cursors d) (next_turn n w d)))
          (own-accounted mark n D cells w d r dl (x d dl) fed)
      by (no i) = rw (but-other (cursor_at w.world.cursors) d (turn_cursor (cursor_at w.world.cursors d) (next_turn n w d)) e i)
          (other-accounted mark n D cells w d r dl e i (cursor_at w.world.cursors e) (next_turn n w d) (steps mark n D cells w d r dl) (x e l))

  module _
      (w : Traced) (d k : ℕ) (args ws : List ℕ) (wide : 8 ≤ n) (eight : length args ≡ 8) (r : Running mark n D cells w)
      (t : TakenAs mark n w.world d k ws) where
    submitted-accounted : Accounted w → Accounted (submitted mark n w d k args ws (Ok tt))
    submitted-accounted x e l = rw (submitted-cursors mark n D cells w d k args ws wide eight r t e l) (by (ℕ_discrete e d))
      where
        behind : Memory
        behind = at n (submitted mark n w d k args ws (Ok tt)).world.image

        aside : Aside d (at n w.world.image) behind
        aside = submitted-aside mark n D cells w d k args ws wide eight r t

        by : Dec (e ≡ d) → AccountedAt n behind e (but (cursor_at w.world.cursors) d (on 0 0) e) (w.trace.events ++ (taken (given d k args ws) ∷ []))
        by (yes i) =
            rw (i, but_same (cursor_at w.world.cursors) d (on 0 0))
            (record { target = λ s a q o. let z = ap turn_no q in absurd (omega arith); lock = λ s a q o. let z = ap turn_no q in absurd (omega arith) })
        by (no i) =
            let code = fun_ext (λ j. aside (step e j) (rw (ne_eqb e d i))) in
            rw (but-other (cursor_at w.world.cursors) d (on 0 0) e i)
            (accounted-same n (at n w.world.image) behind e (aside (field Intent e) refl) code (cursor_at w.world.cursors e) w.trace.events _
            (rw (ne_eqb d e (λ q. i (sym q)))) (x e l))

  recovered-accounted : (w : Traced) → Worth mark n D cells w → Accounted (recovered mark n w)
  recovered-accounted w k e l =
      record {
        target = λ s a q o. inr (lost-since e w.trace.events);
        lock = λ s a q o. absurd (resumed-other n (at n w.world.image) e s (sym (recovered-cursors mark n D cells w k e l) ∙ q));
      }

  -- to begin with all are idle
  pub idle-accounted : (m : Image) → Accounted (from m)
  idle-accounted m e l =
      let none = idle-at e in
      record { target = λ s a q o. absurd (on-not-idle s _ (sym q ∙ none)); lock = λ s a q o. absurd (on-not-idle s _ (sym q ∙ none)) }

  -- of what a cut leaves nothing need be known
  pub accounted-keeps : 8 ≤ n → (A : Move → Image → Type 0) → Keeps mark n D cells Accounted (λ (w : Traced). Unit {0}) A
  accounted-keeps wide A =
      record {
        turn = turn-accounted;
        still = λ w d o z c. tt;
        worth = λ w x. tt;
        lend = λ k w x. x;
        lend-cut = λ k w c. tt;
        submit = λ w d k args ws r h t left a x. submitted-accounted w d k args ws wide (args-full d k args ws h) r t x;
        submit-cut = λ w j d k args ws r h t a x. tt;
        recover = λ w k left a c. recovered-accounted w k;
        recover-cut = λ w j k a c. tt;
        cut_off = λ w c. tt;
      }
