-- A world level with a state of the reference machine, as it is between the blocks of an order: a worker is idle, and its
-- queue is of sections not yet submitted (`Idles`); or it stands before an instruction of the queue's first, which its record
-- holds word by word (`Works`). The sections not yet submitted bear the numbers that come next. The owner words name who holds
-- the locks, and the cells are the state's. A change of one worker's words, of its queue and of the cells keeps the others as
-- they are (`even-after`). Where no worker has just submitted (`AllBegun`), each stands where the claims say (`even-stands`).
use Prim.Native.Nat.{ℕ, ◌+◌, ◌^◌, ◌<◌}
use mathlib.Core.Path.{◌≡◌, refl, ap, subst, ◌∙◌, sym, fun_ext}
use mathlib.Core.Logic.{◌≢◌, ◌⊎◌, inl, inr}
use mathlib.Core.Bool.{true}
use mathlib.Core.List.{List, [], ◌∷◌, map}
use lib.ListN.{length, get_or, set, length-set}
use lib.Seq.{get_or-set_same, get_or-set_other}
use borrow.Author.Tests.{ne_eqb}
use native.Mathlib.Decide.{ℕ_discrete}
use Rattle.image.specs.declared.Field.{Field}
use Rattle.image.specs.declared.Field.TheVariants.{Count, Pc, Intent, Owned, Number, Finished}
use Rattle.image.specs.Place.{cell, field, own, step, Memory}
use Rattle.image.specs.Image.{at, workers, header_ok}
use Rattle.section.specs.Valid.{Valid}
use Rattle.section.proofs.Held.{held-cong}
use Rattle.working.specs.Cursor.{Cursor, idle, on, cursor_at}
use Rattle.worklog.specs.Log.{code_in}
use Rattle.working.proofs.Placed.{Full}
use Rattle.claims.specs.Reference.{Job, job, State, state, Given, start}
use Rattle.claims.specs.Events.{but}
use Rattle.claims.specs.Calls.{Traced}
use Rattle.claims.specs.Claims.{numbered, cursor_of}
use Rattle.claims.proofs.Invariant.{held_at}
use Rattle.claims.proofs.LiveTurn.{Owning, but_same, but-other}
use Rattle.told.proofs.OrderTurn.{View}
use Rattle.told.proofs.OrderLog.{valid_same}

-- what a queue's first holds
abbrev pub held_of : List Job → ℕ
held_of [] = 0
held_of (j ∷ js) = j.held

-- what each worker's queue's first holds
abbrev pub helds_of : List (List Job) → ℕ → ℕ
helds_of qs d = held_of (get_or qs d [])

module _ (n : ℕ) (rd : Memory) (d : ℕ) where
  -- worker d has no section: those of its queue are not yet submitted
  pub record Idles (c : Cursor) (q : List Job) (gs : List Given) : Type 0 where
    pub cursor : c ≡ idle
    pub queue : q ≡ map (start n) gs
    pub count : rd (field Count d) ≡ 0
    pub pc : rd (field Pc d) ≡ 0
    pub intent : rd (field Intent d) ≡ 0
    pub owned : rd (field Owned d) ≡ 0
    pub numbers : gs ≡ numbered (rd (field Finished d)) gs
    pub room : rd (field Finished d) + length gs < 2 ^ 64

  -- worker d stands before an instruction of its queue's first
  pub record Works (c : Cursor) (q : List Job) (gs : List Given) : Type 0 where
    pub first : Job
    pub cursor : c ≡ on first.next 0
    pub queue : q ≡ first ∷ map (start n) gs
    pub valid : Valid n (rd (field Count d)) (code_in n rd d)
    pub below : first.next < rd (field Count d)
    pub code : (i : ℕ) → i < rd (field Count d) → get_or first.code i 0 ≡ rd (step d i)
    pub size : length first.own ≡ n
    pub words : (i : ℕ) → i < n → get_or first.own i 0 ≡ rd (own d i)
    pub owned : rd (field Owned d) ≡ held_at n rd d first.next
    pub intent : rd (field Intent d) ≡ held_at n rd d first.next
    pub held : first.held ≡ held_at n rd d first.next
    pub numbers : gs ≡ numbered (rd (field Number d)) gs
    pub room : rd (field Number d) + length gs < 2 ^ 64

  abbrev pub Stand : Cursor → List Job → List Given → Type 0
  Stand c q gs = Idles c q gs ⊎ Works c q gs

-- a memory level with a state, the sections not yet submitted being gs
pub record Level (n D : ℕ) (rd : Memory) (cur : ℕ → Cursor) (s : State) (gs : ℕ → List Given) : Type 0 where
  pub stands : (d : ℕ) → d < D → Stand n rd d (cur d) (get_or s.queues d []) (gs d)
  pub owning : Owning D rd (helds_of s.queues)
  pub size : length s.cells ≡ 512
  pub cells : (x : ℕ) → x < 512 → get_or s.cells x 0 ≡ rd (cell x)
  pub many : length s.queues ≡ D

-- a world level with a state
pub record Even (mark n D : ℕ) (w : Traced) (s : State) (gs : ℕ → List Given) : Type 0 where
  pub header : header_ok mark n w.world.image ≡ true
  pub many : workers w.world.image ≡ D
  pub full : Full w.world.cursors
  pub level : Level n D (at n w.world.image) (cursor_at w.world.cursors) s gs

-- ---- where the workers stand

-- no worker is before a section's first instruction
abbrev pub AllBegun : Traced → Type 0
AllBegun w = (e : ℕ) → cursor_at w.world.cursors e ≢ on 0 0

-- sections that are not submitted have no cursor
waiting-cursor : (n : ℕ) (gs : List Given) → cursor_of (map (start n) gs) ≡ idle
waiting-cursor n [] = refl
waiting-cursor n (g ∷ gs) = refl

pub even-stands :
    (mark n D : ℕ) (w : Traced) (s : State) (gs : ℕ → List Given) → Even mark n D w s gs → AllBegun w → (e : ℕ) → e < D
    → cursor_at w.world.cursors e ≡ cursor_of (get_or s.queues e [])
even-stands mark n D w s gs E begun e l = by (E.level.stands e l)
  where
    by :
        Stand n (at n w.world.image) e (cursor_at w.world.cursors e) (get_or s.queues e []) (gs e)
        → cursor_at w.world.cursors e ≡ cursor_of (get_or s.queues e [])
    by (inl i) = i.cursor ∙ sym (ap cursor_of i.queue ∙ waiting-cursor n (gs e))
    by (inr x) =
        let later : x.first.next ≢ 0 = λ z. begun e (x.cursor ∙ ap (λ (k : ℕ). on k 0) z) in
        x.cursor ∙ sym (ap cursor_of x.queue ∙ rw (ne_eqb x.first.next 0 later))

-- ---- the memories are alike in what worker e's standing looks at

pub record Beside (rd rd' : Memory) (e : ℕ) : Type 0 where
  pub fields : (f : Field) → rd' (field f e) ≡ rd (field f e)
  pub steps : (i : ℕ) → rd' (step e i) ≡ rd (step e i)
  pub owns : (i : ℕ) → rd' (own e i) ≡ rd (own e i)

pub stand-same : (n : ℕ) (rd rd' : Memory) (e : ℕ) (c : Cursor) (q : List Job) (gs : List Given) → Beside rd rd' e → Stand n rd e c q gs → Stand n rd' e c q gs
stand-same n rd rd' e c q gs b (inl i) =
    inl (record {
      cursor = i.cursor;
      queue = i.queue;
      count = b.fields Count ∙ i.count;
      pc = b.fields Pc ∙ i.pc;
      intent = b.fields Intent ∙ i.intent;
      owned = b.fields Owned ∙ i.owned;
      numbers = rw (b.fields Finished) i.numbers;
      room = rw (b.fields Finished) i.room;
    })
stand-same n rd rd' e c q gs b (inr w) =
    inr (record {
      first = w.first;
      cursor = w.cursor;
      queue = w.queue;
      valid = valid_same n rd rd' e (b.fields Count) b.steps w.valid;
      below = rw (b.fields Count) w.below;
      code = λ i l. w.code i (rw (b.fields Count) at l) ∙ sym (b.steps i);
      size = w.size;
      words = λ i l. w.words i l ∙ sym (b.owns i);
      owned = b.fields Owned ∙ (w.owned ∙ sym (held-cong (code_in n rd' e) (code_in n rd e) w.first.next (λ j l. b.steps j)));
      intent = b.fields Intent ∙ (w.intent ∙ sym (held-cong (code_in n rd' e) (code_in n rd e) w.first.next (λ j l. b.steps j)));
      held = w.held ∙ sym (held-cong (code_in n rd' e) (code_in n rd e) w.first.next (λ j l. b.steps j));
      numbers = rw (b.fields Number) w.numbers;
      room = rw (b.fields Number) w.room;
    })

-- ---- the section goes on at step k, with these own words and locks

module _ (n : ℕ) (rd rd' : Memory) (d : ℕ) (c : Cursor) (q : List Job) (gs : List Given) (w : Works n rd d c q gs) where
  pub works-on :
      (k : ℕ) (ow : List ℕ) (h : ℕ) → rd' (field Count d) ≡ rd (field Count d) → ((i : ℕ) → rd' (step d i) ≡ rd (step d i))
      → rd' (field Number d) ≡ rd (field Number d)
      → k < rd (field Count d) → length ow ≡ n → ((i : ℕ) → i < n → get_or ow i 0 ≡ rd' (own d i)) → h ≡ held_at n rd d k → rd' (field Owned d) ≡ h → rd'
      (field Intent d) ≡ h
      → Works n rd' d (on k 0) (job w.first.code k ow h ∷ map (start n) gs) gs
  works-on k ow h count steps number below size words held owned intent =
      let same = held ∙ sym (held-cong (code_in n rd' d) (code_in n rd d) k (λ j l. steps j)) in
      record {
        first = job w.first.code k ow h;
        cursor = refl;
        queue = refl;
        valid = valid_same n rd rd' d count steps w.valid;
        below = rw count below;
        code = λ i l. w.code i (rw count at l) ∙ sym (steps i);
        size = size;
        words = words;
        owned = owned ∙ same;
        intent = intent ∙ same;
        held = same;
        numbers = rw number w.numbers;
        room = rw number w.room;
      }

-- ---- a change of one worker

private-held :
    (D : ℕ) (qs : List (List Job)) (d : ℕ) (q : List Job) → length qs ≡ D → d < D → (e : ℕ) → but (helds_of qs) d (held_of q) e ≡ helds_of (set qs d q) e
private-held D qs d q many dl e = by (ℕ_discrete e d)
  where
    by : Dec (e ≡ d) → but (helds_of qs) d (held_of q) e ≡ helds_of (set qs d q) e
    by (yes p) = rw p (but_same (helds_of qs) d (held_of q) ∙ ap held_of (sym (get_or-set_same qs d q [] (rw many dl))))
    by (no p) = but-other (helds_of qs) d (held_of q) e p ∙ ap held_of (sym (get_or-set_other qs d e q [] p))

pub level-but :
    (n D : ℕ) (rd rd' : Memory) (cur cur' : ℕ → Cursor) (s : State) (gs gs' : ℕ → List Given) (d : ℕ) (cells : List ℕ) (q : List Job)
    → Level n D rd cur s gs → d < D → ((e : ℕ) → e ≢ d → cur' e ≡ cur e) → ((e : ℕ) → e ≢ d → gs' e ≡ gs e) → ((e : ℕ) → e ≢ d → Beside rd rd' e)
    → Stand n rd' d (cur' d) q (gs' d) → Owning D rd' (but (helds_of s.queues) d (held_of q)) → length cells ≡ 512 →
    ((x : ℕ) → x < 512 → get_or cells x 0 ≡ rd' (cell x))
    → Level n D rd' cur' (state cells (set s.queues d q)) gs'
level-but n D rd rd' cur cur' s gs gs' d cells q L dl curs rests beside mine O size same =
    record {
      stands = λ e l. by e l (ℕ_discrete e d);
      owning = subst (Owning D rd') (fun_ext (private-held D s.queues d q L.many dl)) O;
      size = size;
      cells = same;
      many = length-set s.queues d q ∙ L.many;
    }
  where
    by : (e : ℕ) → e < D → Dec (e ≡ d) → Stand n rd' e (cur' e) (get_or (set s.queues d q) e []) (gs' e)
    by e l (yes p) =
        subst (λ (f : ℕ). Stand n rd' f (cur' f) (get_or (set s.queues d q) f []) (gs' f)) (sym p)
        (rw (get_or-set_same s.queues d q [] (rw L.many dl)) mine)
    by e l (no p) =
        rw (get_or-set_other s.queues d e q [] p, curs e p, rests e p)
        (stand-same n rd rd' e (cur e) (get_or s.queues e []) (gs e) (beside e p) (L.stands e l))

-- ---- from views to worlds and back

module _ (mark n D : ℕ) (w : Traced) (s : State) (gs : ℕ → List Given) (E : Even mark n D w s gs) (d : ℕ) where
  pub even-view : (c : Cursor) → cursor_at w.world.cursors d ≡ c
      → View mark n D w (at n w.world.image) d c (cursor_at w.world.cursors) w.trace.taken
  even-view c e = record { header = E.header; many = E.many; full = E.full; memory = refl; mine = e; others = λ f h. refl; entered = refl }

  pub even-after :
      (v : Traced) (rd' : Memory) (c : Cursor) (taken : List Given) (gs' : ℕ → List Given) (cells : List ℕ) (q : List Job)
      → View mark n D v rd' d c (cursor_at w.world.cursors) taken → d < D → ((e : ℕ) → e ≢ d → gs' e ≡ gs e) →
      ((e : ℕ) → e ≢ d → Beside (at n w.world.image) rd' e)
      → Stand n rd' d c q (gs' d) → Owning D rd' (but (helds_of s.queues) d (held_of q)) → length cells ≡ 512 →
      ((x : ℕ) → x < 512 → get_or cells x 0 ≡ rd' (cell x))
      → Even mark n D v (state cells (set s.queues d q)) gs'
  even-after v rd' c taken gs' cells q view dl rests beside mine O size same =
      record {
        header = view.header;
        many = view.many;
        full = view.full;
        level = subst (λ (m : Memory). Level n D m (cursor_at v.world.cursors) (state cells (set s.queues d q)) gs') (sym view.memory)
            (level-but n D (at n w.world.image) rd' (cursor_at w.world.cursors) (cursor_at v.world.cursors) s gs gs' d cells q E.level dl
            view.others rests beside
            (rw view.mine mine) O size same);
      }
