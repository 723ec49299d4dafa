-- The block of an instruction: the turns of one worker that stands before it, and the world level again with the reference
-- machine's state after it. No block leaves its worker before a section's first instruction, nor moves another worker. Here
-- what all instructions share, and the blocks of a jump and of a finish.
use Prim.Native.Nat.{ℕ, suc, zero, ◌+◌, ◌-◌, ◌^◌, ◌<◌}
use mathlib.Core.Path.{◌≡◌, refl, ap, subst, ◌∙◌, sym, fun_ext}
use mathlib.Core.Logic.{◌≢◌, inl, inr}
use mathlib.Core.Bool.{Bool, true, false, cond}
use mathlib.Core.List.{List, [], ◌∷◌, map}
use lib.ListN.{get_or, set}
use lib.Dec.{eqb, ltb}
use borrow.Author.Tests.{lt-ltb, eq-eqb, ltb-true, ltb-false}
use native.Mathlib.Omega.{arith}
use native.Mathlib.Numerals.{add-one}
use Rattle.base.proofs.Bools.{and_both}
use Rattle.image.specs.declared.Field.TheVariants.{Count, Pc, Number, Finished}
use Rattle.image.specs.Place.{cell, lock, field, own, step, Memory}
use Rattle.image.specs.Inner.Same.{upd}
use Rattle.image.specs.Image.{at}
use Rattle.image.proofs.Places.{upd_same}
use Rattle.code.specs.declared.Op.{Op}
use Rattle.code.specs.declared.Op.TheVariants.{Jump, Finish}
use Rattle.code.specs.Op.{op_of}
use Rattle.section.proofs.Held.{after-jump}
use Rattle.code.proofs.Ranges.{jump-range}
use Rattle.working.specs.Cursor.{Cursor, idle, on, cursor_at}
use Rattle.worklog.specs.Log.{operand, code_in, word_in}
use Rattle.plan.specs.Turn.{passed}
use Rattle.worklog.specs.declared.Passing.TheVariants.{Jump as PassedJump}
use Rattle.claims.specs.Reference.{job, State, state, Given, start, read_in, onto}
use Rattle.claims.specs.Events.{but}
use Rattle.claims.specs.Calls.{Traced, Move, play, machine}
use Rattle.claims.specs.Claims.{calls_of}
use Rattle.claims.proofs.Invariant.{held_at}
use Rattle.claims.proofs.LiveTurn.{Owning, but-self}
use Rattle.claims.proofs.Ready.{turn-op, step-behind, finish-free}
use Rattle.told.proofs.OrderTurn.{View, turn-stored, turn-jumped, view-few}
use Rattle.told.proofs.OrderLog.{turns_of, Codes, codes_same, field-other}
use Rattle.told.proofs.OrderLevel.{held_of, helds_of, Works, Even, works-on, even-view, even-after}

-- calls of worker d alone that lead from a world to one level with state t
pub record Block (mark n D : ℕ) (w : Traced) (d : ℕ) (t : State) (gs : ℕ → List Given) : Type 0 where
  pub moves : List Move
  pub by-worker : calls_of d moves ≡ true
  pub words : machine moves ≡ true
  pub even : Even mark n D (play mark n moves w) t gs
  pub entered : (play mark n moves w).trace.taken ≡ w.trace.taken
  pub others : (e : ℕ) → e ≢ d → cursor_at (play mark n moves w).world.cursors e ≡ cursor_at w.world.cursors e
  pub begun : cursor_at (play mark n moves w).world.cursors d ≢ on 0 0

pub idle-begun : (c : Cursor) → c ≡ idle → c ≢ on 0 0
idle-begun c e h = let z : ◌≡◌ {A = ℕ} 0 1 = cc in omega arith

pub on-begun : (c : Cursor) (k : ℕ) → c ≡ on k 0 → 0 < k → c ≢ on 0 0
on-begun c k e l h = let z : k ≡ 0 = cc in omega arith

pub turns-calls : (k d : ℕ) → calls_of d (turns_of k d) ≡ true
turns-calls zero d = refl
turns-calls (suc k) d = rw (eq-eqb d d refl) (turns-calls k d)

pub turns-words : (k d : ℕ) → d < 2 ^ 64 → machine (turns_of k d) ≡ true
unfolding machine
turns-words zero d l = refl
turns-words (suc k) d l = and_both (ltb d (2 ^ 64)) (machine (turns_of k d)) (lt-ltb d (2 ^ 64) l) (turns-words k d l)

-- ---- locks

pub owning-same : (D : ℕ) (rd rd' : Memory) (locks : ℕ → ℕ) → ((b : ℕ) → rd' (lock b) ≡ rd (lock b)) → Owning D rd locks → Owning D rd' locks
owning-same D rd rd' locks same O = record { locked = λ b d l p h. same b ∙ O.locked b d l p h; owner = λ b d l h. O.owner b d l (sym (same b) ∙ h) }

-- the owner words and what worker d holds stay
pub owning-kept : (D : ℕ) (rd rd' : Memory) (locks : ℕ → ℕ) (d m : ℕ) → ((b : ℕ) → rd' (lock b) ≡ rd (lock b)) → m ≡ locks d → Owning D rd locks
    → Owning D rd' (but locks d m)
owning-kept D rd rd' locks d m same e O =
    rw e (subst (Owning D rd') (sym (fun_ext (but-self locks d))) (owning-same D rd rd' locks same O))

-- sections that are not submitted hold nothing
pub waiting-held : (n : ℕ) (gs : List Given) → held_of (map (start n) gs) ≡ 0
waiting-held n [] = refl
waiting-held n (g ∷ gs) = refl

-- ---- a worker before an instruction

module _
    (mark n D : ℕ) (w : Traced) (s : State) (gs : ℕ → List Given) (E : Even mark n D w s gs) (d : ℕ) (dl : d < D)
    (W : Works n (at n w.world.image) d (cursor_at w.world.cursors d) (get_or s.queues d []) (gs d)) where
  abbrev rd : Memory
  rd = at n w.world.image

  abbrev k : ℕ
  k = W.first.next

  pub start-view : View mark n D w rd d (on k 0) (cursor_at w.world.cursors) w.trace.taken
  start-view = even-view mark n D w s gs E d (on k 0) W.cursor

  pub small : d < 2 ^ 64
  small = let f = view-few mark n D w rd d (on k 0) (cursor_at w.world.cursors) w.trace.taken start-view dl in omega arith

  pub here : (x : Op) → op_of (rd (step d k)) ≡ x → Codes n rd d k x
  here x o = record { valid = W.valid; below = W.below; op = o }

  pub mine-held : helds_of s.queues d ≡ W.first.held
  mine-held = ap held_of W.queue

  -- the reference machine reads what the worker does
  pub reads-alike : (x : ℕ) → x < 512 + n → read_in s.cells W.first.own x ≡ word_in n rd d x
  unfolding read_in operand
  reads-alike x l = by (ltb x 512) refl
    where
      by : (b : Bool) → ltb x 512 ≡ b → cond b (get_or s.cells x 0) (get_or W.first.own (x - 512) 0) ≡ rd (cond b (cell x) (own d (x - 512)))
      by true e = E.level.cells x (ltb-true x 512 e)
      by false e = let g = ltb-false x 512 e in W.words (x - 512) (omega arith)

  -- ---- a jump

  module _ (a b : ℕ) (o : op_of (rd (step d k)) ≡ Jump a b) where
    jump-below : (q : Bool) → cond q b (suc k) < rd (field Count d)
    jump-below true = (W.valid.jumps k a b W.below o).1
    jump-below false = step-behind n (rd (field Count d)) (code_in n rd d) W.valid k (Jump a b) W.below o refl

    jump-on : (q : Bool) → 0 < cond q b (suc k)
    jump-on true = let l = (W.valid.jumps k a b W.below o).0 in omega arith
    jump-on false = omega arith

    jump-held : (q : Bool) → held_at n rd d k ≡ held_at n rd d (cond q b (suc k))
    jump-held true = sym (W.valid.jumps k a b W.below o).2
    jump-held false = sym (after-jump (code_in n rd d) k a b o)

    private-cursor : (q : Bool) → cond q (on b 0) (on (k + 1) 0) ≡ on (cond q b (suc k)) 0
    private-cursor true = refl
    private-cursor false = rw (add-one k)

    jump_to : ℕ
    jump_to = cond (eqb (word_in n rd d a) 0) b (suc k)

    jump-view : View mark n D (play mark n (turns_of 1 d) w) rd d (on jump_to 0) (cursor_at w.world.cursors) w.trace.taken
    unfolding play jump_to
    jump-view =
        turn-jumped mark n D w rd d (on k 0) (cursor_at w.world.cursors) w.trace.taken start-view dl (on jump_to 0)
        (turn-op n rd d k 0 (Jump a b) W.valid W.below o (omega arith)
        ∙ ap (λ (c : Cursor). passed PassedJump c) (private-cursor (eqb (word_in n rd d a) 0)))
        (λ q. omega arith)

    jump-even : Even mark n D (play mark n (turns_of 1 d) w) (onto s d (job W.first.code jump_to W.first.own W.first.held) (map (start n) (gs d))) gs
    unfolding jump_to
    jump-even =
        let q = eqb (word_in n rd d a) 0 in
        even-after mark n D w s gs E d (play mark n (turns_of 1 d) w) rd (on jump_to 0) w.trace.taken gs s.cells
        (job W.first.code jump_to W.first.own W.first.held ∷ map (start n) (gs d))
        jump-view dl (λ e h. refl) (λ e h. record { fields = λ f. refl; steps = λ i. refl; owns = λ i. refl })
        (inr (works-on n rd rd d _ _ (gs d) W jump_to W.first.own W.first.held refl (λ i. refl) refl (jump-below q) W.size W.words
        (W.held ∙ jump-held q) (W.owned ∙ sym W.held) (W.intent ∙ sym W.held)))
        (owning-kept D rd rd (helds_of s.queues) d W.first.held (λ b. refl) (sym mine-held) E.level.owning)
        E.level.size E.level.cells

    pub jump-block :
        Block mark n D w d (onto s d (job W.first.code (cond (eqb (read_in s.cells W.first.own a) 0) b (suc k)) W.first.own W.first.held)
        (map (start n) (gs d))) gs
    unfolding jump_to
    jump-block =
        let r = reads-alike a (jump-range n (rd (step d k)) a b (W.valid.ranges k W.below) o) in
        rw r
        (record {
          moves = turns_of 1 d;
          by-worker = turns-calls 1 d;
          words = turns-words 1 d small;
          even = jump-even;
          entered = jump-view.entered;
          others = jump-view.others;
          begun = on-begun _ jump_to jump-view.mine (jump-on (eqb (word_in n rd d a) 0));
        })

  -- ---- a finish

  module _ (o : op_of (rd (step d k)) ≡ Finish) where
    finish-none : held_at n rd d k ≡ 0
    finish-none = finish-free n (rd (field Count d)) (code_in n rd d) W.valid k W.below o

    abbrev told : Memory
    told = upd rd (field Finished d) (rd (field Number d))

    abbrev undone : Memory
    undone = upd told (field Pc d) 0

    abbrev emptied : Memory
    emptied = upd undone (field Count d) 0

    finish-view : View mark n D (play mark n (turns_of 3 d) w) emptied d idle (cursor_at w.world.cursors) w.trace.taken
    unfolding play
    finish-view =
        let c = here Finish o in
        let c1 = codes_same n rd told d k Finish refl (λ i. refl) c in
        let c2 = codes_same n told undone d k Finish refl (λ i. refl) c1 in
        let cur = cursor_at w.world.cursors in
        let v1 = turn-stored mark n D w rd d (on k 0) cur w.trace.taken start-view dl (field Finished d) (rd (field Number d)) (on k 1)
        (turn-op n rd d k 0 Finish c.valid c.below c.op (omega arith)) (lt-ltb d D dl) (λ q. omega arith) in
        let v2 = turn-stored mark n D _ told d (on k 1) cur w.trace.taken v1 dl (field Pc d) 0 (on k 2)
        (turn-op n told d k 1 Finish c1.valid c1.below c1.op (omega arith)) (lt-ltb d D dl) (λ q. omega arith) in
        turn-stored mark n D _ undone d (on k 2) cur w.trace.taken v2 dl (field Count d) 0 idle
        (turn-op n undone d k 2 Finish c2.valid c2.below c2.op (omega arith)) (lt-ltb d D dl) tt

    finish-even : Even mark n D (play mark n (turns_of 3 d) w) (state s.cells (set s.queues d (map (start n) (gs d)))) gs
    finish-even =
        even-after mark n D w s gs E d (play mark n (turns_of 3 d) w) emptied idle w.trace.taken gs s.cells (map (start n) (gs d))
        finish-view dl (λ e h. refl)
        (λ e h. record {
          fields = λ f. field-other undone d e Count f 0 h ∙ (field-other told d e Pc f 0 h ∙ field-other rd d e Finished f (rd (field Number d)) h);
          steps = λ i. refl;
          owns = λ i. refl;
        })
        (inl (record {
          cursor = refl;
          queue = refl;
          count = upd_same undone (field Count d) 0;
          pc = upd_same told (field Pc d) 0;
          intent = W.intent ∙ finish-none;
          owned = W.owned ∙ finish-none;
          numbers = rw (upd_same rd (field Finished d) (rd (field Number d))) W.numbers;
          room = rw (upd_same rd (field Finished d) (rd (field Number d))) W.room;
        }))
        (owning-kept D rd emptied (helds_of s.queues) d (held_of (map (start n) (gs d))) (λ b. refl)
        (waiting-held n (gs d) ∙ sym (mine-held ∙ (W.held ∙ finish-none))) E.level.owning)
        E.level.size E.level.cells

    pub finish-block : Block mark n D w d (state s.cells (set s.queues d (map (start n) (gs d)))) gs
    finish-block =
        record {
          moves = turns_of 3 d;
          by-worker = turns-calls 3 d;
          words = turns-words 3 d small;
          even = finish-even;
          entered = finish-view.entered;
          others = finish-view.others;
          begun = idle-begun _ finish-view.mine;
        }
