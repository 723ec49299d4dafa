-- The block of an assignment: a logged store at a cell or at an own word. The expression reads words in their range, which are
-- the same for the worker and for the reference machine, so that both store one value.
use Prim.Native.Nat.{ℕ, suc, ◌+◌, ◌-◌, ◌<◌}
use mathlib.Core.Path.{◌≡◌, refl, ap, subst, ◌∙◌, sym}
use mathlib.Core.Logic.{inr}
use mathlib.Core.Bool.{Bool, true, false, cond}
use mathlib.Core.List.{List, [], ◌∷◌, map}
use lib.ListN.{length, get_or, set, length-set}
use lib.Seq.{get_or-set_same, get_or-set_other}
use lib.Dec.{eqb, ltb}
use borrow.Author.Tests.{eq-eqb, ne_eqb, ltb-true, ltb-false}
use native.Mathlib.Omega.{arith}
use native.Mathlib.Numerals.{add-one}
use native.Mathlib.Decide.{ℕ_discrete}
use Rattle.image.specs.declared.Field.TheVariants.{Count}
use Rattle.image.specs.Place.{Place, cell, field, own, step, Memory}
use Rattle.image.specs.Inner.Same.{upd}
use Rattle.image.specs.Image.{at}
use Rattle.code.specs.declared.Expr.{Expr}
use Rattle.code.specs.declared.Op.TheVariants.{Assign}
use Rattle.code.specs.Op.{op_of, eval}
use Rattle.section.proofs.Held.{after-assign}
use Rattle.code.proofs.Ranges.{assign-range, expr-range}
use Rattle.working.specs.Cursor.{Cursor, on, cursor_at}
use Rattle.worklog.specs.Log.{operand, code_in, word_in, spare_addr}
use Rattle.worklog.proofs.Operands.{operand-valid}
use Rattle.claims.specs.Reference.{job, State, state, Given, start, read_in, onto, assigned}
use Rattle.claims.specs.Calls.{Traced, play}
use Rattle.claims.proofs.Invariant.{held_at}
use Rattle.claims.proofs.Fields.{quiet-spare-addr}
use Rattle.claims.proofs.Origins.{reads_kept}
use Rattle.claims.proofs.Ready.{step-behind}
use Rattle.told.proofs.OrderTurn.{View}
use Rattle.told.proofs.OrderLog.{turns_of, Logs, Wrote, log-turns}
use Rattle.told.proofs.OrderLevel.{helds_of, Works, Even, works-on, even-after}
use Rattle.told.proofs.OrderBlock.{Block, on-begun, turns-calls, turns-words, owning-kept, start-view, small, here, mine-held, reads-alike}
use Rattle.claims.proofs.Frame.{eval-same}

-- the words of a list after one changed, where a function changes alike
filled-alike : (l : List ℕ) (size i v : ℕ) (f : ℕ → ℕ) → length l ≡ size → ((j : ℕ) → j < size → get_or l j 0 ≡ f j) → (j : ℕ) → j < size
    → get_or (set l i v) j 0 ≡ cond (eqb j i) v (f j)
filled-alike l size i v f e h j g = by (ℕ_discrete j i)
  where
    by : Dec (j ≡ i) → get_or (set l i v) j 0 ≡ cond (eqb j i) v (f j)
    by (yes p) = rw (eq-eqb j i p, p) (get_or-set_same l i v 0 (rw (← p, e) g))
    by (no p) = rw (ne_eqb j i p) (get_or-set_other l i j v 0 p ∙ h j g)

module _
    (mark n D : ℕ) (w : Traced) (s : State) (gs : ℕ → List Given) (E : Even mark n D w s gs) (d : ℕ) (dl : d < D)
    (W : Works n (at n w.world.image) d (cursor_at w.world.cursors d) (get_or s.queues d []) (gs d))
    (a : ℕ) (x : Expr) (o : op_of (at n w.world.image (step d W.first.next)) ≡ Assign a x) where
  abbrev rd : Memory
  rd = at n w.world.image

  abbrev k : ℕ
  k = W.first.next

  abbrev cur : ℕ → Cursor
  cur = cursor_at w.world.cursors

  abbrev result : ℕ
  result = eval (word_in n rd d) x

  reach : a < 512 + n
  reach = assign-range n (rd (step d k)) a x (W.valid.ranges k W.below) o

  assign-logs : Logs n d k 0 (Assign a x) (operand d a) (λ (m : Memory). eval (word_in n m d) x) (on (k + 1) 0)
  assign-logs = record { address = λ m. refl; value = λ m. refl; pc = λ m. refl; target = λ m. refl; enough = omega arith; few = omega arith }

  assign-wrote : Wrote mark n D w rd d (operand d a) result (on (k + 1) 0) cur w.trace.taken
  assign-wrote =
      log-turns mark n D w rd d cur w.trace.taken k 0 (Assign a x) (operand d a) (λ (m : Memory). eval (word_in n m d) x) (on (k + 1) 0)
      (start-view mark n D w s gs E d dl W) dl
      (here mark n D w s gs E d dl W (Assign a x) o) assign-logs (operand-valid n d a D dl reach) (λ q. omega arith)
      (λ z. ap (λ (f : ℕ → ℕ). eval f x) (reads_kept n rd (upd rd (field (spare_addr n rd d) d) z) d (quiet-spare-addr n rd d z)))

  abbrev before : Memory
  before = assign-wrote.before

  assign-view : (p : Place) → operand d a ≡ p → View mark n D (play mark n (turns_of 4 d) w) (upd before p result) d (on (suc k) 0) cur w.trace.taken
  assign-view p e =
      subst (λ (q : Place). View mark n D (play mark n (turns_of 4 d) w) (upd before q result) d (on (suc k) 0) cur w.trace.taken) e
      (rw (add-one k) at assign-wrote.view)

  next-below : suc k < rd (field Count d)
  next-below = step-behind n (rd (field Count d)) (code_in n rd d) W.valid k (Assign a x) W.below o refl

  next-held : W.first.held ≡ held_at n rd d (suc k)
  next-held = W.held ∙ sym (after-assign (code_in n rd d) k a x o)

  -- the cell is the result
  to_cell : a < 512 → operand d a ≡ cell a
      → Even mark n D (play mark n (turns_of 4 d) w)
      (state (set s.cells a result) (set s.queues d (job W.first.code (suc k) W.first.own W.first.held ∷ map (start n) (gs d)))) gs
  to_cell l p =
      let N = assign-wrote.noted in
      even-after mark n D w s gs E d (play mark n (turns_of 4 d) w) (upd before (cell a) result) (on (suc k) 0) w.trace.taken gs (set s.cells a result) _
      (assign-view (cell a) p) dl (λ e h. refl)
      (λ e h. record { fields = N.fields e h; steps = N.steps e; owns = N.owns e })
      (inr (works-on n rd (upd before (cell a) result) d _ _ (gs d) W (suc k) W.first.own W.first.held N.count (N.steps d) N.number next-below
      W.size
      (λ i h. W.words i h ∙ sym (N.owns d i)) next-held (N.owned ∙ (W.owned ∙ sym W.held)) (N.intent ∙ (W.intent ∙ sym W.held))))
      (owning-kept D rd (upd before (cell a) result) (helds_of s.queues) d W.first.held N.locks (sym (mine-held mark n D w s gs E d dl W))
      E.level.owning)
      (length-set s.cells a result ∙ E.level.size)
      (filled-alike s.cells 512 a result (λ (y : ℕ). before (cell y)) E.level.size (λ y h. E.level.cells y h ∙ sym (N.cells y)))

  -- the own word is
  to-own : (i : ℕ) → i < n → operand d a ≡ own d i
      → Even mark n D (play mark n (turns_of 4 d) w)
      (onto s d (job W.first.code (suc k) (set W.first.own i result) W.first.held) (map (start n) (gs d))) gs
  to-own i l p =
      let N = assign-wrote.noted in
      even-after mark n D w s gs E d (play mark n (turns_of 4 d) w) (upd before (own d i) result) (on (suc k) 0) w.trace.taken gs s.cells _
      (assign-view (own d i) p) dl (λ e h. refl)
      (λ e h. record { fields = N.fields e h; steps = N.steps e; owns = λ j. rw (ne_eqb e d h) (N.owns e j) })
      (inr (works-on n rd (upd before (own d i) result) d _ _ (gs d) W (suc k) (set W.first.own i result) W.first.held N.count (N.steps d)
      N.number next-below
      (length-set W.first.own i result ∙ W.size)
      (λ j h. rw (eq-eqb d d refl) (filled-alike W.first.own n i result (λ (y : ℕ). before (own d y)) W.size (λ y g. W.words y g ∙ sym (N.owns d y)) j
      h))
      next-held (N.owned ∙ (W.owned ∙ sym W.held)) (N.intent ∙ (W.intent ∙ sym W.held))))
      (owning-kept D rd (upd before (own d i) result) (helds_of s.queues) d W.first.held N.locks (sym (mine-held mark n D w s gs E d dl W))
      E.level.owning)
      E.level.size
      (λ y h. E.level.cells y h ∙ sym (N.cells y))

  assign-even : Even mark n D (play mark n (turns_of 4 d) w) (assigned s d W.first (map (start n) (gs d)) a result) gs
  unfolding operand
  assign-even = by (ltb a 512) refl
    where
      by : (b : Bool) → ltb a 512 ≡ b
          → Even mark n D (play mark n (turns_of 4 d) w)
          (cond b (state (set s.cells a result) (set s.queues d (job W.first.code (suc k) W.first.own W.first.held ∷ map (start n) (gs d))))
          (onto s d (job W.first.code (suc k) (set W.first.own (a - 512) result) W.first.held) (map (start n) (gs d))))
          gs
      by true e = to_cell (ltb-true a 512 e) (rw e)
      by false e = let g = ltb-false a 512 e in let r = reach in to-own (a - 512) (omega arith) (rw e)

  pub assign-block : Block mark n D w d (assigned s d W.first (map (start n) (gs d)) a (eval (read_in s.cells W.first.own) x)) gs
  assign-block =
      let e : eval (read_in s.cells W.first.own) x ≡ result =
      eval-same n (held_at n rd d k) (read_in s.cells W.first.own) (word_in n rd d) (λ y c. reads-alike mark n D w s gs E d dl W y) x
      (W.valid.operands k a x W.below o) (expr-range n (rd (step d k)) a x (W.valid.ranges k W.below) o)
      in
      subst (λ (v : ℕ). Block mark n D w d (assigned s d W.first (map (start n) (gs d)) a v) gs) (sym e)
      (record {
        moves = turns_of 4 d;
        by-worker = turns-calls 4 d;
        words = turns-words 4 d (small mark n D w s gs E d dl W);
        even = assign-even;
        entered = assign-wrote.view.entered;
        others = assign-wrote.view.others;
        begun = on-begun _ (k + 1) assign-wrote.view.mine (omega arith);
      })
