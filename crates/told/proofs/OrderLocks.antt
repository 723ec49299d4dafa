-- The blocks of an acquire and of a release. An acquire that the reference machine allows finds its lock's owner word 0, since
-- a word that names a worker names one whose section holds the lock; and a release finds its worker's own number there.
use Prim.Native.Nat.{ℕ, suc, zero, ◌+◌, ◌<◌}
use mathlib.Core.Path.{◌≡◌, refl, ap, subst, ◌∙◌, sym}
use mathlib.Core.Logic.{◌≢◌, inr}
use mathlib.Core.Bool.{Bool, true, false, cond, true≢false}
use mathlib.Core.List.{List, [], ◌∷◌, map}
use lib.ListN.{get_or}
use lib.Dec.{eqb}
use borrow.Author.Tests.{lt-ltb, eq-eqb}
use native.Mathlib.Omega.{arith}
use native.Mathlib.Numerals.{add-one}
use Rattle.base.proofs.Bools.{or_left, or_right}
use Rattle.mask.specs.Mask.{has, with, without}
use Rattle.mask.proofs.Laws.{has-none}
use Rattle.image.specs.declared.Field.TheVariants.{Count, Intent, Owned}
use Rattle.image.specs.Place.{lock, field, step, Memory}
use Rattle.image.specs.Inner.Same.{upd}
use Rattle.image.specs.Image.{at}
use Rattle.image.proofs.Places.{upd_same}
use Rattle.code.specs.declared.Op.TheVariants.{Acquire, Release}
use Rattle.code.specs.Op.{op_of}
use Rattle.section.proofs.Held.{after-acquire, after-release}
use Rattle.code.proofs.Ranges.{acquire-range, release-range}
use Rattle.working.specs.Cursor.{Cursor, on, cursor_at}
use Rattle.worklog.specs.Log.{code_in}
use Rattle.plan.specs.Turn.{turn_at, stored, waiting, unlock_by}
use Rattle.plan.specs.declared.Report.{Report}
use Rattle.plan.proofs.Outcomes.{named-freed}
use Rattle.claims.specs.Reference.{Job, job, State, Given, start, held_in, taken, onto}
use Rattle.claims.specs.Events.{but}
use Rattle.claims.specs.Calls.{Traced, play}
use Rattle.claims.proofs.Invariant.{held_at}
use Rattle.claims.proofs.Turns.{takes, frees}
use Rattle.claims.proofs.LiveTurn.{Owning, touched-owning}
use Rattle.claims.proofs.Fields.{spare-addr-other}
use Rattle.claims.proofs.Ready.{turn-op, step-behind}
use Rattle.told.proofs.OrderTurn.{View, turn-stored}
use Rattle.told.proofs.OrderLog.{turns_of, Codes, codes_same, field-other, Logs, Wrote, log-turns}
use Rattle.told.proofs.OrderLevel.{held_of, helds_of, Works, Even, Beside, works-on, even-after}
use Rattle.told.proofs.OrderBlock.{Block, on-begun, turns-calls, turns-words, owning-same, start-view, small, here, mine-held}

-- ---- locks that no section holds

held_in_lem : (q : List Job) (b : ℕ) → has (held_of q) b ≡ held_in q b
held_in_lem [] b = has-none b
held_in_lem (j ∷ js) b = refl

not-held : (qs : List (List Job)) (b : ℕ) → taken qs b ≡ false → (d : ℕ) → has (helds_of qs d) b ≡ false
unfolding taken
not-held [] b e d = has-none b
not-held (q ∷ qs) b e zero = held_in_lem q b ∙ or_left (held_in q b) (taken qs b) e
not-held (q ∷ qs) b e (suc d) = not-held qs b (or_right (held_in q b) (taken qs b) e) d

-- their owner words are 0
pub lock-free : (D : ℕ) (rd : Memory) (qs : List (List Job)) (b : ℕ) → Owning D rd (helds_of qs) → b < 64 → taken qs b ≡ false → rd (lock b) ≡ 0
lock-free D rd qs b O l e = by (rd (lock b)) refl
  where
    by : (v : ℕ) → rd (lock b) ≡ v → v ≡ 0
    by zero h = refl
    by (suc v) h = absurd (true≢false (sym (O.owner b v l (h ∙ sym (add-one v))).1 ∙ not-held qs b e v))

module _
    (mark n D : ℕ) (w : Traced) (s : State) (gs : ℕ → List Given) (E : Even mark n D w s gs) (d : ℕ) (dl : d < D)
    (W : Works n (at n w.world.image) d (cursor_at w.world.cursors d) (get_or s.queues d []) (gs d)) where
  abbrev rd : Memory
  rd = at n w.world.image

  abbrev k : ℕ
  k = W.first.next

  abbrev cur : ℕ → Cursor
  cur = cursor_at w.world.cursors

  -- ---- an acquire

  module _ (a : ℕ) (o : op_of (rd (step d k)) ≡ Acquire a) (free : taken s.queues a ≡ false) where
    acquire-small : a < 64
    acquire-small = acquire-range n (rd (step d k)) a (W.valid.ranges k W.below) o

    zeroed : rd (lock a) ≡ 0
    zeroed = lock-free D rd s.queues a E.level.owning acquire-small free

    abbrev intended : Memory
    intended = upd rd (field Intent d) (with (rd (field Intent d)) a)

    abbrev locked : Memory
    locked = upd intended (lock a) (d + 1)

    intended-codes : Codes n intended d k (Acquire a)
    intended-codes = codes_same n rd intended d k (Acquire a) refl (λ i. refl) (here mark n D w s gs E d dl W (Acquire a) o)

    acquire-second : turn_at n intended d (on k 1) ≡ stored (lock a) (d + 1) (on k 2)
    acquire-second =
        let c = intended-codes in
        turn-op n intended d k 1 (Acquire a) c.valid c.below c.op (omega arith)
        ∙ ap (λ (b : Bool). cond b (stored (lock a) (d + 1) (on k 2)) (waiting a)) (eq-eqb (rd (lock a)) 0 zeroed)

    acquire-logs : Logs n d k 2 (Acquire a) (field Owned d) (λ (m : Memory). with (m (field Owned d)) a) (on (k + 1) 0)
    acquire-logs = record { address = λ m. refl; value = λ m. refl; pc = λ m. refl; target = λ m. refl; enough = omega arith; few = omega arith }

    acquire-wrote : Wrote mark n D (play mark n (turns_of 2 d) w) locked d (field Owned d) (with (rd (field Owned d)) a) (on (k + 1) 0) cur w.trace.taken
    unfolding play
    acquire-wrote =
        let c = here mark n D w s gs E d dl W (Acquire a) o in
        let v1 = turn-stored mark n D w rd d (on k 0) cur w.trace.taken (start-view mark n D w s gs E d dl W) dl (field Intent d)
        (with (rd (field Intent d)) a) (on k 1)
        (turn-op n rd d k 0 (Acquire a) c.valid c.below c.op (omega arith)) (lt-ltb d D dl) (λ q. omega arith) in
        let v2 = turn-stored mark n D _ intended d (on k 1) cur w.trace.taken v1 dl (lock a) (d + 1) (on k 2) acquire-second (lt-ltb a 64 acquire-small)
        (λ q. omega arith) in
        let c2 = codes_same n intended locked d k (Acquire a) refl (λ i. refl) intended-codes in
        log-turns mark n D _ locked d cur w.trace.taken k 2 (Acquire a) (field Owned d) (λ (m : Memory). with (m (field Owned d)) a) (on (k + 1) 0) v2 dl c2
        acquire-logs
        (lt-ltb d D dl) (λ q. omega arith) (λ z. ap (λ (m : ℕ). with m a) (spare-addr-other n locked d z Owned refl refl))

    abbrev acquired : Memory
    acquired = upd acquire-wrote.before (field Owned d) (with (rd (field Owned d)) a)

    acquire-view : View mark n D (play mark n (turns_of 6 d) w) acquired d (on (suc k) 0) cur w.trace.taken
    unfolding play
    acquire-view = rw (add-one k) at acquire-wrote.view

    grown : with W.first.held a ≡ held_at n rd d (suc k)
    grown = ap (λ (m : ℕ). with m a) W.held ∙ sym (after-acquire (code_in n rd d) k a o)

    acquire-works : Works n acquired d (on (suc k) 0) (job W.first.code (suc k) W.first.own (with W.first.held a) ∷ map (start n) (gs d)) (gs d)
    acquire-works =
        let N = acquire-wrote.noted in
        works-on n rd acquired d _ _ (gs d) W (suc k) W.first.own (with W.first.held a) N.count (N.steps d) N.number
        (step-behind n (rd (field Count d)) (code_in n rd d) W.valid k (Acquire a) W.below o refl) W.size (λ i l. W.words i l ∙ sym (N.owns d i))
        grown
        (upd_same acquire-wrote.before (field Owned d) (with (rd (field Owned d)) a) ∙ ap (λ (m : ℕ). with m a) (W.owned ∙ sym W.held))
        (N.intent ∙ (upd_same rd (field Intent d) (with (rd (field Intent d)) a) ∙ ap (λ (m : ℕ). with m a) (W.intent ∙ sym W.held)))

    acquire-beside : (e : ℕ) → e ≢ d → Beside rd acquired e
    acquire-beside e h =
        let N = acquire-wrote.noted in
        record {
          fields = λ f.
              field-other acquire-wrote.before d e Owned f (with (rd (field Owned d)) a) h ∙
              (N.fields e h f ∙ field-other rd d e Intent f (with (rd (field Intent d)) a) h);
          steps = λ i. N.steps e i;
          owns = λ i. N.owns e i;
        }

    acquire-owning : Owning D acquired (but (helds_of s.queues) d (with W.first.held a))
    acquire-owning =
        let t = touched-owning n D rd (helds_of s.queues) d (lock a) (d + 1) (with (helds_of s.queues d) a) dl E.level.owning
        (takes a acquire-small zeroed) in
        owning-same D (upd rd (lock a) (d + 1)) acquired _ acquire-wrote.noted.locks
        (subst (λ (m : ℕ). Owning D (upd rd (lock a) (d + 1)) (but (helds_of s.queues) d (with m a))) (mine-held mark n D w s gs E d dl W) t)

    pub acquire-block : Block mark n D w d (onto s d (job W.first.code (suc k) W.first.own (with W.first.held a)) (map (start n) (gs d))) gs
    acquire-block =
        record {
          moves = turns_of 6 d;
          by-worker = turns-calls 6 d;
          words = turns-words 6 d (small mark n D w s gs E d dl W);
          even =
              even-after mark n D w s gs E d (play mark n (turns_of 6 d) w) acquired (on (suc k) 0) w.trace.taken gs s.cells _ acquire-view dl
              (λ e h. refl) acquire-beside (inr acquire-works) acquire-owning
              E.level.size (λ x l. E.level.cells x l ∙ sym (acquire-wrote.noted.cells x));
          entered = acquire-view.entered;
          others = acquire-view.others;
          begun = on-begun _ (suc k) acquire-view.mine (omega arith);
        }

  -- ---- a release

  module _ (a : ℕ) (o : op_of (rd (step d k)) ≡ Release a) where
    release-small : a < 64
    release-small = release-range n (rd (step d k)) a (W.valid.ranges k W.below) o

    has-lock : has (helds_of s.queues d) a ≡ true
    has-lock = rw (mine-held mark n D w s gs E d dl W, W.held) (W.valid.releases k a W.below o)

    release-logs : Logs n d k 0 (Release a) (field Owned d) (λ (m : Memory). without (m (field Owned d)) a) (on k 4)
    release-logs = record { address = λ m. refl; value = λ m. refl; pc = λ m. refl; target = λ m. refl; enough = omega arith; few = omega arith }

    release-wrote : Wrote mark n D w rd d (field Owned d) (without (rd (field Owned d)) a) (on k 4) cur w.trace.taken
    release-wrote =
        log-turns mark n D w rd d cur w.trace.taken k 0 (Release a) (field Owned d) (λ (m : Memory). without (m (field Owned d)) a) (on k 4)
        (start-view mark n D w s gs E d dl W) dl
        (here mark n D w s gs E d dl W (Release a) o) release-logs (lt-ltb d D dl) (λ q. omega arith)
        (λ z. ap (λ (m : ℕ). without m a) (spare-addr-other n rd d z Owned refl refl))

    abbrev disowned : Memory
    disowned = upd release-wrote.before (field Owned d) (without (rd (field Owned d)) a)

    abbrev unlocked : Memory
    unlocked = upd disowned (lock a) 0

    abbrev released : Memory
    released = upd unlocked (field Intent d) (without (unlocked (field Intent d)) a)

    disowned-codes : Codes n disowned d k (Release a)
    disowned-codes =
        codes_same n rd disowned d k (Release a) release-wrote.noted.count (release-wrote.noted.steps d) (here mark n D w s gs E d dl W (Release a) o)

    release-fifth : turn_at n disowned d (on k 4) ≡ stored (lock a) 0 (on k 5)
    release-fifth =
        let c = disowned-codes in
        turn-op n disowned d k 4 (Release a) c.valid c.below c.op (omega arith)
        ∙ ap (λ (r : Report). unlock_by n disowned d a k r)
        (named-freed d (disowned (lock a)) (release-wrote.noted.locks a ∙ E.level.owning.locked a d release-small dl has-lock))

    release-view : View mark n D (play mark n (turns_of 6 d) w) released d (on (suc k) 0) cur w.trace.taken
    unfolding play
    release-view =
        let c = codes_same n disowned unlocked d k (Release a) refl (λ i. refl) disowned-codes in
        let v5 = turn-stored mark n D _ disowned d (on k 4) cur w.trace.taken release-wrote.view dl (lock a) 0 (on k 5) release-fifth
        (lt-ltb a 64 release-small) (λ q. omega arith) in
        rw (add-one k) at
        (turn-stored mark n D _ unlocked d (on k 5) cur w.trace.taken v5 dl (field Intent d) (without (unlocked (field Intent d)) a) (on (k + 1) 0)
        (turn-op n unlocked d k 5 (Release a) c.valid c.below c.op (omega arith)) (lt-ltb d D dl) (λ q. omega arith))

    shrunk : without W.first.held a ≡ held_at n rd d (suc k)
    shrunk = ap (λ (m : ℕ). without m a) W.held ∙ sym (after-release (code_in n rd d) k a o)

    release-works : Works n released d (on (suc k) 0) (job W.first.code (suc k) W.first.own (without W.first.held a) ∷ map (start n) (gs d)) (gs d)
    release-works =
        let N = release-wrote.noted in
        works-on n rd released d _ _ (gs d) W (suc k) W.first.own (without W.first.held a) N.count (N.steps d) N.number
        (step-behind n (rd (field Count d)) (code_in n rd d) W.valid k (Release a) W.below o refl) W.size (λ i l. W.words i l ∙ sym (N.owns d i))
        shrunk
        (upd_same release-wrote.before (field Owned d) (without (rd (field Owned d)) a) ∙ ap (λ (m : ℕ). without m a) (W.owned ∙ sym W.held))
        (upd_same unlocked (field Intent d) (without (unlocked (field Intent d)) a) ∙ ap (λ (m : ℕ). without m a) (N.intent ∙ (W.intent ∙ sym W.held)))

    release-beside : (e : ℕ) → e ≢ d → Beside rd released e
    release-beside e h =
        let N = release-wrote.noted in
        record {
          fields = λ f.
              field-other unlocked d e Intent f (without (unlocked (field Intent d)) a) h
              ∙ (field-other release-wrote.before d e Owned f (without (rd (field Owned d)) a) h ∙ N.fields e h f);
          steps = λ i. N.steps e i;
          owns = λ i. N.owns e i;
        }

    release-locks : (b : ℕ) → released (lock b) ≡ upd rd (lock a) 0 (lock b)
    release-locks b = ap (cond (eqb b a) 0) (release-wrote.noted.locks b)

    release-owning : Owning D released (but (helds_of s.queues) d (without W.first.held a))
    release-owning =
        let t = touched-owning n D rd (helds_of s.queues) d (lock a) 0 (without (helds_of s.queues d) a) dl E.level.owning
        (frees a release-small has-lock) in
        owning-same D (upd rd (lock a) 0) released _ release-locks
        (subst (λ (m : ℕ). Owning D (upd rd (lock a) 0) (but (helds_of s.queues) d (without m a))) (mine-held mark n D w s gs E d dl W) t)

    pub release-block : Block mark n D w d (onto s d (job W.first.code (suc k) W.first.own (without W.first.held a)) (map (start n) (gs d))) gs
    release-block =
        record {
          moves = turns_of 6 d;
          by-worker = turns-calls 6 d;
          words = turns-words 6 d (small mark n D w s gs E d dl W);
          even =
              even-after mark n D w s gs E d (play mark n (turns_of 6 d) w) released (on (suc k) 0) w.trace.taken gs s.cells _ release-view dl
              (λ e h. refl) release-beside (inr release-works) release-owning
              E.level.size (λ x l. E.level.cells x l ∙ sym (release-wrote.noted.cells x));
          entered = release-view.entered;
          others = release-view.others;
          begun = on-begun _ (suc k) release-view.mine (omega arith);
        }
