-- What a planner may be told, after any list of calls and cuts from an image at rest: each section taken is begun at most once
-- (`once-always`), the records tell which (`told-always`), and so do the answers about a number (`asked-always`). From what every call
-- keeps of the records (`Telling`) and of the events (`Reading`).
use Prim.Native.Nat.{ℕ, suc, ◌<◌, ◌≤◌}
use mathlib.Core.Path.{◌≡◌, refl, sym, ap, subst, ◌∙◌}
use mathlib.Core.Logic.{◌≢◌, ◌⊎◌, inl, inr, ⊎_elim}
use mathlib.Core.Bool.{Bool, true, false, false≢true}
use mathlib.Core.List.{List, [], ◌∷◌, ◌++◌}
use mathlib.Core.Option.{some}
use lib.ListN.{get_or}
use lib.Dec.{leb}
use borrow.Author.Tests.{eq-eqb, ne_eqb, le-leb}
use native.Mathlib.Omega.{arith}
use native.Mathlib.Decide.{ℕ_discrete}
use Rattle.image.specs.declared.Field.TheVariants.{Count, Pc, Number, Finished as FinishedField}
use Rattle.image.specs.Place.{field, Memory}
use Rattle.image.specs.Image.{Image, at, workers, cells_of}
use Rattle.code.specs.declared.Op.{Op}
use Rattle.code.specs.declared.Op.TheVariants.{Acquire, Release, Assign, Jump, Finish, Unknown}
use Rattle.code.specs.Op.{op_of, is_finish}
use Rattle.worklog.specs.Log.{code_in}
use Rattle.owed.specs.Owed.{named_step, entry_ok}
use Rattle.soundness.specs.Sound.{section_ok, pc_ok}
use Rattle.asking.specs.declared.Standing.TheVariants.{NotBegun, Begun, Finished}
use Rattle.asking.specs.Asking.{standing_in}
use Rattle.claims.specs.Reference.{Job, State, follow, initial}
use Rattle.told.specs.Readings.{taken_in, read_from}
use Rattle.claims.specs.Calls.{Traced, Move, from, legal, machine}
use Rattle.claims.specs.Claims.{Rested, admissible, after, mended, working}
use Rattle.told.specs.Once.{rising, last_or, among, OnceAlways, ToldAlways, AskedAlways, begun_by, started_at, pc_of, number_of, finished_of}
use Rattle.claims.proofs.Invariant.{op_at}
use Rattle.claims.proofs.Ready.{step-behind}
use Rattle.claims.proofs.Covers.{crashed-parts}
use Rattle.claims.proofs.Accepted.{ok-sectioned, ok_named}
use Rattle.told.proofs.Writes.{FinishNext}
use Rattle.claims.proofs.Pending.{pend-idle}
use Rattle.claims.proofs.Cursors.{idle-at}
use Rattle.claims.proofs.Played.{Worth}
use Rattle.claims.proofs.Durable.{Admitted}
use Rattle.told.proofs.Admitted.{begun-admitted}
use Rattle.told.proofs.Keeping.{Keeps}
use Rattle.told.proofs.FromRest.{Any, kept-list, kept-settled}
use Rattle.told.proofs.Numbers.{last_snoc, rising-front, among-bounds, among-snoc, among-behind, rising-last}
use Rattle.told.proofs.Recorded.{TellsAt}
use Rattle.told.proofs.Telling.{pending, Tells, Telling, telling-keeps}
use Rattle.told.proofs.Events.{begun-within}
use Rattle.told.proofs.Reading.{ReadOff, ReadsOff, reading-keeps}

-- ---- one worker's answers, by what its record tells

module _ (n f : ℕ) (bs : List ℕ) (rd : Memory) (d : ℕ) (t : TellsAt n f bs rd d) where
  abbrev pc : ℕ
  pc = rd (field Pc d)

  abbrev number : ℕ
  number = rd (field Number d)

  abbrev finished : ℕ
  finished = rd (field FinishedField d)

  -- what is begun and not the section under way is finished
  pub finished-others : (k : ℕ) → among k bs ≡ true → (pc ≡ 0) ⊎ (number ≢ k) → k ≤ finished
  finished-others k a (inl z) = let b = (among-bounds f bs k t.numbers.rises a).1 in let e = t.numbers.rests z in omega arith
  finished-others k a (inr z) = by (ℕ_discrete pc 0)
    where
      by : Dec (pc ≡ 0) → k ≤ finished
      by (yes p) = let b = (among-bounds f bs k t.numbers.rises a).1 in let e = t.numbers.rests p in omega arith
      by (no p) =
          let (before, e, fin) = t.numbers.works p in
          let r : rising f (before ++ (number ∷ [])) ≡ true = subst (λ (l : List ℕ). rising f l ≡ true) e t.numbers.rises in
          let last = rising-last f before number r in
          ⊎_elim
          (λ q. let b = (among-bounds f before k (rising-front f before (number ∷ []) r) q).1 in ⊎_elim (λ x. omega arith) (λ x. omega arith) fin)
          (λ q. absurd (z q))
          (among-snoc before number k (subst (λ (l : List ℕ). among k l ≡ true) e a))

  -- where the pc is not 0, the record's number is begun
  under-way-begun : pc ≢ 0 → among number bs ≡ true
  under-way-begun p = let (before, e, fin) = t.numbers.works p in rw e (among-behind number before [])

  pub stands-finished : (k : ℕ) → k ≤ finished → standing_in rd d k ≡ Finished
  stands-finished k l = rw (le-leb k finished l)

  stands-either : (k : ℕ) → among k bs ≡ true → (standing_in rd d k ≡ Begun) ⊎ (standing_in rd d k ≡ Finished)
  stands-either k a = by (leb k finished) refl (ℕ_discrete pc 0) (ℕ_discrete number k)
    where
      by : (b : Bool) → leb k finished ≡ b → Dec (pc ≡ 0) → Dec (number ≡ k) → (standing_in rd d k ≡ Begun) ⊎ (standing_in rd d k ≡ Finished)
      by true e p q = inr (rw e)
      by false e (yes p) q = inr (stands-finished k (finished-others k a (inl p)))
      by false e (no p) (no q) = inr (stands-finished k (finished-others k a (inr q)))
      by false e (no p) (yes q) = inl (rw (e, ne_eqb pc 0 p, eq-eqb number k q))

  stands-begun : (k : ℕ) → standing_in rd d k ≡ Begun → among k bs ≡ true
  stands-begun k h = by (leb k finished) refl (ℕ_discrete pc 0) (ℕ_discrete number k)
    where
      by : (b : Bool) → leb k finished ≡ b → Dec (pc ≡ 0) → Dec (number ≡ k) → among k bs ≡ true
      by true e p q = let z : ◌≡◌ {A = ℕ} 0 1 = cc in absurd (omega arith)
      by false e (yes p) q = let z : ◌≡◌ {A = ℕ} 0 1 = cc in absurd (omega arith)
      by false e (no p) (no q) =
          let s : NotBegun ≡ Begun = rw (e, ne_eqb pc 0 p, ne_eqb number k q) at h in
          let z : ◌≡◌ {A = ℕ} 0 1 = cc in
          absurd (omega arith)
      by false e (no p) (yes q) = rw (← q) (under-way-begun p)

  stands-not : (k : ℕ) → standing_in rd d k ≡ NotBegun → among k bs ≡ false
  stands-not k h = by (among k bs) refl
    where
      by : (b : Bool) → among k bs ≡ b → b ≡ false
      by false e = refl
      by true e =
          ⊎_elim (λ s. let z : ◌≡◌ {A = ℕ} 0 1 = cc in absurd (omega arith)) (λ s. let z : ◌≡◌ {A = ℕ} 0 1 = cc in absurd (omega arith)) (stands-either k e)

  -- a section under way that is told to be finished is the one whose number is
  finished-number : pc ≢ 0 → number ≤ finished → finished ≡ number
  finished-number p l =
      let (before, e, fin) = t.numbers.works p in
      let last = rising-last f before number (subst (λ (l : List ℕ). rising f l ≡ true) e t.numbers.rises) in
      ⊎_elim (λ x. absurd (omega arith)) (λ x. x) fin

-- the step behind the one that the pc names is one of the section, where a recovery accepts the record
entry-goes-on : (n : ℕ) (rd : Memory) (d : ℕ) (x : Op) → entry_ok n rd d x ≡ true → is_finish x ≡ false
entry-goes-on n rd d (Acquire a) h = refl
entry-goes-on n rd d (Release a) h = refl
entry-goes-on n rd d (Assign a e) h = refl
entry-goes-on n rd d (Jump a b) h = refl
entry-goes-on n rd d Finish h = absurd (false≢true h)
entry-goes-on n rd d Unknown h = absurd (false≢true h)

recorded-behind :
    (n : ℕ) (rd : Memory) (d : ℕ) → section_ok n rd d ≡ true → pc_ok n rd d ≡ true → rd (field Pc d) ≢ 0
    → suc (named_step n rd d) < rd (field Count d)
recorded-behind n rd d s k p =
    let z = ne_eqb (rd (field Pc d)) 0 p in
    let sec = ok-sectioned n rd d s z in
    let o = ok_named n rd d k z in
    let i = named_step n rd d in
    let x = op_at n rd d i in
    step-behind n (rd (field Count d)) (code_in n rd d) sec.valid i x o.below refl (entry-goes-on n rd d x o.entry)

-- ---- at the start

module _ (mark n : ℕ) (m : Image) (rest : Rested mark n m) where
  -- the finished numbers
  abbrev pub starts : ℕ → ℕ
  starts d = at n m (field FinishedField d)

  rest-pending : (e : ℕ) → pending mark n (workers m) (cells_of m) (from m) e ≡ false
  rest-pending e = rw (idle-at e) (pend-idle (at n m (field Pc e)))

  pub rest-telling : (Q : ℕ → ℕ → ℕ → Type 0) (above : (e f k : ℕ) → Q e f k → f < k) → Telling mark n (workers m) (cells_of m) starts Q above (from m)
  rest-telling Q above =
      record {
        tells = λ e l.
            let z = (rest.empty e l).1 in
            record { numbers = record { rises = refl; rests = λ p. refl; works = λ p. absurd (p z) }; closing = λ p q. absurd (p z) };
        newer = λ e l h. absurd (false≢true (sym (rest-pending e) ∙ h));
      }

  rest-reads : ReadsOff mark n (workers m) (cells_of m) (from m)
  unfolding read_from taken_in
  rest-reads = record { off = record { submits = refl; begins = refl; admits = refl }; waits = λ e l. rw (rest-pending e) }

-- ---- the theorems

module _ (mark n : ℕ) (wide : 8 ≤ n) (narrow : n ≤ 64) where
  -- a section's number is above the finished one
  abbrev Above : ℕ → ℕ → ℕ → Type 0
  Above e f k = f < k

  module _ (m : Image) (rest : Rested mark n m) (xs : List Move) (h : machine xs ≡ true) (l : legal false xs ≡ true) where
    abbrev D : ℕ
    D = workers m

    abbrev w : Traced
    w = after mark n m xs

    -- behind a recovery, where a cut ends the list, and the moves ys
    abbrev settled : List Move → Traced
    settled ys = after mark n m (mended mark n xs ++ ys)

    abbrev Ledger : Traced → Type 0
    Ledger = Telling mark n D (cells_of m) (starts mark n m rest) Above (λ e f k q. q)

    abbrev Tell : Traced → Type 0
    Tell = Tells mark n D (cells_of m) (starts mark n m rest) Above (λ e f k q. q)

    start-told : Ledger (from m)
    start-told = rest-telling mark n m rest Above (λ e f k q. q)

    keeps-telling : Keeps mark n D (cells_of m) Ledger Tell Any
    keeps-telling = telling-keeps mark n D (cells_of m) (starts mark n m rest) Above (λ e f k q. q) Any (λ i d k args ws a q. q) wide narrow

    told-list : Worth mark n D (cells_of m) w × Tell w
    told-list = kept-list mark n wide narrow m rest _ _ keeps-telling start-told xs h l

    tells-list : (d : ℕ) → d < D → TellsAt n (started_at mark n m d) (begun_by mark n w d) (at n w.world.image) d
    tells-list d k = told-list.1 d k

    pub tells-settled :
        (ys : List Move) → working ys ≡ true → (d : ℕ) → d < D
        → TellsAt n (started_at mark n m d) (begun_by mark n (settled ys) d) (at n (settled ys).world.image) d
    tells-settled ys y d k = (kept-settled mark n wide narrow m rest _ _ keeps-telling start-told xs h l ys y).1.tells d k

    reads-list : ReadOff mark n D (cells_of m) w
    reads-list = (kept-list mark n wide narrow m rest _ _ (reading-keeps mark n D (cells_of m) wide narrow) (rest-reads mark n m rest) xs h l).1

    reads-settled : (ys : List Move) → working ys ≡ true → ReadOff mark n D (cells_of m) (settled ys)
    reads-settled ys y =
        (kept-settled mark n wide narrow m rest _ _ (reading-keeps mark n D (cells_of m) wide narrow) (rest-reads mark n m rest) xs h l ys y).1.off

    -- only its finish is left of a section that is told to be finished with the pc not 0
    to-finish :
        (d : ℕ) → d < D → pc_of mark n w d ≢ 0 → number_of mark n w d ≤ finished_of mark n w d
        → (s : State)
        × (j : Job)
        × (follow (initial n D (cells_of m) w.trace.begun) w.trace.order ≡ some s)
        × (get_or s.queues d [] ≡ j ∷ [])
        × (op_of (get_or j.code j.next 0) ≡ Finish)
    to-finish d k p f =
        let W = told-list.0 in
        let rd = at n w.world.image in
        let t = tells-list d k in
        let next : FinishNext n rd d = t.closing p (finished-number n _ _ rd d t p f) in
        let (j, queue, J) = W.reached.mirrors.some d k p in
        let below = recorded-behind n rd d ((crashed-parts n D rd W.crashed).section d k) ((crashed-parts n D rd W.crashed).pc d k) p in
        (W.reached.state, j, W.reached.followed, queue, rw J.next (ap op_of (J.code (suc (named_step n rd d)) below) ∙ next))

  pub once-always : OnceAlways mark n
  unfolding OnceAlways
  once-always m rest xs h l =
      let r = reads-list m rest xs h l in
      record {
        submitted = r.submits;
        read = r.begins;
        within = λ d. rw (r.submits, r.begins) (begun-within (after mark n m xs).trace.events d);
        rises = λ d k. (tells-list m rest xs h l d k).numbers.rises;
      }

  pub asked-always : AskedAlways mark n
  unfolding AskedAlways
  asked-always m rest xs h l d k dl =
      let t = tells-list m rest xs h l d dl in
      let rd = at n (after mark n m xs).world.image in
      record { not-begun = stands-not n _ _ rd d t k; begun = stands-begun n _ _ rd d t k; either = stands-either n _ _ rd d t k }

  pub told-always : ToldAlways mark n
  unfolding ToldAlways
  told-always m rest xs h l d k =
      let t = tells-list m rest xs h l d k in
      record {
        at_rest = t.numbers.rests;
        under-way = λ p.
            let (before, e, fin) = t.numbers.works p in
            (some-begun before _ _ e, sym (last_snoc _ before _) ∙ ap (last_or (started_at mark n m d)) (sym e));
        to-finish = to-finish m rest xs h l d k;
      }
    where
      some-begun : (before bs : List ℕ) (k : ℕ) → bs ≡ before ++ (k ∷ []) → bs ≢ []
      some-begun [] bs k e z = let q : ◌≡◌ {A = ℕ} 0 1 = cc in omega arith
      some-begun (x ∷ before) bs k e z = let q : ◌≡◌ {A = ℕ} 0 1 = cc in omega arith

  -- every section begun is admissible, after any list and when all is settled
  pub admitted-list :
      (m : Image) (rest : Rested mark n m) (xs : List Move) → machine xs ≡ true → legal false xs ≡ true
      → admissible mark n (workers m) (after mark n m xs).trace.begun ≡ true
  admitted-list m rest xs h l =
      let r = reads-list m rest xs h l in
      rw r.begins (begun-admitted mark n (workers m) (after mark n m xs).trace.events (rw r.submits at r.admits))

  pub admitted-always : Admitted mark n
  admitted-always m rest xs ys h l y =
      let r = reads-settled m rest xs h l ys y in
      rw r.begins (begun-admitted mark n (workers m) (after mark n m (mended mark n xs ++ ys)).trace.events (rw r.submits at r.admits))
