-- Why a release passes. A report comes from a release's lock turn whose lock is not the worker's; with the intent as before the release it would
-- be, so the worker was resumed at it (`reports-explained`, by `Accounting`). With no cut and no recovery there is no loss: every release frees
-- its lock, and no turn reports (`releases-free`).
use Prim.Native.Nat.{ℕ, suc, ◌+◌, ◌%◌, ◌^◌, ◌<◌, ◌≤◌}
use mathlib.Core.Path.{◌≡◌, refl, sym, ap, subst, ◌∙◌}
use mathlib.Core.Logic.{◌≢◌, ◌⊎◌, inl, inr}
use mathlib.Core.Bool.{false, false≢true}
use mathlib.Core.List.{List, [], ◌∷◌, ◌++◌}
use lib.Dec.{ltb}
use borrow.Author.Tests.{ltb-false, ne_eqb}
use native.Mathlib.Omega.{arith}
use Rattle.image.specs.declared.Field.TheVariants.{Pc}
use Rattle.image.specs.Place.{lock, field, Memory}
use Rattle.image.specs.Image.{at, workers, cells_of}
use Rattle.code.specs.declared.Op.TheVariants.{Release}
use Rattle.worklog.specs.declared.Passing.{Passing}
use Rattle.worklog.specs.declared.Passing.TheVariants.{Jump, AlreadyFree, Others}
use Rattle.working.specs.Cursor.{Cursor, idle, on, step_no, cursor_at}
use Rattle.plan.specs.Turn.{stored, passed, unlock_by, turn_at}
use Rattle.plan.proofs.Outcomes.{named-freed}
use Rattle.turn.specs.Call.{outcome}
use Rattle.claims.specs.Reference.{given}
use Rattle.claims.specs.Events.{Event, taken, moved, lost}
use Rattle.claims.specs.Calls.{Traced, from}
use Rattle.claims.proofs.Invariant.{op_at}
use Rattle.claims.proofs.Worlds.{Running}
use Rattle.claims.proofs.Resting.{rested-running}
use Rattle.claims.proofs.Called.{dl}
use Rattle.claims.proofs.Moves.{args-full, plain-legal}
use Rattle.claims.proofs.Played.{outcome-below, outcome-above}
use Rattle.told.specs.Moments.{moment}
use Rattle.told.specs.Reports.{concerning, SinceLoss, Explained, ReportsExplained, Frees, Quiet, ReleasesFree}
use Rattle.told.proofs.Keeping.{next_turn, Fed, Keeps}
use Rattle.told.proofs.FromRest.{Any, any-sorted, Plain, plain-sorted}
use Rattle.told.proofs.Collecting.{uncut-each}
use Rattle.told.proofs.Resuming.{ReportsAt, turn-reports, AtLock, at-lock}
use Rattle.told.proofs.Accounting.{Intact, Accounted, idle-accounted, accounted-keeps, concerning-append, events_by, events-by, own-by}

-- ---- a report is explained

module _ (mark n D : ℕ) (cells : List ℕ) (w : Traced) (d : ℕ) (r : Running mark n D cells w) (dl : d < D) (x : Accounted mark n D cells w) where
  abbrev rd : Memory
  rd = at n w.world.image

  abbrev cursor : Cursor
  cursor = cursor_at w.world.cursors d

  at-the-lock : (s a : ℕ) → cursor ≡ on s 4 → op_at n rd d s ≡ Release a → AtLock n rd d (w.trace.last d) s a (r.locks d)
  at-the-lock s a q o = at-lock n rd d (w.trace.last d) cursor (r.locks d) (w.trace.jumps d) (r.live.phase d dl) s a q o

  -- with the intent as it was, the lock is the worker's
  intact-mine : (s a : ℕ) → cursor ≡ on s 4 → op_at n rd d s ≡ Release a → Intact n rd d s → rd (lock a) ≡ d + 1
  intact-mine s a q o i = let h = at-the-lock s a q o in r.live.locked a d h.range dl (h.mine i)

  reported :
      (s t : ℕ) (why : Passing) (c : Cursor) → cursor ≡ on s t → turn_at n rd d (on s t) ≡ passed why c → why ≢ Jump
      → (rd (field Pc d) % 2 ^ 63 ≡ suc s) × SinceLoss d (moved d s ∷ []) w.trace.events
  reported s t why c q e j =
      let (a, o, four, other) = subst (ReportsAt n rd d s t) e (turn-reports n rd d s t) j in
      let at-four = q ∙ ap (λ (i : ℕ). on s i) four in
      ((at-the-lock s a at-four o).names, by a o at-four other ((x d dl).lock s a at-four o))
    where
      by :
          (a : ℕ) → op_at n rd d s ≡ Release a → cursor ≡ on s 4 → rd (lock a) ≢ d + 1 → Intact n rd d s ⊎ SinceLoss d (moved d s ∷ []) w.trace.events
          → SinceLoss d (moved d s ∷ []) w.trace.events
      by a o f other (inl i) = absurd (other (intact-mine s a f o i))
      by a o f other (inr y) = y

  explained : Explained mark n (moment w d)
  unfolding turn_at
  explained why c e j = by cursor refl (sym (outcome-below mark n D cells w d r.reached dl) ∙ e)
    where
      by :
          (k : Cursor) → cursor ≡ k → turn_at n rd d k ≡ passed why c
          → (rd (field Pc d) % 2 ^ 63 ≡ suc (step_no cursor)) × SinceLoss d (moved d (step_no cursor) ∷ []) w.trace.events
      by idle q f = let z : ◌≡◌ {A = ℕ} 0 1 = cc in absurd (omega arith)
      by (on s t) q f = rw q (reported s t why c q f j)

-- a worker that the image has not is refused
above-explained : (mark n D : ℕ) (cells : List ℕ) (w : Traced) (d : ℕ) → Running mark n D cells w → ltb d D ≡ false → Explained mark n (moment w d)
above-explained mark n D cells w d r h why c e j =
    let a = outcome-above mark n D cells w d r.reached h in
    let z : ◌≡◌ {A = ℕ} 0 1 = cc in
    absurd (omega arith)

pub reports-explained : (mark n : ℕ) → 8 ≤ n → n ≤ 64 → ReportsExplained mark n
unfolding ReportsExplained
reports-explained mark n wide narrow m rest xs h l =
    let D = workers m in
    let cells = cells_of m in
    let K = accounted-keeps mark n D cells wide Any in
    uncut-each mark n D cells (Accounted mark n D cells) (λ (w : Traced). Unit {0}) Any K (Explained mark n)
    (λ w d r dl fed x. explained mark n D cells w d r dl x) (above-explained mark n D cells) false xs (from m) wide narrow h l
    (any-sorted mark n xs (from m)) (rested-running mark n m rest, idle-accounted mark n D cells m)

-- ---- with no loss

some_left : (xs : List Event) (y : Event) (ys : List Event) → xs ++ (y ∷ ys) ≡ [] → ⊥
some_left [] y ys e = let z : ◌≡◌ {A = ℕ} 0 1 = cc in omega arith
some_left (x ∷ xs) y ys e = let z : ◌≡◌ {A = ℕ} 0 1 = cc in omega arith

-- a loss concerns everybody
no-loss : (d e : ℕ) (mine es : List Event) → concerning e es ≡ [] → SinceLoss d mine es → ⊥
no-loss d e mine es h x =
    some_left (concerning e x.before) lost (concerning e x.behind)
    (sym (ap (concerning e) x.split ∙ concerning-append e x.before (lost ∷ x.behind)) ∙ h)

decided : (why : Passing) → (why ≢ Jump → ⊥) → why ≡ Jump
decided Jump h = refl
decided AlreadyFree h = absurd (h (λ e. let z : ◌≡◌ {A = ℕ} 0 1 = cc in omega arith))
decided Others h = absurd (h (λ e. let z : ◌≡◌ {A = ℕ} 0 1 = cc in omega arith))

-- nothing concerns a worker in two lists
none_both : (e : ℕ) (xs ys : List Event) → concerning e xs ≡ [] → concerning e ys ≡ [] → concerning e (xs ++ ys) ≡ []
none_both e xs ys h k = rw (concerning-append e xs ys, h) k

module _ (mark n D : ℕ) (cells : List ℕ) where
  -- accounted for, and no loss so far: nothing concerns D, which is no worker
  record Lossless (w : Traced) : Type 0 where
    accounts : Accounted mark n D cells w
    none : concerning D w.trace.events ≡ []

  lossless-keeps : 8 ≤ n → Keeps mark n D cells Lossless (λ (w : Traced). Unit {0}) Plain
  lossless-keeps wide =
      let K = accounted-keeps mark n D cells wide Plain in
      record {
        turn = λ w d r l fed x.
            let o = next_turn n w d in
            record {
              accounts = K.turn w d r l fed x.accounts;
              none = rw (events-by mark n w d o)
                  (none_both D w.trace.events (events_by mark n w d o) x.none (own-by mark n w d o D (λ e. omega arith)));
            };
        still = λ w d o z c. tt;
        worth = λ w x. tt;
        lend = λ k w x. record { accounts = K.lend k w x.accounts; none = x.none };
        lend-cut = λ k w c. tt;
        submit = λ w d k args ws r h t left a x.
            let l = dl mark n D cells w d k args ws wide (args-full d k args ws h) r t in
            record {
              accounts = K.submit w d k args ws r h t left a x.accounts;
              none = none_both D w.trace.events (taken (given d k args ws) ∷ []) x.none (rw (ne_eqb d D (λ e. omega arith)));
            };
        submit-cut = λ w j d k args ws r h t a x. tt;
        recover = λ w k left a c. absurd (false≢true a);
        recover-cut = λ w j k a c. tt;
        cut_off = λ w c. tt;
      }

  frees : (w : Traced) (d : ℕ) → Running mark n D cells w → d < D → Fed w (next_turn n w d) → Lossless w → Frees mark n (moment w d)
  frees w d r dl fed x s a l q o = by ((x.accounts d dl).lock s a q o)
    where
      rd₀ : Memory
      rd₀ = at n w.world.image

      by : Intact n rd₀ d s ⊎ SinceLoss d (moved d s ∷ []) w.trace.events → outcome mark n w.world d ≡ stored (lock a) 0 (on s 5)
      by (inl i) =
          let named = intact-mine mark n D cells w d r dl x.accounts s a q o i in
          outcome-below mark n D cells w d r.reached dl
          ∙ (ap (turn_at n rd₀ d) q
          ∙ ((at-the-lock mark n D cells w d r dl x.accounts s a q o).turn ∙ ap (unlock_by n rd₀ d a s) (named-freed d (rd₀ (lock a)) named)))
      by (inr y) = absurd (no-loss d D (moved d s ∷ []) w.trace.events x.none y)

  quiet : (w : Traced) (d : ℕ) → Running mark n D cells w → d < D → Lossless w → Quiet mark n (moment w d)
  quiet w d r dl x why c e =
      decided why (λ j. no-loss d D _ w.trace.events x.none (explained mark n D cells w d r dl x.accounts why c e j).1)

  above-frees : (w : Traced) (d : ℕ) → Running mark n D cells w → ltb d D ≡ false → Frees mark n (moment w d)
  above-frees w d r h s a l q o = let f = ltb-false d D h in let m = r.reached.many in absurd (omega arith)

  above-quiet : (w : Traced) (d : ℕ) → Running mark n D cells w → ltb d D ≡ false → Quiet mark n (moment w d)
  above-quiet w d r h why c e = let a = outcome-above mark n D cells w d r.reached h in cc

pub releases-free : (mark n : ℕ) → 8 ≤ n → n ≤ 64 → ReleasesFree mark n
unfolding ReleasesFree
releases-free mark n wide narrow m rest xs h p =
    let D = workers m in
    let cells = cells_of m in
    uncut-each mark n D cells (Lossless mark n D cells) (λ (w : Traced). Unit {0}) Plain (lossless-keeps mark n D cells wide)
    (λ t. Frees mark n t × Quiet mark n t) (λ w d r l fed x. (frees mark n D cells w d r l fed x, quiet mark n D cells w d r l x))
    (λ w d r l. (above-frees mark n D cells w d r l, above-quiet mark n D cells w d r l)) false xs (from m) wide narrow h (plain-legal xs p)
    (plain-sorted mark n xs (from m) p)
    (rested-running mark n m rest, record { accounts = idle-accounted mark n D cells m; none = refl })
