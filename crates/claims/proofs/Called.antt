-- Each call keeps the invariant: an uncut one leaves the world running, a cut one leaves an image that a recovery accepts
-- (`Recoverable`); and what the image stands for is what the reference machine has reached.
use Prim.Native.Nat.{ℕ, ◌+◌, ◌-◌, ◌<◌, ◌≤◌}
use mathlib.Core.Path.{◌≡◌, ap, subst, ◌∙◌, sym}
use mathlib.Core.Bool.{true, ◌&&◌}
use mathlib.Core.List.{List}
use lib.ListN.{length, take}
use lib.Seq.{take_all}
use lib.Dec.{eqb}
use borrow.Author.Tests.{eqb-true}
use native.Mathlib.Omega.{arith}
use Rattle.std.specs.Prelude.{Ok}
use Rattle.base.proofs.Bools.{and_left, and_right}
use Rattle.image.specs.declared.Field.TheVariants.{Count, Pc, Finished}
use Rattle.image.specs.Place.{field, Memory}
use Rattle.image.specs.Inner.Same.{upd_all}
use Rattle.image.specs.Image.{Image, at, workers, header_ok, put_all}
use Rattle.image.proofs.Lists.{header-all, workers-all}
use Rattle.section.specs.Check.{code_of, check}
use Rattle.section.proofs.Facts.{check-parts}
use Rattle.working.specs.Cursor.{on, is_idle, cursor_at, placed}
use Rattle.working.specs.World.{World, world}
use Rattle.intake.specs.Submit.{submission, free, submit_answer, is_taken}
use Rattle.working.proofs.Placed.{idle-is}
use Rattle.intake.proofs.Submission.{submission-length, accepted as met}
use Rattle.resuming.specs.Resumed.{resumed_all}
use Rattle.repair.specs.Plan.{plan}
use Rattle.recovery.specs.Recovery.{recovery, accepted}
use Rattle.owed.specs.Owed.{owed}
use Rattle.claims.specs.Reference.{Given, given}
use Rattle.claims.specs.Events.{but}
use Rattle.claims.specs.Calls.{Trace, Traced, traced, taking, forgetful}
use Rattle.claims.proofs.Invariant.{Live, Crashed, Mirrors}
use Rattle.claims.proofs.Submitting.{submit-live}
use Rattle.claims.proofs.Covers.{crashed-accepted}
use Rattle.claims.proofs.LiveCrashed.{live-crashed}
use Rattle.claims.proofs.RecoveryImage.{resumed-full, recovery-at, recovery-cut, recovery-whole}
use Rattle.claims.proofs.SubmissionImage.{submission-at, submission-cut}
use Rattle.claims.proofs.Unseen.{unseen-mirrors, plan-unseen, submission-unseen}
use Rattle.claims.proofs.Worlds.{Reached, Running, few}
use Rattle.claims.proofs.LiveTurn.{live-cursors}
use Rattle.claims.proofs.Cursors.{full-set, cursors-placed}
use Rattle.claims.proofs.Laid.{submitted_to}

-- ---- what an image is worth after a cut, whatever the cursors

pub record Recoverable (mark n D : ℕ) (cells : List ℕ) (m : Image) (begun : List Given) (order : List ℕ) : Type 0 where
  pub reached : Reached mark n D cells m begun order
  pub crashed : Crashed n D (at n m)

-- stores that the reference machine does not see
reached-all :
    (mark n D : ℕ) (cells : List ℕ) (m : Image) (begun : List Given) (order : List ℕ) (left : ℕ) (ss : List Rattle.image.specs.Place.Store)
    → (r : Reached mark n D cells m begun order) → Mirrors n D (at n (put_all n left m ss)) r.state → Reached mark n D cells (put_all n left m ss) begun order
reached-all mark n D cells m begun order left ss r h =
    record { header = header-all n mark left m ss ∙ r.header; many = workers-all n left m ss ∙ r.many; state = r.state; followed = r.followed; mirrors = h }

-- ---- recovery

module _ (mark n D : ℕ) (cells : List ℕ) (m : Image) (begun : List Given) (order : List ℕ) (k : Recoverable mark n D cells m begun order) where
  pub crash : Crashed n (workers m) (at n m)
  crash = subst (λ (e : ℕ). Crashed n e (at n m)) (sym k.reached.many) k.crashed

  pub accepts : recovery mark n m ≡ accepted (plan n (at n m) (workers m)) (resumed_all n (at n m) (workers m))
  accepts = crashed-accepted mark n m k.reached.header crash

  recovered-reached : (left : ℕ) → Reached mark n D cells (put_all n left m (plan n (at n m) (workers m))) begun order
  recovered-reached left =
      reached-all mark n D cells m begun order left (plan n (at n m) (workers m)) k.reached
      (rw (recovery-at mark n m k.reached.header left)
      (unseen-mirrors n D (at n m) _
      (subst (λ (e : ℕ). Rattle.claims.proofs.Unseen.Unseen n e (at n m) (upd_all (at n m) (take left (plan n (at n m) (workers m)))))
      k.reached.many (plan-unseen n (workers m) (at n m) crash left))
      k.reached.state k.reached.mirrors))

  -- a recovery cut anywhere leaves an image that the next accepts
  pub recover-cut : (left : ℕ) → Recoverable mark n D cells (put_all n left m (plan n (at n m) (workers m))) begun order
  recover-cut left =
      record {
        reached = recovered-reached left;
        crashed =
            subst (λ (e : ℕ). Crashed n e (at n (put_all n left m (plan n (at n m) (workers m))))) k.reached.many
            (recovery-cut mark n m k.reached.header crash left);
      }

  -- an uncut one leaves the world running
  pub recover-whole : (left : ℕ) → 592 ≤ left → (g : Trace) → g.begun ≡ begun → g.order ≡ order
      → Running mark n D cells (traced
      (world (put_all n left m (plan n (at n m) (workers m))) (resumed_all n (at n m) (workers m)) (left - length (plan n (at n m) (workers m))))
      (forgetful g))
  recover-whole left l g b o =
      record {
        reached = rw (b, o) (recovered-reached left);
        full = resumed-full n (at n m) (workers m);
        locks = owed n (at n m);
        live =
            subst (λ (e : ℕ). Live n e (at n (put_all n left m (plan n (at n m) (workers m)))) (cursor_at (resumed_all n (at n m) (workers m)))
            (owed n (at n m)) (λ d. 0) g.last) k.reached.many (recovery-whole mark n m k.reached.header crash left l g.last);
      }

-- ---- submitting

-- what a section that is taken was found to be
pub record TakenAs (mark n : ℕ) (w : World) (d k : ℕ) (ws : List ℕ) : Type 0 where
  pub header : header_ok mark n w.image ≡ true
  pub below : d < workers w.image
  pub idles : is_idle (cursor_at w.cursors d) ≡ true
  pub count : at n w.image (field Count d) ≡ 0
  pub pc : at n w.image (field Pc d) ≡ 0
  pub numbered : at n w.image (field Finished d) < k
  pub passes : check n (length ws) (code_of ws) ≡ Ok tt

pub taken_as : (mark n : ℕ) (w : World) (d k : ℕ) (ws : List ℕ) → submit_answer mark n w d k ws ≡ Ok tt → TakenAs mark n w d k ws
unfolding free
taken_as mark n w d k ws e =
    let a = met mark n w d k ws (ap is_taken e) in
    let i = is_idle (cursor_at w.cursors d) in
    let c = eqb (at n w.image (field Count d)) 0 in
    let p = eqb (at n w.image (field Pc d)) 0 in
    let ic = and_left (i && c) p a.unused in
    record {
      header = a.header;
      below = a.below;
      idles = and_left i c ic;
      count = eqb-true _ 0 (and_right i c ic);
      pc = eqb-true _ 0 (and_right (i && c) p a.unused);
      numbered = a.newer;
      passes = a.checked;
    }

module _ (mark n D : ℕ) (cells : List ℕ) (w : Traced) (d k : ℕ) (args ws : List ℕ) (wide : 8 ≤ n) (full8 : length args ≡ 8) (r : Running mark n D cells w)
    (t : TakenAs mark n w.world d k ws) where
  abbrev m : Image
  m = w.world.image

  abbrev rd : Memory
  rd = at n m

  pub dl : d < D
  dl = subst (λ (e : ℕ). d < e) r.reached.many t.below

  pub submitted-at : (left : ℕ) → at n (put_all n left m (submission n d k args ws)) ≡ upd_all rd (take left (submission n d k args ws))
  submitted-at left = submission-at mark n m t.header d k args ws t.below wide full8 t.passes left

  submitted-reached : (left : ℕ) → Reached mark n D cells (put_all n left m (submission n d k args ws)) w.trace.begun w.trace.order
  submitted-reached left =
      reached-all mark n D cells m w.trace.begun w.trace.order left (submission n d k args ws) r.reached
      (rw (submitted-at left) (unseen-mirrors n D rd _ (submission-unseen n D d k args ws rd t.count t.pc left) r.reached.state
      r.reached.mirrors))

  -- a submission cut anywhere leaves an image that a recovery accepts
  pub submit-cut : (left : ℕ) → Recoverable mark n D cells (put_all n left m (submission n d k args ws)) w.trace.begun w.trace.order
  submit-cut left =
      let crash = subst (λ (e : ℕ). Crashed n e rd) (sym r.reached.many) (live-crashed n D rd _ _ _ _ r.live) in
      record {
        reached = submitted-reached left;
        crashed = subst (λ (e : ℕ). Crashed n e (at n (put_all n left m (submission n d k args ws)))) r.reached.many
            (submission-cut mark n m t.header d k args ws t.below wide full8 t.passes crash t.count t.pc t.numbered left);
      }

  -- an uncut one leaves the worker at its first turn
  pub submit-whole : (left : ℕ) → n + 66 ≤ left
      → Running mark n D cells (traced
      (world (put_all n left m (submission n d k args ws)) (placed w.world.cursors d (on 0 0)) (left - length (submission n d k args ws)))
      (taking w.trace (given d k args ws)))
  submit-whole left l =
      let few64 = (check-parts n (length ws) (code_of ws) t.passes).1 in
      let enough : length (submission n d k args ws) ≤ left = rw (submission-length n d k args ws full8 wide) (omega arith) in
      let e = submitted-at left ∙ ap (upd_all rd) (take_all left (submission n d k args ws) enough) in
      let L = submit-live n D rd (cursor_at w.world.cursors) r.locks w.trace.jumps w.trace.last d k args ws r.live dl (idle-is _ t.idles)
      wide full8 t.passes t.numbered in
      record {
        reached = submitted-reached left;
        full = full-set w.world.cursors d 0 0 r.full;
        locks = but r.locks d 0;
        live =
            rw e (live-cursors n D (submitted_to n d k args ws rd) _ (cursor_at (placed w.world.cursors d (on 0 0))) _ _ _
            (cursors-placed D w.world.cursors d (on 0 0) r.full (few mark n D cells w r.reached) dl (λ q. omega arith)) L);
      }
