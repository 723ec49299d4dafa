-- One turn: what the code's plan of it does is what its outcome says. With it the three tests of `turn`, one equation for each.
use Rattle.std.proofs.Common.{Ok, Err}
use Prim.Native.Nat.{ℕ, zero, suc, ◌<◌, ◌≤◌}
use borrow.Author.Tests.{lt-ltb, le-ltb, ltb-true, ltb-false}
use native.Mathlib.Omega.{arith}
use native.Mathlib.Decide.{ℕ_discrete}
use lib.ListN.{length, get_or}
use mathlib.Core.Path.{◌≡◌, refl, ◌∙◌}
use mathlib.Core.Bool.{Bool, true, false, cond}
use mathlib.Core.Logic.{◌≢◌}
use lib.Dec.{ltb, eqb}
use Rattle.image.specs.Place.{Place, cell, lock, field, own, step, Memory}
use Rattle.code.specs.declared.Op.{Op}
use Rattle.code.specs.declared.Op.TheVariants.{Acquire, Release, Assign, Jump, Finish, Unknown}
use Rattle.code.specs.Op.{op_of}
use Rattle.code.specs.Inner.Fits.{fits}
use Rattle.image.specs.Image.{index_of, at, workers, header_ok}
use Rattle.image.specs.Inner.Inside.{Inside}
use Rattle.image.proofs.Header.{header-workers, header-inside}
use Rattle.working.specs.declared.Refusal.{Refusal}
use Rattle.working.specs.declared.Refusal.TheVariants.{Worker, Image as ImageRefused, Cursor as CursorRefused}
use Rattle.working.specs.Cursor.{Cursor, on, is_idle, step_no, turn_no, cursor_at, placed}
use Rattle.worklog.specs.Log.{code_in}
use Rattle.plan.specs.Turn.{Outcome, stored, passed, waiting, resting, refused, logged, acquire_turn, finish_turn, op_turn, ready, turn_at}
use Rattle.working.specs.World.{World}
use Rattle.turn.specs.Call.{answer_of, leaves, outcome_at, outcome, is_refused}
use Rattle.worklog.specs.declared.Plan.TheVariants.{Take, Free}
use Rattle.plan.specs.Inner.Plan.{store_plan, plan_of}
use Rattle.turn.specs.Inner.Acting.{plan_did, did_answer, tested, gate_of}
use Rattle.turn.specs.declared.Answer.TheVariants.{Stored}
use Rattle.turn.specs.declared.Gate.TheVariants.{Idle, Open}
use Rattle.plan.proofs.Planned.{ready-says}
use Rattle.plan.proofs.Outcomes.{either, unlock-either}
use Rattle.working.proofs.Placed.{Full, idle-is, on-is, open_turn, idle-turn, held-cursor, placed-other}

-- a turn that is made, that is, of an open worker and not refused
abbrev pub Made : Outcome → Type 0
Made (stored p v c) = Unit {0}
Made (passed why c) = Unit {0}
Made (waiting b) = Unit {0}
Made resting = ⊥
Made (refused r) = ⊥

module _ (n : ℕ) (rd : Memory) (d s t : ℕ) where
  made-logged : (p : Place) (v : ℕ) (next : Cursor) (j : ℕ) → Made (logged n rd d s t p v next j)
  made-logged p v next zero = tt
  made-logged p v next (suc zero) = tt
  made-logged p v next (suc (suc zero)) = tt
  made-logged p v next (suc (suc (suc j))) = tt

module _ (n : ℕ) (rd : Memory) (d s : ℕ) where
  made-acquire : (a t : ℕ) → Made (acquire_turn n rd d a s t)
  made-acquire a zero = tt
  made-acquire a (suc zero) = either Made (eqb (rd (lock a)) 0) _ _ (λ e. tt) (λ e. tt)
  made-acquire a (suc (suc j)) = made-logged n rd d s (suc (suc j)) _ _ _ j

  made-finish : (t : ℕ) → Made (finish_turn n rd d s t)
  made-finish zero = tt
  made-finish (suc zero) = tt
  made-finish (suc (suc t)) = tt

  made-op : (t : ℕ) (x : Op) → fits n x → Made (op_turn n rd d s t x)
  made-op t (Acquire a) f = made-acquire a t
  made-op t (Release a) f =
      either Made (ltb t 4) _ _ (λ e. made-logged n rd d s t _ _ _ t)
      (λ e. either Made (eqb t 4) _ _ (λ f. unlock-either n rd d a s Made tt (λ why. tt)) (λ f. tt))
  made-op t (Assign a e) f = made-logged n rd d s t _ _ _ t
  made-op t (Jump a b) f = tt
  made-op t Finish f = made-finish t
  made-op t Unknown f = absurd f

  -- a turn that is ready is made
  pub made-ready : (t : ℕ) → ready n rd d s t ≡ true → Made (turn_at n rd d (on s t))
  unfolding turn_at
  made-ready t e = rw e (made-op t (op_of (code_in n rd d s)) (ready-says n rd d s t e).form)

module _ (n : ℕ) where
  pub rests : (w : World) (d : ℕ) → is_idle (cursor_at w.cursors d) ≡ true → outcome_at n w d ≡ resting
  unfolding outcome_at turn_at
  rests w d e = rw (idle-is (cursor_at w.cursors d) e)

  private-lock : (b v s t : ℕ) (z : Bool) → did_answer n (plan_did (cond z (Free b s t) (Take b v s t))) ≡ Stored (index_of n (lock b))
  private-lock b v s t true = refl
  private-lock b v s t false = refl

  store-answers : (p : Place) (v s t : ℕ) → did_answer n (plan_did (store_plan n p v s t)) ≡ Stored (index_of n p)
  store-answers (cell x) v s t = refl
  store-answers (lock b) v s t = private-lock b v s t (eqb v 0)
  store-answers (field f d) v s t = refl
  store-answers (own d i) v s t = refl
  store-answers (step d i) v s t = refl

  pub did-answers : (o : Outcome) → Made o → did_answer n (plan_did (plan_of n o)) ≡ answer_of n o
  did-answers (stored p v c) m = store-answers p v (step_no c) (turn_no c)
  did-answers (passed why c) m = refl
  did-answers (waiting b) m = refl
  did-answers resting m = absurd m
  did-answers (refused r) m = absurd m

  pub made-goes : (o : Outcome) → Made o → is_refused (answer_of n o) ≡ false
  made-goes (stored p v c) m = refl
  made-goes (passed why c) m = refl
  made-goes (waiting b) m = refl
  made-goes resting m = absurd m
  made-goes (refused r) m = absurd m

  -- a turn leaves the cursors of the other workers
  pub leaves-other : (w : World) (d e : ℕ) (o : Outcome) → e ≢ d → cursor_at (leaves n w d o).cursors e ≡ cursor_at w.cursors e
  leaves-other w d e (stored p v c) h = held-cursor _ (placed w.cursors d c) e ∙ placed-other w.cursors d e c h
  leaves-other w d e (passed why c) h = placed-other w.cursors d e c h
  leaves-other w d e (waiting b) h = refl
  leaves-other w d e resting h = refl
  leaves-other w d e (refused r) h = refl

-- ---- causes 10 and 1, or the turn

module _ (mark n : ℕ) (w : World) (d : ℕ) where
  pub no_header : header_ok mark n w.image ≡ false → outcome mark n w d ≡ refused ImageRefused
  unfolding outcome
  no_header e = rw e

  pub no-worker : header_ok mark n w.image ≡ true → workers w.image ≤ d → outcome mark n w d ≡ refused Worker
  unfolding outcome
  no-worker e h = rw (e, le-ltb d (workers w.image) h)

  pub a_turn : header_ok mark n w.image ≡ true → d < workers w.image → outcome mark n w d ≡ outcome_at n w d
  unfolding outcome
  a_turn e h = rw (e, lt-ltb d (workers w.image) h)

-- ---- the turn of an open worker

module _ (own : ℕ) (w : World) (d : ℕ) (f : Full w.cursors) (h : d < 8) where
  private-on : get_or w.cursors.turn d 0 ≢ 255 → cursor_at w.cursors d ≡ on (get_or w.cursors.step d 0) (get_or w.cursors.turn d 0)
  private-on o = let l : d < length w.cursors.turn = rw f.turns h in on-is w.cursors d l (open_turn w.cursors d l o)

  -- ready, it is made
  pub made_at : tested own w.image w.cursors d ≡ true → Made (outcome_at own w d)
  unfolding outcome_at
  made_at e =
      let z = ready-says own (at own w.image) d (get_or w.cursors.step d 0) (get_or w.cursors.turn d 0) e in
      rw (private-on (λ q. omega (arith, z.turn, q))) (made-ready own (at own w.image) d (get_or w.cursors.step d 0) (get_or w.cursors.turn d 0) e)

  -- not ready, it is refused
  pub refused-at : get_or w.cursors.turn d 0 ≢ 255 → tested own w.image w.cursors d ≡ false → outcome_at own w d ≡ refused (CursorRefused d)
  unfolding outcome_at turn_at
  refused-at o e = rw (private-on o, e)

  -- so a worker that gets a turn is ready
  pub made-tests : Made (outcome_at own w d) → tested own w.image w.cursors d ≡ true
  made-tests m = by (tested own w.image w.cursors d) refl (ℕ_discrete (get_or w.cursors.turn d 0) 255)
    where
      by : (b : Bool) → tested own w.image w.cursors d ≡ b → Dec (get_or w.cursors.turn d 0 ≡ 255) → b ≡ true
      by true e c = refl
      by false e (yes q) = absurd (rw (rests own w d (idle-turn w.cursors d (rw f.turns h) q)) at m)
      by false e (no o) = absurd (rw (refused-at o e) at m)

-- ---- the tests

module _ (n : ℕ) where
  gate-made : (o : Outcome) → gate_of o ≡ Ok Open → Made o
  gate-made (stored p v c) e = tt
  gate-made (passed why c) e = tt
  gate-made (waiting b) e = tt
  gate-made resting e = let z : ◌≡◌ {A = ℕ} 0 1 = cc in absurd (omega arith)
  gate-made (refused r) e = let z : ◌≡◌ {A = ℕ} 0 1 = cc in absurd (omega arith)

  pub made-gate : (o : Outcome) → Made o → gate_of o ≡ Ok Open
  made-gate (stored p v c) m = refl
  made-gate (passed why c) m = refl
  made-gate (waiting b) m = refl
  made-gate resting m = absurd m
  made-gate (refused r) m = absurd m

  pub gate-idle : (o : Outcome) → gate_of o ≡ Ok Idle → o ≡ resting
  gate-idle (stored p v c) e = cc
  gate-idle (passed why c) e = cc
  gate-idle (waiting b) e = cc
  gate-idle resting e = refl
  gate-idle (refused r) e = cc

  pub gate-refused : (o : Outcome) (r : Refusal) → gate_of o ≡ Err r → o ≡ refused r
  gate-refused (stored p v c) r e = cc
  gate-refused (passed why c) r e = cc
  gate-refused (waiting b) r e = cc
  gate-refused resting r e = cc
  gate-refused (refused x) r e = cc

-- a worker that gets a turn is one of the image's, and its outcome is that of the turn
pub record Opened (mark n : ℕ) (w : World) (d : ℕ) : Type 0 where
  pub inside : Inside n w.image d
  pub test : tested n w.image w.cursors d ≡ true
  pub same : outcome mark n w d ≡ outcome_at n w d

module _ (mark n : ℕ) (w : World) (d : ℕ) (small : n ≤ 64) (f : Full w.cursors) where
  pub gate-opens : gate_of (outcome mark n w d) ≡ Ok Open → Opened mark n w d
  gate-opens e = by (header_ok mark n w.image) refl (ltb d (workers w.image)) refl
    where
      by : (a : Bool) → header_ok mark n w.image ≡ a → (b : Bool) → ltb d (workers w.image) ≡ b → Opened mark n w d
      by false p b q = absurd (rw (no_header mark n w d p) at (gate-made n (outcome mark n w d) e))
      by true p false q = absurd (rw (no-worker mark n w d p (ltb-false d (workers w.image) q)) at (gate-made n (outcome mark n w d) e))
      by true p true q =
          let b = ltb-true d (workers w.image) q in
          let s = a_turn mark n w d p b in
          let l : d < 8 = omega (arith, b, (header-workers mark n w.image p).1) in
          record {
            inside = header-inside mark n w.image d small p b;
            test = made-tests n w d f l (rw s at (gate-made n (outcome mark n w d) e));
            same = s;
          }
