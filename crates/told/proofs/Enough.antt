-- Lent enough, a call does the same whatever it is lent: for each call and world there are a number of stores and a world that do not
-- depend on what is lent, such that the call lent at least that number leaves that world and the rest of the stores (`Steady`). A
-- turn makes one store or none, so a run makes at most 8 a round; a submission makes at most 130 and a recovery at most 592: all
-- fewer than 2^64 - 1. Nothing is asked of the world: the image and the cursors may be any.
use Prim.Native.Nat.{ℕ, zero, suc, ◌+◌, ◌*◌, ◌-◌, ◌^◌, ◌≤◌}
use mathlib.Core.Path.{◌≡◌, refl, ap, ◌∙◌}
use mathlib.Core.Bool.{Bool, true, false, cond}
use mathlib.Core.List.{List, [], ◌∷◌}
use native.Mathlib.Omega.{arith}
use native.Mathlib.Nat.{suc-mul}
use lib.ListN.{length, take}
use lib.Seq.{take_all}
use borrow.Author.Tests.{ltb-true, ne_eqb}
use Rattle.std.specs.Prelude.{Ok, Err}
use Rattle.image.specs.Place.{Store}
use Rattle.image.specs.Image.{Image, at, workers, header_ok, put, put_all}
use Rattle.image.proofs.Header.{header-workers}
use Rattle.image.proofs.Lists.{put_all-cut}
use Rattle.section.specs.Check.{code_of}
use Rattle.section.proofs.Facts.{check-parts}
use Rattle.working.specs.declared.Cursors.{Cursors}
use Rattle.working.specs.Cursor.{on, placed, all_idle}
use Rattle.plan.specs.Turn.{Outcome, stored, passed, waiting, resting, refused}
use Rattle.working.specs.World.{world}
use Rattle.turn.specs.Call.{outcome_at, outcome}
use Rattle.run.specs.Run.{any_open}
use Rattle.intake.specs.Submit.{Submitted, submission, free, submit_answer, submit_leaves, is_taken}
use Rattle.intake.proofs.Submission.{accepted as met, submission-length}
use Rattle.recovery.specs.Recovery.{Recovered, accepted, rejected, by_first, recovery}
use Rattle.soundness.specs.declared.Refusal.TheVariants.{Image as ImageRefused, Record, Lock}
use Rattle.soundness.specs.Sound.{bad_lock, unsound}
use Rattle.resuming.specs.Resumed.{resumed_all}
use Rattle.repair.specs.Plan.{plan}
use Rattle.claims.specs.Reference.{given}
use Rattle.claims.specs.Calls.{Trace, Traced, traced, taking, forgetful, turn_by, turned_at, refuses, round, rounds, ran_by, submit_trace, recovered_by}
use Rattle.claims.specs.Calls.{Call, submits, turns, runs, recovers, call, lent, callable}
use Rattle.told.specs.Enough.{makes, EnoughIsWhole}
use Rattle.claims.proofs.RecoveryImage.{plan-length}
use Rattle.claims.proofs.Moves.{args-full}

-- the stores of a list, lent enough
put_all-enough : (n k : ℕ) (m : Image) (ss : List Store) → length ss ≤ k → put_all n k m ss ≡ put_all n (length ss) m ss
put_all-enough n k m ss h =
    let e = take_all k ss h in
    let l : length (take k ss) ≤ length ss = rw e (omega arith) in
    put_all-cut n k (length ss) m ss l ∙ rw e

module _ (mark n : ℕ) where
  -- what f leaves of what it is lent: with at least `stores`, which are at most `most`, the same world and the rest
  record Steady (f : ℕ → Traced) (most : ℕ) : Type 0 where
    stores : ℕ
    few : stores ≤ most
    after : Traced
    same : (k : ℕ) → stores ≤ k → f k ≡ lent mark n (k - stores) after

  -- nothing is stored
  still : (w : Traced) (most : ℕ) → Steady (λ k. lent mark n k w) most
  still w most = record { stores = 0; few = omega arith; after = w; same = λ k h. let e : k - 0 ≡ k = omega arith in rw e }

  within : {f : ℕ → Traced} {a : ℕ} (b : ℕ) → a ≤ b → Steady f a → Steady f b
  within b h u = record { stores = u.stores; few = omega arith; after = u.after; same = u.same }

  -- ---- turns

  turn-steady : (w : Traced) (d : ℕ) (o : Outcome) → Steady (λ k. turn_by mark n (lent mark n k w) d o) 1
  unfolding put
  turn-steady w d (stored p v c) = record { stores = 1; few = omega arith; after = turn_by mark n (lent mark n 1 w) d (stored p v c); same = by }
    where
      by : (k : ℕ) → 1 ≤ k → turn_by mark n (lent mark n k w) d (stored p v c) ≡ lent mark n (k - 1) (turn_by mark n (lent mark n 1 w) d (stored p v c))
      by zero h = absurd (omega arith)
      by (suc k) h = rw (ne_eqb (suc k) 0 (λ e. omega arith))
  turn-steady w d (passed why c) = still (turn_by mark n w d (passed why c)) 1
  turn-steady w d (waiting b) = still (turn_by mark n w d (waiting b)) 1
  turn-steady w d resting = still w 1
  turn-steady w d (refused r) = still w 1

  -- ---- runs

  -- one after the other
  steady_then : (f : ℕ → Traced) (g : Traced → Traced) (a b : ℕ) (u : Steady f a)
      → Steady (λ k. g (lent mark n k u.after)) b → Steady (λ k. g (f k)) (a + b)
  steady_then f g a b u v =
      record {
        stores = u.stores + v.stores;
        few = omega arith;
        after = v.after;
        same = λ k h.
            let e : k - u.stores - v.stores ≡ k - (u.stores + v.stores) = omega arith in
            rw (u.same k (omega arith), v.same (k - u.stores) (omega arith), e);
      }

  steady-cond : (b : Bool) (f g : ℕ → Traced) (a : ℕ) → Steady f a → Steady g a → Steady (λ k. cond b (f k) (g k)) a
  steady-cond true f g a u v = u
  steady-cond false f g a u v = v

  turned-steady : (w : Traced) (d : ℕ) → Steady (λ k. turned_at mark n (lent mark n k w) d) 1
  unfolding turned_at outcome_at
  turned-steady w d = turn-steady w d (outcome_at n w.world d)

  -- a round of j workers, where what follows makes at most a stores
  round-steady : (rest : Traced → Traced) (a : ℕ) → ((w : Traced) → Steady (λ k. rest (lent mark n k w)) a)
      → (w : Traced) (d j : ℕ) → Steady (λ k. round mark n rest (lent mark n k w) d j) (j + a)
  unfolding round outcome_at
  round-steady rest a h w d zero = within (zero + a) (omega arith) (h w)
  round-steady rest a h w d (suc j) =
      let u = turned-steady w d in
      let v = round-steady rest a h u.after (d + 1) j in
      steady-cond (refuses mark n (outcome_at n w.world d)) _ _ (suc j + a)
      (still w (suc j + a))
      (within (suc j + a) (omega arith) (steady_then (λ k. turned_at mark n (lent mark n k w) d) (λ x. round mark n rest x (d + 1) j) 1 (j + a) u v))

  rounds-steady : (r D : ℕ) → D ≤ 8 → (w : Traced) → Steady (λ k. rounds mark n r D (lent mark n k w)) (r * 8)
  unfolding rounds
  rounds-steady zero D h w = still w (zero * 8)
  rounds-steady (suc r) D h w =
      steady-cond (any_open D 0 w.world.cursors) _ _ (suc r * 8)
      (within (suc r * 8) (omega (arith, suc-mul r 8)) (round-steady (rounds mark n r D) (r * 8) (rounds-steady r D h) w 0 D))
      (still w (suc r * 8))

  run-steady : (w : Traced) (r : ℕ) → Steady (λ k. ran_by mark n (lent mark n k w) r) (r * 8)
  unfolding ran_by
  run-steady w r = by (header_ok mark n w.world.image) refl
    where
      by : (b : Bool) → header_ok mark n w.world.image ≡ b
          → Steady (λ k. cond b (rounds mark n r (workers w.world.image) (lent mark n k w)) (lent mark n k w)) (r * 8)
      by true h = rounds-steady r (workers w.world.image) (header-workers mark n w.world.image h).1 w
      by false h = still w (r * 8)

  -- ---- submissions and recoveries

  -- a list of stores, with the cursors and the trace after it
  list-steady : (m : Image) (ss : List Store) (c : Cursors) (g : Trace) → Steady (λ k. traced (world (put_all n k m ss) c (k - length ss)) g) (length ss)
  list-steady m ss c g =
      record {
        stores = length ss;
        few = omega arith;
        after = traced (world (put_all n (length ss) m ss) c 0) g;
        same = λ k h. rw (put_all-enough n k m ss h);
      }

  submit-steady : (w : Traced) (d k : ℕ) (args ws : List ℕ) → 8 ≤ n → n ≤ 64 → length args ≡ 8
      → Steady (λ j. call mark n (submits d k args ws) (lent mark n j w)) 130
  unfolding call submit_answer free
  submit-steady w d k args ws wide narrow full = by (submit_answer mark n w.world d k ws) refl
    where
      by : (a : Submitted) → submit_answer mark n w.world d k ws ≡ a
          → Steady (λ j. traced (submit_leaves n (lent mark n j w).world d k args ws a) (submit_trace mark n w.trace (given d k args ws) a)) 130
      by (Ok tt) e =
          let few = (check-parts n (length ws) (code_of ws) (met mark n w.world d k ws (ap is_taken e)).checked).1 in
          within 130 (rw (submission-length n d k args ws full wide) (omega arith))
          (list-steady w.world.image (submission n d k args ws) (placed w.world.cursors d (on 0 0)) (taking w.trace (given d k args ws)))
      by (Err r) e = still w 130

  recover-steady : (w : Traced) → Steady (λ k. call mark n recovers (lent mark n k w)) 592
  unfolding call recovery
  recover-steady w = by (header_ok mark n m) refl (bad_lock n (at n m) (workers m) 0 64) (unsound n (at n m) (workers m) 0 (workers m))
    where
      m : Image
      m = w.world.image

      good : Recovered
      good = accepted (plan n (at n m) (workers m)) (resumed_all n (at n m) (workers m))

      refusing : Steady (λ k. traced (world m all_idle k) (forgetful w.trace)) 592
      refusing = still (traced (world m all_idle 0) (forgetful w.trace)) 592

      by : (b : Bool) → header_ok mark n m ≡ b → (bs ds : List ℕ)
          → Steady (λ k. recovered_by mark n (lent mark n k w) (cond b (by_first Record (by_first Lock good bs) ds) (rejected ImageRefused))) 592
      by true h [] [] =
          within 592 (plan-length n (at n m) (workers m) (header-workers mark n m h).1)
          (list-steady m (plan n (at n m) (workers m)) (resumed_all n (at n m) (workers m)) (forgetful w.trace))
      by true h (b ∷ bs) [] = refusing
      by true h bs (d ∷ ds) = refusing
      by false h bs ds = refusing

  -- ---- every call

  call-steady : (c : Call) (w : Traced) → 8 ≤ n → n ≤ 64 → callable c ≡ true → Steady (λ k. call mark n c (lent mark n k w)) (2 ^ 64 - 1)
  unfolding call outcome outcome_at
  call-steady (submits d k args ws) w wide narrow h = within _ (omega arith) (submit-steady w d k args ws wide narrow (args-full d k args ws h))
  call-steady (turns d) w wide narrow h = within _ (omega arith) (turn-steady w d (outcome mark n w.world d))
  call-steady (runs r) w wide narrow h = let few = ltb-true r (2 ^ 16) h in within _ (omega arith) (run-steady w r)
  call-steady recovers w wide narrow h = within _ (omega arith) (recover-steady w)

-- the world that is left does not depend on what was lent, so the stores made are those that 2^64 - 1 shows
pub enough-is-whole : (mark n : ℕ) → 8 ≤ n → n ≤ 64 → EnoughIsWhole mark n
unfolding EnoughIsWhole
enough-is-whole mark n wide narrow c h w k l =
    let u = call-steady mark n c w wide narrow h in
    let e = u.same (2 ^ 64 - 1) u.few in
    let s : makes mark n c w ≡ u.stores = rw e (omega (arith, u.few)) in
    rw (s, u.same k (omega arith), e)
