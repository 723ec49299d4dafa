-- Demand 3: from any image at rest, after any list of calls and cuts with a recovery after each cut, a recovery is accepted, and
-- unless a cut came last no turn and no run is refused; 384 rounds for each worker, in one run or several, with any turns among
-- them, leave every worker idle, every lock free, and the cells those that the reference machine gives for the sections begun,
-- and the last run says so. A list leaves a world that runs (`play-good`), or after a cut what a recovery makes run again; the
-- rest is what runs and turns come to from there (proofs/Working.antt) and what they answer (proofs/Answers.antt).
use Prim.Native.Nat.{ℕ, ◌+◌, ◌*◌, ◌<◌, ◌≤◌}
use mathlib.Core.Path.{◌≡◌, refl, subst}
use mathlib.Core.Bool.{Bool, true, false, cond}
use mathlib.Core.List.{List, [], ◌∷◌, ◌++◌}
use native.Mathlib.Omega.{arith}
use Rattle.image.specs.declared.Field.TheVariants.{Count, Pc, Intent, Owned}
use Rattle.image.specs.Place.{lock, field}
use Rattle.image.specs.Image.{Image, workers, cells_of}
use Rattle.run.specs.declared.End.TheVariants.{AllIdle}
use Rattle.turn.specs.Call.{outcome_at, outcome}
use Rattle.run.specs.Run.{any_open}
use Rattle.formatting.proofs.Formats.{formatted-header, formatted-at}
use Rattle.claims.specs.Calls.{Traced, refuses, runs, recovers, Move, whole, move, play, from, legal, ends_cut, machine}
use Rattle.claims.specs.Claims.{working, is_halted, rounds_in, Rested, FormattedRests, Idle, admissible, Settled, DurableAlways, after, mended, run_end}
use Rattle.claims.proofs.Worlds.{Running}
use Rattle.claims.proofs.Settling.{never-refused}
use Rattle.claims.proofs.Called.{accepts}
use Rattle.claims.proofs.Played.{Worth, running-worth, outcome-below, Good, play-good}
use Rattle.claims.proofs.Working.{nearer-both, nearer-idle, move-run, working-nearer, working-running, working-idle}
use Rattle.claims.proofs.Answers.{end-made, run_end_lem}
use Rattle.claims.proofs.Resting.{rested-running, idle-rested, idle-gives}
use Rattle.claims.proofs.Cursors.{idle-all}
use Rattle.claims.proofs.Moves.{play-append}

-- ---- a world that runs

module _ (mark n : ℕ) (m : Image) where
  pub idle-settled :
      (w : Traced) → Running mark n (workers m) (cells_of m) w → Idle mark n (workers m) w.world.cursors
      → admissible mark n (workers m) w.trace.begun ≡ true → Settled mark n m w
  idle-settled w r i a =
      record { idles = i; rests = idle-rested mark n (workers m) (cells_of m) w r i; admits = a; gives = idle-gives mark n (workers m) (cells_of m) w r i }

  settled :
      (w : Traced) → Running mark n (workers m) (cells_of m) w → any_open (workers m) 0 w.world.cursors ≡ false
      → admissible mark n (workers m) w.trace.begun ≡ true → Settled mark n m w
  settled w r e a = idle-settled w r (λ d l. idle-all (workers m) 0 w.world.cursors e d (omega arith) (omega arith)) a

  turn-goes : (w : Traced) (d : ℕ) → Running mark n (workers m) (cells_of m) w → d < workers m → refuses mark n (outcome mark n w.world d) ≡ false
  unfolding outcome_at
  turn-goes w d r l = rw (outcome-below mark n (workers m) (cells_of m) w d r.reached l) (never-refused mark n (workers m) (cells_of m) w d r l)

  run-goes : (w : Traced) (r : ℕ) → Running mark n (workers m) (cells_of m) w → is_halted (run_end mark n w r) ≡ false
  run-goes w r h =
      rw (run_end_lem mark n (workers m) (cells_of m) r w h) (end-made (any_open (workers m) 0 (move mark n (whole (runs r)) w).world.cursors))

  -- the rounds of the last run count with those before it
  last_says :
      (ys : List Move) (r : ℕ) (w : Traced) → Running mark n (workers m) (cells_of m) w → working ys ≡ true → 384 * workers m ≤ rounds_in ys + r
      → run_end mark n (play mark n ys w) r ≡ AllIdle
  last_says ys r w h y l =
      let D = workers m in
      let v = play mark n ys w in
      let a = working-nearer mark n D (cells_of m) ys w y h in
      let b = move-run mark n D (cells_of m) r v a.running in
      let none =
      nearer-idle mark n D (cells_of m) (rounds_in ys + r) w _ h (nearer-both mark n D (cells_of m) (rounds_in ys) r (rounds_in ys + r) w v _ refl a b) l
      in
      rw (run_end_lem mark n D (cells_of m) r v a.running, none)

  good-worth : (b : Bool) (w : Traced) → Good mark n (workers m) (cells_of m) b w → Worth mark n (workers m) (cells_of m) w
  good-worth false w g = running-worth mark n (workers m) (cells_of m) w g
  good-worth true w g = g

  -- a recovery after a cut, where one ends the list
  pub mended-running : 8 ≤ n → n ≤ 64 → (xs : List Move) (b : Bool) → Good mark n (workers m) (cells_of m) b (after mark n m xs)
      → Running mark n (workers m) (cells_of m) (after mark n m (cond b (xs ++ (whole recovers ∷ [])) xs))
  unfolding legal machine ends_cut
  mended-running wide narrow xs true g =
      rw (play-append mark n xs (whole recovers ∷ []) (from m))
      (play-good mark n (workers m) (cells_of m) true (whole recovers ∷ []) (after mark n m xs) wide narrow refl refl g)
  mended-running wide narrow xs false g = g

-- from an image at rest, by any list: a world that runs, or behind a cut what a recovery takes
module _
    (mark n : ℕ) (wide : 8 ≤ n) (narrow : n ≤ 64) (m : Image) (rest : Rested mark n m) (xs : List Move) (h : machine xs ≡ true)
    (l : legal false xs ≡ true) where
  pub list-good : Good mark n (workers m) (cells_of m) (ends_cut false xs) (after mark n m xs)
  list-good = play-good mark n (workers m) (cells_of m) false xs (from m) wide narrow h l (rested-running mark n m rest)

  pub uncut-running : ends_cut false xs ≡ false → Running mark n (workers m) (cells_of m) (after mark n m xs)
  uncut-running e = subst (λ (b : Bool). Good mark n (workers m) (cells_of m) b (after mark n m xs)) e list-good

-- ---- the theorem

-- every section begun is one that the engine takes
abbrev pub Admitted : ℕ → ℕ → Type 0
Admitted mark n =
    (m : Image) → Rested mark n m → (xs ys : List Move) → machine xs ≡ true → legal false xs ≡ true → working ys ≡ true
    → admissible mark n (workers m) (after mark n m (mended mark n xs ++ ys)).trace.begun ≡ true

module _ (mark n : ℕ) (wide : 8 ≤ n) (narrow : n ≤ 64) (admitted : Admitted mark n) where
  pub durable-always : DurableAlways mark n
  unfolding DurableAlways
  durable-always m rest xs h l =
      let D = workers m in
      let g = list-good mark n wide narrow m rest xs h l in
      let w = after mark n m xs in
      let worth = good-worth mark n m (ends_cut false xs) w g in
      let v = after mark n m (mended mark n xs) in
      let run = mended-running mark n m wide narrow xs (ends_cut false xs) g in
      let uncut = uncut-running mark n wide narrow m rest xs h l in
      record {
        accepts = (_, _, accepts mark n D (cells_of m) w.world.image w.trace.begun w.trace.order worth);
        as_many = worth.reached.many;
        turn-made = λ e d k. turn-goes mark n m w d (uncut e) k;
        run-made = λ e r. run-goes mark n m w r (uncut e);
        settles = λ ys y k.
            let a = admitted m rest xs ys h l y in
            rw (play-append mark n (mended mark n xs) ys (from m))
            (settled mark n m (play mark n ys v) (working-running mark n D (cells_of m) ys v y run) (working-idle mark n D (cells_of m) ys v y run k)
            (rw (play-append mark n (mended mark n xs) ys (from m)) at a));
        says-idle = λ ys r y k. rw (play-append mark n (mended mark n xs) ys (from m)) (last_says mark n m ys r v run y k);
      }

-- what formatting leaves is an image at rest
pub formatted-rests : (mark n : ℕ) → FormattedRests mark n
unfolding FormattedRests
formatted-rests mark n D some few =
    record {
      header = formatted-header mark n D some few;
      free = λ b l. formatted-at mark n D (lock b);
      empty = λ d l. (
        formatted-at mark n D (field Count d),
        formatted-at mark n D (field Pc d),
        formatted-at mark n D (field Intent d),
        formatted-at mark n D (field Owned d),
      );
    }
