-- Lines beside calls. A world is ready behind some turns (`Good`) where its header is right and its events tell of these turns; it ends a line (`Ends`) where
-- it has what the line leaves, and is ready behind the line's turns too. A turn keeps a world ready (`turn-good`) and leaves the same as the line's turn, which
-- is lent all stores (`same-image`): so a turn and what follows it (`turn-then`), and turns of one worker, each a call (`turns-played`).
use Prim.Native.Nat.{ℕ, zero, suc, ◌-◌, ◌^◌, ◌<◌}
use mathlib.Core.Path.{◌≡◌, refl, sym, subst, ◌∙◌}
use mathlib.Core.Bool.{Bool, true, false, cond, false≢true}
use mathlib.Core.List.{List, [], ◌∷◌, ◌++◌, append-nil, append_assoc}
use native.Mathlib.Omega.{arith}
use lib.ListN.{replicate}
use Rattle.image.specs.Image.{Image, header_ok, index_of}
use Rattle.image.proofs.Stores.{put-lots, header-store}
use Rattle.working.specs.declared.Cursors.{Cursors}
use Rattle.edition.specs.Edition.{mark, own_words}
use Rattle.plan.specs.Turn.{Outcome, stored, passed, waiting, resting, refused}
use Rattle.turn.specs.Call.{answer_of, leaves, outcome, outcome_at}
use Rattle.claims.specs.Calls.{Traced, turn_by, refuses, turns, whole, call, lent, move, play}
use Rattle.frames.specs.Print.{Printed}
use Rattle.lines.specs.Answers.{turn_prints}
use Rattle.lines.specs.Play.{uncut}
use Rattle.lines.specs.Whole.{Took, took, Output, output, onto, turn_then, turns_line}
use Rattle.recorded.proofs.Told.{Told, told-turn}

pub record Good (ts : List Took) (w : Traced) : Type 0 where
  pub header : header_ok mark own_words w.world.image ≡ true
  pub told : Told ts w.trace.events

pub record Ends (ts : List Took) (o : Output) (w : Traced) : Type 0 where
  pub image : w.world.image ≡ o.image
  pub cursors : w.world.cursors ≡ o.cursors
  pub good : Good (ts ++ o.turns) w

-- a line that makes no turn and changes nothing
pub ends-here : (ts : List Took) (ps : List Printed) (w : Traced) → Good ts w → Ends ts (output ps [] w.world.image w.world.cursors) w
ends-here ts ps w g = record { image = refl; cursors = refl; good = rw append-nil g }

-- turns before a line
pub ends-onto : (ts us : List Took) (p : Printed) (o : Output) (w : Traced) → Ends (ts ++ us) o w → Ends ts (onto p us o) w
ends-onto ts us p o w e = record { image = e.image; cursors = e.cursors; good = rw append_assoc at e.good }

-- ---- a turn

module _ (w : Traced) (d : ℕ) (some_left : 0 < w.world.left) where
  turn-header : (o : Outcome) → header_ok mark own_words w.world.image ≡ true → header_ok mark own_words (leaves own_words w.world d o).image ≡ true
  turn-header (stored p v c) h = header-store own_words mark w.world.left w.world.image p v ∙ h
  turn-header (passed why c) h = h
  turn-header (waiting b) h = h
  turn-header resting h = h
  turn-header (refused r) h = h

  turn-good : (ts : List Took) (o : Outcome) → Good ts w → Good (ts ++ (took d (answer_of own_words o) ∷ [])) (turn_by mark own_words w d o)
  turn-good ts o g = record { header = turn-header o g.header; told = told-turn w d ts some_left g.told o }

  pub same-image : (o : Outcome) → (leaves own_words (uncut w.world.image w.world.cursors) d o).image ≡ (leaves own_words w.world d o).image
  same-image (stored p v c) =
      put-lots 18446744073709551615 w.world.image (index_of own_words p) v (omega arith)
      ∙ sym (put-lots w.world.left w.world.image (index_of own_words p) v some_left)
  same-image (passed why c) = refl
  same-image (waiting b) = refl
  same-image resting = refl
  same-image (refused r) = refl

  pub same-cursors : (o : Outcome) → (leaves own_words (uncut w.world.image w.world.cursors) d o).cursors ≡ (leaves own_words w.world d o).cursors
  same-cursors (stored p v c) = refl
  same-cursors (passed why c) = refl
  same-cursors (waiting b) = refl
  same-cursors resting = refl
  same-cursors (refused r) = refl

  -- a turn and what follows it, or where it is refused what stands there
  pub turn-then : (ts : List Took) (more : Image → Cursors → Output) (stop next : Traced) (o : Outcome) → Good ts w
      → (refuses mark own_words o ≡ true → (ps : List Printed) → Ends ts (output ps [] w.world.image w.world.cursors) stop)
      → ((us : List Took) → Good us (turn_by mark own_words w d o)
      → Ends us (more (turn_by mark own_words w d o).world.image (turn_by mark own_words w d o).world.cursors) next)
      → Ends ts (turn_then more w.world.image w.world.cursors d o) (cond (refuses mark own_words o) stop next)
  turn-then ts more stop next o g stops goes = by (refuses mark own_words o) refl
    where
      by : (b : Bool) → refuses mark own_words o ≡ b
          → Ends ts (turn_then more w.world.image w.world.cursors d o) (cond b stop next)
      by true e = rw e (stops e _)
      by false e =
          let v = leaves own_words w.world d o in
          let a = answer_of own_words o in
          rw (e, same-image o, same-cursors o)
          (ends-onto ts (took d a ∷ []) (turn_prints v.image a) (more v.image v.cursors) next (goes (ts ++ (took d a ∷ [])) (turn-good ts o g)))

-- ---- turns of worker d

-- a refused turn leaves everything
refused-still : (w : Traced) (d : ℕ) (o : Outcome) → refuses mark own_words o ≡ true → turn_by mark own_words w d o ≡ w
refused-still w d (stored p v c) e = absurd (false≢true e)
refused-still w d (passed why c) e = absurd (false≢true e)
refused-still w d (waiting b) e = absurd (false≢true e)
refused-still w d resting e = absurd (false≢true e)
refused-still w d (refused r) e = refl

-- each call is lent all stores
abbrev pub all-lent : Traced → Traced
all-lent w = lent mark own_words (2 ^ 64 - 1) w

pub good-lent : (ts : List Took) (w : Traced) → Good ts w → Good ts (all-lent w)
good-lent ts w g = record { header = g.header; told = g.told }

either : (b : Bool) (w : Traced) → cond b w w ≡ w
either true w = refl
either false w = refl

module _ (d : ℕ) where
  -- so those behind it are refused
  refused-played : (k : ℕ) (w : Traced) (ts : List Took) (ps : List Printed) → refuses mark own_words (outcome mark own_words w.world d) ≡ true → Good ts w
      → Ends ts (output ps [] w.world.image w.world.cursors) (play mark own_words (replicate k (whole (turns d))) w)
  unfolding play move call outcome outcome_at
  refused-played zero w ts ps e g = ends-here ts ps w g
  refused-played (suc k) w ts ps e g =
      subst (λ (x : Traced). Ends ts (output ps [] w.world.image w.world.cursors) (play mark own_words (replicate k (whole (turns d))) x))
      (sym (refused-still (all-lent w) d (outcome mark own_words (all-lent w).world d) e)) (refused-played k (all-lent w) ts ps e (good-lent ts w g))

  pub turns-played : (k : ℕ) (w : Traced) (ts : List Took) → Good ts w
      → Ends ts (turns_line k w.world.image w.world.cursors d) (play mark own_words (replicate k (whole (turns d))) w)
  unfolding play move call outcome outcome_at turns_line
  turns-played zero w ts g = ends-here ts [] w g
  turns-played (suc k) w ts g =
      let o = outcome mark own_words (all-lent w).world d in
      let v = turn_by mark own_words (all-lent w) d o in
      let next = play mark own_words (replicate k (whole (turns d))) v in
      subst (λ (x : Traced). Ends ts (turns_line (suc k) w.world.image w.world.cursors d) x) (either (refuses mark own_words o) next)
      (turn-then (all-lent w) d (omega arith) ts (λ m' c'. turns_line k m' c' d) next next o (good-lent ts w g)
      (λ e ps. rw (refused-still (all-lent w) d o e) (refused-played k (all-lent w) ts ps e (good-lent ts w g)))
      (λ us h. turns-played k v us h))
