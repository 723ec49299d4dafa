-- The turns of sections that are over, after any list of calls and cuts: just those that the reference machine's path says (`turns-exact`).
use Prim.Native.Nat.{ℕ, ◌≤◌}
use mathlib.Core.Path.{refl}
use mathlib.Core.List.{List, []}
use Rattle.image.specs.Image.{Image, at, workers, cells_of}
use Rattle.claims.specs.Reference.{initial}
use Rattle.claims.specs.Calls.{Traced, from}
use Rattle.claims.specs.Claims.{of_worker, Rested, after}
use Rattle.claims.proofs.Cursors.{idle-at}
use Rattle.told.specs.Paths.{paths}
use Rattle.section.specs.Check.{Code}
use Rattle.told.specs.Turns.{Start, first, resumed, Span, nowhere, passage, passage_of, OnPath, Exact, TurnsExact}
use Rattle.told.proofs.FromRest.{kept-list}
use Rattle.told.proofs.Walking.{walk_none}
use Rattle.told.proofs.WalkTurn.{all_map}
use Rattle.told.proofs.Pacing.{StartsOn, Accords}
use Rattle.told.proofs.Passages.{heed-none}
use Rattle.told.proofs.OnTrack.{paths_in}
use Rattle.told.proofs.Spanning.{Spanning, Moored, spanning-keeps}

module _ (mark n : ℕ) (wide : 8 ≤ n) (narrow : n ≤ 64) (m : Image) (rest : Rested mark n m) where
  abbrev D : ℕ
  D = workers m

  -- to begin with nothing has happened
  pub rested-spanning : Spanning mark n D (cells_of m) (from m)
  rested-spanning e l =
      rw (heed-none e (passage 0 nowhere []), walk_none e (paths [] []) (initial n D (cells_of m) []))
      (record {
        anchor = record { ends = refl; at = record { none = (rest.empty e l).1; under = refl; size = refl }; spans = tt };
        pace = idle-at e;
      })

on-path : (code : Code) (p : List ℕ) (b : Start) → StartsOn code b p → OnPath b p
on-path code p first c = tt
on-path code p (resumed s) c = c.0

accords-exact : (mark n : ℕ) (m : Image) (w : Traced) (d : ℕ) (x : Span) → Accords (paths_in mark n (workers m) (cells_of m) w d) (of_worker d w.trace.begun) x
    → Exact mark n m w d x
accords-exact mark n m w d x (l, g, k, t, c) = record { begun = (l, g); ended = k; named = on-path _ _ x.start c; turns = t }

pub turns-exact : (mark n : ℕ) → 8 ≤ n → n ≤ 64 → TurnsExact mark n
unfolding TurnsExact
turns-exact mark n wide narrow m rest xs h l d dl =
    let D = workers m in
    let cells = cells_of m in
    let w = after mark n m xs in
    let k = kept-list mark n wide narrow m rest (Spanning mark n D cells) (Moored mark n D cells) (spanning-keeps mark n D cells wide)
    (rested-spanning mark n wide narrow m rest) xs h l in
    all_map _ (Exact mark n m w d) (passage_of d w.trace.events).spans (accords-exact mark n m w d) (k.1 d dl).spans
