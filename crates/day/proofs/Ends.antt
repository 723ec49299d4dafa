-- Where the core wants nothing, nothing is left to be printed (`nothing_left`): the core ends where no piece is to be made, or no room is left
-- for one (`whole-stops`); with room, and no more input or the day over, none is to be made of the whole input either.
use Prim.Native.Nat.{ℕ, zero, suc, ◌-◌, ◌<◌, ◌≤◌}
use mathlib.Core.Path.{◌≡◌, refl}
use mathlib.Core.Bool.{Bool, true, false, cond, ◌&&◌}
use mathlib.Core.List.{List, [], ◌++◌}
use native.Mathlib.Omega.{arith}
use borrow.Author.Tests.{ltb-false, le-leb}
use lib.ListN.{length, length-append}
use lib.Dec.{leb, ltb}
use Rattle.base.proofs.Bools.{and_right}
use Rattle.lines.specs.declared.Job.{Job}
use Rattle.lines.specs.declared.Job.TheVariants.{Turns, Rounds, Stores, Next, Stop}
use Rattle.day.specs.declared.Want.{Want}
use Rattle.day.specs.declared.Want.TheVariants.{Room, Nothing}
use Rattle.pieces.specs.Pieces.{Point, ready_for, ready, piece, Progress, progress, after, advance, pieces_left, whole}
use Rattle.day.specs.Wants.{input_for, want_of}
use Rattle.day.specs.Days.{rest}
use Rattle.pieces.proofs.Weights.{piece-less}
use Rattle.pieces.proofs.Advances.{printed_by, rests, goes}
use Rattle.day.proofs.Drains.{rest-none}

-- no piece follows what was put out
abbrev Stops : Bool → ℕ → Progress → Type 0
Stops more room a = (leb 22 (room - length a.out) && ready more a.point) ≡ false

private-still : (more : Bool) (room : ℕ) (q : Point) → (leb 22 room && ready more q) ≡ false → Stops more room (progress q [])
private-still more room q e = let k : room - 0 ≡ room = omega arith in rw k e

private-idle : (more : Bool) (q : Point) (b t : Bool) → pieces_left q ≤ 0 → (b && ready more q) ≡ t → t ≡ false
private-idle more q b true h e = absurd (omega (arith, piece-less more q (and_right b (ready more q) e)))
private-idle more q b false h e = refl

private-after : (more : Bool) (room : ℕ) (bs : List ℕ) (a : Progress) → Stops more (room - length bs) a → Stops more room (after bs a)
private-after more room bs a e =
    let k : room - length (bs ++ a.out) ≡ room - length bs - length a.out = omega (arith, length-append bs a.out) in
    rw k e

stops : (f : ℕ) (more : Bool) (room : ℕ) (q : Point) → pieces_left q ≤ f → Stops more room (advance f more room q)
stops zero more room q h =
    let e = private-idle more q (leb 22 room) _ h refl in
    rw (rests zero more room q e) (private-still more room q e)
stops (suc f) more room q h =
    by (leb 22 room && ready more q) refl (λ r. stops f more (room - length (printed_by more q)) (piece more q) (omega (arith, r)))
  where
    by : (t : Bool) → (leb 22 room && ready more q) ≡ t
        → (pieces_left (piece more q) < pieces_left q
        → Stops more (room - length (printed_by more q)) (advance f more (room - length (printed_by more q)) (piece more q)))
        → Stops more room (advance (suc f) more room q)
    by true e then =
        rw (goes f more room q e)
        (private-after more room (printed_by more q) (advance f more (room - length (printed_by more q)) (piece more q))
        (then (piece-less more q (and_right (leb 22 room) (ready more q) e))))
    by false e then = rw (rests (suc f) more room q e) (private-still more room q e)

pub whole-stops : (more : Bool) (room : ℕ) (q : Point) → Stops more room (whole more room q)
whole-stops more room q = stops (pieces_left q) more room q (omega arith)

private-room : (t : Bool) (w : Want) → cond t Room w ≡ Nothing → (t ≡ false) × (w ≡ Nothing)
private-room true w e = cc
private-room false w e = (refl, e)

private-over : (l : List ℕ) (j : Job) → input_for j ≡ Nothing → ready_for false l j ≡ false
private-over l (Turns w k) e = cc
private-over l (Rounds d r) e = cc
private-over l (Stores i) e = cc
private-over l Next e = cc
private-over l Stop e = refl

-- a point with so much room
module _ (room : ℕ) (q : Point) where
  private-none : (more : Bool) → (leb 22 room && ready more q) ≡ false → ltb room 22 ≡ false → cond more (input_for q.stage.played.job) Nothing ≡ Nothing
      → ready false q ≡ false
  private-none true e h w = private-over q.input q.stage.played.job w
  private-none false e h w = rw (le-leb 22 room (ltb-false room 22 h)) at e

  private-wants : (more : Bool) → (leb 22 room && ready more q) ≡ false → want_of more room q.stage.played.job ≡ Nothing → ready false q ≡ false
  unfolding want_of
  private-wants more e w =
      let p = private-room (ltb room 22) (cond more (input_for q.stage.played.job) Nothing) w in
      private-none more e p.0 p.1

  pub wants-none : (more : Bool) → (leb 22 room && ready more q) ≡ false → want_of more room q.stage.played.job ≡ Nothing → rest q ≡ []
  wants-none more e w = rest-none q (private-wants more e w)

pub nothing_left : (more : Bool) (room : ℕ) (q : Point)
    → want_of more (room - length (whole more room q).out) (whole more room q).point.stage.played.job ≡ Nothing → rest (whole more room q).point ≡ []
nothing_left more room q w =
    wants-none (room - length (whole more room q).out) (whole more room q).point more (whole-stops more room q) w
