-- What the core leaves where it wants input or nothing. Where it wants input, that is 4,096 bytes at most: of a longer line it needs no end.
-- Where it wants nothing, nothing is printed of what it left, whatever comes behind it.
use Rattle.std.proofs.Common.{◌≡◌, ℕ, ◌+◌, ◌-◌, ◌≤◌, Bool, true, false, cond, ◌&&◌, List, [], ◌++◌, length, refl, ap, ◌∙◌, ltb, leb, arith, append-nil, length-drop}
use borrow.Author.Tests.{ltb-false, le-leb}
use Rattle.lines.specs.declared.Job.{Job}
use Rattle.lines.specs.declared.Job.TheVariants.{Turns, Rounds, Stores, Next, Stop}
use Rattle.buffers.specs.Input.{line_of, complete, complete_at}
use Rattle.day.specs.declared.Stretch.{Stretch}
use Rattle.day.specs.declared.Want.TheVariants.{Room, Input, Nothing}
use Rattle.pieces.specs.Pieces.{Point, point, ready_for, whole}
use Rattle.day.specs.Core.{Advanced}
use Rattle.day.specs.Wants.{input_for, want_of}
use Rattle.day.specs.Days.{rest}
use Rattle.day.proofs.Anyhow.{stopped}
use Rattle.day.proofs.Ends.{whole-stops, nothing_left}
use Rattle.stream.specs.declared.Stream.{Stream}
use Rattle.stream.specs.Shell.{unread}
use Rattle.stream.proofs.Stepping.{unread-long}

-- ---- input

incomplete : (l : List ℕ) → complete true l ≡ false → length l ≤ 4096
unfolding complete_at
incomplete l e = by (ltb (length (line_of l)) (length l)) e
  where
    by : (t : Bool) → cond t true (ltb 4096 (length l)) ≡ false → length l ≤ 4096
    by true e = cc
    by false e = ltb-false 4096 (length l) e

-- what is left where no piece is to be made
short-for : (l : List ℕ) (j : Job) → ready_for true l j ≡ false → input_for j ≡ Input → length l ≤ 4096
short-for l (Turns w k) e f = cc
short-for l (Rounds d r) e f = cc
short-for l (Stores i) e f = cc
short-for l Next e f = incomplete l e
short-for l Stop e f = cc

short : (more : Bool) (room : ℕ) (l : List ℕ) (j : Job) → (leb 22 room && ready_for more l j) ≡ false → want_of more room j ≡ Input → length l ≤ 4096
unfolding want_of
short more room l j e w = by (ltb room 22) more refl e w
  where
    by : (t m : Bool) → ltb room 22 ≡ t → (leb 22 room && ready_for m l j) ≡ false → cond t Room (cond m (input_for j) Nothing) ≡ Input → length l ≤ 4096
    by true m f e w = cc
    by false true f e w = short-for l j (rw (le-leb 22 room (ltb-false room 22 f)) at e) w
    by false false f e w = cc

whole-short : (more : Bool) (room : ℕ) (q : Point)
    → want_of more (room - length (whole more room q).out) (whole more room q).point.stage.played.job ≡ Input
    → length (whole more room q).point.input ≤ 4096
whole-short more room q w =
    let a = whole more room q in short more (room - length a.out) a.point.input a.point.stage.played.job (whole-stops more room q) w

-- the bytes that are not taken then
pub waits-short : (m k b o u : List ℕ) (s : Stream) (h : Stretch) (q : Point) → s.from ≤ s.to → s.to ≤ length b
    → Advanced m k (unread b s) o u s.day h (whole s.more (length o) q) → length u ≡ length o
    → want_of s.more (length u - h.used) h.day.played.job ≡ Input → s.to - (s.from + h.taken) ≤ 4096
waits-short m k b o u s h q rising held core same want =
    let a = whole s.more (length o) q in
    let used : length a.out ≡ h.used = omega (arith, core.out.used) in
    let job : h.day.played.job ≡ a.point.stage.played.job = ap (λ (p : Point). p.stage.played.job) core.point in
    let w : want_of s.more (length o - length a.out) a.point.stage.played.job ≡ Input = rw (used, ← job) (rw same at want) in
    omega (
      arith,
      whole-short s.more (length o) q w,
      ap (λ (p : Point). length p.input) core.point,
      length-drop h.taken (unread b s),
      unread-long b s rising held,
      core.taken,
    )

-- ---- nothing

stop-for : (j : Job) → input_for j ≡ Nothing → j ≡ Stop
stop-for (Turns w k) e = cc
stop-for (Rounds d r) e = cc
stop-for (Stores i) e = cc
stop-for Next e = cc
stop-for Stop e = refl

stop : (room : ℕ) (j : Job) → want_of true room j ≡ Nothing → j ≡ Stop
unfolding want_of
stop room j e = by (ltb room 22) e
  where
    by : (t : Bool) → cond t Room (input_for j) ≡ Nothing → j ≡ Stop
    by true e = cc
    by false e = stop-for j e

pub nothing-more : (more : Bool) (room : ℕ) (q : Point) (x : List ℕ)
    → want_of more (room - length (whole more room q).out) (whole more room q).point.stage.played.job ≡ Nothing → (more ≡ false → x ≡ [])
    → rest (point ((whole more room q).point.input ++ x) (whole more room q).point.stage) ≡ []
nothing-more true room q x w e =
    let a = whole true room q in stopped (a.point.input ++ x) a.point.stage (stop (room - length a.out) a.point.stage.played.job w)
nothing-more false room q x w e =
    let a = whole false room q in
    ap (λ (l : List ℕ). rest (point l a.point.stage)) (ap (λ (l : List ℕ). a.point.input ++ l) (e refl) ∙ append-nil a.point.input)
    ∙ nothing_left false room q w
