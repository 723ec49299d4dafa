-- The core's loop. Its invariant (`Going`) holds at the start, and after each piece that is made and printed; where it ends, no piece being
-- made or no room being left, it says what the core promises.
use Prim.Native.Nat.{ℕ, ◌-◌, ◌<◌, ◌≤◌}
use mathlib.Core.Path.{◌≡◌, refl, sym, ap, ◌∙◌}
use mathlib.Core.Bool.{Bool, true, false, ◌&&◌}
use mathlib.Core.List.{List}
use native.Mathlib.Omega.{arith}
use borrow.Author.Tests.{lt-leb, le-leb}
use lib.ListN.{length, take, drop}
use lib.Seq.{length-take-le}
use Rattle.std.proofs.Common.{Some, None}
use Rattle.stages.specs.declared.Day.{Day}
use Rattle.pieces.specs.declared.Piece.{Piece}
use Rattle.pieces.specs.declared.Run.{Run}
use Rattle.day.specs.declared.Stretch.{Stretch}
use Rattle.buffers.specs.Output.{bytes_of}
use Rattle.pieces.specs.Pieces.{Point, ready, piece, after, pieces_left, whole}
use Rattle.buffers.specs.Output.{Puts}
use Rattle.stages.specs.Buffer.{Buffered}
use Rattle.pieces.specs.Pieced.{point_of, Pieced, RunsOn}
use Rattle.day.specs.Core.{Advanced}
use Rattle.stages.proofs.Buffers.{same-buffered, buffered-then, behind-later}
use Rattle.pieces.proofs.Weights.{piece-less, piece-none}
use Rattle.pieces.proofs.Advances.{loop-next, loop-over}

-- m and o are the buffers of image and output at the start, and the day was d; k and u are they now, and s says where the day stands, what is taken of
-- the input l, and what is used of the output
pub record Going (m k l o u : List ℕ) (more : Bool) (d : Day) (s : Stretch) : Type 0 where
  pub words : length k ≡ length m
  pub bytes : length u ≡ length o
  pub inside : s.taken ≤ length l
  pub room : s.used ≤ length u
  pub keeps : Buffered m k d.words s.day.words
  pub behind : drop s.used u ≡ drop s.used o
  pub so : after (take s.used u) (whole more (length u - s.used) (point_of (drop s.taken l) k s.day)) ≡ whole more (length o) (point_of l m d)

private-out : (o u : List ℕ) (used : ℕ) (bs : List ℕ) → used ≤ length u → drop used u ≡ drop used o → take used u ≡ bs → Puts o u 0 used bs
private-out o u used bs h b e =
    let k : length bs ≡ used = ap length (sym e) ∙ length-take-le used u h in
    record { used = omega arith; room = h; front = e; behind = b }

module _ (m l o : List ℕ) (more : Bool) (d : Day) where
  pub going-starts : d.words ≤ length m → Going m m l o o more d (record { day = d; taken = 0; used = 0 })
  going-starts h =
      let e : length o - 0 ≡ length o = omega arith in
      record {
        words = refl;
        bytes = refl;
        inside = omega arith;
        room = omega arith;
        keeps = same-buffered m d.words h;
        behind = refl;
        so = rw e;
      }

  module _ (k u : List ℕ) (s : Stretch) (g : Going m k l o u more d s) where
    abbrev private-point : Point
    private-point = point_of (drop s.taken l) k s.day

    -- no room is left
    pub going-over : length u - s.used < 22 → Advanced m k l o u d s (whole more (length o) (point_of l m d))
    going-over h =
        let p = loop-over more private-point u s.used _ g.so (ap (λ (b : Bool). b && ready more private-point) (lt-leb 22 (length u - s.used) h)) in
        record { point = p.0; taken = g.inside; keeps = g.keeps; out = private-out o u s.used _ g.room g.behind p.1 }

    -- no piece is made
    pub going-none : (j : List ℕ) → Pieced k j l s.day s.taken None (ready more private-point) (piece more private-point)
        → 22 ≤ length u - s.used → Advanced m j l o u d s (whole more (length o) (point_of l m d))
    going-none j p h =
        let f : ready more private-point ≡ false = sym p.made in
        let t = loop-over more private-point u s.used _ g.so (ap (λ (b : Bool). b && ready more private-point) (le-leb 22 (length u - s.used) h) ∙ f) in
        record {
          point = p.point ∙ piece-none more private-point f ∙ t.0;
          taken = p.from;
          keeps = buffered-then m k j d.words s.day.words s.day.words g.keeps p.keeps;
          out = private-out o u s.used _ g.room g.behind t.1;
        }

    -- one is made
    module _ (j : List ℕ) (r : Piece) (p : Pieced k j l s.day s.taken (Some r) (ready more private-point) (piece more private-point)) where
      pub going_less : pieces_left (point_of (drop r.from l) j r.day) < pieces_left private-point
      going_less = omega (arith, ap pieces_left p.point, piece-less more private-point (sym p.made))

      -- and printed
      pub going_next : (v : List ℕ) (to : ℕ) → 22 ≤ length u - s.used → Puts u v s.used to (bytes_of r.day.played.printed)
          → length j ≡ length k → length v ≡ length u → Going m j l o v more d (record { day = r.day; taken = r.from; used = to })
      going_next v to h b w x =
          let same : bytes_of r.day.played.printed ≡ bytes_of (piece more private-point).stage.played.printed =
          ap (λ (y : Point). bytes_of y.stage.played.printed) p.point in
          record {
            words = w ∙ g.words;
            bytes = x ∙ g.bytes;
            inside = p.from;
            room = b.room;
            keeps = buffered-then m k j d.words s.day.words r.day.words g.keeps p.keeps;
            behind = b.behind ∙ behind-later u o s.used to (omega (arith, b.used)) g.behind;
            so =
                ap (λ (y : Point). after (take to v) (whole more (length v - to) y)) p.point
                ∙ loop-next more private-point u s.used _ g.so v to (rw same at b) x h (sym p.made);
          }

-- a line gone on with in the loop
pub going-runs : (m k j l o u v : List ℕ) (more : Bool) (d : Day) (s : Stretch) (r : Run) → Going m k l o u more d s
    → RunsOn k j u v s.used s.day r → length j ≡ length k → length v ≡ length u
    → Going m j l o v more d (record { day = r.day; taken = s.taken; used = r.used })
going-runs m k j l o u v more d s r g t w x = record {
  words = w ∙ g.words;
  bytes = x ∙ g.bytes;
  inside = g.inside;
  room = t.room;
  keeps = buffered-then m k j d.words s.day.words r.day.words g.keeps t.keeps;
  behind = t.behind ∙ behind-later u o s.used r.used t.from g.behind;
  so = t.so more (drop s.taken l) ∙ g.so;
}
