-- What the parts of a piece leave is the definition's piece: the next line, if it is complete; the line gone on with; nothing.
use Prim.Native.Nat.{ℕ, ◌≤◌}
use mathlib.Core.Path.{◌≡◌, refl, sym, ap, ◌∙◌}
use mathlib.Core.Bool.{Bool, true, false}
use mathlib.Core.List.{List}
use lib.ListN.{length, take, drop}
use Rattle.std.specs.Prelude.{Option, Some, None}
use Rattle.lines.specs.declared.Job.{Job}
use Rattle.lines.specs.declared.Job.TheVariants.{Next, Stop}
use Rattle.lines.specs.Play.{stage, is_going, go_on}
use Rattle.stages.specs.declared.Day.{Day}
use Rattle.pieces.specs.declared.Piece.{Piece}
use Rattle.buffers.specs.Input.{line_of, rest_of, complete}
use Rattle.stages.specs.Begun.{line_on}
use Rattle.pieces.specs.Pieces.{point, ready_for, ready, piece_for, piece}
use Rattle.stages.specs.Buffer.{Buffered}
use Rattle.pieces.specs.Pieced.{point_of, Pieced}
use Rattle.stages.proofs.Buffers.{same-buffered}
use Rattle.pieces.proofs.Runs.{on-ready, on-piece}

abbrev pub made : Day → ℕ → Option Piece
made d from = Some (record { day = d; from = from })

-- m is the image's buffer before, k after
module _ (m input : List ℕ) (d : Day) (from : ℕ) (more : Bool) where
  pub next-none : from ≤ length input → d.words ≤ length m → complete more (drop from input) ≡ false
      → Pieced m m input d from None (ready_for more (drop from input) Next) (piece_for more (point_of (drop from input) m d) Next)
  next-none h w e = record { made = sym e; point = rw e; from = h; keeps = same-buffered m d.words w }

  pub next-made : (k : List ℕ) (s : Day) (to : ℕ) → complete more (drop from input) ≡ true
      → stage (take s.words k) s.played ≡ line_on (stage (take d.words m) d.played) (line_of (drop from input))
      → Buffered m k d.words s.words → to ≤ length input → drop to input ≡ rest_of (drop from input)
      → Pieced m k input d from (made s to) (ready_for more (drop from input) Next) (piece_for more (point_of (drop from input) m d) Next)
  next-made k s to e f b h r = record { made = sym e; point = rw (e, f, r); from = h; keeps = b }

  -- the same of the piece that the line's job asks for
  pub piece-as : (k : List ℕ) (r : Option Piece) (j : Job) → d.played.job ≡ j
      → Pieced m k input d from r (ready_for more (drop from input) j) (piece_for more (point_of (drop from input) m d) j)
      → Pieced m k input d from r (ready more (point_of (drop from input) m d)) (piece more (point_of (drop from input) m d))
  piece-as k r j e p = record {
    made = p.made ∙ ap (ready_for more (drop from input)) (sym e);
    point = p.point ∙ ap (piece_for more (point_of (drop from input) m d)) (sym e);
    from = p.from;
    keeps = p.keeps;
  }

  pub on-made : (k : List ℕ) (s : Day) → from ≤ length input → is_going d.played.job ≡ true
      → stage (take s.words k) s.played ≡ go_on (stage (take d.words m) d.played) → Buffered m k d.words s.words
      → Pieced m k input d from (made s from) (ready more (point_of (drop from input) m d)) (piece more (point_of (drop from input) m d))
  on-made k s h e f b =
      let w = stage (take d.words m) d.played in record {
        made = sym (on-ready w e more (drop from input));
        point = ap (point (drop from input)) f ∙ sym (on-piece w e more (drop from input));
        from = h;
        keeps = b;
      }

  pub stop-made : from ≤ length input → d.words ≤ length m → d.played.job ≡ Stop
      → Pieced m m input d from None (ready more (point_of (drop from input) m d)) (piece more (point_of (drop from input) m d))
  stop-made h w e = piece-as m None Stop e (record { made = refl; point = refl; from = h; keeps = same-buffered m d.words w })
