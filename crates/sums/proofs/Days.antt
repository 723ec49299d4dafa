-- The reading of a day, line by line (`Stands`): it starts with all lines to be read (`stands-start`), each line takes one of them (`stands-next`), and at
-- its end the sums are the day's (`stands-over`).
use Rattle.std.proofs.Common.{◌≡◌, ℕ, ◌+◌, ◌-◌, ◌<◌, ◌≤◌, Bool, true, false, cond, ◌&&◌, eqb, ltb, ◌≢◌}
use Rattle.std.proofs.Common.{List, [], ◌∷◌, ◌++◌, length, take, drop, sym, refl, ap, ◌∙◌, true≢false, append_assoc, append-nil}
use Rattle.std.proofs.Common.{arith, length-drop, ltb-false, ltb-true, eq-eqb, ne_eqb, eqb-true}
use borrow.Author.Tests.{eqb-false}
use Rattle.edition.specs.Edition.{largest}
use Rattle.working.specs.declared.Cursors.{Cursors}
use Rattle.image.specs.Image.{Image}
use Rattle.lines.specs.Whole.{Took}
use Rattle.buffers.specs.Input.{line_of, rest_of, lines_of}
use Rattle.buffers.proofs.Lines.{lines-first}
use Rattle.stages.specs.Begun.{fresh}
use Rattle.stages.specs.Lines.{Line, Reading, whole_line, followed, lines_whole}
use Rattle.pieces.specs.Pieces.{ends_of}
use Rattle.sums.specs.declared.playing.Stand.{Stand}
use Rattle.sums.specs.declared.Sums.{Sums}
use Rattle.sums.specs.Sums.{sums_of}
use Rattle.sums.specs.Day.{day_reading, day_sums}
use Rattle.sums.specs.Inner.Playing.{LinePlayed, Rest, Stands}

-- ---- the lines left

lines_left : (l : List ℕ) → 0 < length l → lines_of l ≡ line_of l ∷ lines_of (rest_of l)
lines_left [] h = absurd (omega arith)
lines_left (b ∷ bs) h = lines-first b bs

reading-first : (l : List ℕ) (m : Image) (c : Cursors) → 0 < length l
    → lines_whole (lines_of l) m c ≡ followed (whole_line m c (line_of l)) (lines_whole (lines_of (rest_of l)))
unfolding lines_whole
reading-first l m c h = ap (λ (ls : List (List ℕ)). lines_whole ls m c) (lines_left l h)

-- a line of a reading, behind the turns ts and so many lines
module _ (whole : Reading) (ts : List Took) (lines : ℕ) (x : Line) (more : Image → Cursors → Reading) (g : Rest whole ts lines (followed x more)) where
  follows : x.ends ≡ 0 → Rest whole (ts ++ x.output.turns) (lines + 1) (more x.output.image x.output.cursors)
  follows e =
      let z = eq-eqb x.ends 0 e in
      let y = more x.output.image x.output.cursors in
      record {
        turns = g.turns ∙ rw z (sym (append_assoc ts x.output.turns y.output.turns));
        ends = g.ends ∙ rw z;
        read = g.read ∙ rw z (omega arith);
      }

  ends_there : x.ends ≢ 0 → (whole.output.turns ≡ ts ++ x.output.turns) × (whole.ends ≡ x.ends) × (whole.read ≡ lines + 1)
  ends_there e = let z = ne_eqb x.ends 0 e in (g.turns ∙ rw z, g.ends ∙ rw z, g.read ∙ rw z)

-- ---- the loop

-- m and k are the image's buffers, x and y the sums, before the next line and behind it
module _ (bytes m k : List ℕ) (s r : Stand) (x y : Sums) (g : Stands bytes m s x) (none : ends_of s.day.played ≡ 0) (h : s.from < length bytes)
    (p : LinePlayed m k s.day r.day x y (whole_line (take s.day.words m) s.day.played.cursors (line_of (drop s.from bytes)))) where
  abbrev private-line : Line
  private-line = whole_line (take s.day.words m) s.day.played.cursors (line_of (drop s.from bytes))

  abbrev private-more : Image → Cursors → Reading
  private-more = lines_whole (lines_of (rest_of (drop s.from bytes)))

  private-rest : Rest (day_reading bytes) g.turns s.lines (followed private-line private-more)
  private-rest =
      rw (← reading-first (drop s.from bytes) (take s.day.words m) s.day.played.cursors (omega (arith, length-drop s.from bytes)))
      (g.going none)

  pub stands-next : r.lines ≡ s.lines + 1 → drop r.from bytes ≡ rest_of (drop s.from bytes)
      → s.from < r.from → r.from ≤ length bytes → length k ≡ length m → Stands bytes k r y
  stands-next lines to further in-it long = record {
    turns = g.turns ++ private-line.output.turns;
    counted = p.counts g.turns g.counted;
    inside = in-it;
    few = omega (arith, g.few);
    holds = record { words = p.keeps.words; largest = omega (arith, g.holds.largest) };
    going =
        λ e. rw (to, lines, p.image, p.cursors) (follows (day_reading bytes) g.turns s.lines private-line private-more private-rest
        (sym p.ends ∙ e));
    over =
        λ e. rw (lines, p.ends) (ends_there (day_reading bytes) g.turns s.lines private-line private-more private-rest
        (λ q. e (p.ends ∙ q)));
  }

-- before the first line: all of them are left
pub stands-start : (bytes m : List ℕ) (x : Sums) → largest ≤ length m → x ≡ sums_of []
    → Stands bytes m (record { day = record { words = 0; played = fresh }; from = 0; lines = 0 }) x
unfolding fresh
stands-start bytes m x h e = record {
  turns = [];
  counted = e;
  inside = omega arith;
  few = omega arith;
  holds = record { words = omega arith; largest = h };
  going = λ z. record { turns = refl; ends = refl; read = omega arith };
  over = λ z. absurd (z refl);
}

drop_all : (l : List ℕ) (i : ℕ) → length l ≤ i → drop i l ≡ []
drop_all l i h = empty (drop i l) (omega (arith, length-drop i l))
  where
    empty : (k : List ℕ) → length k ≤ 0 → k ≡ []
    empty [] e = refl
    empty (b ∷ bs) e = absurd (omega arith)

no_line : (m : Image) (c : Cursors) (l : List ℕ) → l ≡ [] → ((lines_whole (lines_of l) m c).output.turns ≡ [])
    × ((lines_whole (lines_of l) m c).ends ≡ 0) × ((lines_whole (lines_of l) m c).read ≡ 0)
unfolding lines_whole lines_of
no_line m c l e = rw e (refl, refl, refl)

-- behind the last: none is left
module _ (bytes m : List ℕ) (s : Stand) (x : Sums) (g : Stands bytes m s x) where
  private-over : (t u : Bool) → eqb (ends_of s.day.played) 0 ≡ t → ltb s.from (length bytes) ≡ u → (t && u) ≡ false
      → (x ≡ day_sums bytes) × (ends_of s.day.played ≡ (day_reading bytes).ends) × (s.lines ≡ (day_reading bytes).read)
  private-over false u e f h =
      let o = g.over (eqb-false (ends_of s.day.played) 0 e) in
      (g.counted ∙ ap sums_of (sym o.0), sym o.1, sym o.2)
  private-over true true e f h = absurd (true≢false h)
  private-over true false e f h =
      let z = eqb-true (ends_of s.day.played) 0 e in
      let o = g.going z in
      let all = drop_all bytes s.from (ltb-false s.from (length bytes) f) in
      let n = no_line (take s.day.words m) s.day.played.cursors (drop s.from bytes) all in (
        g.counted ∙ ap sums_of (sym (append-nil g.turns) ∙ sym (o.turns ∙ ap (λ (ts : List Took). g.turns ++ ts) n.0)),
        z ∙ sym (o.ends ∙ n.1),
        sym (o.read ∙ ap (λ (k : ℕ). s.lines + k) n.2 ∙ omega arith),
      )

  pub stands-over : (eqb (ends_of s.day.played) 0 && ltb s.from (length bytes)) ≡ false
      → (x ≡ day_sums bytes) × (ends_of s.day.played ≡ (day_reading bytes).ends) × (s.lines ≡ (day_reading bytes).read)
  stands-over h = private-over (eqb (ends_of s.day.played) 0) (ltb s.from (length bytes)) refl refl h
