-- A line played to its end, piece by piece (`Goes`): what is left to be gathered of it falls, and the turns that were counted are those gathered. At its end it
-- is the line whole (`line-played`).
use Rattle.std.proofs.Common.{◌≡◌, ℕ, ◌<◌, ◌≤◌, true, false, List, [], ◌++◌, length, take, sym, refl, ap, ◌∙◌, append_assoc, append-nil, arith}
use Rattle.lines.specs.Play.{Stage, stage, is_going, go_on}
use Rattle.lines.specs.Whole.{Took, Output, turns_in}
use Rattle.stages.specs.declared.Day.{Day}
use Rattle.stages.specs.Begun.{line_on}
use Rattle.stages.specs.Buffer.{Buffered}
use Rattle.stages.specs.Lines.{whole_line}
use Rattle.stages.proofs.Buffers.{same-buffered, buffered-then}
use Rattle.pieces.specs.Pieces.{job_pieces, ends_of}
use Rattle.pieces.proofs.Runs.{on-less}
use Rattle.pieces.proofs.Stopping.{was-none, on-ends}
use Rattle.pieces.proofs.Gathers.{gathers, gathers-rests, gathers-on, line-whole}
use Rattle.sums.specs.declared.Sums.{Sums}
use Rattle.sums.specs.Sums.{sums_of}
use Rattle.sums.specs.Inner.Counting.{counted}
use Rattle.sums.specs.Inner.Playing.{LinePlayed}
use Rattle.sums.proofs.Numbers.{counted-sums}

-- where a day stands: m is the image's buffer
abbrev pub stand : List ℕ → Day → Stage
stand m d = stage (take d.words m) d.played

-- from one place of a line to another: m and k are the image's buffers, x and y the sums
pub record Goes (m k : List ℕ) (d e : Day) (x y : Sums) : Type 0 where
  pub keeps : Buffered m k d.words e.words
  pub image : (gathers (stand k e)).image ≡ (gathers (stand m d)).image
  pub cursors : (gathers (stand k e)).cursors ≡ (gathers (stand m d)).cursors
  pub ends : ends_of e.played ≡ ends_of d.played
  pub turns : List Took
  pub counts : (ts : List Took) → x ≡ sums_of ts → y ≡ sums_of (ts ++ turns)
  pub all : turns ++ (gathers (stand k e)).turns ≡ (gathers (stand m d)).turns

pub goes-start : (m : List ℕ) (d : Day) (x : Sums) → d.words ≤ length m → Goes m m d d x x
goes-start m d x h = record {
  keeps = same-buffered m d.words h;
  image = refl;
  cursors = refl;
  ends = refl;
  turns = [];
  counts = λ ts e. e ∙ ap sums_of (sym (append-nil ts));
  all = refl;
}

module _ (m k : List ℕ) (d e : Day) (x y : Sums) (g : Goes m k d e x y) where
  -- one piece more
  module _ (going : is_going e.played.job ≡ true) (v : List ℕ) (f : Day) (on : stand v f ≡ go_on (stand k e)) where
    private-gathers : gathers (stand v f) ≡ gathers (go_on (stand k e))
    private-gathers = ap gathers on

    pub goes-less : job_pieces f.played.job < job_pieces e.played.job
    goes-less = omega (arith, on-less (stand k e) going, ap (λ (s : Stage). job_pieces s.played.job) on)

    pub goes_on : (z : Sums) → z ≡ counted f.played.made y → Buffered k v e.words f.words → Goes m v d f x z
    goes_on z count b =
        let now = gathers-on (stand k e) going in
        let made : turns_in f.played.made ≡ turns_in (go_on (stand k e)).played.made = ap (λ (s : Stage). turns_in s.played.made) on in
        record {
          keeps = buffered-then m k v d.words e.words f.words g.keeps b;
          image = ap (λ (o : Output). o.image) private-gathers ∙ sym (ap (λ (o : Output). o.image) now) ∙ g.image;
          cursors = ap (λ (o : Output). o.cursors) private-gathers ∙ sym (ap (λ (o : Output). o.cursors) now) ∙ g.cursors;
          ends = ap (λ (s : Stage). ends_of s.played) on ∙ on-ends (stand k e) going ∙ sym (was-none (stand k e) going) ∙ g.ends;
          turns = g.turns ++ turns_in f.played.made;
          counts =
              λ ts h. count ∙ ap (counted f.played.made) (g.counts ts h) ∙ counted-sums f.played.made (ts ++ g.turns)
              ∙ ap sums_of (append_assoc ts g.turns (turns_in f.played.made));
          all =
              append_assoc g.turns (turns_in f.played.made) (gathers (stand v f)).turns
              ∙ ap (λ (o : Output). g.turns ++ (turns_in f.played.made ++ o.turns)) private-gathers
              ∙ ap (λ (ts : List Took). g.turns ++ (ts ++ (gathers (go_on (stand k e))).turns)) made
              ∙ sym (ap (λ (o : Output). g.turns ++ o.turns) now)
              ∙ g.all;
        }

  -- at its end; the line was begun on the buffer o, with the day a
  pub line-played : is_going e.played.job ≡ false → (o : List ℕ) (a : Day) (text : List ℕ)
      → stand m d ≡ line_on (stand o a) text → Buffered o m a.words d.words
      → LinePlayed o k a e x y (whole_line (take a.words o) a.played.cursors text)
  line-played over o a text begun b =
      let l = whole_line (take a.words o) a.played.cursors text in
      let w = line-whole (stand o a) text in
      let rests = gathers-rests (stand k e) over in
      record {
        image =
            sym (ap (λ (q : Output). q.image) rests) ∙ g.image ∙ ap (λ (s : Stage). (gathers s).image) begun ∙ ap (λ (q : Output). q.image) w.output;
        cursors =
            sym (ap (λ (q : Output). q.cursors) rests) ∙ g.cursors ∙ ap (λ (s : Stage). (gathers s).cursors) begun
            ∙ ap (λ (q : Output). q.cursors) w.output;
        ends = g.ends ∙ ap (λ (s : Stage). ends_of s.played) begun ∙ w.ends;
        keeps = buffered-then o m k a.words d.words e.words b g.keeps;
        counts =
            λ ts h. g.counts ts h
            ∙ ap (λ (us : List Took). sums_of (ts ++ us))
            (sym (append-nil g.turns) ∙ sym (ap (λ (q : Output). g.turns ++ q.turns) rests) ∙ g.all ∙ ap (λ (s : Stage). (gathers s).turns) begun
            ∙ ap (λ (q : Output). q.turns) w.output);
      }
