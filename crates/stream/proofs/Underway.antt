-- A day under way between a reader and a writer: what is written is the front of what the bytes read print, and what is not taken prints the
-- rest, whatever comes behind it (`left`). A step keeps this (`goes-on`), as the core's calls do (`day/proofs/Anyhow.antt`); at the day's end it
-- is all (`prints`).
use Rattle.std.proofs.Common.{◌≡◌, ℕ, ◌-◌, Bool, true, false, cond, not, ◌||◌, List, [], ◌++◌, length, drop, refl, sym, ap, subst, ◌∙◌, append_assoc, append-nil, Some, None, IfSome, ltb}
use Rattle.std.specs.declared.option.Option.{Option}
use Rattle.std.proofs.lemmas.Bool.{not-true}
use Rattle.std.proofs.lemmas.List.{append_cancel_left}
use Rattle.std.proofs.Math.Seq.{take-append_seam}
use Rattle.std.specs.Io.{StartsWith}
use Rattle.std.specs.Io.KnownBytes.{Appends, Consumes, IsAtEnd}
use Rattle.std.proofs.KnownBytes.{Consumes-nil, Appends-nil, Consumes-trans, Appends-trans, Consumes-whole, starts_with_rest}
use Rattle.pieces.specs.Pieces.{Point, point, Progress, whole, pieces_left}
use Rattle.pieces.specs.Pieced.{point_of}
use Rattle.day.specs.declared.Want.{Want}
use Rattle.day.specs.declared.Want.TheVariants.{Room, Input, Nothing}
use Rattle.day.specs.Wants.{want_of}
use Rattle.day.specs.Days.{rest}
use Rattle.day.specs.Printout.{printout}
use Rattle.day.proofs.Anyhow.{cut}
use Rattle.day.proofs.Printout.{day-printout}
use Rattle.lines.specs.declared.Job.{Job}
use Rattle.stages.specs.Begun.{fresh}
use Rattle.stream.specs.declared.Stream.{Stream}
use Rattle.stream.specs.InBuffers.{InBuffers}
use Rattle.stream.specs.Shell.{unread, passed, stretch_of, Served, Stepped}
use Rattle.stream.specs.Carried.{Came, Written}
use Rattle.stream.proofs.Stepping.{left-behind}
use Rattle.stream.proofs.Waiting.{nothing-more}

-- the reader's bytes were p and are q, the writer's w and v; m and b are the buffers of image and input
pub record Underway (p q w v : Option (List ℕ)) (m b : List ℕ) (s : Stream) (failed : Bool) : Type 0 where
  pub bytes : List ℕ
  pub out : List ℕ
  pub read : Consumes p q bytes
  pub written : Appends w v out
  pub first : StartsWith (printout bytes) out
  pub left : s.over ≡ false → (x : List ℕ) → (s.more ≡ false → x ≡ []) → out ++ rest (point_of (unread b s ++ x) m s.day) ≡ printout (bytes ++ x)
  pub done : s.over ≡ true → failed ≡ false → (x : List ℕ) → (s.more ≡ false → x ≡ []) → out ≡ printout (bytes ++ x)
  pub ended : failed ≡ false → s.more ≡ false → IfSome p (λ xs. xs ≡ bytes)

-- ---- a step

-- what the core does in it
abbrev pub core_of : List ℕ → List ℕ → List ℕ → Stream → Progress
core_of m b o s = whole s.more (length o) (point_of (unread b s) m s.day)

no-input : (room : ℕ) (j : Job) → want_of false room j ≡ Input → ⊥
unfolding want_of
no-input room j e = by (ltb room 22) e
  where
    by : (t : Bool) → cond t Room Nothing ≡ Input → ⊥
    by true e = cc
    by false e = cc

module _ (m k b c o u : List ℕ) (s r : Stream) (in-buffers : InBuffers m b s) (step : Stepped m k b c o u s r (core_of m b o s)) where
  private-left : unread b (passed s (stretch_of s r (core_of m b o s)) r.over) ≡ (core_of m b o s).point.input
  private-left = left-behind m k b o u s (stretch_of s r (core_of m b o s)) (core_of m b o s) in-buffers.rising in-buffers.held step.core r.over

  -- no more input is to come, and none came
  private-still : (x : Want) → Served x b c (passed s (stretch_of s r (core_of m b o s)) r.over) r → (x ≡ Input → ⊥)
      → (r.more ≡ s.more) × (unread c r ≡ (core_of m b o s).point.input)
  private-still Room e n =
      (ap (λ (y : Stream). y.more) e.0, ap (λ (l : List ℕ). unread l r) e.1 ∙ ap (λ (y : Stream). unread b y) e.0 ∙ private-left)
  private-still Input e n = absurd (n refl)
  private-still Nothing e n =
      (ap (λ (y : Stream). y.more) e.0, ap (λ (l : List ℕ). unread l r) e.1 ∙ ap (λ (y : Stream). unread b y) e.0 ∙ private-left)

  still : s.more ≡ false → (r.more ≡ false) × (unread c r ≡ (core_of m b o s).point.input)
  still e =
      let a = core_of m b o s in
      let n = λ (f : want_of s.more (length o - length a.out) r.day.played.job ≡ Input). no-input (length o - length a.out) r.day.played.job
      (subst (λ (x : Bool). want_of x (length o - length a.out) r.day.played.job ≡ Input) e f) in
      let h = private-still (want_of s.more (length o - length a.out) r.day.played.job) step.served n in
      (h.0 ∙ e, h.1)

module _ (p q z w v y : Option (List ℕ)) (m k b c o u : List ℕ) (s r : Stream) (failed fails : Bool) (on : s.over ≡ false)
    (in-buffers : InBuffers m b s) (day : Underway p q w v m b s failed) (step : Stepped m k b c o u s r (core_of m b o s))
    (came : Came q z (core_of m b o s).point.input (unread c r)) (put : Written v y (core_of m b o s).out (not r.over || not fails)) where
  -- where no more was to come, none came
  private-none : s.more ≡ false → came.bytes ≡ []
  private-none e =
      let l = (core_of m b o s).point.input in
      append_cancel_left l came.bytes [] (sym came.behind ∙ (still m k b c o u s r in-buffers step e).1 ∙ sym (append-nil l))

  private-behind : (x : List ℕ) → (r.more ≡ false → x ≡ []) → s.more ≡ false → came.bytes ++ x ≡ []
  private-behind x h e = rw (private-none e, h (still m k b c o u s r in-buffers step e).0)

  -- what was written, what the core put out, and what is printed of the rest
  private-on : (x : List ℕ) → (r.more ≡ false → x ≡ [])
      → day.out ++ ((core_of m b o s).out ++ rest (point_of (unread c r ++ x) k r.day)) ≡ printout ((day.bytes ++ came.bytes) ++ x)
  private-on x h =
      let a = core_of m b o s in
      let g = point_of (unread b s) m s.day in
      let t = came.bytes ++ x in
      let e = private-behind x h in
      let input : unread c r ++ x ≡ a.point.input ++ t = ap (λ (l : List ℕ). l ++ x) came.behind ∙ append_assoc a.point.input came.bytes x in
      ap (λ (l : List ℕ). day.out ++ (a.out ++ rest (point_of l k r.day))) input
      ∙ ap (λ (f : Point). day.out ++ (a.out ++ rest (point (a.point.input ++ t) f.stage))) step.core.point
      ∙ ap (λ (l : List ℕ). day.out ++ l) (sym (cut (pieces_left g) s.more (length o) (unread b s) t g.stage e))
      ∙ day.left on t e ∙ ap printout (sym (append_assoc day.bytes came.bytes x))

  private-first : StartsWith (printout (day.bytes ++ came.bytes)) (day.out ++ put.bytes)
  private-first =
      let a = core_of m b o s in
      let l = rest (point_of (unread c r ++ []) k r.day) in
      let e : a.out ≡ put.bytes ++ drop (length put.bytes) a.out = starts_with_rest a.out put.bytes put.first in
      let t = drop (length put.bytes) a.out ++ l in
      let all : printout (day.bytes ++ came.bytes) ≡ (day.out ++ put.bytes) ++ t =
      ap printout (sym (append-nil (day.bytes ++ came.bytes))) ∙ sym (private-on [] (λ f. refl))
      ∙ ap (λ (x : List ℕ). day.out ++ (x ++ l)) e ∙ ap (λ (x : List ℕ). day.out ++ x) (append_assoc put.bytes (drop (length put.bytes) a.out) l)
      ∙ sym (append_assoc day.out put.bytes t) in
      rw all (take-append_seam (day.out ++ put.bytes) t)

  -- all that the core put out is written, where the day goes on or nothing failed
  private-left-on : r.over ≡ false → (x : List ℕ) → (r.more ≡ false → x ≡ [])
      → (day.out ++ put.bytes) ++ rest (point_of (unread c r ++ x) k r.day) ≡ printout ((day.bytes ++ came.bytes) ++ x)
  private-left-on e x h =
      let l = rest (point_of (unread c r ++ x) k r.day) in
      let whole : put.bytes ≡ (core_of m b o s).out = put.whole (rw e) in
      append_assoc day.out put.bytes l ∙ ap (λ (d : List ℕ). day.out ++ (d ++ l)) whole ∙ private-on x h

  private-done-on : (fails ≡ false → r.over ≡ true
      → want_of s.more (length o - length (core_of m b o s).out) r.day.played.job ≡ Nothing)
      → r.over ≡ true → fails ≡ false → (x : List ℕ) → (r.more ≡ false → x ≡ []) → day.out ++ put.bytes ≡ printout ((day.bytes ++ came.bytes) ++ x)
  private-done-on over e f x h =
      let a = core_of m b o s in
      let g = point_of (unread b s) m s.day in
      let t = came.bytes ++ x in
      let whole : put.bytes ≡ a.out = put.whole (rw (e, f)) in
      let job : r.day.played.job ≡ a.point.stage.played.job = ap (λ (n : Point). n.stage.played.job) step.core.point in
      let want : want_of s.more (length o - length a.out) a.point.stage.played.job ≡ Nothing =
      subst (λ (j : Job). want_of s.more (length o - length a.out) j ≡ Nothing) job (over f e) in
      let none = nothing-more s.more (length o) g t want (private-behind x h) in
      let input : unread c r ++ x ≡ a.point.input ++ t = ap (λ (l : List ℕ). l ++ x) came.behind ∙ append_assoc a.point.input came.bytes x in
      let nil : rest (point_of (unread c r ++ x) k r.day) ≡ [] =
      ap (λ (l : List ℕ). rest (point_of l k r.day)) input ∙ ap (λ (n : Point). rest (point (a.point.input ++ t) n.stage)) step.core.point ∙ none in
      ap (λ (l : List ℕ). day.out ++ l) (whole ∙ sym (append-nil a.out) ∙ ap (λ (l : List ℕ). a.out ++ l) (sym nil)) ∙ private-on x h

  private-ended : (failed ≡ true → fails ≡ true) → (fails ≡ false → s.more ≡ true → r.more ≡ false → IsAtEnd z)
      → fails ≡ false → r.more ≡ false → IfSome p (λ xs. xs ≡ day.bytes ++ came.bytes)
  private-ended told end f e = by s.more refl
    where
      before : (t : Bool) → (t ≡ true → fails ≡ true) → failed ≡ t → failed ≡ false
      before true h x = let n : false ≡ true = sym f ∙ h refl in cc
      before false h x = x

      by : (t : Bool) → s.more ≡ t → IfSome p (λ xs. xs ≡ day.bytes ++ came.bytes)
      by true h =
          Consumes-whole p z (day.bytes ++ came.bytes) (λ xs. xs ≡ day.bytes ++ came.bytes) (Consumes-trans _ _ _ _ _ day.read came.read) (end f h e)
          refl
      by false h = let same : day.bytes ≡ day.bytes ++ came.bytes = sym (append-nil day.bytes) ∙ ap (λ (l : List ℕ). day.bytes ++ l) (sym (private-none h)) in
          subst (λ (l : List ℕ). IfSome p (λ xs. xs ≡ l)) same (day.ended (before failed told refl) h)

  pub goes-on : (failed ≡ true → fails ≡ true) → (fails ≡ false → s.more ≡ true → r.more ≡ false → IsAtEnd z)
      → (fails ≡ false → r.over ≡ true → want_of s.more (length o - length (core_of m b o s).out) r.day.played.job ≡ Nothing)
      → Underway p z w y k c r fails
  goes-on told end over =
      record {
        bytes = day.bytes ++ came.bytes;
        out = day.out ++ put.bytes;
        read = Consumes-trans _ _ _ _ _ day.read came.read;
        written = Appends-trans _ _ _ _ _ day.written put.written;
        first = private-first;
        left = private-left-on;
        done = private-done-on over;
        ended = private-ended told end;
      }

-- ---- the start and the end

pub starts : (p w : Option (List ℕ)) (m b : List ℕ) (s : Stream) (failed : Bool) → s.day ≡ record { words = 0; played = fresh } → s.from ≡ 0 → s.to ≡ 0
    → s.more ≡ true → s.over ≡ false → Underway p p w w m b s failed
starts p w m b s failed day from to more over =
    let none : unread b s ≡ [] = rw (from, to) in
    record {
      bytes = [];
      out = [];
      read = Consumes-nil p;
      written = Appends-nil w;
      first = refl;
      left = λ e x h. rw (none, day) (day-printout x);
      done = λ e. let n : false ≡ true = sym over ∙ e in cc;
      ended = λ f e. let n : true ≡ false = sym more ∙ e in cc;
    }

-- a reader gave more, or it gave all
more-given : (p q w v : Option (List ℕ)) (bytes out : List ℕ) → Consumes p q bytes → Appends w v out → ((x : List ℕ) → out ≡ printout (bytes ++ x))
    → IfSome p (λ xs. Appends w v (printout xs))
more-given None q w v bytes out read put e = tt
more-given (Some x) None w v bytes out read put e = absurd read
more-given (Some x) (Some y) w v bytes out read put e = subst (Appends w v) (e y ∙ ap printout (sym read)) put

all-given : (p w v : Option (List ℕ)) (bytes out : List ℕ) → IfSome p (λ xs. xs ≡ bytes) → Appends w v out → out ≡ printout bytes
    → IfSome p (λ xs. Appends w v (printout xs))
all-given None w v bytes out read put e = tt
all-given (Some x) w v bytes out read put e = subst (Appends w v) (e ∙ ap printout (sym read)) put

-- at a day's end
module _ (p q w v : Option (List ℕ)) (m b : List ℕ) (s : Stream) (failed : Bool) (day : Underway p q w v m b s failed) (over : s.over ≡ true) where
  private-read : failed ≡ false → day.out ≡ printout day.bytes
  private-read e = day.done over e [] (λ f. refl) ∙ ap printout (append-nil day.bytes)

  pub prints-read : Written w v (printout day.bytes) (not failed)
  prints-read = record { bytes = day.out; written = day.written; first = day.first; whole = λ e. private-read (not-true failed e) }

  pub prints : not failed ≡ true → IfSome p (λ xs. Appends w v (printout xs))
  prints e = by s.more refl
    where
      none : failed ≡ false
      none = not-true failed e

      by : (t : Bool) → s.more ≡ t → IfSome p (λ xs. Appends w v (printout xs))
      by true f = more-given p q w v day.bytes day.out day.read day.written (λ x. day.done over none x (λ h. let n : true ≡ false = sym f ∙ h in cc))
      by false f = all-given p w v day.bytes day.out (day.ended none f) day.written (private-read none)
