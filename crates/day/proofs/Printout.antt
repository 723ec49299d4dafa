-- What a day prints piece by piece is what its lines print whole (`day-printout`): by induction over the input, line by line
-- (`lines-printed`), each line's pieces put together (`through`) as the laws of `gathers` have it, which is the line whole (`line-whole`).
use Prim.Native.Nat.{ℕ, zero, suc, ◌≤◌}
use mathlib.Core.Path.{◌≡◌, refl, sym, ap, ◌∙◌}
use mathlib.Core.Bool.{Bool, true, false}
use mathlib.Core.List.{List, [], ◌∷◌, ◌++◌, append_assoc}
use native.Mathlib.Omega.{arith}
use lib.ListN.{length}
use lib.Dec.{eqb}
use Rattle.std.proofs.Common.{Some, None}
use Rattle.image.specs.Image.{Image}
use Rattle.working.specs.declared.Cursors.{Cursors}
use Rattle.working.specs.Cursor.{all_idle}
use Rattle.repair.specs.declared.Repair.{Repair}
use Rattle.repair.specs.Repair.{no_repair}
use Rattle.frames.specs.Print.{Printed}
use Rattle.lines.specs.declared.Job.{Job}
use Rattle.lines.specs.declared.Job.TheVariants.{Turns, Rounds, Stores, Next, Stop}
use Rattle.lines.specs.declared.Made.{Made}
use Rattle.lines.specs.Play.{Stage, stage, played, no_turn, is_going, go_on}
use Rattle.lines.specs.Whole.{Output, shown, onto}
use Rattle.buffers.specs.Input.{line_of, rest_of, lines_of, complete, complete_at}
use Rattle.buffers.specs.Output.{bytes_of}
use Rattle.stages.specs.Begun.{fresh, line_on}
use Rattle.stages.specs.Lines.{Line, Reading, whole_line, followed, lines_whole}
use Rattle.pieces.specs.Pieces.{Point, point, dawn, ready, piece, job_pieces}
use Rattle.day.specs.Days.{rest, day_of, Feed, feeds, bytes_in, Honest}
use Rattle.day.specs.Printout.{texts, printout}
use Rattle.buffers.proofs.Lines.{rest-less, lines-first}
use Rattle.buffers.proofs.Longer.{complete-long}
use Rattle.day.proofs.Drains.{rest-none, rest_goes}
use Rattle.pieces.proofs.Runs.{on-ready, on-piece, on-less}
use Rattle.pieces.proofs.Gathers.{gathers, gathers-rests, gathers-on, Wholly, line-whole}
use Rattle.pieces.proofs.Stopping.{is_stop, stays_on}
use Rattle.day.proofs.Anyhow.{stopped, day-anyhow}

-- ---- bytes

texts-shown : (p : Printed) (ps : List Printed) → texts (shown p ++ ps) ≡ bytes_of p ++ texts ps
unfolding texts
texts-shown None ps = refl
texts-shown (Some l) ps = refl

-- ---- a line gone on with to its end

stop_is : (j : Job) → is_stop j ≡ true → j ≡ Stop
stop_is (Turns d k) e = cc
stop_is (Rounds d r) e = cc
stop_is (Stores i) e = cc
stop_is Next e = cc
stop_is Stop e = refl

-- the lines that follow, by the image and the cursors that they find
abbrev Following : Type 0
Following = Image → Cursors → Reading

-- what a line prints, and what is printed behind it
abbrev then : Output → Following → List Printed
then o more = o.lines ++ (more o.image o.cursors).output.lines

-- y is the input behind the line, and `more` what follows does
module _ (y : List ℕ) (more : Following)
    (H : (m : Image) (c : Cursors) (x : Printed) (r : Repair) (t : Made)
    → rest (point y (stage m (played c x Next r t))) ≡ texts (more m c).output.lines) where
  -- what is left to be printed of a line that does not end the day, and behind it
  abbrev Through : Stage → Type 0
  Through s = rest (point y s) ≡ texts (then (gathers s) more)

  private-next : (s : Stage) → s.played.job ≡ Next → Through s
  private-next s e =
      let p = s.played in
      ap (λ (j : Job). rest (point y (stage s.image (played p.cursors p.printed j p.repair p.made)))) e
      ∙ H s.image p.cursors p.printed p.repair p.made
      ∙ sym (ap (λ (o : Output). texts (then o more)) (gathers-rests s (ap is_going e)))

  private-on : (s : Stage) → is_going s.played.job ≡ true → Through (go_on s) → Through s
  private-on s e ih =
      let p = (go_on s).played.printed in
      rest_goes (point y s) (on-ready s e false y)
      ∙ ap (λ (q : Point). bytes_of q.stage.played.printed ++ rest q) (on-piece s e false y)
      ∙ ap (λ (b : List ℕ). bytes_of p ++ b) ih ∙ sym (texts-shown p (then (gathers (go_on s)) more))
      ∙ ap texts (sym (append_assoc (shown p) (gathers (go_on s)).lines _))
      ∙ sym (ap (λ (o : Output). texts (then o more)) (gathers-on s e))

  private-none : (s : Stage) (j : Job) → s.played.job ≡ j → job_pieces j ≤ 0 → is_stop j ≡ false → Through s
  private-none s Next e h o = private-next s e
  private-none s Stop e h o = cc
  private-none s (Turns d k) e h o = absurd (omega arith)
  private-none s (Rounds d r) e h o = absurd (omega arith)
  private-none s (Stores i) e h o = absurd (omega arith)

  module _ (f : ℕ) (s : Stage) (ih : job_pieces (go_on s).played.job ≤ f → is_stop (go_on s).played.job ≡ false → Through (go_on s)) where
    private-going : is_going s.played.job ≡ true → job_pieces s.played.job ≤ suc f → is_stop s.played.job ≡ false → Through s
    private-going g h o =
        private-on s g (ih (omega (arith, on-less s g)) (stays_on s.image s.played s.played.job o))

    private-some : (j : Job) → s.played.job ≡ j → job_pieces s.played.job ≤ suc f → is_stop s.played.job ≡ false → Through s
    private-some Next e h o = private-next s e
    private-some Stop e h o =
        let k : true ≡ false = ap is_stop (sym e) ∙ o in
        let z : ◌≡◌ {A = ℕ} 0 1 = cc in
        absurd (omega arith)
    private-some (Turns d k) e h o = private-going (ap is_going e) h o
    private-some (Rounds d r) e h o = private-going (ap is_going e) h o
    private-some (Stores i) e h o = private-going (ap is_going e) h o

  through : (f : ℕ) (s : Stage) → job_pieces s.played.job ≤ f → is_stop s.played.job ≡ false → Through s
  through zero s h o = private-none s s.played.job refl h o
  through (suc f) s h o = private-some f s (λ k n. through f (go_on s) k n) s.played.job refl h o

  -- ---- a line begun

  -- what is printed when it is begun, and then the rest
  abbrev Prints : Stage → List Printed → Type 0
  Prints s ps = (bytes_of s.played.printed ++ rest (point y s)) ≡ texts ps

  private-over : (s : Stage) → s.played.job ≡ Stop → Prints s (onto s.played.printed [] (gathers s)).lines
  unfolding texts
  private-over s e =
      ap (λ (b : List ℕ). bytes_of s.played.printed ++ b) (stopped y s e) ∙ sym (texts-shown s.played.printed [])
      ∙ sym (ap (λ (o : Output). texts (shown s.played.printed ++ o.lines)) (gathers-rests s (ap is_going e)))

  private-follows : (s : Stage) → is_stop s.played.job ≡ false → Prints s (then (onto s.played.printed [] (gathers s)) more)
  private-follows s o =
      let x = s.played.printed in
      ap (λ (b : List ℕ). bytes_of x ++ b) (through (job_pieces s.played.job) s (omega arith) o)
      ∙ sym (texts-shown x (then (gathers s) more)) ∙ ap texts (sym (append_assoc (shown x) (gathers s).lines _))

  -- by whether a line follows
  line-printed : (b : Stage) (x : Line) → Wholly b x → Prints b (followed x more).output.lines
  line-printed b x w = by (eqb x.ends 0) refl
    where
      by : (t : Bool) → eqb x.ends 0 ≡ t → Prints b (followed x more).output.lines
      by true f =
          rw (f, ← w.output) (private-follows b (rw f at w.stops))
      by false f = rw (f, ← w.output) (private-over b (stop_is b.played.job (rw f at w.stops)))

-- ---- all lines

no_line : complete false [] ≡ false
unfolding complete_at line_of
no_line = refl

-- what is left of an input prints what its lines print, whole
abbrev Printed-by : List ℕ → Type 0
Printed-by l =
    (m : Image) (c : Cursors) (x : Printed) (r : Repair) (t : Made)
    → rest (point l (stage m (played c x Next r t))) ≡ texts (lines_whole (lines_of l) m c).output.lines

no_more : Printed-by []
unfolding lines_whole texts lines_of
no_more m c x r t = rest-none (point [] (stage m (played c x Next r t))) no_line

next-line : (b : ℕ) (bs : List ℕ) → Printed-by (rest_of (b ∷ bs)) → Printed-by (b ∷ bs)
unfolding lines_whole
next-line b bs ih m c x r t =
    let l = b ∷ bs in
    let s = stage m (played c x Next r t) in
    let k = complete-long l (omega arith) in
    let e : piece false (point l s) ≡ point (rest_of l) (line_on s (line_of l)) = rw k in
    rest_goes (point l s) k
    ∙ ap (λ (q : Point). bytes_of q.stage.played.printed ++ rest q) e
    ∙ line-printed (rest_of l) (lines_whole (lines_of (rest_of l))) ih (line_on s (line_of l)) (whole_line m c (line_of l)) (line-whole s (line_of l))
    ∙ ap (λ (ls : List (List ℕ)). texts (lines_whole ls m c).output.lines) (sym (lines-first b bs))

by-line : (n : ℕ) (l : List ℕ) → length l ≤ suc n → ((k : List ℕ) → length k ≤ n → Printed-by k) → Printed-by l
by-line n [] h ih = no_more
by-line n (b ∷ bs) h ih =
    next-line b bs (ih (rest_of (b ∷ bs)) (omega (arith, rest-less false (b ∷ bs) (complete-long (b ∷ bs) (omega arith)))))

no_bytes : (l : List ℕ) → length l ≤ 0 → Printed-by l
no_bytes [] h = no_more
no_bytes (b ∷ bs) h = absurd (omega arith)

lines-printed : (n : ℕ) (l : List ℕ) → length l ≤ n → Printed-by l
lines-printed zero l h = no_bytes l h
lines-printed (suc n) l h = by-line n l h (λ k e. lines-printed n k e)

pub day-printout : (input : List ℕ) → day_of input ≡ printout input
unfolding fresh
day-printout input = lines-printed (length input) input (omega arith) [] all_idle None no_repair no_turn

-- fed in any buffers to its end
pub fed-printout : (hs : List Feed) → Honest hs → ready false (feeds hs (dawn [])).point ≡ false → (feeds hs (dawn [])).out ≡ printout (bytes_in hs)
fed-printout hs o e = day-anyhow hs o e ∙ day-printout (bytes_in hs)
