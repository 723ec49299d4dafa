-- However the input is cut into buffers, and however little room the output has each time, the core puts out what the day prints
-- (`anyhow`). A piece made on a part of the input is the one made on the whole (`longer`): a line that has its byte 10 stays as it is, and
-- one over 4,096 bytes ends the day, whatever follows. So each call puts out the front of what is left (`cut`), and the calls all of it.
use Prim.Native.Nat.{ℕ, zero, suc, ◌-◌, ◌<◌, ◌≤◌}
use mathlib.Core.Path.{◌≡◌, refl, sym, ap, ◌∙◌}
use mathlib.Core.Bool.{Bool, true, false, ◌&&◌}
use mathlib.Core.List.{List, [], ◌∷◌, ◌++◌, append_assoc, append-nil}
use native.Mathlib.Omega.{arith}
use borrow.Author.Tests.{ltb-true, ltb-false}
use lib.ListN.{length, length-append}
use lib.Dec.{ltb, leb, eqb}
use Rattle.base.proofs.Bools.{and_right}
use Rattle.lines.specs.declared.Job.{Job}
use Rattle.lines.specs.declared.Job.TheVariants.{Turns, Rounds, Stores, Next, Stop}
use Rattle.lines.specs.Play.{Stage}
use Rattle.buffers.specs.Input.{line_of, rest_of, complete, complete_at}
use Rattle.buffers.specs.Output.{bytes_of}
use Rattle.stages.specs.Begun.{ended, line_on}
use Rattle.pieces.specs.Pieces.{Point, point, dawn, ready_for, ready, piece_for, piece, advance, pieces_left}
use Rattle.day.specs.Days.{rest, day_of, Feed, feeds, bytes_in, Honest}
use Rattle.pieces.proofs.Advances.{printed_by, rests, goes}
use Rattle.day.proofs.Drains.{rest-none, rest_goes}
use Rattle.buffers.proofs.Longer.{line_stays, rest-stays, complete-stays, line-grows, complete-long, long-first, long-frame}

-- ---- a line over 4,096 bytes

long-line : (s : Stage) (a b : List ℕ) → 4096 < length a → 4096 < length b → line_on s a ≡ line_on s b
unfolding line_on
long-line s a b h k = rw (long-first a h, long-first b k, long-frame a h, long-frame b k)

long-stops : (s : Stage) (a : List ℕ) → 4096 < length a → (line_on s a).played.job ≡ Stop
unfolding line_on ended
long-stops s a h = by (eqb (length s.image) 0) refl
  where
    by : (t : Bool) → eqb (length s.image) 0 ≡ t → (line_on s a).played.job ≡ Stop
    by true e = rw (e, long-first a h)
    by false e = rw (e, long-frame a h)

pub stopped : (l : List ℕ) (s : Stage) → s.played.job ≡ Stop → rest (point l s) ≡ []
stopped l s e = rest-none (point l s) (ap (ready_for false l) e)

-- ---- a piece made on a part of the input

record Longer (more : Bool) (l x : List ℕ) (s : Stage) (j : Job) : Type 0 where
  pub ready : ready_for false (l ++ x) j ≡ true
  pub stage : (piece_for false (point (l ++ x) s) j).stage ≡ (piece_for more (point l s) j).stage
  pub then : rest (piece_for false (point (l ++ x) s) j) ≡ rest (point ((piece_for more (point l s) j).input ++ x) (piece_for more (point l s) j).stage)

module _ (l x : List ℕ) (s : Stage) where
  private-whole : (more : Bool) → complete more l ≡ true → length (line_of l) < length l → Longer more l x s Next
  private-whole more c h =
      let k = complete-stays l x h in
      let p = ap (line_on s) (line_stays l x h) in
      record { ready = k; stage = rw (k, c) p; then = rw (k, c, p, rest-stays l x h) }

  private-last : complete false l ≡ true → x ≡ [] → Longer false l x s Next
  private-last c e =
      let f : l ++ x ≡ l = rw e (append-nil l) in
      let g : rest_of l ++ x ≡ rest_of l = rw e (append-nil (rest_of l)) in
      record { ready = rw f c; stage = rw f; then = rw (f, c, g) }

  private-long : complete true l ≡ true → length l ≤ length (line_of l) → 4096 < length l → Longer true l x s Next
  private-long c h n =
      let k = complete-long (l ++ x) (omega (arith, length-append l x)) in
      let a : 4096 < length (line_of l) = omega arith in
      let b : 4096 < length (line_of (l ++ x)) = omega (arith, line-grows l x h) in
      let p = long-line s (line_of (l ++ x)) (line_of l) b a in
      record {
        ready = k;
        stage = rw (k, c) p;
        then =
            rw (k, c)
            (stopped (rest_of (l ++ x)) (line_on s (line_of (l ++ x))) (long-stops s (line_of (l ++ x)) b)
            ∙ sym (stopped (rest_of l ++ x) (line_on s (line_of l)) (long-stops s (line_of l) a)));
      }

  private-over : (t : Bool) → ltb (length (line_of l)) (length l) ≡ t → t ≡ false → complete true l ≡ true → 4096 < length l
  unfolding complete_at
  private-over t e f c = ltb-true 4096 (length l) (rw (e ∙ f) at c)

  private-next : (more : Bool) → (more ≡ false → x ≡ []) → complete more l ≡ true → Longer more l x s Next
  private-next more honest c = by (ltb (length (line_of l)) (length l)) more refl honest c
    where
      by : (t m : Bool) → ltb (length (line_of l)) (length l) ≡ t → (m ≡ false → x ≡ []) → complete m l ≡ true → Longer m l x s Next
      by true m e o c = private-whole m c (ltb-true _ _ e)
      by false true e o c = private-long c (ltb-false _ _ e) (private-over false e refl c)
      by false false e o c = private-last c (o refl)

  longer : (more : Bool) (j : Job) → (more ≡ false → x ≡ []) → ready_for more l j ≡ true → Longer more l x s j
  longer more (Turns w k) o c = record { ready = refl; stage = refl; then = refl }
  longer more (Rounds d r) o c = record { ready = refl; stage = refl; then = refl }
  longer more (Stores i) o c = record { ready = refl; stage = refl; then = refl }
  longer more Next o c = private-next more o c
  longer more Stop o c = cc

-- ---- a call of the core

pub cut : (f : ℕ) (more : Bool) (room : ℕ) (l x : List ℕ) (s : Stage) → (more ≡ false → x ≡ [])
    → rest (point (l ++ x) s)
    ≡ (advance f more room (point l s)).out ++ rest (point ((advance f more room (point l s)).point.input ++ x) (advance f more room (point l s)).point.stage)
unfolding advance
cut zero more room l x s o = refl
cut (suc f) more room l x s o =
    by (leb 22 room && ready more (point l s)) refl
    (cut f more (room - length (printed_by more (point l s))) (piece more (point l s)).input x (piece more (point l s)).stage o)
  where
    by : (t : Bool) → (leb 22 room && ready more (point l s)) ≡ t
        → rest (point ((piece more (point l s)).input ++ x) (piece more (point l s)).stage)
        ≡ (advance f more (room - length (printed_by more (point l s))) (piece more (point l s))).out
        ++ rest (point ((advance f more (room - length (printed_by more (point l s))) (piece more (point l s))).point.input ++ x)
        (advance f more (room - length (printed_by more (point l s))) (piece more (point l s))).point.stage)
        → rest (point (l ++ x) s)
        ≡ (advance (suc f) more room (point l s)).out
        ++ rest (point ((advance (suc f) more room (point l s)).point.input ++ x) (advance (suc f) more room (point l s)).point.stage)
    by true e more-of-it =
        let q = point l s in
        let g = longer l x s more s.played.job o (and_right (leb 22 room) (ready more q) e) in
        rw (goes f more room q e)
        (rest_goes (point (l ++ x) s) g.ready
        ∙ ap (λ (b : List ℕ). b ++ rest (piece false (point (l ++ x) s))) (ap (λ (w : Stage). bytes_of w.played.printed) g.stage)
        ∙ ap (λ (b : List ℕ). printed_by more q ++ b) (g.then ∙ more-of-it)
        ∙ sym (append_assoc (printed_by more q) _ _))
    by false e more-of-it = rw (rests (suc f) more room (point l s) e)

-- ---- all calls

pub anyhow : (hs : List Feed) (q : Point) → Honest hs → rest (point (q.input ++ bytes_in hs) q.stage) ≡ (feeds hs q).out ++ rest (feeds hs q).point
unfolding feeds bytes_in
anyhow [] q o = rw (append-nil q.input)
anyhow (h ∷ hs) q o =
    let l = q.input ++ h.bytes in
    let a = advance (pieces_left (point l q.stage)) h.more h.room (point l q.stage) in
    ap (λ (b : List ℕ). rest (point b q.stage)) (sym (append_assoc q.input h.bytes (bytes_in hs)))
    ∙ cut (pieces_left (point l q.stage)) h.more h.room l (bytes_in hs) q.stage o.0
    ∙ ap (λ (b : List ℕ). a.out ++ b) (anyhow hs a.point o.1)
    ∙ sym (append_assoc a.out (feeds hs a.point).out (rest (feeds hs a.point).point))

-- a day fed to its end
pub day-anyhow : (hs : List Feed) → Honest hs → ready false (feeds hs (dawn [])).point ≡ false → (feeds hs (dawn [])).out ≡ day_of (bytes_in hs)
day-anyhow hs o e =
    sym (anyhow hs (dawn []) o ∙ ap (λ (b : List ℕ). (feeds hs (dawn [])).out ++ b) (rest-none (feeds hs (dawn [])).point e) ∙ append-nil _)
