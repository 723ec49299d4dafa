-- Handing a section in: what a section that is taken has met (`Accepted`), what a call leaves by its answer, and the
-- stores: their number, their places, and their order in the code.
use Prim.Native.Nat.{ℕ, ◌+◌, ◌-◌, ◌<◌, ◌≤◌}
use borrow.Author.Tests.{ltb-true, lt-ltb}
use mathlib.Core.Path.{◌≡◌, refl, sym, ◌∙◌}
use mathlib.Core.Bool.{Bool, true, false, cond, ◌&&◌, and_assoc, false≢true, true≢false}
use mathlib.Core.List.{List, [], ◌∷◌, ◌++◌}
use native.Mathlib.Omega.{arith}
use lib.ListN.{length, replicate, length-append, length-replicate}
use lib.Dec.{ltb}
use Rattle.std.specs.Prelude.{Ok, Err, is_err}
use Rattle.base.proofs.Bools.{and_both}
use Rattle.image.specs.declared.Field.TheVariants.{Count, Number, Finished}
use Rattle.image.specs.Place.{field, own, step, valid, Store}
use Rattle.image.specs.Image.{Image, index_of, at, workers, header_ok, put, put_all}
use Rattle.image.proofs.Lists.{all_valid, put_all-nil, put_all-cons, put_all-append}
use Rattle.section.specs.Check.{Verdict, code_of, check, passes}
use Rattle.section.proofs.Passing.{passed_is}
use Rattle.working.specs.declared.Refusal.TheVariants.{Worker, Busy, Number as NumberRefused, Image as ImageRefused}
use Rattle.working.specs.Cursor.{on, placed}
use Rattle.working.specs.World.{World, world}
use Rattle.rows.specs.Rows.{put_from}
use Rattle.intake.specs.Submit.{Submitted, assigns, submission, verdict_answer, free, submit_answer, submit_leaves, is_taken}
use Rattle.intake.proofs.Assigns.{row_words, assigns-length, assigns-append, assigns-valid}

-- ---- by the answer

pub record Accepted (mark n : ℕ) (w : World) (d k : ℕ) (ws : List ℕ) : Type 0 where
  pub header : header_ok mark n w.image ≡ true
  pub below : d < workers w.image
  pub unused : free n w d ≡ true
  pub newer : at n w.image (field Finished d) < k
  pub checked : check n (length ws) (code_of ws) ≡ Ok tt

pub verdict-taken : (v : Verdict) → is_taken (verdict_answer v) ≡ passes v
verdict-taken (Ok tt) = refl
verdict-taken (Err f) = refl

pub taken-by : (a : Submitted) → is_err a ≡ false → is_taken a ≡ true
taken-by (Ok tt) h = refl
taken-by (Err r) h = absurd (true≢false h)

private-parts : (a b c e : Bool) (v : Verdict)
    → is_taken (cond a (cond b (cond c (cond e (verdict_answer v) (Err NumberRefused)) (Err Busy)) (Err Worker)) (Err ImageRefused)) ≡ true
    → (a ≡ true) × (b ≡ true) × (c ≡ true) × (e ≡ true) × (v ≡ Ok tt)
private-parts true true true true v h = (refl, refl, refl, refl, passed_is v (sym (verdict-taken v) ∙ h))
private-parts true true true false v h = absurd (false≢true h)
private-parts true true false e v h = absurd (false≢true h)
private-parts true false c e v h = absurd (false≢true h)
private-parts false b c e v h = absurd (false≢true h)

pub accepted : (mark n : ℕ) (w : World) (d k : ℕ) (ws : List ℕ) → is_taken (submit_answer mark n w d k ws) ≡ true → Accepted mark n w d k ws
unfolding submit_answer
accepted mark n w d k ws h =
    let p = private-parts (header_ok mark n w.image) (ltb d (workers w.image)) (free n w d) (ltb (at n w.image (field Finished d)) k)
    (check n (length ws) (code_of ws)) h in
    record { header = p.0; below = ltb-true _ _ p.1; unused = p.2; newer = ltb-true _ _ p.3; checked = p.4 }

module _ (n : ℕ) (w : World) (d k : ℕ) (args ws : List ℕ) where
  pub leaves-refused : (a : Submitted) → is_taken a ≡ false → submit_leaves n w d k args ws a ≡ w
  leaves-refused (Ok tt) h = absurd (true≢false h)
  leaves-refused (Err r) h = refl

  pub leaves-taken : (a : Submitted) → is_taken a ≡ true
      → submit_leaves n w d k args ws a
      ≡ world (put_all n w.left w.image (submission n d k args ws)) (placed w.cursors d (on 0 0)) (w.left - length (submission n d k args ws))
  leaves-taken (Ok tt) h = refl
  leaves-taken (Err r) h = absurd (false≢true h)

-- ---- the stores

valid-append : (D n : ℕ) (ss ts : List Store) → all_valid D n (ss ++ ts) ≡ (all_valid D n ss && all_valid D n ts)
valid-append D n [] ts = refl
valid-append D n (s ∷ ss) ts = rw (valid-append D n ss ts) (sym (and_assoc (valid D n s.place) (all_valid D n ss) (all_valid D n ts)))

module _ (n d k : ℕ) (args ws : List ℕ) (eight : length args ≡ 8) where
  words-length : 8 ≤ n → length (args ++ replicate (n - 8) 0) ≡ n
  words-length h = omega (arith, length-append args (replicate (n - 8) 0), length-replicate {A = ℕ} (n - 8) 0)

  pub submission-length : 8 ≤ n → length (submission n d k args ws) ≡ n + length ws + 2
  unfolding submission
  submission-length h =
      simp (length-append, assigns-length) (omega (arith, length-replicate {A = ℕ} (n - 8) 0))

  pub submission-valid : (D : ℕ) → d < D → 8 ≤ n → length ws ≤ 64 → all_valid D n (submission n d k args ws) ≡ true
  unfolding submission
  submission-valid D b h l =
      let v = lt-ltb d D b in
      let words = assigns-valid D n (own d) 0 (args ++ replicate (n - 8) 0) (λ j g. and_both _ _ v (lt-ltb j n (omega (arith, words-length h)))) in
      let steps = assigns-valid D n (step d) 0 ws (λ j g. and_both _ _ v (lt-ltb j 64 (omega arith))) in
      simp (valid-append, words, steps, v)

-- in the code's order: the number, the own words, the instructions, the count
module _ (n d k : ℕ) (args ws : List ℕ) where
  abbrev pub own_row : List Store
  own_row = assigns (own d) 0 (args ++ replicate (n - 8) 0)

  abbrev pub step_row : List Store
  step_row = assigns (step d) 0 ws

  pub submission-stores : (left : ℕ) (m : Image)
      → put_all n left m (submission n d k args ws)
      ≡ put (left - 1 - length own_row - length step_row)
      (put_all n (left - 1 - length own_row) (put_all n (left - 1) (put left m (index_of n (field Number d)) k) own_row) step_row)
      (index_of n (field Count d))
      (length ws)
  unfolding submission
  submission-stores left m = simp (put_all-cons, put_all-append, put_all-nil)

  pub submission-left : (left : ℕ) → left - 1 - length own_row - length step_row - 1 ≡ left - length (submission n d k args ws)
  unfolding submission
  submission-left left = simp (length-append) (omega arith)

-- the own words and the instructions stand one after the other
pub own-next : (n d j : ℕ) → index_of n (own d (j + 1)) ≡ index_of n (own d j) + 1
unfolding index_of
own-next n d j = omega arith

pub step-next : (n d j : ℕ) → index_of n (step d (j + 1)) ≡ index_of n (step d j) + 1
unfolding index_of
step-next n d j = omega arith

private-eighth : (n d : ℕ) → index_of n (own d 8) ≡ index_of n (own d 0) + 8
unfolding index_of
private-eighth n d = omega arith

-- the own words in the code's order: the arguments, the others
pub own-stores : (n d : ℕ) (args : List ℕ) → length args ≡ 8 → (left : ℕ) (m : Image)
    → put_all n left m (assigns (own d) 0 (args ++ replicate (n - 8) 0))
    ≡ put_from (left - length args) (put_from left m (index_of n (own d 0)) args) (index_of n (own d 0) + 8) (replicate (n - 8) 0)
own-stores n d args e left m =
    let i : index_of n (own d (0 + length args)) ≡ index_of n (own d 0) + 8 = rw e (private-eighth n d) in
    rw (
      assigns-append (own d) 0 args (replicate (n - 8) 0),
      put_all-append,
      assigns-length (own d) 0 args,
      row_words n (own d) (own-next n d) 0,
      row_words n (own d) (own-next n d) (0 + length args),
      i,
    )

pub own-left : (n d : ℕ) (args : List ℕ) (left : ℕ) → left - length args - (n - 8) ≡ left - length (assigns (own d) 0 (args ++ replicate (n - 8) 0))
own-left n d args left =
    rw (assigns-length (own d) 0 (args ++ replicate (n - 8) 0), length-append args (replicate (n - 8) 0), length-replicate {A = ℕ} (n - 8) 0) (omega arith)
