-- What the numbers of the turns' answers say: 0 is returned where turns are told and nowhere else. Along a path that is where every step is one of the
-- section's words and does not fail cause 5 (`path-zero`); from a step on where the section passes the check and has that step (`needs-zero`); of a
-- record where the image and the worker are there and the record is sound (`left-zero`).
use Prim.Native.Nat.{ℕ}
use mathlib.Core.Path.{◌≡◌, refl}
use mathlib.Core.Bool.{Bool, true, false, cond, ◌&&◌}
use mathlib.Core.List.{List, [], ◌∷◌}
use lib.ListN.{length}
use lib.Dec.{ltb, eqb}
use Rattle.std.specs.Prelude.{Ok, Err}
use Rattle.image.specs.Image.{Image, at, workers, header_ok}
use Rattle.section.specs.declared.Fault.TheVariants.{Length, Malformed, Unbracketed, Unordered, Unguarded, Unlevel}
use Rattle.section.specs.Check.{Verdict, Code, code_of, passes}
use Rattle.soundness.specs.Sound.{sound}
use Rattle.needs.specs.declared.Span.{Span}
use Rattle.needs.specs.declared.Refusal.TheVariants.{Image as NotAnImage, Worker, Record}
use Rattle.needs.specs.Path.{turns_along, step_ok, bad_step, by_step, along_of}
use Rattle.needs.specs.From.{needs_for, needs_of}
use Rattle.needs.specs.Left.{left_of}
use Rattle.needs.specs.Codes.{along_code, needed_code, left_code}
use Rattle.edition.specs.Edition.{mark, own_words}
use Rattle.zilpanud.specs.Lent.{checking, following, needing}
use Rattle.zilpanud.specs.Ask.{still_needing}

-- every step of a path is
abbrev pub all_ok : ℕ → ℕ → Code → List ℕ → Bool
all_ok own n code [] = true
all_ok own n code (i ∷ p) = step_ok own n code i && all_ok own n code p

private-path : (own n : ℕ) (code : Code) (t : ℕ) (p : List ℕ) → all_ok own n code p ≡ eqb (along_code (by_step t (bad_step own n code p))) 0
unfolding bad_step
private-path own n code t [] = refl
private-path own n code t (i ∷ p) = by (step_ok own n code i) (private-path own n code t p)
  where
    by :
        (b : Bool) → all_ok own n code p ≡ eqb (along_code (by_step t (bad_step own n code p))) 0
        → (b && all_ok own n code p) ≡ eqb (along_code (by_step t (cond b (bad_step own n code p) (i ∷ [])))) 0
    by true e = e
    by false e = refl

pub path-zero : (words path : List ℕ) → all_ok own_words (length words) (code_of words) path ≡ eqb (along_code (following words path)) 0
unfolding along_of
path-zero words path = private-path own_words (length words) (code_of words) (turns_along (code_of words) path) path

private-needs : (n : ℕ) (code : Code) (i : ℕ) (v : Verdict) → (passes v && ltb i n) ≡ eqb (needed_code (needs_for n code i v)) 0
private-needs n code i (Ok u) = by (ltb i n) refl
  where
    by : (b : Bool) → ltb i n ≡ b → ltb i n ≡ eqb (needed_code (needs_for n code i (Ok u))) 0
    by true e = rw e
    by false e = rw e
private-needs n code i (Err Length) = refl
private-needs n code i (Err (Malformed j)) = refl
private-needs n code i (Err (Unbracketed j)) = refl
private-needs n code i (Err (Unordered j)) = refl
private-needs n code i (Err (Unguarded j)) = refl
private-needs n code i (Err (Unlevel j)) = refl

pub needs-zero : (words : List ℕ) (step : ℕ) → (passes (checking words) && ltb step (length words)) ≡ eqb (needed_code (needing words step)) 0
unfolding needs_of
needs-zero words step = private-needs (length words) (code_of words) step (checking words)

private-left :
    (a b c : Bool) (s : Span) → (a && b && c) ≡ eqb (left_code (cond a (cond b (cond c (Ok s) (Err Record)) (Err Worker)) (Err NotAnImage))) 0
private-left true true true s = refl
private-left true true false s = refl
private-left true false true s = refl
private-left true false false s = refl
private-left false true true s = refl
private-left false true false s = refl
private-left false false true s = refl
private-left false false false s = refl

pub left-zero :
    (m : Image) (d : ℕ) → (header_ok mark own_words m && ltb d (workers m) && sound own_words (at own_words m) d) ≡ eqb (left_code (still_needing m d)) 0
unfolding left_of
left-zero m d = private-left (header_ok mark own_words m) (ltb d (workers m)) (sound own_words (at own_words m) d) _
