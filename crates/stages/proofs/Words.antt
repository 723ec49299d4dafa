-- Laws of formatting a part of the image's buffer: an image of any number of workers fits, and what is formatted is that of the first line
-- (`format_stage`), whatever stood in the buffer.
use Prim.Native.Nat.{ℕ, ◌≤◌, ◌<◌}
use mathlib.Core.Path.{◌≡◌, refl, ◌∙◌}
use mathlib.Core.Bool.{Bool, true, false, cond, ◌&&◌}
use mathlib.Core.List.{List, []}
use native.Mathlib.Omega.{arith}
use borrow.Author.Tests.{leb-true, eq-eqb}
use lib.ListN.{length}
use lib.Dec.{leb, eqb}
use Rattle.base.proofs.Bools.{and_left, and_right}
use Rattle.image.specs.Image.{length_of, record_at}
use Rattle.working.specs.Refusal.{cause_of}
use Rattle.working.specs.declared.Refusal.{Refusal}
use Rattle.working.specs.declared.Refusal.TheVariants.{Image as ImageRefused}
use Rattle.std.proofs.Common.{Ok, Err}
use Rattle.formatting.specs.Format.{Formatted, image_words, formattable, format_answer, format_leaves, formatted}
use Rattle.formatting.proofs.Formats.{formattable-true, format-enough}
use Rattle.edition.specs.Edition.{mark, own_words, largest}
use Rattle.lines.specs.Play.{stage}
use Rattle.stages.specs.Begun.{fresh, ended, format_stage}

private-most : (D : ℕ) (t : Bool) → (leb 1 D && leb D 8) ≡ t → image_words own_words D ≤ largest
unfolding image_words length_of record_at
private-most D true e = let h : D ≤ 8 = leb-true D 8 (and_right (leb 1 D) (leb D 8) e) in rw e (omega arith)
private-most D false e = rw e (omega arith)

pub words-most : (D : ℕ) → image_words own_words D ≤ largest
words-most D = private-most D _ refl

abbrev private-answer : Bool → Formatted
private-answer t = cond t (Ok tt) (Err ImageRefused)

private-accepted : (t : Bool) → private-answer t ≡ Ok tt → t ≡ true
private-accepted true e = refl
private-accepted false e = cc

private-refused : (t : Bool) (r : Refusal) → private-answer t ≡ Err r → (t ≡ false) × (ImageRefused ≡ r)
private-refused true r e = absurd (cc)
private-refused false r e = (refl, cc)

-- m is the part that was formatted
module _ (m : List ℕ) (D : ℕ) where
  private-formattable : format_answer own_words m D ≡ Ok tt → formattable own_words m D ≡ true
  unfolding format_answer
  private-formattable e = private-accepted (formattable own_words m D) e

  private-inside : formattable own_words m D ≡ true → (leb 1 D && leb D 8) ≡ true
  unfolding formattable
  private-inside f = and_left (leb 1 D && leb D 8) (eqb (length m) (length_of own_words D)) f

  private-few : D ≤ 8 → length_of own_words D < 18446744073709551615
  unfolding length_of record_at
  private-few h = omega arith

  pub format-done : (e : List ℕ) → format_answer own_words m D ≡ Ok tt
      → e ≡ format_leaves mark own_words 18446744073709551615 m D (format_answer own_words m D) → stage e fresh ≡ format_stage D
  unfolding format_stage
  format-done e d w =
      let f = private-formattable d in
      let p : e ≡ formatted mark own_words D =
      rw d at w ∙ format-enough mark own_words 18446744073709551615 m D (private-few (formattable-true own_words m D f).1) f in
      rw (p, private-inside f)

  private-outside : (t : Bool) → (leb 1 D && leb D 8) ≡ t → length m ≡ image_words own_words D → formattable own_words m D ≡ false → t ≡ false
  unfolding image_words formattable
  private-outside true e h f =
      let k : length m ≡ length_of own_words D = rw e at h in
      let z : true ≡ false = rw (e, eq-eqb _ _ k) at f in z
  private-outside false e h f = refl

  pub format-refused : (r : Refusal) → length m ≡ image_words own_words D → format_answer own_words m D ≡ Err r
      → stage [] (ended (cause_of r)) ≡ format_stage D
  unfolding format_stage format_answer
  format-refused r h e =
      let p = private-refused (formattable own_words m D) r e in
      rw (private-outside _ refl h p.0, ← p.1)
