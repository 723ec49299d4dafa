-- A question that is answered is about a worker that the image has; and the number with which it is refused.
use Prim.Native.Nat.{ℕ, ◌≤◌}
use mathlib.Core.Path.{◌≡◌, refl}
use mathlib.Core.Bool.{Bool, true, false, cond}
use lib.Dec.{ltb}
use borrow.Author.Tests.{ltb-true}
use Rattle.std.specs.Prelude.{Result, Ok, Err}
use Rattle.image.specs.Image.{Image, at, workers, header_ok}
use Rattle.image.specs.Inner.Inside.{Inside}
use Rattle.image.proofs.Header.{header-inside}
use Rattle.working.specs.declared.Refusal.{Refusal}
use Rattle.working.specs.declared.Refusal.TheVariants.{Worker, Image as ImageRefused}
use Rattle.working.specs.Refusal.{cause_of, code_of}
use Rattle.asking.specs.Asking.{standing_in, standing_of, asked_of, ask_code}

private-both : (h w : Bool) → cond {A = Result Unit Refusal} h (cond w (Ok tt) (Err Worker)) (Err ImageRefused) ≡ Ok tt → (h ≡ true) × (w ≡ true)
private-both true true e = (refl, refl)
private-both true false e = absurd (cc)
private-both false w e = absurd (cc)

pub asked-inside : (mark n : ℕ) (m : Image) (d : ℕ) → n ≤ 64 → asked_of mark n m d ≡ Ok tt → Inside n m d
unfolding asked_of
asked-inside mark n m d l e = let b = private-both _ _ e in header-inside mark n m d l b.0 (ltb-true _ _ b.1)

private-code :
    {A : Type 0} (h w : Bool) (x : A)
    → code_of cause_of (cond h (cond w (Ok x) (Err Worker)) (Err ImageRefused)) ≡ cond h (cond w 0 (cause_of Worker)) (cause_of ImageRefused)
private-code true true x = refl
private-code true false x = refl
private-code false w x = refl

pub asked_code : (mark n : ℕ) (m : Image) (d : ℕ) → code_of cause_of (asked_of mark n m d) ≡ ask_code mark n m d
unfolding asked_of ask_code
asked_code mark n m d = private-code (header_ok mark n m) (ltb d (workers m)) tt

-- a standing is refused as every question is
pub standing_code : (mark n : ℕ) (m : Image) (d k : ℕ) → code_of cause_of (standing_of mark n m d k) ≡ ask_code mark n m d
unfolding standing_of ask_code
standing_code mark n m d k = private-code (header_ok mark n m) (ltb d (workers m)) (standing_in (at n m) d k)
