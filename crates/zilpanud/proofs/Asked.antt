-- What a question is told: 0 where it is refused, and a standing that is refused crosses as 0.
use Prim.Native.Nat.{ℕ}
use mathlib.Core.Path.{◌≡◌, refl}
use mathlib.Core.Bool.{Bool, true, false, cond}
use lib.Dec.{ltb, eqb}
use Rattle.image.specs.Image.{Image, at, workers, header_ok}
use Rattle.std.specs.Prelude.{Result, Ok, Err, is_ok}
use Rattle.working.specs.declared.Refusal.{Refusal}
use Rattle.working.specs.declared.Refusal.TheVariants.{Worker, Image as ImageRefused}
use Rattle.asking.specs.declared.Standing.{Standing}
use Rattle.edition.specs.Edition.{mark, own_words}
use Rattle.asking.specs.Asking.{standing_in, standing_of, asked_of, ask_code as asked}
use Rattle.zilpanud.specs.Ask.{told, standing_no, stands}

-- what is told, by whether the question is answered
private-told : (a b : Bool) (v : ℕ) → let r = cond {A = Result Unit Refusal} a (cond b (Ok tt) (Err Worker)) (Err ImageRefused) in
    cond (is_ok r) v 0 ≡ cond (eqb (cond a (cond b 0 1) 10) 0) v 0
private-told true true v = refl
private-told true false v = refl
private-told false b v = refl

pub told_by : (m : Image) (d v : ℕ) → cond (is_ok (asked_of mark own_words m d)) v 0 ≡ told m d v
unfolding told asked asked_of
told_by m d v = private-told (header_ok mark own_words m) (ltb d (workers m)) v

-- a standing is refused with the same causes, and then crosses as 0
private-stands :
    (a b : Bool) (x : Standing) →
    let no = standing_no (cond a (cond b (Ok x) (Err Worker)) (Err ImageRefused)) in
    no ≡ cond (eqb (cond a (cond b 0 1) 10) 0) no 0
private-stands true true x = refl
private-stands true false x = refl
private-stands false b x = refl

pub stands_told : (m : Image) (d k : ℕ) → stands m d k ≡ told m d (stands m d k)
unfolding standing_of told asked
stands_told m d k = private-stands (header_ok mark own_words m) (ltb d (workers m)) (standing_in (at own_words m) d k)
