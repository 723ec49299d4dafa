-- A value that is given where a test holds, and an error where it does not.
use Rattle.std.proofs.Common.{◌≡◌, ℕ, Bool, true, false, Some, None, Ok, Err, refl}
use Rattle.std.specs.Bool.{then_some}
use Rattle.std.specs.Option.{ok_or}

pub given : (b : Bool) (x y : ℕ) → Some y ≡ then_some b x → (b ≡ true) × (y ≡ x)
given true x y e = (refl, (cc))
given false x y e = cc

pub not-given : (b : Bool) (x : ℕ) → None ≡ then_some b x → b ≡ false
not-given true x e = cc
not-given false x e = refl

pub given-ok : {E : Type 0} (b : Bool) (x y : ℕ) (f : E) → Ok y ≡ ok_or (then_some b x) f → (b ≡ true) × (y ≡ x)
given-ok true x y f e = (refl, (cc))
given-ok false x y f e = cc

pub not-given-err : {E : Type 0} (b : Bool) (x : ℕ) (f g : E) → Err g ≡ ok_or (then_some b x) f → (b ≡ false) × (g ≡ f)
not-given-err true x f g e = cc
not-given-err false x f g e = (refl, (cc))
