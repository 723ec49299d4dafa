-- Laws of the image's buffer: the image's first words replaced, and then more of them.
use Prim.Native.Nat.{ℕ, ◌+◌, ◌-◌, ◌≤◌}
use mathlib.Core.Path.{◌≡◌, refl, sym, ap, ◌∙◌}
use mathlib.Core.List.{List, ◌++◌}
use native.Mathlib.Omega.{arith}
use lib.ListN.{length, take, drop}
use lib.Seq.{length-take-le, length_front, take_at, drop_at, drop-drop}
use Rattle.stages.specs.Buffer.{Buffered}

-- the first n words of m replaced by as many others
module _ (m e : List ℕ) (n : ℕ) (inside : n ≤ length m) (same : length e ≡ length (take n m)) where
  private-length : length e ≡ n
  private-length = same ∙ length-take-le n m inside

  pub front-words : take n (e ++ drop n m) ≡ e
  front-words = take_at e (drop n m) n private-length

  pub front-buffered : (was : ℕ) → was ≤ n → Buffered m (e ++ drop n m) was n
  front-buffered was h = record {
    words = omega (arith, length_front m e n same);
    grows = h;
    behind = drop_at e (drop n m) n private-length;
  }

-- what is equal from an index on is equal from a later one on
pub behind-later : (a b : List ℕ) (i j : ℕ) → i ≤ j → drop i a ≡ drop i b → drop j a ≡ drop j b
behind-later a b i j h e =
    let k : i + (j - i) ≡ j = omega arith in
    let p : drop (i + (j - i)) a ≡ drop (i + (j - i)) b = sym (drop-drop (j - i) i a) ∙ ap (drop (j - i)) e ∙ drop-drop (j - i) i b in
    rw k at p

-- one after the other
pub buffered-then : (a b c : List ℕ) (x y z : ℕ) → Buffered a b x y → Buffered b c y z → Buffered a c x z
buffered-then a b c x y z p q = record {
  words = q.words;
  grows = omega arith;
  behind = q.behind ∙ behind-later b a y z q.grows p.behind;
}

-- nothing is replaced
pub same-buffered : (m : List ℕ) (n : ℕ) → n ≤ length m → Buffered m m n n
same-buffered m n h = record { words = h; grows = omega arith; behind = refl }
