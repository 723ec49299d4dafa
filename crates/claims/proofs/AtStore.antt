-- From images to memories: after a store at a place the image has, the memory is changed at that place; and a memory with a
-- change at one place, read at the next.
use Prim.Native.Nat.{ℕ, ◌<◌}
use mathlib.Core.Path.{◌≡◌, fun_ext}
use mathlib.Core.Bool.{true}
use mathlib.Core.List.{List}
use lib.ListN.{take}
use Rattle.image.specs.Place.{Place, valid, Store}
use Rattle.image.specs.Inner.Same.{upd, upd_all}
use Rattle.image.specs.Image.{Image, index_of, at, put, put_all}
use Rattle.image.proofs.Header.{Sized}
use Rattle.image.proofs.Stores.{at_store}
use Rattle.image.proofs.Lists.{all_valid, at_all}

module _ (n D : ℕ) (m : Image) (z : Sized n D m) where
  pub memory-store : (left : ℕ) (p : Place) (v : ℕ) → valid D n p ≡ true → 0 < left → at n (put left m (index_of n p) v) ≡ upd (at n m) p v
  memory-store left p v ok l = fun_ext (λ q. at_store n D left m p v z ok l q)

  pub memory-all : (left : ℕ) (ss : List Store) → all_valid D n ss ≡ true → at n (put_all n left m ss) ≡ upd_all (at n m) (take left ss)
  memory-all left ss ok = fun_ext (λ q. at_all n D left m ss z ok q)
