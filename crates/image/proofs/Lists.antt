-- Lists of stores: the laws of one store, for the stores of a list while stores are left. Cuts: a call given k stores is
-- its first k stores, and two lists one after the other are one list. The memory after a list of stores at places of
-- the image is the memory with those places changed, the first one first.
use Prim.Native.Nat.{ℕ, suc, zero, ◌-◌, ◌≤◌}
use mathlib.Core.Path.{◌≡◌, refl, ap, ◌∙◌, sym, fun_ext}
use mathlib.Core.Bool.{Bool, true, ◌&&◌, and-eq-true_iff}
use mathlib.Core.List.{List, [], ◌∷◌, ◌++◌}
use native.Mathlib.Omega.{arith}
use lib.ListN.{length, take, set}
use Rattle.image.specs.Place.{Place, valid, Memory, Store}
use Rattle.image.specs.Inner.Same.{upd, upd_all}
use Rattle.image.specs.Image.{Image, index_of, workers, at, header_ok, put, put_all}
use Rattle.image.proofs.Header.{Sized}
use Rattle.image.proofs.Stores.{put-none, put_some, workers-store, header-store, sized_set, at_set}

-- all places of a list are places of an image of D workers with n own words each
abbrev pub all_valid : ℕ → ℕ → List Store → Bool
all_valid D n [] = true
all_valid D n (s ∷ ss) = valid D n s.place && all_valid D n ss

pub upd_all-nil : (rd : Memory) → upd_all rd [] ≡ rd
unfolding upd_all
upd_all-nil rd = refl

pub upd_all-cons : (rd : Memory) (s : Store) (ss : List Store) → upd_all rd (s ∷ ss) ≡ upd_all (upd rd s.place s.value) ss
unfolding upd_all
upd_all-cons rd s ss = refl

module _ (n : ℕ) where
  pub put_all-nil : (left : ℕ) (m : Image) → put_all n left m [] ≡ m
  unfolding put_all
  put_all-nil left m = refl

  pub put_all-cons : (left : ℕ) (m : Image) (s : Store) (ss : List Store)
      → put_all n left m (s ∷ ss) ≡ put_all n (left - 1) (put left m (index_of n s.place) s.value) ss
  unfolding put_all
  put_all-cons left m s ss = refl

  -- ---- what each store leaves, all leave

  all_keep : {A : Type 0} (f : Image → A) → ((left : ℕ) (m : Image) (p : Place) (v : ℕ) → f (put left m (index_of n p) v) ≡ f m)
      → (left : ℕ) (m : Image) (ss : List Store) → f (put_all n left m ss) ≡ f m
  unfolding put_all
  all_keep f one left m [] = refl
  all_keep f one left m (s ∷ ss) = all_keep f one (left - 1) (put left m (index_of n s.place) s.value) ss ∙ one left m s.place s.value

  pub workers-all : (left : ℕ) (m : Image) (ss : List Store) → workers (put_all n left m ss) ≡ workers m
  workers-all left m ss = all_keep workers (workers-store n) left m ss

  pub header-all : (mark left : ℕ) (m : Image) (ss : List Store) → header_ok mark n (put_all n left m ss) ≡ header_ok mark n m
  header-all mark left m ss = all_keep (header_ok mark n) (header-store n mark) left m ss

  -- ---- cuts

  pub put_all-none : (m : Image) (ss : List Store) → put_all n 0 m ss ≡ m
  unfolding put_all
  put_all-none m [] = refl
  put_all-none m (s ∷ ss) = ap (λ (o : Image). put_all n 0 o ss) (put-none m (index_of n s.place) s.value) ∙ put_all-none m ss

  -- with a store to spare the next one is made
  pub put_all-some : (k : ℕ) (m : Image) (s : Store) (ss : List Store) → put_all n (suc k) m (s ∷ ss) ≡ put_all n k (set m (index_of n s.place) s.value) ss
  put_all-some k m s ss =
      let e : suc k - 1 ≡ k = omega arith in
      rw (put_all-cons (suc k) m s ss, e, put_some k m (index_of n s.place) s.value)

  pub put_all-append : (left : ℕ) (m : Image) (ss ts : List Store) → put_all n left m (ss ++ ts) ≡ put_all n (left - length ss) (put_all n left m ss) ts
  unfolding put_all
  put_all-append left m [] ts = let e : left - 0 ≡ left = omega arith in rw e
  put_all-append left m (s ∷ ss) ts =
      let e : left - suc (length ss) ≡ left - 1 - length ss = omega arith in
      rw e (put_all-append (left - 1) (put left m (index_of n s.place) s.value) ss ts)

  -- a call given k is its first k stores, given enough
  pub put_all-cut : (k enough : ℕ) (m : Image) (ss : List Store) → length (take k ss) ≤ enough → put_all n k m ss ≡ put_all n enough m (take k ss)
  put_all-cut zero enough m ss h = put_all-none m ss ∙ sym (put_all-nil enough m)
  put_all-cut (suc k) enough m [] h = put_all-nil (suc k) m ∙ sym (put_all-nil enough m)
  put_all-cut (suc k) zero m (s ∷ ss) h = absurd (omega arith)
  put_all-cut (suc k) (suc e) m (s ∷ ss) h =
      put_all-some k m s ss ∙ (put_all-cut k e (set m (index_of n s.place) s.value) ss (omega arith) ∙ sym (put_all-some e m s (take k ss)))

  -- ---- the memory

  pub at_all : (D left : ℕ) (m : Image) (ss : List Store) → Sized n D m → all_valid D n ss ≡ true → (q : Place)
      → at n (put_all n left m ss) q ≡ upd_all (at n m) (take left ss) q
  unfolding upd_all
  at_all D zero m ss z ok q = ap (λ (o : Image). at n o q) (put_all-none m ss)
  at_all D (suc k) m [] z ok q = ap (λ (o : Image). at n o q) (put_all-nil (suc k) m)
  at_all D (suc k) m (s ∷ ss) z ok q =
      let e = (and-eq-true_iff (valid D n s.place) (all_valid D n ss)).0 ok in
      let one = fun_ext (at_set n D m s.place s.value z e.0) in
      rw (put_all-some k m s ss)
      (at_all D k (set m (index_of n s.place) s.value) ss (sized_set n D m s.place s.value z) e.1 q
      ∙ ap (λ (rd : Memory). upd_all rd (take k ss) q) one)
