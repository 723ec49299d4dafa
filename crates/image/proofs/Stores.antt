-- One store: with none left nothing changes; else it changes the word at its place and no other. The words before 8 and
-- the length stay, so the header and the number of workers do. Another place of the image has another index, so what
-- stands there stays.
use Prim.Native.Nat.{ℕ, suc, zero, ◌+◌, ◌-◌, ◌<◌, ◌≤◌}
use mathlib.Core.Path.{◌≡◌, refl, ap, ◌∙◌, sym}
use mathlib.Core.Bool.{Bool, true, false, cond, true≢false}
use native.Mathlib.Omega.{arith}
use borrow.Author.Tests.{lt-ltb}
use lib.ListN.{length, get_or, take, drop, set, length-set}
use lib.Seq.{get_or-set_same, get_or-set_other, drop-set-add, take-set-le}
use Rattle.image.specs.Place.{Place, lock, own, step, valid}
use Rattle.image.specs.Inner.Same.{same, upd}
use Rattle.image.specs.Image.{Image, front, index_of, workers, at, header_ok, put}
use Rattle.image.specs.Inner.Inside.{Inside}
use Rattle.image.proofs.Places.{same_refl, same_place}
use Rattle.image.proofs.Apart.{record-lt, length-ge, index-ge, index-lt, index-apart}
use Rattle.image.proofs.Header.{Sized}

-- an image that has the words before the records has the locks
pub lock-lt : (m : Image) (b : ℕ) {i : ℕ} → b < 64 → front ≤ length m → i ≡ index_of 0 (lock b) → i < length m
unfolding index_of
lock-lt m b h f e = omega (arith, h, f, e)

-- ---- with stores left or without

pub put-none : (m : Image) (i v : ℕ) → put 0 m i v ≡ m
unfolding put
put-none m i v = refl

pub put_some : (k : ℕ) (m : Image) (i v : ℕ) → put (suc k) m i v ≡ set m i v
unfolding put
put_some k m i v = refl

pub put-lots : (left : ℕ) (m : Image) (i v : ℕ) → 0 < left → put left m i v ≡ set m i v
put-lots zero m i v h = absurd (omega arith)
put-lots (suc k) m i v h = put_some k m i v

-- what a change of one word leaves, a store leaves
pub put_keeps : {A : Type 0} (f : Image → A) (left : ℕ) (m : Image) (i v : ℕ) → f (set m i v) ≡ f m → f (put left m i v) ≡ f m
unfolding put
put_keeps f zero m i v e = refl
put_keeps f (suc k) m i v e = e

-- ---- the header

workers-set : (m : Image) (i v : ℕ) → 8 ≤ i → workers (set m i v) ≡ workers m
unfolding workers
workers-set m i v h = get_or-set_other m i 1 v 0 (λ e. omega arith)

spare-set : (m : Image) (i v : ℕ) → 8 ≤ i → take 6 (drop 2 (set m i v)) ≡ take 6 (drop 2 m)
spare-set m i v h =
    let e : i ≡ 2 + (i - 2) = omega arith in
    rw e (ap (take 6) (drop-set-add 2 m (i - 2) v) ∙ take-set-le 6 (drop 2 m) (i - 2) v (omega arith))

header-set : (mark n : ℕ) (m : Image) (i v : ℕ) → 8 ≤ i → header_ok mark n (set m i v) ≡ header_ok mark n m
unfolding header_ok
header-set mark n m i v h = rw (workers-set m i v h, length-set m i v, get_or-set_other m i 0 v 0 (λ e. omega arith), spare-set m i v h)

module _ (n : ℕ) where
  pub length-store : (left : ℕ) (m : Image) (p : Place) (v : ℕ) → length (put left m (index_of n p) v) ≡ length m
  length-store left m p v = put_keeps length left m (index_of n p) v (length-set m (index_of n p) v)

  pub workers-store : (left : ℕ) (m : Image) (p : Place) (v : ℕ) → workers (put left m (index_of n p) v) ≡ workers m
  workers-store left m p v = put_keeps workers left m (index_of n p) v (workers-set m (index_of n p) v (index-ge n p))

  pub header-store : (mark left : ℕ) (m : Image) (p : Place) (v : ℕ) → header_ok mark n (put left m (index_of n p) v) ≡ header_ok mark n m
  header-store mark left m p v = put_keeps (header_ok mark n) left m (index_of n p) v (header-set mark n m (index_of n p) v (index-ge n p))

  pub sized-store : (D left : ℕ) (m : Image) (p : Place) (v : ℕ) → Sized n D m → Sized n D (put left m (index_of n p) v)
  sized-store D left m p v z = record { size = length-store left m p v ∙ z.size; has = workers-store left m p v ∙ z.has }

  pub sized_set : (D : ℕ) (m : Image) (p : Place) (v : ℕ) → Sized n D m → Sized n D (set m (index_of n p) v)
  sized_set D m p v z = rw (put_some 0 m (index_of n p) v) at (sized-store D 1 m p v z)

  -- ---- what an image of the right length has

  pub inside-front : (m : Image) (d : ℕ) → Inside n m d → front ≤ length m
  inside-front m d w = rw w.whole (length-ge n (workers m))

  pub inside-lt : (m : Image) (d : ℕ) (p : Place) {i : ℕ} → Inside n m d → valid (workers m) n p ≡ true → i ≡ index_of n p → i < length m
  inside-lt m d p w v e = rw (e, w.whole) (index-lt n (workers m) p v)

  -- a record's own words, and its instructions
  pub inside-own : (m : Image) (d : ℕ) → Inside n m d → index_of n (own d 0) + n ≤ length m
  unfolding index_of
  inside-own m d w = rw w.whole (omega (arith, record-lt n d (workers m) (lt-ltb d (workers m) w.below)))

  pub inside-steps : (m : Image) (d : ℕ) → Inside n m d → index_of n (step d 0) + 64 ≤ length m
  unfolding index_of
  inside-steps m d w = rw w.whole (omega (arith, record-lt n d (workers m) (lt-ltb d (workers m) w.below)))

  -- ---- the memory

  pub load_at : (m : Image) (p : Place) → valid (workers m) n p ≡ true → get_or m (index_of n p) 0 ≡ at n m p
  unfolding at
  load_at m p ok = rw ok

  -- the same for a load of an index that is the place's
  pub read_at : (m : Image) (p : Place) {i r : ℕ} → i ≡ index_of n p → r ≡ get_or m i 0 → valid (workers m) n p ≡ true → r ≡ at n m p
  read_at m p {i} {r} e h v = h ∙ (ap (λ (j : ℕ). get_or m j 0) e ∙ load_at m p v)

  -- the memory after a change at a place is the memory with that place changed
  pub at_set : (D : ℕ) (m : Image) (p : Place) (v : ℕ) → Sized n D m → valid D n p ≡ true → (q : Place) → at n (set m (index_of n p) v) q ≡ upd (at n m) p v q
  unfolding at
  at_set D m p v z ok q = rw (workers-set m (index_of n p) v (index-ge n p), z.has) (by (valid D n q) refl (same q p) refl)
    where
      by : (b : Bool) → valid D n q ≡ b → (c : Bool) → same q p ≡ c
          → cond b (get_or (set m (index_of n p) v) (index_of n q) 0) 0 ≡ cond c v (cond b (get_or m (index_of n q) 0) 0)
      by true hb true hc = rw (same_place q p hc) (get_or-set_same m (index_of n p) v 0 (rw z.size (index-lt n D p ok)))
      by true hb false hc =
          get_or-set_other m (index_of n p) (index_of n q) v 0
          (λ e. true≢false (sym (same_refl p) ∙ (ap (λ (x : Place). same x p) (sym (index-apart n D q p hb ok e)) ∙ hc)))
      by false hb true hc = absurd (true≢false (sym ok ∙ (ap (valid D n) (sym (same_place q p hc)) ∙ hb)))
      by false hb false hc = refl

  pub at_store : (D left : ℕ) (m : Image) (p : Place) (v : ℕ) → Sized n D m → valid D n p ≡ true → 0 < left → (q : Place)
      → at n (put left m (index_of n p) v) q ≡ upd (at n m) p v q
  at_store D left m p v z ok some q = rw (put-lots left m (index_of n p) v some) (at_set D m p v z ok q)
