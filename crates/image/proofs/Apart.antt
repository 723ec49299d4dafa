-- The index of a place: at least 8, below the image's length where the place is one of the image's, and different for
-- different places. The last is shown by reading an index back: `place_at` gives the place that stands at an index.
use Prim.Native.Nat.{ℕ, suc, ◌+◌, ◌*◌, ◌-◌, ◌/◌, ◌%◌, ◌<◌, ◌≤◌}
use mathlib.Core.Path.{◌≡◌, ap, ◌∙◌, sym}
use mathlib.Core.Bool.{Bool, true, false, cond, and-eq-true_iff}
use lib.Dec.{ltb}
use borrow.Author.Tests.{ltb-true, lt-ltb, le-ltb}
use native.Mathlib.Omega.{arith}
use native.Mathlib.Nat.{mul-le-mul_left, mul-le-mul, mul-suc, mul-add-div, mul-add-mod_self_left, div-eq_of_lt, mod-eq_of_lt}
use Rattle.base.proofs.Bools.{and_right}
use Rattle.image.specs.declared.Field.TheVariants.{Addr0, Val0, Addr1, Val1}
use Rattle.image.specs.Place.{offset, Place, cell, lock, field, own, step, valid}
use Rattle.image.specs.Image.{record_at, length_of, index_of}
use Rattle.image.proofs.Places.{field_at, field-offset, offset-lt}

module _ (n : ℕ) where
  -- records are few and short: no index overflows
  pub record-small : (d : ℕ) → d ≤ 8 → n ≤ 64 → record_at n d ≤ 1688
  unfolding record_at
  record-small d hd hn = let a : 74 + n ≤ 138 = omega arith in let p : (74 + n) * d ≤ 138 * 8 = mul-le-mul a hd in omega arith

  -- a record ends before the next begins
  pub record-lt : (d D : ℕ) → ltb d D ≡ true → record_at n d + (74 + n) ≤ length_of n D
  unfolding record_at length_of
  record-lt d D h = let p : (74 + n) * suc d ≤ (74 + n) * D = mul-le-mul_left (74 + n) (ltb-true d D h) in omega (arith, mul-suc (74 + n) d)

  pub length-ge : (D : ℕ) → 584 ≤ length_of n D
  unfolding length_of record_at
  length-ge D = omega arith

  pub index-ge : (p : Place) → 8 ≤ index_of n p
  unfolding index_of record_at
  index-ge (cell x) = omega arith
  index-ge (lock b) = omega arith
  index-ge (field f d) = omega arith
  index-ge (own d i) = omega arith
  index-ge (step d i) = omega arith

  -- a log entry's value stands behind its address
  pub value-behind : (b : Bool) (d : ℕ) → index_of n (field (cond b Val0 Val1) d) ≡ index_of n (field (cond b Addr0 Addr1) d) + 1
  unfolding index_of
  value-behind true d = omega arith
  value-behind false d = omega arith

  pub index-lt : (D : ℕ) (p : Place) → valid D n p ≡ true → index_of n p < length_of n D
  unfolding index_of
  index-lt D (cell x) v = let r = length-ge D in omega (arith, ltb-true x 512 v)
  index-lt D (lock b) v = let r = length-ge D in omega (arith, ltb-true b 64 v)
  index-lt D (field f d) v = omega (arith, record-lt d D v, offset-lt f)
  index-lt D (own d i) v = let e = (and-eq-true_iff _ _).0 v in omega (arith, record-lt d D e.0, ltb-true i n e.1)
  index-lt D (step d i) v = let e = (and-eq-true_iff _ _).0 v in omega (arith, record-lt d D e.0, ltb-true i 64 e.1)

  -- the index of a place of any image is small
  pub index-small : (p : Place) → n ≤ 64 → valid 8 n p ≡ true → index_of n p < 1688
  unfolding length_of
  index-small p few v = omega (arith, index-lt 8 p v, record-small 8 (omega arith) few)

  -- ---- reading an index back: the word at an offset of a record, and the place at an index
  in_record : ℕ → ℕ → Place
  in_record d o = cond (ltb o 10) (field (field_at o) d) (cond (ltb o (10 + n)) (own d (o - 10)) (step d (o - (10 + n))))

  place_at : ℕ → Place
  place_at i = cond (ltb i 520) (cell (i - 8)) (cond (ltb i 584) (lock (i - 520)) (in_record ((i - 584) / (74 + n)) ((i - 584) % (74 + n))))

  record-back : (d o : ℕ) → o < 74 + n → place_at (record_at n d + o) ≡ in_record d o
  unfolding record_at place_at
  record-back d o h =
      let k = 74 + n in
      let s : 584 + k * d + o - 584 ≡ k * d + o = omega arith in
      let q : (k * d + o) / k ≡ d = mul-add-div {m = k} (omega arith) d o ∙ (ap (λ (x : ℕ). d + x) (div-eq_of_lt h) ∙ omega arith) in
      let r : (k * d + o) % k ≡ o = mul-add-mod_self_left k d o ∙ mod-eq_of_lt h in
      rw (le-ltb (584 + k * d + o) 520 (omega arith), le-ltb (584 + k * d + o) 584 (omega arith), s, q, r)

  place-back : (D : ℕ) (p : Place) → valid D n p ≡ true → place_at (index_of n p) ≡ p
  unfolding index_of place_at in_record
  place-back D (cell x) v = rw (lt-ltb (8 + x) 520 (omega (arith, ltb-true x 512 v))) (ap cell (omega arith))
  place-back D (lock b) v = rw (le-ltb (520 + b) 520 (omega arith), lt-ltb (520 + b) 584 (omega (arith, ltb-true b 64 v))) (ap lock (omega arith))
  place-back D (field f d) v =
      let o = offset-lt f in
      record-back d (offset f) (omega arith) ∙ rw (lt-ltb (offset f) 10 o, field-offset f)
  place-back D (own d i) v =
      let o = ltb-true i n (and_right (ltb d D) (ltb i n) v) in
      record-back d (10 + i) (omega arith) ∙ rw (le-ltb (10 + i) 10 (omega arith), lt-ltb (10 + i) (10 + n) (omega arith)) (ap (own d) (omega arith))
  place-back D (step d i) v =
      let o = ltb-true i 64 (and_right (ltb d D) (ltb i 64) v) in
      record-back d (10 + n + i) (omega arith)
      ∙ rw (le-ltb (10 + n + i) 10 (omega arith), le-ltb (10 + n + i) (10 + n) (omega arith)) (ap (step d) (omega arith))

  -- places of one image with one index are one place
  pub index-apart : (D : ℕ) (q p : Place) → valid D n q ≡ true → valid D n p ≡ true → index_of n q ≡ index_of n p → q ≡ p
  index-apart D q p v w e = sym (place-back D q v) ∙ (ap place_at e ∙ place-back D p w)
