-- Words by their numbers: where word number x of worker d stands, and that an image which has the worker has the word.
use Rattle.std.proofs.Common.{◌≡◌, ℕ, ◌+◌, ◌-◌, ◌<◌, ◌≤◌, Bool, true, false, cond, ltb, refl, arith, ltb-false, le-ltb, lt-ltb}
use Rattle.base.proofs.Bools.{and_both}
use Rattle.image.specs.Place.{cell, own, valid}
use Rattle.image.specs.Image.{record_at, index_of}
use Rattle.worklog.specs.Log.{operand}

module _ (n d x : ℕ) where
  pub operand-cell : x < 512 → index_of n (cell 0) + x ≡ index_of n (operand d x)
  unfolding operand index_of
  operand-cell h = rw (lt-ltb x 512 h) (omega arith)

  pub operand-own : 512 ≤ x → index_of n (own d 0) - 512 + x ≡ index_of n (operand d x)
  unfolding operand index_of record_at
  operand-own h = rw (le-ltb x 512 h) (omega (arith, h))

  pub own-past : 512 ≤ index_of n (own d 0)
  unfolding index_of record_at
  own-past = omega arith

  pub operand-valid : (D : ℕ) → d < D → x < 512 + n → valid D n (operand d x) ≡ true
  unfolding operand
  operand-valid D h f = by (ltb x 512) refl
    where
      by : (b : Bool) → ltb x 512 ≡ b → valid D n (cond b (cell x) (own d (x - 512))) ≡ true
      by true e = e
      by false e = and_both _ _ (lt-ltb d D h) (lt-ltb (x - 512) n (omega (arith, f, ltb-false x 512 e)))
