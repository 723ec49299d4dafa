-- The numbers of a list of turns: what they are where turns are added to it, and each read by its index.
use Rattle.std.proofs.Common.{◌≡◌, ℕ, zero, suc, ◌+◌, ◌≤◌, min, Bool, true, false, cond, eqb, List, [], ◌∷◌, ◌++◌, replicate}
use Rattle.std.proofs.Common.{refl, ap, ◌∙◌, arith, eq-eqb, ne_eqb}
use mathlib.Core.Bool.{and-true, and-false}
use Rattle.turn.specs.declared.Answer.{Answer}
use Rattle.turn.specs.declared.Answer.TheVariants.{Stored, Passed, Waiting, Idle, Refused}
use Rattle.lines.specs.declared.Made.{Made}
use Rattle.lines.specs.Whole.{Took, took, turns_in}
use Rattle.sums.specs.Sums.{waits_at, waits, moves, wait_on, wait_of, move_of, count, numbers, sums, sums_of}
use Rattle.sums.specs.Inner.Counting.{raised, counted_by, counted}

-- ---- a count

pub count-append : (P : Took → Bool) (ts us : List Took) → count P (ts ++ us) ≡ count P ts + count P us
unfolding count
count-append P [] us = omega arith
count-append P (t ∷ ts) us = by (P t) (count-append P ts us)
  where
    by : (b : Bool) → count P (ts ++ us) ≡ count P ts + count P us
        → cond b (suc (count P (ts ++ us))) (count P (ts ++ us)) ≡ cond b (suc (count P ts)) (count P ts) + count P us
    by true h = omega arith
    by false h = h

-- k turns that are such
private-count-copies : (P : Took → Bool) (t : Took) (k : ℕ) → P t ≡ true → count P (replicate k t) ≡ k
unfolding count
private-count-copies P t zero h = refl
private-count-copies P t (suc k) h = rw h (ap suc (private-count-copies P t k h))

-- and that are not
private-count-others : (P : Took → Bool) (t : Took) (k : ℕ) → P t ≡ false → count P (replicate k t) ≡ 0
unfolding count
private-count-others P t zero h = refl
private-count-others P t (suc k) h = rw h (private-count-others P t k h)

-- ---- turns more: at most one number is raised

private-min : (x k m : ℕ) → min (min x m + k) m ≡ min (x + k) m
private-min x k m = omega arith

module _ (P : ℕ → Took → Bool) (ts : List Took) (t : Took) (k : ℕ) where
  private-count-more : (j : ℕ) → P j t ≡ true → count (P j) (ts ++ replicate k t) ≡ count (P j) ts + k
  private-count-more j h = count-append (P j) ts (replicate k t) ∙ ap (λ (n : ℕ). count (P j) ts + n) (private-count-copies (P j) t k h)

  private-count-same : (j : ℕ) → P j t ≡ false → count (P j) (ts ++ replicate k t) ≡ count (P j) ts
  private-count-same j h = omega (arith, count-append (P j) ts (replicate k t), private-count-others (P j) t k h)

  private-same : (n s : ℕ) → ((j : ℕ) → s ≤ j → P j t ≡ false) → numbers P ts s n ≡ numbers P (ts ++ replicate k t) s n
  unfolding numbers
  private-same zero s h = refl
  private-same (suc n) s h = rw (private-count-same s (h s (omega arith)), private-same n (s + 1) (λ j g. h j (omega arith)))

  private-raised : (n s r i : ℕ) → i ≡ s + r → ((j : ℕ) → P j t ≡ eqb i j) → raised (numbers P ts s n) r k ≡ numbers P (ts ++ replicate k t) s n
  unfolding numbers raised
  private-raised zero s r i e h = refl
  private-raised (suc n) s zero i e h =
      rw (private-count-more s (h s ∙ eq-eqb i s (omega arith)), private-min, private-same n (s + 1) (λ j g. h j ∙ ne_eqb i j (λ q. omega arith)))
  private-raised (suc n) s (suc r) i e h =
      rw (private-count-same s (h s ∙ ne_eqb i s (λ q. omega arith)), ← private-raised n (s + 1) r i (omega arith) h)

-- ---- turns counted at once

private-sums : {l l' w w' m m' : List ℕ} → l ≡ l' → w ≡ w' → m ≡ m' → sums l w m ≡ sums l' w' m'
private-sums p q r = cc

module _ (ts : List Took) (d k : ℕ) where
  -- by an answer that waits on no lock
  private-locks-same : (a : Answer) → ((b : ℕ) → waits_at b a ≡ false) → numbers wait_on ts 0 64 ≡ numbers wait_on (ts ++ replicate k (took d a)) 0 64
  private-locks-same a h = private-same wait_on ts (took d a) k 64 0 (λ j g. h j)

  private-waited-same : (a : Answer) → waits a ≡ false → numbers wait_of ts 0 8 ≡ numbers wait_of (ts ++ replicate k (took d a)) 0 8
  private-waited-same a h = private-same wait_of ts (took d a) k 8 0 (λ j g. rw h (and-false (eqb d j)))

  private-moved-same : (a : Answer) → moves a ≡ false → numbers move_of ts 0 8 ≡ numbers move_of (ts ++ replicate k (took d a)) 0 8
  private-moved-same a h = private-same move_of ts (took d a) k 8 0 (λ j g. rw h (and-false (eqb d j)))

  private-moved-raised : (a : Answer) → moves a ≡ true → raised (numbers move_of ts 0 8) d k ≡ numbers move_of (ts ++ replicate k (took d a)) 0 8
  private-moved-raised a h = private-raised move_of ts (took d a) k 8 0 d d (omega arith) (λ j. rw h (and-true (eqb d j)))

  private-waited-raised : (b : ℕ) → raised (numbers wait_of ts 0 8) d k ≡ numbers wait_of (ts ++ replicate k (took d (Waiting b))) 0 8
  private-waited-raised b = private-raised wait_of ts (took d (Waiting b)) k 8 0 d d (omega arith) (λ j. and-true (eqb d j))

  private-locks-raised : (b : ℕ) → raised (numbers wait_on ts 0 64) b k ≡ numbers wait_on (ts ++ replicate k (took d (Waiting b))) 0 64
  private-locks-raised b = private-raised wait_on ts (took d (Waiting b)) k 64 0 b b (omega arith) (λ j. refl)

  private-counted : (a : Answer) → counted_by d k a (sums_of ts) ≡ sums_of (ts ++ replicate k (took d a))
  unfolding sums_of
  private-counted (Stored i) =
      let a = Stored i in
      private-sums (private-locks-same a (λ b. refl)) (private-waited-same a refl) (private-moved-raised a refl)
  private-counted (Passed why) =
      let a = Passed why in
      private-sums (private-locks-same a (λ b. refl)) (private-waited-same a refl) (private-moved-raised a refl)
  private-counted (Waiting b) = private-sums (private-locks-raised b) (private-waited-raised b) (private-moved-same (Waiting b) refl)
  private-counted Idle = private-sums (private-locks-same Idle (λ b. refl)) (private-waited-same Idle refl) (private-moved-same Idle refl)
  private-counted (Refused r) =
      let a = Refused r in
      private-sums (private-locks-same a (λ b. refl)) (private-waited-same a refl) (private-moved-same a refl)

pub counted-sums : (t : Made) (ts : List Took) → counted t (sums_of ts) ≡ sums_of (ts ++ turns_in t)
counted-sums t ts = private-counted ts t.worker t.times t.answer
