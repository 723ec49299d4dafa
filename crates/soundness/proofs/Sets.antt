-- The owed sets in a list: eight elements of a list are the list; the claimants of a lock are counted in the list of the owed sets, and
-- the locks that have one or two of them are two sets. Further, where a loop finds the lowest lock that is wrong.
use Prim.Native.Nat.{ℕ, suc, zero, ◌+◌, ◌-◌, ◌<◌, ◌≤◌}
use borrow.Author.Tests.{lt-ltb, le-ltb, le-leb, lt-leb}
use mathlib.Core.Path.{◌≡◌, refl, sym, ap, ◌∙◌}
use mathlib.Core.Bool.{true, false}
use mathlib.Core.List.{List, [], ◌∷◌}
use native.Mathlib.Decide.{dec_lt, ℕ_discrete}
use native.Mathlib.Omega.{arith}
use lib.ListN.{length, get_or, set, take, length-set}
use lib.Seq.{ext_get_or, get_or-set_same, get_or-set_other, get_or-take, length-take-le}
use Rattle.base.proofs.Counting.{left_step, left-none}
use Rattle.mask.specs.Mask.{union}
use Rattle.mask.proofs.Members.{union-same}
use Rattle.image.specs.Place.{lock, Memory}
use Rattle.owed.specs.Owed.{owed, claimants, owner_ok}
use Rattle.soundness.specs.Sound.{eight, lock_ok, bad_lock, owed_at}
use Rattle.owed.specs.Inner.Shared.{sets_in}

-- ---- lists of eight

pub eight-at : (f : ℕ → ℕ) (z j : ℕ) → j < 8 → get_or (eight f) j z ≡ f j
eight-at f z zero h = refl
eight-at f z (suc zero) h = refl
eight-at f z (suc (suc zero)) h = refl
eight-at f z (suc (suc (suc zero))) h = refl
eight-at f z (suc (suc (suc (suc zero)))) h = refl
eight-at f z (suc (suc (suc (suc (suc zero))))) h = refl
eight-at f z (suc (suc (suc (suc (suc (suc zero)))))) h = refl
eight-at f z (suc (suc (suc (suc (suc (suc (suc zero))))))) h = refl
eight-at f z (suc (suc (suc (suc (suc (suc (suc (suc j)))))))) h = absurd (omega arith)

pub eight_is : (l : List ℕ) (f : ℕ → ℕ) (k : ℕ) → length l ≡ 8 → 8 ≤ k → ((j : ℕ) → j < k → get_or l j 0 ≡ f j) → l ≡ eight f
eight_is l f k e h g = ext_get_or 0 l (eight f) e (λ j b. g j (omega arith) ∙ sym (eight-at f 0 j (omega arith)))

-- one element written, where the others are the same
pub eight-next : (f g : ℕ → ℕ) (l : List ℕ) (d v : ℕ) → d < 8 → l ≡ eight f → v ≡ g d → ((j : ℕ) → (j ≡ d → ⊥) → f j ≡ g j) → set l d v ≡ eight g
eight-next f g l d v h e w same = eight_is (set l d v) g 8 (length-set l d v ∙ ap length e) (omega arith) (λ j b. by j b (ℕ_discrete j d))
  where
    by : (j : ℕ) → j < 8 → Dec (j ≡ d) → get_or (set l d v) j 0 ≡ g j
    by j b (yes p) = let c : d < length l = omega (arith, ap length e) in rw (p, get_or-set_same l d v 0 c) w
    by j b (no p) = get_or-set_other l d j v 0 p ∙ (ap (λ (s : List ℕ). get_or s j 0) e ∙ (eight-at f 0 j b ∙ same j p))

module _ (n : ℕ) (rd : Memory) (D : ℕ) where
  pub owed-inside : (d : ℕ) → d < D → owed_at n rd D d ≡ owed n rd d
  owed-inside d h = rw (lt-ltb d D h)

  pub owed-outside : (d : ℕ) → D ≤ d → owed_at n rd D d ≡ 0
  owed-outside d h = rw (le-ltb d D h)

  private-wider : (d j : ℕ) → (j ≡ d → ⊥) → owed_at n rd d j ≡ owed_at n rd (d + 1) j
  private-wider d j h = by (dec_lt j d)
    where
      by : Dec (j < d) → owed_at n rd d j ≡ owed_at n rd (d + 1) j
      by (yes l) = rw (lt-ltb j d l, lt-ltb j (d + 1) (omega arith))
      by (no g) = rw (le-ltb j d (omega arith), le-ltb j (d + 1) (omega arith))

  -- a list that has the owed sets of the image's workers
  abbrev pub Owing : List ℕ → Type 0
  Owing l = (length l ≡ D) × ((d : ℕ) → d < D → sets_in l d ≡ owed n rd d)

  pub owed-first : (sets : List ℕ) (k : ℕ) → sets ≡ eight (owed_at n rd D) → k ≡ D → D ≤ 8 → Owing (take k sets)
  owed-first sets k e q few =
      let long : D ≤ length sets = omega (arith, ap length e) in (
        rw q (length-take-le D sets long),
        λ d l.
            rw q
            (get_or-take D sets d 0 l ∙ (ap (λ (s : List ℕ). get_or s d 0) e ∙ (eight-at (owed_at n rd D) 0 d (omega arith) ∙ owed-inside d l))),
      )

  -- the owed sets of one worker more
  pub owed-next : (sets : List ℕ) (d v : ℕ) → d < 8 → sets ≡ eight (owed_at n rd d) → v ≡ owed n rd d → set sets d v ≡ eight (owed_at n rd (d + 1))
  owed-next sets d v h e f =
      let here : v ≡ owed_at n rd (d + 1) d = rw (lt-ltb d (d + 1) (omega arith)) f in
      eight-next (owed_at n rd d) (owed_at n rd (d + 1)) sets d v h e here (private-wider d)

  module _ (l : List ℕ) (owing : Owing l) where
    pub claimants-are : (b k : ℕ) → k ≤ D → claimants (sets_in l) b k ≡ claimants (owed n rd) b k
    unfolding claimants
    claimants-are b zero h = refl
    claimants-are b (suc k) h = rw (owing.1 k (omega arith), claimants-are b k (omega arith))

    all-claimants : (b : ℕ) → claimants (sets_in l) b (length l) ≡ claimants (owed n rd) b D
    all-claimants b = rw owing.0 (claimants-are b D (omega arith))

    -- what the sets have together
    pub union-are : union (sets_in l) (length l) ≡ union (owed n rd) D
    union-are = rw owing.0 (union-same _ (owed n rd) D owing.1)

    -- a lock that one worker at most is owed, and one that two are owed
    pub lock-single : (b : ℕ) → claimants (sets_in l) b (length l) ≤ 1 → lock_ok n rd D b ≡ owner_ok n rd D b (rd (lock b))
    unfolding lock_ok
    lock-single b h = rw (← all-claimants b, le-leb (claimants (sets_in l) b (length l)) 1 h)

    pub lock-shared : (b : ℕ) → 1 < claimants (sets_in l) b (length l) → lock_ok n rd D b ≡ false
    unfolding lock_ok
    lock-shared b h = rw (← all-claimants b, lt-leb (claimants (sets_in l) b (length l)) 1 h)

  -- an owner word that is not 0 names the worker below it
  pub bad-on : (b : ℕ) → b < 64 → lock_ok n rd D b ≡ true → bad_lock n rd D b (64 - b) ≡ bad_lock n rd D (b + 1) (64 - (b + 1))
  unfolding bad_lock
  bad-on b h e = rw (left_step 64 b h, e)

  pub bad-here : (b : ℕ) → b < 64 → lock_ok n rd D b ≡ false → bad_lock n rd D b (64 - b) ≡ b ∷ []
  unfolding bad_lock
  bad-here b h e = rw (left_step 64 b h, e)

  pub bad-none : (b : ℕ) → 64 ≤ b → bad_lock n rd D b (64 - b) ≡ []
  unfolding bad_lock
  bad-none b h = rw (left-none 64 b h)
