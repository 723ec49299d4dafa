-- What the tests of a recovery say: `covers` is inclusion, at most one claimant is that no two workers are owed one lock, and a
-- record is sound and a lock is right by their parts; so that what a recovery accepts is known by its parts (`Parts`), both
-- ways. With every record sound and every lock right there is no refusal, so a recovery accepts an image with a right header
-- whose memory is `Crashed` (`crashed-accepted`), and no other (`accepted-crashed`). By induction on the number of locks or
-- workers, with the head's test by cases.
use Prim.Native.Nat.{ℕ, suc, zero, ◌+◌, ◌<◌, ◌≤◌}
use mathlib.Core.Path.{◌≡◌, refl, ap}
use mathlib.Core.Bool.{Bool, true, false, cond, ◌&&◌, ◌||◌, not, false≢true}
use mathlib.Core.List.{List, [], ◌∷◌}
use native.Mathlib.Omega.{arith}
use native.Mathlib.Decide.{ℕ_discrete, dec_lt}
use lib.Dec.{leb, ltb}
use borrow.Author.Tests.{ltb-true, lt-ltb, leb-true, le-leb}
use Rattle.base.proofs.Bools.{and_left, and_right, and_both}
use Rattle.mask.specs.Mask.{has}
use Rattle.image.specs.declared.Field.TheVariants.{Intent}
use Rattle.image.specs.Place.{lock, field, Memory, Store}
use Rattle.image.specs.Image.{Image, at, workers, header_ok}
use Rattle.owed.specs.Owed.{covers, owed, claimants, owner_ok}
use Rattle.soundness.specs.Sound.{section_ok, pc_ok, sound, unsound, lock_ok, bad_lock}
use Rattle.soundness.specs.declared.Refusal.TheVariants.{Image as ImageRefused, Record, Lock}
use Rattle.soundness.proofs.Legible.{each-passes, all_sound as each-sound}
use Rattle.working.specs.declared.Cursors.{Cursors}
use Rattle.resuming.specs.Resumed.{resumed_all}
use Rattle.repair.specs.Plan.{plan}
use Rattle.recovery.specs.Recovery.{Recovered, accepted, rejected, by_first, recovery}
use Rattle.claims.proofs.Invariant.{Crashed}

-- ---- inclusion

private-implies : (p q : Bool) → (not p || q) ≡ true → p ≡ true → q ≡ true
private-implies true q h e = h
private-implies false q h e = absurd (false≢true e)

private-implied : (p q : Bool) → (p ≡ true → q ≡ true) → (not p || q) ≡ true
private-implied true q h = h refl
private-implied false q h = refl

pub covers-all : (big small k : ℕ) → covers big small k ≡ true → (b : ℕ) → b < k → has small b ≡ true → has big b ≡ true
unfolding covers
covers-all big small zero h b l s = absurd (omega arith)
covers-all big small (suc k) h b l s = by (covers-all big small k (and_right (not (has small k) || has big k) (covers big small k) h) b) (ℕ_discrete b k)
  where
    by : (b < k → has small b ≡ true → has big b ≡ true) → Dec (b ≡ k) → has big b ≡ true
    by more (yes e) = rw e (private-implies (has small k) (has big k) (and_left (not (has small k) || has big k) (covers big small k) h) (rw e at s))
    by more (no e) = more (omega arith) s

pub all-covers : (big small k : ℕ) → ((b : ℕ) → b < k → has small b ≡ true → has big b ≡ true) → covers big small k ≡ true
unfolding covers
all-covers big small zero h = refl
all-covers big small (suc k) h =
    and_both (not (has small k) || has big k) (covers big small k)
    (private-implied (has small k) (has big k) (h k (omega arith)))
    (all-covers big small k (λ b l. h b (omega arith)))

-- ---- claimants of a lock

module _ (n : ℕ) (rd : Memory) (b : ℕ) where
  private-some : (k d : ℕ) → d < k → has (owed n rd d) b ≡ true → 1 ≤ claimants (owed n rd) b k
  unfolding claimants
  private-some zero d l h = absurd (omega arith)
  private-some (suc k) d l h = by (private-some k d) (ℕ_discrete d k)
    where
      by : (d < k → has (owed n rd d) b ≡ true → 1 ≤ claimants (owed n rd) b k) → Dec (d ≡ k) → 1 ≤ cond (has (owed n rd k) b) 1 0 + claimants (owed n rd) b k
      by more (yes e) = rw (← e, h) (omega arith)
      by more (no e) = let m = more (omega arith) h in omega arith

  private-two : (k d e : ℕ) → d < e → e < k → has (owed n rd d) b ≡ true → has (owed n rd e) b ≡ true → 2 ≤ claimants (owed n rd) b k
  unfolding claimants
  private-two zero d e l m g h = absurd (omega arith)
  private-two (suc k) d e l m g h = by (private-two k d e l) (ℕ_discrete e k)
    where
      by : (e < k → has (owed n rd d) b ≡ true → has (owed n rd e) b ≡ true → 2 ≤ claimants (owed n rd) b k) → Dec (e ≡ k)
          → 2 ≤ cond (has (owed n rd k) b) 1 0 + claimants (owed n rd) b k
      by more (yes i) = let s : 1 ≤ claimants (owed n rd) b k = private-some k d (omega arith) g in rw (← i, h) (rw i (omega arith))
      by more (no i) = let s = more (omega arith) g h in omega arith

  private-none : (k : ℕ) → ((d : ℕ) → d < k → has (owed n rd d) b ≡ true → ⊥) → claimants (owed n rd) b k ≡ 0
  unfolding claimants
  private-none zero h = refl
  private-none (suc k) h = by (has (owed n rd k) b) refl (private-none k (λ d l. h d (omega arith)))
    where
      by : (t : Bool) → has (owed n rd k) b ≡ t → claimants (owed n rd) b k ≡ 0 → cond t 1 0 + claimants (owed n rd) b k ≡ 0
      by true e z = absurd (h k (omega arith) e)
      by false e z = omega arith

  -- no two workers are owed the lock
  abbrev pub Alone : ℕ → Type 0
  Alone k = (d e : ℕ) → d < k → e < k → has (owed n rd d) b ≡ true → has (owed n rd e) b ≡ true → d ≡ e

  pub one-claimants : (k : ℕ) → Alone k → claimants (owed n rd) b k ≤ 1
  unfolding claimants
  one-claimants zero h = omega arith
  one-claimants (suc k) h = by (has (owed n rd k) b) refl (one-claimants k (λ d e l m. h d e (omega arith) (omega arith)))
    where
      by : (t : Bool) → has (owed n rd k) b ≡ t → claimants (owed n rd) b k ≤ 1 → cond t 1 0 + claimants (owed n rd) b k ≤ 1
      by true e z =
          let none : claimants (owed n rd) b k ≡ 0 = private-none k (λ d l g. let i : d ≡ k = h d k (omega arith) (omega arith) g e in omega arith) in
          omega arith
      by false e z = omega arith

  pub claimants-one : (k : ℕ) → claimants (owed n rd) b k ≤ 1 → Alone k
  claimants-one k h d e l m g i = by (dec_lt d e) (dec_lt e d)
    where
      by : Dec (d < e) → Dec (e < d) → d ≡ e
      by (yes p) q = let t : 2 ≤ claimants (owed n rd) b k = private-two k d e p m g i in absurd (omega arith)
      by (no p) (yes q) = let t : 2 ≤ claimants (owed n rd) b k = private-two k e d q l i g in absurd (omega arith)
      by (no p) (no q) = omega arith

-- ---- a lock is right

-- a lock's word that is not 0 names a worker that intends the lock
abbrev pub Names : ℕ → Memory → ℕ → Type 0
Names D rd b = (d : ℕ) → rd (lock b) ≡ d + 1 → (d < D) × (has (rd (field Intent d)) b ≡ true)

module _ (n : ℕ) (rd : Memory) (D b : ℕ) where
  private-names : (w d : ℕ) → owner_ok n rd D b w ≡ true → w ≡ d + 1 → (d < D) × (has (rd (field Intent d)) b ≡ true)
  private-names zero d h e = absurd (omega arith)
  private-names (suc w) d h e =
      let i : w ≡ d = omega arith in
      rw i at
      let l : w < D = ltb-true w D (and_left (ltb w D) (has (rd (field Intent w)) b) h) in
      let g : has (rd (field Intent w)) b ≡ true = and_right (ltb w D) (has (rd (field Intent w)) b) h in
      let r : (w < D) × (has (rd (field Intent w)) b ≡ true) = (l, g) in r

  private-named : (w : ℕ) → ((d : ℕ) → w ≡ d + 1 → (d < D) × (has (rd (field Intent d)) b ≡ true)) → owner_ok n rd D b w ≡ true
  private-named zero h = refl
  private-named (suc w) h = let r = h w (omega arith) in and_both (ltb w D) (has (rd (field Intent w)) b) (lt-ltb w D r.0) r.1

  pub lock-parts : lock_ok n rd D b ≡ true → Alone n rd b D × Names D rd b
  unfolding lock_ok
  lock-parts h = (
    claimants-one n rd b D (leb-true _ _ (and_left (leb (claimants (owed n rd) b D) 1) (owner_ok n rd D b (rd (lock b))) h)),
    λ d e. private-names (rd (lock b)) d (and_right (leb (claimants (owed n rd) b D) 1) (owner_ok n rd D b (rd (lock b))) h) e,
  )

  pub parts-lock : Alone n rd b D → Names D rd b → lock_ok n rd D b ≡ true
  unfolding lock_ok
  parts-lock a h =
      and_both (leb (claimants (owed n rd) b D) 1) (owner_ok n rd D b (rd (lock b))) (le-leb _ _ (one-claimants n rd b D a)) (private-named (rd (lock b)) h)

-- ---- a record is sound

-- every lock of the one is in the other, of the 64 that there are
abbrev pub Covered : ℕ → ℕ → Type 0
Covered small big = (b : ℕ) → b < 64 → has small b ≡ true → has big b ≡ true

module _ (n : ℕ) (rd : Memory) (d : ℕ) where
  pub sound-parts : sound n rd d ≡ true → (section_ok n rd d ≡ true) × (pc_ok n rd d ≡ true) × Covered (owed n rd d) (rd (field Intent d))
  unfolding sound
  sound-parts h =
      let p = and_left (section_ok n rd d && pc_ok n rd d) (covers (rd (field Intent d)) (owed n rd d) 64) h in (
        and_left (section_ok n rd d) (pc_ok n rd d) p,
        and_right (section_ok n rd d) (pc_ok n rd d) p,
        covers-all _ _ 64 (and_right (section_ok n rd d && pc_ok n rd d) (covers (rd (field Intent d)) (owed n rd d) 64) h),
      )

  pub parts-sound : section_ok n rd d ≡ true → pc_ok n rd d ≡ true → Covered (owed n rd d) (rd (field Intent d)) → sound n rd d ≡ true
  unfolding sound
  parts-sound s p w =
      and_both (section_ok n rd d && pc_ok n rd d) (covers (rd (field Intent d)) (owed n rd d) 64) (and_both (section_ok n rd d) (pc_ok n rd d) s p)
      (all-covers _ _ 64 w)

-- ---- a memory that a recovery accepts, by its parts

pub record Parts (n D : ℕ) (rd : Memory) : Type 0 where
  pub section : (d : ℕ) → d < D → section_ok n rd d ≡ true
  pub pc : (d : ℕ) → d < D → pc_ok n rd d ≡ true
  pub meant : (d : ℕ) → d < D → Covered (owed n rd d) (rd (field Intent d))
  pub alone : (b : ℕ) → b < 64 → Alone n rd b D
  pub names : (b : ℕ) → b < 64 → Names D rd b

pub crashed-parts : (n D : ℕ) (rd : Memory) → Crashed n D rd → Parts n D rd
crashed-parts n D rd c =
    record {
      section = λ d l. (sound-parts n rd d (c.sounds d l)).0;
      pc = λ d l. (sound-parts n rd d (c.sounds d l)).1;
      meant = λ d l. (sound-parts n rd d (c.sounds d l)).2;
      alone = λ b l. (lock-parts n rd D b (c.locks b l)).0;
      names = λ b l. (lock-parts n rd D b (c.locks b l)).1;
    }

pub parts-crashed : (n D : ℕ) (rd : Memory) → Parts n D rd → Crashed n D rd
parts-crashed n D rd p =
    record {
      sounds = λ d l. parts-sound n rd d (p.section d l) (p.pc d l) (p.meant d l);
      locks = λ b l. parts-lock n rd D b (p.alone b l) (p.names b l);
    }

-- ---- no refusal

module _ (n : ℕ) (rd : Memory) (D : ℕ) where
  pub all_sound : (d k : ℕ) → ((e : ℕ) → d ≤ e → e < d + k → sound n rd e ≡ true) → unsound n rd D d k ≡ []
  unfolding unsound
  all_sound d zero h = refl
  all_sound d (suc k) h = rw (h d (omega arith) (omega arith)) (all_sound (d + 1) k (λ e l m. h e (omega arith) (omega arith)))

  pub all_right : (b k : ℕ) → ((c : ℕ) → b ≤ c → c < b + k → lock_ok n rd D c ≡ true) → bad_lock n rd D b k ≡ []
  unfolding bad_lock
  all_right b zero h = refl
  all_right b (suc k) h = rw (h b (omega arith) (omega arith)) (all_right (b + 1) k (λ e l m. h e (omega arith) (omega arith)))

-- ---- acceptance

module _ (mark n : ℕ) (m : Image) where
  pub crashed-accepted : header_ok mark n m ≡ true → Crashed n (workers m) (at n m)
      → recovery mark n m ≡ accepted (plan n (at n m) (workers m)) (resumed_all n (at n m) (workers m))
  unfolding recovery
  crashed-accepted h c =
      rw (
        h,
        all_right n (at n m) (workers m) 0 64 (λ b l u. c.locks b (omega arith)),
        all_sound n (at n m) (workers m) 0 (workers m)
            (λ d l u. c.sounds d (omega arith)),
      )

-- ---- and no other

abbrev is_accepted : Recovered → Bool
is_accepted (accepted ss cs) = true
is_accepted (rejected r) = false

each_right : (n : ℕ) (rd : Memory) (D k b : ℕ) → bad_lock n rd D b k ≡ [] → (c : ℕ) → b ≤ c → c < b + k → lock_ok n rd D c ≡ true
unfolding bad_lock
each_right n rd D = each-passes (lock_ok n rd D) (bad_lock n rd D) (λ b k. refl)

none_found :
    (b : Bool) (us ls : List ℕ) (good : Recovered)
    → is_accepted (cond b (by_first Record (by_first Lock good ls) us) (rejected ImageRefused)) ≡ true → (b ≡ true) × (us ≡ []) × (ls ≡ [])
none_found true [] [] good e = (refl, refl, refl)
none_found true [] (x ∷ ls) good e = absurd (false≢true e)
none_found true (x ∷ us) ls good e = absurd (false≢true e)
none_found false us ls good e = absurd (false≢true e)

module _ (mark n : ℕ) (m : Image) where
  pub accepted-crashed :
      (ss : List Store) (cs : Cursors) → recovery mark n m ≡ accepted ss cs → (header_ok mark n m ≡ true) × Crashed n (workers m) (at n m)
  unfolding recovery
  accepted-crashed ss cs e =
      let rd = at n m in
      let D = workers m in
      let f = none_found (header_ok mark n m) (unsound n rd D 0 D) (bad_lock n rd D 0 64) _ (ap is_accepted e) in (
        f.0,
        record {
          sounds = λ d l. each-sound n rd D D 0 f.1 d (omega arith) (omega arith);
          locks = λ b l. each_right n rd D 64 0 f.2 b (omega arith) (omega arith);
        },
      )
