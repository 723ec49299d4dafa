-- A recovery of an image at rest (`rest-recovered`): every record is sound and every lock free, so that it is accepted; its only stores are of the
-- intents, which it sets to the 0 that stands there; and every pc is 0, so that all workers are idle.
use Prim.Native.Nat.{ℕ, suc, zero, ◌+◌, ◌-◌, ◌<◌, ◌≤◌}
use mathlib.Core.Path.{◌≡◌, refl, sym, ap, ◌∙◌}
use mathlib.Core.Bool.{Bool, true, false}
use mathlib.Core.List.{List, [], ◌∷◌, ◌++◌}
use lib.ListN.{get_or}
use lib.Seq.{set-get_or}
use native.Mathlib.Omega.{arith}
use Rattle.base.proofs.Bools.{and_left, and_right}
use Rattle.mask.specs.Mask.{has, union}
use Rattle.mask.proofs.Laws.{has-none}
use Rattle.mask.proofs.Sets.{no-members}
use Rattle.mask.proofs.Members.{union-lacks, union-small}
use Rattle.image.specs.Place.{Place, valid, Memory, Store}
use Rattle.image.specs.Image.{Image, index_of, at, workers, cells_of, put, put_all}
use Rattle.image.proofs.Header.{header-workers}
use Rattle.image.proofs.Lists.{all_valid}
use Rattle.working.specs.Cursor.{all_idle}
use Rattle.owed.specs.Owed.{owed}
use Rattle.repair.specs.Plan.{when, rows, unbegun, intended, unlock, intend, withdraw, relock, relocks, plan}
use Rattle.resuming.specs.Resumed.{resumed_all}
use Rattle.recovery.specs.Recovery.{recovery, accepted}
use Rattle.claims.specs.Calls.{recovers, call, lent, from}
use Rattle.claims.specs.Claims.{Rested}
use Rattle.claims.proofs.LiveCrashed.{owed_none}
use Rattle.claims.proofs.Recovered.{plan-valid}
use Rattle.claims.proofs.Accepted.{resumed-idle}
use Rattle.claims.proofs.RecoveryImage.{resumed-full, resumed-cursor}
use Rattle.claims.proofs.Called.{accepts}
use Rattle.claims.proofs.Played.{running-worth}
use Rattle.claims.proofs.Resting.{rested-running}
use Rattle.told.specs.Changing.{RestRecovered}
use Rattle.told.proofs.Neat.{resumed-neat, neat-idle}

-- ---- stores of what stands there

abbrev Stands : Memory → List Store → Type 0
Stands rd [] = Unit {0}
Stands rd (s ∷ ss) = (rd s.place ≡ s.value) × Stands rd ss

stands-append : (rd : Memory) (ss ts : List Store) → Stands rd ss → Stands rd ts → Stands rd (ss ++ ts)
stands-append rd [] ts a b = b
stands-append rd (s ∷ ss) ts a b = (a.0, stands-append rd ss ts a.1 b)

stands-rows : (rd : Memory) (f : ℕ → List Store) (i k : ℕ) → ((j : ℕ) → i ≤ j → j < i + k → Stands rd (f j)) → Stands rd (rows f i k)
unfolding rows
stands-rows rd f i zero h = tt
stands-rows rd f i (suc k) h =
    stands-append rd (f i) (rows f (i + 1) k) (h i (omega arith) (omega arith)) (stands-rows rd f (i + 1) k (λ j l u. h j (omega arith) (omega arith)))

stands-unmade : (rd : Memory) (t : Bool) (s : Store) → t ≡ false → Stands rd (when t s)
stands-unmade rd t s e = rw e tt

-- one of them changes no word
put_same : (n left : ℕ) (m : Image) (p : Place) (v : ℕ) → valid (workers m) n p ≡ true → at n m p ≡ v → put left m (index_of n p) v ≡ m
unfolding at put
put_same n zero m p v ok e = refl
put_same n (suc k) m p v ok e = let g : get_or m (index_of n p) 0 ≡ v = rw ok at e in rw (← g) (set-get_or m (index_of n p) 0)

-- nor do all, however many are made
stands_same : (n left : ℕ) (m : Image) (ss : List Store) → all_valid (workers m) n ss ≡ true → Stands (at n m) ss → put_all n left m ss ≡ m
unfolding put_all
stands_same n left m [] ok h = refl
stands_same n left m (s ∷ ss) ok h =
    rw (put_same n left m s.place s.value (and_left (valid (workers m) n s.place) (all_valid (workers m) n ss) ok) h.0)
    (stands_same n (left - 1) m ss (and_right (valid (workers m) n s.place) (all_valid (workers m) n ss) ok) h.1)

-- ---- an image at rest

module _ (mark n : ℕ) (m : Image) (r : Rested mark n m) where
  abbrev rd : Memory
  rd = at n m

  abbrev D : ℕ
  D = workers m

  not-owed : (d : ℕ) → d < D → owed n rd d ≡ 0
  not-owed d l = owed_none n rd d (r.empty d l).1

  none-intended : (k b : ℕ) → k ≤ D → intended n rd k b ≡ false
  unfolding intended
  none-intended zero b l = refl
  none-intended (suc k) b l = rw (none-intended k b (omega arith), (r.empty k (omega arith)).2) (has-none b)

  plan-stands : Stands rd (plan n rd D)
  unfolding plan
  plan-stands =
      stands-append rd (rows (unlock n rd D) 0 64) _
      (stands-rows rd (unlock n rd D) 0 64 (λ b l u. stands-unmade rd (intended n rd D b) _ (none-intended D b (omega arith))))
      (stands-append rd (rows (intend n rd) 0 D) _
      (stands-rows rd (intend n rd) 0 D (λ d l u. ((r.empty d (omega arith)).2 ∙ sym (not-owed d (omega arith)), tt)))
      (stands-append rd (rows (withdraw n rd) 0 D) _
      (stands-rows rd (withdraw n rd) 0 D
      (λ d l u. stands-unmade rd (unbegun rd d) _ (rw ((r.empty d (omega arith)).1, (r.empty d (omega arith)).0))))
      (stands-rows rd (relocks n rd) 0 D
      (λ d l u. stands-rows rd (relock n rd d) 0 64 (λ b i j. stands-unmade rd (has (owed n rd d) b) _ (rw (not-owed d (omega arith)) (has-none b)))))))

  none-held : (resumed_all n rd D).held ≡ 0
  unfolding resumed_all
  none-held =
      no-members (union (owed n rd) D) (union-small (owed n rd) D (λ d l. rw (not-owed d l) (omega arith)))
      (λ b l. union-lacks (owed n rd) D b (λ d u. rw (not-owed d u) (has-none b)))

  all-idle : resumed_all n rd D ≡ all_idle
  all-idle =
      let small = (header-workers mark n m r.header).1 in
      neat-idle D (resumed_all n rd D) (resumed-full n rd D) (resumed-neat n rd D small)
      (λ d l. resumed-cursor n rd D d l small ∙ resumed-idle n rd d (r.empty d l).1) none-held

  rest-accepted : recovery mark n m ≡ accepted (plan n rd D) all_idle
  rest-accepted =
      accepts mark n D (cells_of m) m [] [] (running-worth mark n D (cells_of m) (from m) (rested-running mark n m r)) ∙ ap (accepted (plan n rd D)) all-idle

  rest-same : (k : ℕ) → (call mark n recovers (lent mark n k (from m))).world.image ≡ m
  unfolding call
  rest-same k = rw rest-accepted (stands_same n k m (plan n rd D) (plan-valid n rd D) plan-stands)

pub rest-recovered : (mark n : ℕ) → RestRecovered mark n
unfolding RestRecovered
rest-recovered mark n m r = ((_, rest-accepted mark n m r), rest-same mark n m r)
