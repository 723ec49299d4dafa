-- Runs end. The ranks of all workers together: a turn that stores or moves makes their sum smaller, since no other worker's rank
-- sees it, and the sum is at most 384 for each worker. And while a worker is open, some open worker's turn does not wait: a
-- lock that is waited for has an owner, which is open, and which waits, if it does, at a lock above all that it has; there are
-- 64 locks.
use Prim.Native.Nat.{ℕ, suc, zero, ◌+◌, ◌*◌, ◌-◌, ◌<◌, ◌≤◌}
use mathlib.Core.Path.{◌≡◌, refl, ap, subst, ◌∙◌, sym}
use mathlib.Core.Logic.{◌≢◌}
use mathlib.Core.Bool.{Bool, true, false, and-false, true≢false}
use lib.Dec.{ltb, eqb}
use borrow.Author.Tests.{ne_eqb}
use native.Mathlib.Omega.{arith}
use native.Mathlib.Decide.{ℕ_discrete}
use Rattle.mask.specs.Mask.{has}
use Rattle.mask.proofs.Laws.{has-none}
use Rattle.image.specs.declared.Field.TheVariants.{Count}
use Rattle.image.specs.Place.{Place, lock, Memory}
use Rattle.image.specs.Inner.Same.{same_field, upd}
use Rattle.code.specs.declared.Op.{Op}
use Rattle.code.specs.declared.Op.TheVariants.{Acquire, Release, Assign, Jump, Finish, Unknown}
use Rattle.code.specs.Op.{op_of}
use Rattle.working.specs.Cursor.{Cursor, idle, on, is_idle}
use Rattle.worklog.specs.Log.{code_in}
use Rattle.plan.specs.Turn.{Outcome, stored, passed, waiting, resting, refused, logged, acquire_turn, finish_turn, op_turn, ready, turn_at}
use Rattle.plan.proofs.Outcomes.{either, unlock-either}
use Rattle.claims.specs.Reference.{Given}
use Rattle.claims.specs.Events.{but}
use Rattle.claims.proofs.Invariant.{Phase, resting as at_rest, fresh, due, unlocking, unlocked, between, ended, Live}
use Rattle.claims.proofs.Turns.{Touches, in_record, own_word, own_cell, takes, frees, Stepped, Went}
use Rattle.claims.proofs.LiveTurn.{but_same, but-other}
use Rattle.claims.proofs.Rank.{rank, rank-idle, rank_most, Unranked, rank-unranked, Falls, rank_falls}

-- ---- sums

-- f at all numbers below k, added up
unfoldable pub total : (ℕ → ℕ) → ℕ → ℕ
total f zero = 0
total f (suc k) = f k + total f k

pub total-most : (f : ℕ → ℕ) (m k : ℕ) → ((e : ℕ) → e < k → f e ≤ m) → total f k ≤ m * k
unfolding total
total-most f m zero h = omega arith
total-most f m (suc k) h = omega (arith, h k (omega arith), total-most f m k (λ e l. h e (omega arith)))

pub total-same : (f g : ℕ → ℕ) (k : ℕ) → ((e : ℕ) → e < k → f e ≡ g e) → total f k ≡ total g k
unfolding total
total-same f g zero h = refl
total-same f g (suc k) h = rw (h k (omega arith), total-same f g k (λ e l. h e (omega arith)))

-- smaller at one number, the same at all others
pub total-less : (f g : ℕ → ℕ) (d k : ℕ) → d < k → f d < g d → ((e : ℕ) → e ≢ d → f e ≡ g e) → total f k < total g k
unfolding total
total-less f g d zero l h s = absurd (omega arith)
total-less f g d (suc k) l h s = by (total-less f g d k) (ℕ_discrete k d)
  where
    by : (d < k → f d < g d → ((e : ℕ) → e ≢ d → f e ≡ g e) → total f k < total g k) → Dec (k ≡ d) → f k + total f k < g k + total g k
    by more (yes p) = let x : f k < g k = subst (λ (y : ℕ). f y < g y) (sym p) h in omega (arith, total-same f g k (λ e m. s e (omega arith)))
    by more (no p) = omega (arith, s k p, more (omega arith) h s)

-- ---- the ranks of all workers

unfoldable pub rank_sum : ℕ → Memory → (ℕ → Cursor) → ℕ → ℕ
rank_sum n rd cursor k = total (λ d. rank n rd d (cursor d)) k

-- no other worker's rank sees a store of worker d
pub touches-unseen : (n : ℕ) (rd : Memory) (d locks : ℕ) (p : Place) (v locks' : ℕ) → Touches n rd d locks p v locks' → (e : ℕ) → e ≢ d → Unranked e p
touches-unseen n rd d locks p v locks' (in_record f w) e ne = record { count = rw (ne_eqb e d ne, and-false (same_field Count f)); steps = λ i. refl }
touches-unseen n rd d locks p v locks' (own_word i w l) e ne = record { count = refl; steps = λ i. refl }
touches-unseen n rd d locks p v locks' (own_cell x w l h) e ne = record { count = refl; steps = λ i. refl }
touches-unseen n rd d locks p v locks' (takes a l h) e ne = record { count = refl; steps = λ i. refl }
touches-unseen n rd d locks p v locks' (frees a l h) e ne = record { count = refl; steps = λ i. refl }

pub rank-other :
    (n : ℕ) (rd : Memory) (d locks : ℕ) (p : Place) (v locks' : ℕ) → Touches n rd d locks p v locks' → (e : ℕ) → e ≢ d → (c : Cursor)
    → rank n (upd rd p v) e c ≡ rank n rd e c
rank-other n rd d locks p v locks' t e ne c = rank-unranked n rd e p v c (touches-unseen n rd d locks p v locks' t e ne)

-- worker d's rank gets smaller, and no other changes
pub sum_less :
    (n D : ℕ) (rd rd' : Memory) (cursor : ℕ → Cursor) (d : ℕ) (c : Cursor) → d < D → rank n rd' d c < rank n rd d (cursor d)
    → ((e : ℕ) → e ≢ d → rank n rd' e (cursor e) ≡ rank n rd e (cursor e)) → rank_sum n rd' (but cursor d c) D < rank_sum n rd cursor D
unfolding rank_sum
sum_less n D rd rd' cursor d c l h s =
    total-less (λ e. rank n rd' e (but cursor d c e)) (λ e. rank n rd e (cursor e)) d D l (rw (but_same cursor d c) h)
    (λ e ne. rw (but-other cursor d c e ne) (s e ne))

-- the sum after a turn of worker d with this outcome is smaller; nothing is said of a turn that does not move
abbrev pub SumFalls : ℕ → ℕ → Memory → (ℕ → Cursor) → ℕ → Outcome → Type 0
SumFalls n D rd cursor d (stored p v c) = rank_sum n (upd rd p v) (but cursor d c) D < rank_sum n rd cursor D
SumFalls n D rd cursor d (passed why c) = rank_sum n rd (but cursor d c) D < rank_sum n rd cursor D
SumFalls n D rd cursor d (waiting b) = Unit {0}
SumFalls n D rd cursor d resting = Unit {0}
SumFalls n D rd cursor d (refused r) = Unit {0}

private-falls :
    (n D : ℕ) (rd : Memory) (cursor : ℕ → Cursor) (locks jumps : ℕ → ℕ) (given : ℕ → Given) (d : ℕ) (o : Outcome) → d < D → Falls n rd d
    (rank n rd d (cursor d)) o
    → Went n D rd cursor locks jumps given d o → SumFalls n D rd cursor d o
private-falls n D rd cursor locks jumps given d (stored p v c) l f (m, t, L) =
    sum_less n D rd (upd rd p v) cursor d c l f (λ e ne. rank-other n rd d (locks d) p v m t e ne (cursor e))
private-falls n D rd cursor locks jumps given d (passed why c) l f w = sum_less n D rd rd cursor d c l f (λ e ne. refl)
private-falls n D rd cursor locks jumps given d (waiting b) l f w = tt
private-falls n D rd cursor locks jumps given d resting l f w = tt
private-falls n D rd cursor locks jumps given d (refused r) l f w = tt

-- a turn that stores or moves makes the sum smaller
pub sum-falls :
    (n D : ℕ) (rd : Memory) (cursor : ℕ → Cursor) (locks jumps : ℕ → ℕ) (given : ℕ → Given) (d : ℕ) (o : Outcome) → d < D → turn_at n rd d (cursor d) ≡ o
    → Went n D rd cursor locks jumps given d o → SumFalls n D rd cursor d o
sum-falls n D rd cursor locks jumps given d o l e w = private-falls n D rd cursor locks jumps given d o l (rank_falls n rd d (cursor d) o e) w

pub phase-most : (n : ℕ) (rd : Memory) (d : ℕ) (g : Given) (c : Cursor) (locks j : ℕ) → Phase n rd d g c locks j → rank n rd d c ≤ 384
phase-most n rd d g c locks j (at_rest k p i o) = rw (rank-idle n rd d) (omega arith)
phase-most n rd d g c locks j (fresh t l s h p o m) = rank_most n rd d _ s.valid.most
phase-most n rd d g c locks j (due s l k m q) = rank_most n rd d _ k.valid.most
phase-most n rd d g c locks j (unlocking s a l k m o w i q) = rank_most n rd d _ k.valid.most
phase-most n rd d g c locks j (unlocked s a l k m o w i q) = rank_most n rd d _ k.valid.most
phase-most n rd d g c locks j (between s k t l jj q m f u z o h y) = rank_most n rd d _ q.valid.most
phase-most n rd d g c locks j (ended s k p o i b q) = rank_most n rd d _ k.valid.most

pub rank_sum-most : (n D : ℕ) (rd : Memory) (cursor : ℕ → Cursor) (locks jumps : ℕ → ℕ) (given : ℕ → Given) → Live n D rd cursor locks jumps given
    → rank_sum n rd cursor D ≤ 384 * D
unfolding rank_sum
rank_sum-most n D rd cursor locks jumps given L =
    total-most (λ d. rank n rd d (cursor d)) 384 D (λ e l. phase-most n rd e (given e) (cursor e) (locks e) (jumps e) (L.phase e l))

-- ---- some worker does not wait

abbrev pub is_waiting : Outcome → Bool
is_waiting (stored p v c) = false
is_waiting (passed why c) = false
is_waiting (waiting b) = true
is_waiting resting = false
is_waiting (refused r) = false

abbrev pub is_resting : Outcome → Bool
is_resting (stored p v c) = false
is_resting (passed why c) = false
is_resting (waiting b) = false
is_resting resting = true
is_resting (refused r) = false

-- a worker that has a lock is open
pub phase-open : (n : ℕ) (rd : Memory) (d : ℕ) (g : Given) (c : Cursor) (locks j b : ℕ) → Phase n rd d g c locks j → has locks b ≡ true → is_idle c ≡ false
phase-open n rd d g c locks j b (at_rest k p i o) h = absurd (true≢false (sym h ∙ has-none b))
phase-open n rd d g c locks j b (fresh t l s q p o m) h = refl
phase-open n rd d g c locks j b (due s l k m q) h = refl
phase-open n rd d g c locks j b (unlocking s a l k m o w i q) h = refl
phase-open n rd d g c locks j b (unlocked s a l k m o w i q) h = refl
phase-open n rd d g c locks j b (between s k t l jj q m f u z o y x) h = refl
phase-open n rd d g c locks j b (ended s k p o i z q) h = refl

module _ (n D : ℕ) (rd : Memory) (cursor : ℕ → Cursor) (locks jumps : ℕ → ℕ) (given : ℕ → Given) (L : Live n D rd cursor locks jumps given) where
  -- a lock that is not free is an open worker's
  pub owned_by : (b : ℕ) → b < 64 → rd (lock b) ≢ 0 → (e : ℕ) × (e < D) × (is_idle (cursor e) ≡ false) × (has (locks e) b ≡ true)
  owned_by b l ne =
      let e : ℕ = rd (lock b) - 1 in
      let o = L.owner b e l (omega arith) in
      (e, o.0, phase-open n rd e (given e) (cursor e) (locks e) (jumps e) b (L.phase e o.0) o.1, o.1)

  -- an open worker whose turn does not wait
  abbrev Moving : Type 0
  Moving = (e : ℕ) × (e < D) × (is_idle (cursor e) ≡ false) × (is_waiting (turn_at n rd e (cursor e)) ≡ false)

  module _ (stepped : (e : ℕ) → e < D → Stepped n rd e (given e) (locks e) (jumps e) (turn_at n rd e (cursor e))) where
    -- from a worker that has lock a, upwards
    climb : (k e a : ℕ) → e < D → is_idle (cursor e) ≡ false → has (locks e) a ≡ true → a < 64 → 64 ≤ a + k → Moving
    climb zero e a l q h m f = absurd (omega arith)
    climb (suc k) e a l q h m f = by (climb k) (turn_at n rd e (cursor e)) refl (stepped e l)
      where
        by : ((e' a' : ℕ) → e' < D → is_idle (cursor e') ≡ false → has (locks e') a' ≡ true → a' < 64 → 64 ≤ a' + k → Moving)
            → (o : Outcome) → turn_at n rd e (cursor e) ≡ o → Stepped n rd e (given e) (locks e) (jumps e) o → Moving
        by more (stored p v c) x s = (e, l, q, ap is_waiting x)
        by more (passed why c) x s = (e, l, q, ap is_waiting x)
        by more (waiting b) x (bl, ne, above) = let y = owned_by b bl ne in let z = above a h in more y.0 b y.1 y.2 y.3 bl (omega arith)
        by more resting x s = (e, l, q, ap is_waiting x)
        by more (refused r) x s = absurd s

    pub progress : (d : ℕ) → d < D → is_idle (cursor d) ≡ false
        → (e : ℕ) × (e < D) × (is_idle (cursor e) ≡ false) × (is_waiting (turn_at n rd e (cursor e)) ≡ false)
    progress d l q = by (turn_at n rd d (cursor d)) refl (stepped d l)
      where
        by : (o : Outcome) → turn_at n rd d (cursor d) ≡ o → Stepped n rd d (given d) (locks d) (jumps d) o → Moving
        by (stored p v c) x s = (d, l, q, ap is_waiting x)
        by (passed why c) x s = (d, l, q, ap is_waiting x)
        by (waiting b) x (bl, ne, above) = let y = owned_by b bl ne in climb 64 y.0 b y.1 y.2 y.3 bl (omega arith)
        by resting x s = (d, l, q, ap is_waiting x)
        by (refused r) x s = absurd s

-- ---- an open worker whose turn does not wait moves

abbrev pub is_moving : Outcome → Bool
is_moving (stored p v c) = true
is_moving (passed why c) = true
is_moving (waiting b) = false
is_moving resting = false
is_moving (refused r) = false

private-logged : (n : ℕ) (rd : Memory) (d s t : ℕ) (p : Place) (v : ℕ) (c : Cursor) (j : ℕ) → is_resting (logged n rd d s t p v c j) ≡ false
private-logged n rd d s t p v c zero = refl
private-logged n rd d s t p v c (suc zero) = refl
private-logged n rd d s t p v c (suc (suc zero)) = refl
private-logged n rd d s t p v c (suc (suc (suc j))) = refl

abbrev Active : Outcome → Type 0
Active o = is_resting o ≡ false

private-acquire : (n : ℕ) (rd : Memory) (d a s t : ℕ) → is_resting (acquire_turn n rd d a s t) ≡ false
private-acquire n rd d a s zero = refl
private-acquire n rd d a s (suc zero) = either Active (eqb (rd (lock a)) 0) _ _ (λ e. refl) (λ e. refl)
private-acquire n rd d a s (suc (suc j)) = private-logged n rd d s _ _ _ _ j

private-finish : (n : ℕ) (rd : Memory) (d s t : ℕ) → is_resting (finish_turn n rd d s t) ≡ false
private-finish n rd d s zero = refl
private-finish n rd d s (suc zero) = refl
private-finish n rd d s (suc (suc t)) = refl

private-op : (n : ℕ) (rd : Memory) (d s t : ℕ) (x : Op) → is_resting (op_turn n rd d s t x) ≡ false
private-op n rd d s t (Acquire a) = private-acquire n rd d a s t
private-op n rd d s t (Release a) =
    either Active (ltb t 4) _ _ (λ e. private-logged n rd d s t _ _ _ t)
    (λ e. either Active (eqb t 4) _ _ (λ f. unlock-either n rd d a s Active refl (λ why. refl)) (λ f. refl))
private-op n rd d s t (Assign a e) = private-logged n rd d s t _ _ _ t
private-op n rd d s t (Jump a b) = refl
private-op n rd d s t Finish = private-finish n rd d s t
private-op n rd d s t Unknown = refl

-- a turn rests only at an idle cursor
pub open-acts : (n : ℕ) (rd : Memory) (d : ℕ) (c : Cursor) → is_resting (turn_at n rd d c) ≡ is_idle c
unfolding turn_at
open-acts n rd d idle = refl
open-acts n rd d (on s t) = either Active (ready n rd d s t) _ _ (λ e. private-op n rd d s t (op_of (code_in n rd d s))) (λ e. refl)

private-moves : (n : ℕ) (rd : Memory) (d : ℕ) (g : Given) (locks j : ℕ) (o : Outcome) → is_resting o ≡ false → is_waiting o ≡ false → Stepped n rd d g locks j o
    → is_moving o ≡ true
private-moves n rd d g locks j (stored p v c) r w s = refl
private-moves n rd d g locks j (passed why c) r w s = refl
private-moves n rd d g locks j (waiting b) r w s = sym w
private-moves n rd d g locks j resting r w s = sym r
private-moves n rd d g locks j (refused e) r w s = absurd s

pub open-moves :
    (n : ℕ) (rd : Memory) (d : ℕ) (g : Given) (c : Cursor) (locks j : ℕ) → is_idle c ≡ false → is_waiting (turn_at n rd d c) ≡ false
    → Stepped n rd d g locks j (turn_at n rd d c) → is_moving (turn_at n rd d c) ≡ true
open-moves n rd d g c locks j i w s = private-moves n rd d g locks j (turn_at n rd d c) (open-acts n rd d c ∙ i) w s
