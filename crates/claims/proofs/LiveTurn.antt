-- A turn keeps the whole invariant: the worker itself stands as its own phase says, no other worker sees the store, and the
-- owner words name those who have the locks.
use Prim.Native.Nat.{ℕ, ◌+◌, ◌/◌, ◌<◌}
use mathlib.Core.Path.{◌≡◌, refl, ap, subst, ◌∙◌, sym, fun_ext}
use mathlib.Core.Logic.{◌≢◌}
use mathlib.Core.Bool.{true, cond, and-false, true≢false}
use lib.Dec.{eqb}
use borrow.Author.Tests.{eq-eqb, ne_eqb}
use native.Mathlib.Omega.{arith}
use native.Mathlib.Decide.{ℕ_discrete}
use native.Mathlib.Nat.{div-lt_iff_lt-mul}
use Rattle.mask.specs.Mask.{has, with, without}
use Rattle.mask.proofs.Laws.{has-with, has-with-other, has-without, has-without-other}
use Rattle.image.specs.Place.{Place, cell, lock, field, own, Memory}
use Rattle.image.specs.Inner.Same.{same_field, upd}
use Rattle.working.specs.Cursor.{Cursor}
use Rattle.plan.specs.Turn.{Outcome, stored, passed, waiting, resting, refused}
use Rattle.claims.specs.Reference.{Given}
use Rattle.claims.specs.Events.{but}
use Rattle.claims.specs.Calls.{is_pc, jumps_by}
use Rattle.claims.proofs.Invariant.{Phase, Live}
use Rattle.claims.proofs.Turns.{Touches, in_record, own_word, own_cell, takes, frees, Stepped, Went}
use Rattle.claims.proofs.Frame.{Agree, phase-same}

-- ---- a function changed at one number

pub but_same : {A : Type 0} (f : ℕ → A) (d : ℕ) (x : A) → but f d x d ≡ x
but_same f d x = rw (eq-eqb d d refl)

pub but-other : {A : Type 0} (f : ℕ → A) (d : ℕ) (x : A) (e : ℕ) → e ≢ d → but f d x e ≡ f e
but-other f d x e h = rw (ne_eqb e d h)

pub but-self : {A : Type 0} (f : ℕ → A) (d : ℕ) (e : ℕ) → but f d (f d) e ≡ f e
but-self f d e = by (ℕ_discrete e d)
  where
    by : Dec (e ≡ d) → but f d (f d) e ≡ f e
    by (yes p) = rw p (but_same f d (f d))
    by (no p) = but-other f d (f d) e p

-- a change that holds at d, and at every other number as it was
pub changed : {A : Type 0} (P : ℕ → A → Type 0) (f : ℕ → A) (d : ℕ) (x : A) → P d x → (e : ℕ) → (e ≢ d → P e (f e)) → P e (but f d x e)
changed P f d x h e more = by (ℕ_discrete e d)
  where
    by : Dec (e ≡ d) → P e (but f d x e)
    by (yes p) = subst (λ (y : ℕ). P y (but f d x y)) (sym p) (subst (P d) (sym (but_same f d x)) h)
    by (no p) = subst (P e) (sym (but-other f d x e p)) (more p)

-- ---- what a store leaves to another worker

-- one lock is not two workers'
pub one-owner : {n D : ℕ} {rd : Memory} {cursor : ℕ → Cursor} {locks jumps : ℕ → ℕ} {given : ℕ → Given}
    → Live n D rd cursor locks jumps given → (b d e : ℕ) → b < 64 → d < D → e < D → has (locks d) b ≡ true → has (locks e) b ≡ true → d ≡ e
one-owner L b d e l p q h k = let x = L.locked b d l p h in let y = L.locked b e l q k in omega arith

pub cell-lock : (x : ℕ) → x < 512 → x / 8 < 64
cell-lock x h = let p : 0 < 8 = omega arith in (div-lt_iff_lt-mul p).1 h

pub agrees :
    (n : ℕ) (rd : Memory) (d locks : ℕ) (p : Place) (v locks' : ℕ) → Touches n rd d locks p v locks' → (e own-locks : ℕ) → e ≢ d
    → ((b : ℕ) → b < 64 → has locks b ≡ true → has own-locks b ≡ true → ⊥) → Agree rd (upd rd p v) e own-locks
agrees n rd d locks p v locks' (in_record f w) e l ne apart =
    record { fields = λ g. rw (ne_eqb e d ne, and-false (same_field g f)); steps = λ i. refl; owns = λ i. refl; cells = λ x h k. refl }
agrees n rd d locks p v locks' (own_word i w b) e l ne apart =
    record { fields = λ g. refl; steps = λ j. refl; owns = λ j. rw (ne_eqb e d ne); cells = λ x h k. refl }
agrees n rd d locks p v locks' (own_cell x w b h) e l ne apart =
    record { fields = λ g. refl; steps = λ j. refl; owns = λ j. refl; cells = λ y g k. other y g k }
  where
    other : (y : ℕ) → y < 512 → has l (y / 8) ≡ true → cond (eqb y x) w (rd (cell y)) ≡ rd (cell y)
    other y g k = rw (ne_eqb y x (λ q. apart (x / 8) (cell-lock x b) h (subst (λ (z : ℕ). has l (z / 8) ≡ true) q k)))
agrees n rd d locks p v locks' (takes a b h) e l ne apart = record { fields = λ g. refl; steps = λ j. refl; owns = λ j. refl; cells = λ x h k. refl }
agrees n rd d locks p v locks' (frees a b h) e l ne apart = record { fields = λ g. refl; steps = λ j. refl; owns = λ j. refl; cells = λ x h k. refl }

-- ---- the owner words after a store

-- the owner word of lock b, and who has it, for worker d with its new locks and every other worker with its old ones
pub record Owning (D : ℕ) (rd : Memory) (locks : ℕ → ℕ) : Type 0 where
  pub locked : (b d : ℕ) → b < 64 → d < D → has (locks d) b ≡ true → rd (lock b) ≡ d + 1
  pub owner : (b d : ℕ) → b < 64 → rd (lock b) ≡ d + 1 → (d < D) × (has (locks d) b ≡ true)

-- nothing changes at the locks
same-owning : (D : ℕ) (rd rd' : Memory) (locks : ℕ → ℕ) (d : ℕ) → ((b : ℕ) → rd' (lock b) ≡ rd (lock b)) → Owning D rd locks
    → Owning D rd' (but locks d (locks d))
same-owning D rd rd' locks d same O =
    record {
      locked = λ b e l p h. same b ∙ O.locked b e l p (sym (ap (λ (m : ℕ). has m b) (but-self locks d e)) ∙ h);
      owner = λ b e l h. let r = O.owner b e l (sym (same b) ∙ h) in (r.0, ap (λ (m : ℕ). has m b) (but-self locks d e) ∙ r.1);
    }

-- the owner word of lock a, which no other worker has, changes together with worker d's locks there
relocked :
    (D : ℕ) (rd : Memory) (locks : ℕ → ℕ) (d a w m : ℕ) → d < D → Owning D rd locks → ((e : ℕ) → e < D → e ≢ d → has (locks e) a ≡ true → ⊥)
    → ((b : ℕ) → b ≢ a → has m b ≡ has (locks d) b) → (has m a ≡ true → w ≡ d + 1) → ((e : ℕ) → w ≡ e + 1 → (e ≡ d) × (has m a ≡ true))
    → Owning D (upd rd (lock a) w) (but locks d m)
relocked D rd locks d a w m dl O alone rest to from =
    record { locked = λ b e l p h. lk b e l p h (ℕ_discrete b a) (ℕ_discrete e d); owner = λ b e l h. ow b e l h (ℕ_discrete b a) (ℕ_discrete e d) }
  where
    mine : (b : ℕ) → has (but locks d m d) b ≡ has m b
    mine b = ap (λ (x : ℕ). has x b) (but_same locks d m)

    theirs : (b e : ℕ) → e ≢ d → has (but locks d m e) b ≡ has (locks e) b
    theirs b e r = ap (λ (x : ℕ). has x b) (but-other locks d m e r)

    lk : (b e : ℕ) → b < 64 → e < D → has (but locks d m e) b ≡ true → Dec (b ≡ a) → Dec (e ≡ d) → cond (eqb b a) w (rd (lock b)) ≡ e + 1
    lk b e l p h (yes q) (yes r) =
        rw (eq-eqb b a q, r) (to (sym (mine a) ∙ subst (λ (c : ℕ). has (but locks d m d) c ≡ true) q (subst (λ (f : ℕ). has (but locks d m f) b ≡ true) r h)))
    lk b e l p h (yes q) (no r) = absurd (alone e p r (subst (λ (c : ℕ). has (locks e) c ≡ true) q (sym (theirs b e r) ∙ h)))
    lk b e l p h (no q) (yes r) =
        rw (ne_eqb b a q, r) (O.locked b d l dl (sym (rest b q) ∙ (sym (mine b) ∙ subst (λ (f : ℕ). has (but locks d m f) b ≡ true) r h)))
    lk b e l p h (no q) (no r) = rw (ne_eqb b a q) (O.locked b e l p (sym (theirs b e r) ∙ h))

    ow : (b e : ℕ) → b < 64 → cond (eqb b a) w (rd (lock b)) ≡ e + 1 → Dec (b ≡ a) → Dec (e ≡ d) → (e < D) × (has (but locks d m e) b ≡ true)
    ow b e l h (yes q) (yes r) = let x = from e (rw (eq-eqb b a q) at h) in rw (q, r) (dl, mine a ∙ x.1)
    ow b e l h (yes q) (no r) = let x = from e (rw (eq-eqb b a q) at h) in absurd (r x.0)
    ow b e l h (no q) (yes r) = let x = O.owner b e l (rw (ne_eqb b a q) at h) in rw r
        (dl, mine b ∙ (rest b q ∙ subst (λ (f : ℕ). has (locks f) b ≡ true) r x.1))
    ow b e l h (no q) (no r) = let x = O.owner b e l (rw (ne_eqb b a q) at h) in (x.0, theirs b e r ∙ x.1)

-- after each store that a turn may make
pub touched-owning :
    (n D : ℕ) (rd : Memory) (locks : ℕ → ℕ) (d : ℕ) (p : Place) (v locks' : ℕ) → d < D → Owning D rd locks → Touches n rd d (locks d) p v locks' → Owning D
    (upd rd p v) (but locks d locks')
touched-owning n D rd locks d p v locks' dl O (in_record f w) = same-owning D rd (upd rd (field f d) w) locks d (λ b. refl) O
touched-owning n D rd locks d p v locks' dl O (own_word i w b) = same-owning D rd (upd rd (own d i) w) locks d (λ c. refl) O
touched-owning n D rd locks d p v locks' dl O (own_cell x w b h) = same-owning D rd (upd rd (cell x) w) locks d (λ c. refl) O
touched-owning n D rd locks d p v locks' dl O (takes a b free) =
    relocked D rd locks d a (d + 1) (with (locks d) a) dl O (λ e l r h. let x = O.locked a e b l h in omega arith)
    (λ c q. has-with-other (locks d) a c (λ s. q (sym s))) (λ h. refl)
    (λ e h. (omega arith, has-with (locks d) a))
touched-owning n D rd locks d p v locks' dl O (frees a b h) =
    relocked D rd locks d a 0 (without (locks d) a) dl O (λ e l r k. let x = O.locked a e b l k in let y = O.locked a d b dl h in r (omega arith))
    (λ c q. has-without-other (locks d) a c (λ s. q (sym s))) (λ k. absurd (true≢false (sym k ∙ has-without (locks d) a))) (λ e k. absurd (omega arith))

-- ---- all workers

owning : {n D : ℕ} {rd : Memory} {cursor : ℕ → Cursor} {locks jumps : ℕ → ℕ} {given : ℕ → Given} → Live n D rd cursor locks jumps given → Owning D rd locks
owning L = record { locked = L.locked; owner = L.owner }

-- the others stand as they did, worker d as it does now
pub live-but :
    (n D : ℕ) (rd rd' : Memory) (cursor : ℕ → Cursor) (locks jumps : ℕ → ℕ) (given : ℕ → Given) (d : ℕ) (c : Cursor) (locks' j : ℕ)
    → ((e : ℕ) → e < D → e ≢ d → Phase n rd' e (given e) (cursor e) (locks e) (jumps e)) → Phase n rd' d (given d) c locks' j → Owning D rd'
    (but locks d locks')
    → Live n D rd' (but cursor d c) (but locks d locks') (but jumps d j) given
live-but n D rd rd' cursor locks jumps given d c locks' j others mine O =
    record { phase = λ e l. ph e l (ℕ_discrete e d); locked = O.locked; owner = O.owner }
  where
    ph : (e : ℕ) → e < D → Dec (e ≡ d) → Phase n rd' e (given e) (but cursor d c e) (but locks d locks' e) (but jumps d j e)
    ph e l (yes r) =
        subst (λ (f : ℕ). Phase n rd' f (given f) (but cursor d c f) (but locks d locks' f) (but jumps d j f)) (sym r)
        (rw (but_same cursor d c, but_same locks d locks', but_same jumps d j) mine)
    ph e l (no r) = rw (but-other cursor d c e r, but-other locks d locks' e r, but-other jumps d j e r) (others e l r)

-- nothing is stored: only worker d's cursor and its jumps change
live_moved :
    (n D : ℕ) (rd : Memory) (cursor : ℕ → Cursor) (locks jumps : ℕ → ℕ) (given : ℕ → Given) (d : ℕ) (c : Cursor) (j : ℕ)
    → Live n D rd cursor locks jumps given → Phase n rd d (given d) c (locks d) j → Live n D rd (but cursor d c) locks (but jumps d j) given
live_moved n D rd cursor locks jumps given d c j L ph =
    let same = fun_ext (but-self locks d) in
    subst (λ (f : ℕ → ℕ). Live n D rd (but cursor d c) f (but jumps d j) given) same
    (live-but n D rd rd cursor locks jumps given d c (locks d) j (λ e l r. L.phase e l) ph (subst (Owning D rd) (sym same) (owning L)))

pub live-turn :
    (n D : ℕ) (rd : Memory) (cursor : ℕ → Cursor) (locks jumps : ℕ → ℕ) (given : ℕ → Given) (d : ℕ) (o : Outcome)
    → Live n D rd cursor locks jumps given → d < D → Stepped n rd d (given d) (locks d) (jumps d) o → Went n D rd cursor locks jumps given d o
live-turn n D rd cursor locks jumps given d (stored p v c) L dl (m, t, ph) = (
  m,
  t,
  live-but n D rd (upd rd p v) cursor locks jumps given d c m (cond (is_pc p) 0 (jumps d))
      (λ e l r. phase-same n rd (upd rd p v) e (given e) (cursor e) (locks e) (jumps e) (L.phase e l)
      (agrees n rd d (locks d) p v m t e (locks e) r (λ b k h g. r (sym (one-owner L b d e k dl l h g)))))
      ph
      (touched-owning n D rd locks d p v m dl (owning L) t),
)
live-turn n D rd cursor locks jumps given d (passed why c) L dl ph = live_moved n D rd cursor locks jumps given d c (jumps_by why (jumps d)) L ph
live-turn n D rd cursor locks jumps given d (waiting b) L dl h = h
live-turn n D rd cursor locks jumps given d resting L dl h = h
live-turn n D rd cursor locks jumps given d (refused r) L dl h = h

-- the phases look at the cursors of the workers alone
pub live-cursors : (n D : ℕ) (rd : Memory) (c c' : ℕ → Cursor) (locks jumps : ℕ → ℕ) (given : ℕ → Given) → ((e : ℕ) → e < D → c e ≡ c' e)
    → Live n D rd c locks jumps given → Live n D rd c' locks jumps given
live-cursors n D rd c c' locks jumps given same L =
    record {
      phase = λ d l. subst (λ (x : Cursor). Phase n rd d (given d) x (locks d) (jumps d)) (same d l) (L.phase d l);
      locked = L.locked;
      owner = L.owner;
    }
