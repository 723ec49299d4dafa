-- Idle workers in a round: their turns change nothing, so that a round may pass them by; and the workers up to the last
-- open one, by which the code knows whether one is open, whether it is alone (`to-alone`), and where a round may end.
use Prim.Native.Nat.{ℕ, zero, suc, ◌+◌, ◌-◌, ◌<◌, ◌≤◌}
use mathlib.Core.Path.{◌≡◌, refl, sym, ap, ◌∙◌}
use mathlib.Core.Bool.{Bool, true, false, cond, true≢false}
use mathlib.Core.Logic.{◌≢◌}
use native.Mathlib.Omega.{arith}
use native.Mathlib.Decide.{ℕ_discrete}
use lib.ListN.{length, get_or}
use lib.Dec.{eqb, ltb}
use borrow.Author.Tests.{ltb-true, ltb-false}
use Rattle.base.proofs.Filling.{get_d-inside}
use Rattle.base.proofs.Counting.{left_step}
use Rattle.working.specs.declared.Cursors.{Cursors}
use Rattle.working.specs.Cursor.{is_idle, cursor_at}
use Rattle.turn.proofs.Turns.{rests}
use Rattle.run.specs.Run.{any_open, open_to, Counting, turned, through, sweep}
use Rattle.run.specs.Inner.Alone.{Alone}
use Rattle.working.proofs.Placed.{idle-by}

-- all of the workers from d to e are idle
abbrev pub Idle : Cursors → ℕ → ℕ → Type 0
Idle c d e = (i : ℕ) → d ≤ i → i < e → is_idle (cursor_at c i) ≡ true

-- ---- a round past idle workers

module _ (n : ℕ) where
  rested : (s : Counting) (d : ℕ) → is_idle (cursor_at s.world.cursors d) ≡ true → turned n s d ≡ s
  unfolding turned
  rested s d e = rw (rests n s.world d e)

  -- past one
  pub sweep-idle : (k d : ℕ) (s : Counting) → d < k → is_idle (cursor_at s.world.cursors d) ≡ true → sweep n (k - d) d s ≡ sweep n (k - (d + 1)) (d + 1) s
  unfolding sweep
  sweep-idle k d s h e = rw (left_step k d h, rests n s.world d e, rested s d e)

  sweep-past : (k d : ℕ) (s : Counting) → Idle s.world.cursors d (d + k) → sweep n k d s ≡ through s
  unfolding sweep
  sweep-past zero d s h = refl
  sweep-past (suc k) d s h =
      let e = h d (omega arith) (omega arith) in
      rw (rests n s.world d e, rested s d e) (sweep-past k (d + 1) s (λ i a b. h i (omega arith) (omega arith)))

  -- past all that are left
  pub sweep-rest : (k d : ℕ) (s : Counting) → d ≤ k → Idle s.world.cursors d k → sweep n (k - d) d s ≡ through s
  sweep-rest k d s l h = sweep-past (k - d) d s (λ i a b. h i a (omega arith))

-- ---- the workers up to the last open one

module _ (c : Cursors) where
  pub to-zero : open_to 0 c ≡ 0
  unfolding open_to
  to-zero = refl

  to-by : (k : ℕ) (b : Bool) → is_idle (cursor_at c k) ≡ b → open_to (suc k) c ≡ cond b (open_to k c) (suc k)
  unfolding open_to
  to-by k b e = rw e

  pub to-here : (k : ℕ) → is_idle (cursor_at c k) ≡ false → open_to (k + 1) c ≡ k + 1
  to-here k e = let q : k + 1 ≡ suc k = omega arith in rw q (to-by k false e)

  pub to_below : (k : ℕ) → is_idle (cursor_at c k) ≡ true → open_to (k + 1) c ≡ open_to k c
  to_below k e = let q : k + 1 ≡ suc k = omega arith in rw q (to-by k true e)

  pub to-most : (k : ℕ) → open_to k c ≤ k
  to-most zero = rw to-zero (omega arith)
  to-most (suc k) = by (to-most k) (is_idle (cursor_at c k)) refl
    where
      by : open_to k c ≤ k → (b : Bool) → is_idle (cursor_at c k) ≡ b → open_to (suc k) c ≤ suc k
      by m true e = rw (to-by k true e) (omega arith)
      by m false e = rw (to-by k false e) (omega arith)

  -- those above it are idle
  pub to-idle : (k : ℕ) → Idle c (open_to k c) k
  to-idle zero i a b = absurd (omega arith)
  to-idle (suc k) i l h = by (to-idle k) (is_idle (cursor_at c k)) refl (ℕ_discrete i k)
    where
      by : Idle c (open_to k c) k → (b : Bool) → is_idle (cursor_at c k) ≡ b → Dec (i ≡ k) → is_idle (cursor_at c i) ≡ true
      by m true e (yes q) = rw q e
      by m true e (no q) = m i (rw (to-by k true e) at l) (omega arith)
      by m false e q = let z : suc k ≤ i = rw (to-by k false e) at l in absurd (omega arith)

  -- so the last open one of n is alone, where none below it is open
  pub to-alone : (n : ℕ) {to : ℕ} → to ≡ open_to n c → 0 < to → open_to (to - 1) c ≡ 0 → Alone n (to - 1) c
  to-alone n {to} e some first i l o = by (ltb i (to - 1)) refl
    where
      by : (b : Bool) → ltb i (to - 1) ≡ b → is_idle (cursor_at c i) ≡ true
      by true q = to-idle (to - 1) i (omega (arith, first)) (ltb-true i (to - 1) q)
      by false q = to-idle n i (omega (arith, e, some, o, ltb-false i (to - 1) q)) l

  to_last : (k : ℕ) → open_to k c ≢ 0 → is_idle (cursor_at c (open_to k c - 1)) ≡ false
  to_last zero h = absurd (h to-zero)
  to_last (suc k) h = by (to_last k) (is_idle (cursor_at c k)) refl
    where
      by : (open_to k c ≢ 0 → is_idle (cursor_at c (open_to k c - 1)) ≡ false) → (b : Bool) → is_idle (cursor_at c k) ≡ b
          → is_idle (cursor_at c (open_to (suc k) c - 1)) ≡ false
      by m true e = rw (to-by k true e) (m (λ z. h (to-by k true e ∙ z)))
      by m false e = let q : suc k - 1 ≡ k = omega arith in rw (to-by k false e, q) e

  pub any_none : (k d : ℕ) → Idle c d (d + k) → any_open k d c ≡ false
  unfolding any_open
  any_none zero d h = refl
  any_none (suc k) d h = rw (h d (omega arith) (omega arith)) (any_none k (d + 1) (λ i a b. h i (omega arith) (omega arith)))

  pub any_some : (k d i : ℕ) → d ≤ i → i < d + k → is_idle (cursor_at c i) ≡ false → any_open k d c ≡ true
  unfolding any_open
  any_some zero d i a b e = absurd (omega arith)
  any_some (suc k) d i a b e = by (λ l. any_some k (d + 1) i l (omega arith) e) (ℕ_discrete d i) (is_idle (cursor_at c d)) refl
    where
      by : (d + 1 ≤ i → any_open k (d + 1) c ≡ true) → Dec (d ≡ i) → (x : Bool) → is_idle (cursor_at c d) ≡ x
          → cond (is_idle (cursor_at c d)) (any_open k (d + 1) c) true ≡ true
      by m q false z = rw z
      by m (yes q) true z = absurd (true≢false (sym z ∙ ap (λ (j : ℕ). is_idle (cursor_at c j)) q ∙ e))
      by m (no q) true z = rw z (m (omega arith))

  -- none is open where it is 0, and one is where it is not
  pub to_none : (k : ℕ) → open_to k c ≡ 0 → any_open k 0 c ≡ false
  to_none k e = any_none k 0 (λ i a b. to-idle k i (rw e (omega arith)) (omega arith))

  pub to_some : (k : ℕ) → open_to k c ≢ 0 → any_open k 0 c ≡ true
  to_some k h = let m = to-most k in any_some k 0 (open_to k c - 1) (omega arith) (omega arith) (to_last k h)

  -- idle workers above change nothing
  pub to-cut : (k m : ℕ) → m ≤ k → Idle c m k → open_to k c ≡ open_to m c
  to-cut zero m l h = let q : m ≡ 0 = omega arith in rw q
  to-cut (suc k) m l h = by (λ (z : m ≤ k). to-cut k m z (λ i a b. h i a (omega arith))) (ℕ_discrete m (suc k))
    where
      by : (m ≤ k → open_to k c ≡ open_to m c) → Dec (m ≡ suc k) → open_to (suc k) c ≡ open_to m c
      by r (yes q) = rw q
      by r (no q) = to-by k true (h k (omega arith) (omega arith)) ∙ r (omega arith)

-- another record in which the workers below k stand as here
pub to_same : (c e : Cursors) (k : ℕ) → ((i : ℕ) → i < k → cursor_at e i ≡ cursor_at c i) → open_to k e ≡ open_to k c
unfolding open_to
to_same c e zero h = refl
to_same c e (suc k) h = rw (h k (omega arith), to_same c e k (λ i l. h i (omega arith)))

-- what the code keeps of it, from the workers below d to those up to d
pub to-with : (c : Cursors) (d next : ℕ) → d < length c.turn → next ≡ open_to d c → cond (eqb (get_or c.turn d 0) 255) next (d + 1) ≡ open_to (d + 1) c
to-with c d next h e = by (eqb (get_or c.turn d 0) 255) (idle-by c d ∙ ap (λ (x : ℕ). eqb x 255) (get_d-inside c.turn d 255 0 h))
  where
    by : (b : Bool) → is_idle (cursor_at c d) ≡ b → cond b next (d + 1) ≡ open_to (d + 1) c
    by true z = e ∙ sym (to_below c d z)
    by false z = sym (to-here c d z)
