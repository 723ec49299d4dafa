-- The cursors of all workers: both lists stay full as one cursor is set (`full-set`); which cursors there are once one is placed
-- (`cursors-placed`); all workers are idle to begin with (`idle-at`), and where nobody is open (`idle-all`, by induction on
-- their number).
use Prim.Native.Nat.{ℕ, suc, zero, ◌+◌, ◌<◌, ◌≤◌}
use mathlib.Core.Path.{◌≡◌, refl, ap, ◌∙◌, sym}
use mathlib.Core.Bool.{Bool, true, false, cond, true≢false}
use lib.ListN.{get_or, replicate, length-set}
use lib.Dec.{eqb}
use native.Mathlib.Omega.{arith}
use native.Mathlib.Decide.{ℕ_discrete}
use Rattle.working.specs.declared.Cursors.{Cursors}
use Rattle.working.specs.Cursor.{Cursor, idle, on, is_idle, cursor_at, set_at, holding, placed, all_idle}
use Rattle.run.specs.Run.{any_open}
use Rattle.working.proofs.Placed.{Full, sayable, placed_same, placed-other}
use Rattle.working.proofs.Placed.{idle-is}
use Rattle.claims.specs.Events.{but}
use Rattle.claims.proofs.LiveTurn.{but_same, but-other}

pub full-set : (c : Cursors) (d s t : ℕ) → Full c → Full (set_at c d s t)
unfolding set_at
full-set c d s t f = record { steps = length-set c.step d s ∙ f.steps; turns = length-set c.turn d t ∙ f.turns }

pub full-held : (h : ℕ) (c : Cursors) → Full c → Full (holding h c)
full-held h c f = record { steps = f.steps; turns = f.turns }

-- the cursors after one was placed
pub cursors-placed : (D : ℕ) (c : Cursors) (d : ℕ) (x : Cursor) → Full c → D ≤ 8 → d < D → sayable x → (e : ℕ) → e < D
    → but (cursor_at c) d x e ≡ cursor_at (placed c d x) e
cursors-placed D c d x f few dl s e el = by (ℕ_discrete e d)
  where
    by : Dec (e ≡ d) → but (cursor_at c) d x e ≡ cursor_at (placed c d x) e
    by (yes r) = rw r (but_same (cursor_at c) d x ∙ sym (placed_same c d x f (omega arith) s))
    by (no r) = but-other (cursor_at c) d x e r ∙ sym (placed-other c d e x r)

replicate-any : (k d a : ℕ) → get_or (replicate k a) d a ≡ a
replicate-any zero d a = refl
replicate-any (suc k) zero a = refl
replicate-any (suc k) (suc d) a = replicate-any k d a

pub idle-at : (d : ℕ) → cursor_at all_idle d ≡ idle
unfolding cursor_at all_idle
idle-at d = ap (λ (t : ℕ). cond (eqb t 255) idle (on (get_or (replicate 8 0) d 0) t)) (replicate-any 8 d 255)

pub full-idle : Full all_idle
unfolding all_idle
full-idle = record { steps = refl; turns = refl }

-- nobody open: all idle
pub idle-all : (k d : ℕ) (c : Cursors) → any_open k d c ≡ false → (e : ℕ) → d ≤ e → e < d + k → cursor_at c e ≡ idle
unfolding any_open
idle-all zero d c h e l g = absurd (omega arith)
idle-all (suc k) d c h e l g = by (λ x y. idle-all k (d + 1) c x e y (omega arith)) (is_idle (cursor_at c d)) refl (ℕ_discrete e d)
  where
    by : (any_open k (d + 1) c ≡ false → d + 1 ≤ e → cursor_at c e ≡ idle) → (b : Bool) → is_idle (cursor_at c d) ≡ b → Dec (e ≡ d) → cursor_at c e ≡ idle
    by more true q (yes i) = rw i (idle-is (cursor_at c d) q)
    by more true q (no i) = more (rw q at h) (omega arith)
    by more false q i = absurd (true≢false (rw q at h))
