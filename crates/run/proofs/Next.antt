-- The next turn of a round: where the search for an open worker goes on and ends, that what it finds below the end is open (`next-open`); and the three cases
-- of the next turn, by the header and by what was found.
use Prim.Native.Nat.{ℕ, zero, suc, ◌+◌, ◌-◌, ◌<◌, ◌≤◌}
use mathlib.Core.Path.{◌≡◌, refl}
use mathlib.Core.Bool.{Bool, true, false, cond}
use native.Mathlib.Omega.{arith}
use borrow.Author.Tests.{lt-ltb, le-ltb}
use Rattle.base.proofs.Counting.{left_step, left-none}
use Rattle.image.specs.Image.{workers, header_ok}
use Rattle.working.specs.declared.Cursors.{Cursors}
use Rattle.working.specs.declared.Refusal.TheVariants.{Image as ImageRefused}
use Rattle.working.specs.Cursor.{is_idle, cursor_at}
use Rattle.working.specs.World.{World}
use Rattle.plan.specs.Turn.{Outcome, resting, refused}
use Rattle.turn.specs.Call.{outcome_at}
use Rattle.run.specs.Round.{next_open, next_in, next_worker, next_outcome}

module _ (c : Cursors) where
  pub next_here : (n d : ℕ) → d < n → is_idle (cursor_at c d) ≡ false → next_open (n - d) d c ≡ d
  unfolding next_open
  next_here n d h e = rw (left_step n d h, e)

  pub next_past : (n d : ℕ) → d < n → is_idle (cursor_at c d) ≡ true → next_open (n - d) d c ≡ next_open (n - (d + 1)) (d + 1) c
  unfolding next_open
  next_past n d h e = rw (left_step n d h, e)

  pub next-end : (n d : ℕ) → n ≤ d → next_open (n - d) d c ≡ d
  unfolding next_open
  next-end n d h = rw (left-none n d h)

  pub next-from : (k d : ℕ) → d ≤ next_open k d c
  unfolding next_open
  next-from zero d = omega arith
  next-from (suc k) d = by (is_idle (cursor_at c d)) (next-from k (d + 1))
    where
      by : (b : Bool) → d + 1 ≤ next_open k (d + 1) c → d ≤ cond b (next_open k (d + 1) c) d
      by true h = omega arith
      by false h = omega arith

  -- below the end it is open
  pub next-open : (k d : ℕ) → next_open k d c < d + k → is_idle (cursor_at c (next_open k d c)) ≡ false
  unfolding next_open
  next-open zero d h = absurd (omega arith)
  next-open (suc k) d h = by (is_idle (cursor_at c d)) refl (λ g. next-open k (d + 1) g)
    where
      by :
          (b : Bool) → is_idle (cursor_at c d) ≡ b → (next_open k (d + 1) c < d + 1 + k → is_idle (cursor_at c (next_open k (d + 1) c)) ≡ false)
          → is_idle (cursor_at c (next_open (suc k) d c)) ≡ false
      by false e g = rw (e, e)
      by true e g = rw e (g (omega (arith, rw e at h)))

-- whose turn is next, and its outcome
pub record Comes (mark n : ℕ) (w : World) (d k : ℕ) (o : Outcome) : Type 0 where
  pub worker : next_worker mark n w d ≡ k
  pub outcome : next_outcome mark n w d ≡ o

module _ (mark n : ℕ) (w : World) (d : ℕ) where
  pub next-refused : header_ok mark n w.image ≡ false → Comes mark n w d d (refused ImageRefused)
  unfolding next_worker next_outcome
  next-refused e = record { worker = rw e; outcome = rw e }

  pub next-over : header_ok mark n w.image ≡ true → workers w.image ≤ next_in w d → Comes mark n w d (next_in w d) resting
  unfolding next_worker next_outcome
  next-over e h = record { worker = rw e; outcome = rw (e, le-ltb _ _ h) }

  pub next-turn : header_ok mark n w.image ≡ true → next_in w d < workers w.image → Comes mark n w d (next_in w d) (outcome_at n w (next_in w d))
  unfolding next_worker next_outcome
  next-turn e h = record { worker = rw e; outcome = rw (e, lt-ltb _ _ h) }

  -- it is not below the worker asked from
  pub next-above : d ≤ next_worker mark n w d
  unfolding next_worker
  next-above = by (header_ok mark n w.image) (next-from w.cursors (workers w.image - d) d)
    where
      by : (b : Bool) → d ≤ next_in w d → d ≤ cond b (next_in w d) d
      by true h = h
      by false h = omega arith
