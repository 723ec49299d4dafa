-- `turn::done` meets its contract: each plan by its arm, the store by its callee.
use Prim.Native.Nat.{ℕ}
use mathlib.Core.Path.{◌≡◌, refl}
use lib.Seq.{set-get_or}
use Rattle.working.specs.declared.Cursors.{Cursors}
use Rattle.working.specs.Inner.At.{At}
use Rattle.working.specs.Cursor.{set_at, holding}
use Rattle.turn.proofs.done.Goals as goal

-- a worker placed where it is
placed-self : (c : Cursors) (d s t : ℕ) → At c d s t → set_at c d s t ≡ c
unfolding set_at
placed-self c d s t h = rw (← h.step, ← h.turn, set-get_or c.step d 0, set-get_or c.turn d 0)

-- with the locks held that it holds
held-self : (c : Cursors) (d s t : ℕ) → holding c.held (set_at c d s t) ≡ set_at c d s t
unfolding set_at
held-self c d s t = refl

pub returns-in-Store-clause-after : goal.returns-in-Store-clause-after
returns-in-Store-clause-after c =
    let s = c.store.ensures in
    rw (c.in-Store.is, ← s.image, ← s.left) (λ n x d h. rw (held-self x d _ _))

pub returns-in-Pass-clause-after : goal.returns-in-Pass-clause-after
returns-in-Pass-clause-after c = rw c.in-Pass.is (λ n x d h. rw (held-self x d _ _))

pub returns-in-Wait-clause-after : goal.returns-in-Wait-clause-after
returns-in-Wait-clause-after c =
    let A = c.args in
    rw c.in-Wait.is (λ n x d h. rw (held-self x d A.s A.t, placed-self x d A.s A.t h))
