-- One turn of a worker keeps its own part of the invariant: by the phase in which it stands. A section that is not begun and
-- one between two steps are on the way to a step's pc alike.
use Prim.Native.Nat.{ℕ, ◌+◌, ◌<◌}
use mathlib.Core.Path.{◌≡◌, sym, subst, ◌∙◌}
use mathlib.Core.Bool.{true}
use native.Mathlib.Omega.{arith}
use Rattle.mask.specs.Mask.{has}
use Rattle.image.specs.Place.{lock, Memory}
use Rattle.section.proofs.Held.{held-zero}
use Rattle.code.proofs.Ranges.{release-range}
use Rattle.working.specs.Cursor.{Cursor}
use Rattle.worklog.specs.Log.{code_in}
use Rattle.plan.specs.Turn.{turn_at}
use Rattle.claims.specs.Reference.{Given}
use Rattle.claims.proofs.Invariant.{op_at, Nearing, Phase, resting, fresh, due, unlocking, unlocked, between, ended}
use Rattle.claims.proofs.Turns.{Stepped}
use Rattle.claims.proofs.Origins.{began, after, Before}
use Rattle.claims.proofs.Nearing.{near-turn}
use Rattle.claims.proofs.Dues.{due-turn, unlocking-turn, unlocked-turn, ended-turn}

pub own_turn :
    (n : ℕ) (rd : Memory) (d : ℕ) (g : Given) (c : Cursor) (locks j : ℕ) → Phase n rd d g c locks j
    → ((b : ℕ) → b < 64 → has locks b ≡ true → rd (lock b) ≡ d + 1)
    → ((b : ℕ) → b < 64 → rd (lock b) ≡ d + 1 → has locks b ≡ true)
    → Stepped n rd d g locks j (turn_at n rd d c)
unfolding turn_at
own_turn n rd d g _ _ _ (resting e p i w) mine named = tt
own_turn n rd d g _ _ _ (fresh t locks s h p w r) mine named =
    let z = held-zero (code_in n rd d) in
    let l = s.valid.least in
    let b : Before n rd d g 0 0 = record { sectioned = s; origin = began h p; below = omega arith; owned = w ∙ sym z } in
    near-turn n rd d g 0 0 locks b t (subst (λ (m : ℕ). Nearing n rd d 0 t m locks (op_at n rd d 0)) (sym z) r)
own_turn n rd d g _ _ _ (due s locks sec m u) mine named = due-turn n rd d g s locks sec m u
own_turn n rd d g _ _ _ (unlocking s a locks sec m o w z e) mine named =
    let l = release-range n (code_in n rd d s) a (sec.valid.ranges s m.below) o in
    unlocking-turn n rd d g s locks sec m a o w z e (mine a l) (named a l)
own_turn n rd d g _ _ _ (unlocked s a locks sec m o w z e) mine named = unlocked-turn n rd d g s locks sec m a o w z e
own_turn n rd d g _ _ _ (between s k t locks j sec m done js l w e r) mine named =
    let b : Before n rd d g k j = record { sectioned = sec; origin = after s k j m done js e; below = l; owned = w } in
    near-turn n rd d g k j locks b t r
own_turn n rd d g _ _ _ (ended s sec p w i l o) mine named = ended-turn n rd d g s sec p w i l o
