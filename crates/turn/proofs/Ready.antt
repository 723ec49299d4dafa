-- The turn of a worker that is ready, as `turn_on` and `turn_in_place` make it: where the plan is the outcome's, the lock that it names is an image's
-- (`plan-lock`), and what is done of it is what the outcome says and leaves (`plan-acts`).
use Prim.Native.Nat.{ℕ}
use mathlib.Core.Path.{◌≡◌, ap, ◌∙◌}
use mathlib.Core.Bool.{true}
use native.Mathlib.Omega.{arith}
use Rattle.image.specs.Image.{Image, at}
use Rattle.worklog.specs.declared.Plan.{Plan}
use Rattle.working.specs.declared.Cursors.{Cursors}
use Rattle.working.specs.Inner.At.{At}
use Rattle.working.specs.Cursor.{on, set_at, holding}
use Rattle.working.specs.World.{world}
use Rattle.plan.specs.Turn.{ready, turn_at}
use Rattle.plan.specs.Inner.Plan.{plan_of}
use Rattle.turn.specs.declared.Acted.{Acted}
use Rattle.turn.specs.Call.{outcome_at}
use Rattle.turn.specs.Inner.Acting.{plan_did, plan_leaves, did_lock, did_held, Acts}
use Rattle.working.proofs.Placed.{on-is, open_turn}
use Rattle.plan.proofs.Planned.{ready-says}
use Rattle.turn.proofs.Holding.{within-turn, plan-leaves, plan-in}

module _ (n : ℕ) (m : Image) (d s t : ℕ) (p : Plan) (e : p ≡ plan_of n (turn_at n (at n m) d (on s t))) where
  pub plan-lock : did_lock (plan_did p)
  plan-lock = rw e (plan-in n (turn_at n (at n m) d (on s t)) (within-turn n (at n m) d (on s t)))

  -- the image was m with so many stores left, and is v with the rest
  pub plan-acts : (left : ℕ) (x : Acted) (v : Image) (rest : ℕ) → ready n (at n m) d s t ≡ true → x.did ≡ plan_did p
      → ((k : ℕ) (c : Cursors) (i : ℕ) → At c i s t
      → world v (holding (did_held x.did c.held) (set_at c i x.step x.turn)) rest ≡ plan_leaves k (world m c left) i p)
      → did_lock x.did
      × ((c : Cursors) → At c d s t
      → Acts n (world m c left) d x.did (world v (holding (did_held x.did c.held) (set_at c d x.step x.turn)) rest))
  unfolding outcome_at
  plan-acts left x v rest r did after = (
    rw did plan-lock,
    λ c h.
        let w = world m c left in
        let o = outcome_at n w d in
        let z = ready-says n (at n m) d s t r in
        let on-it = on-is c d h.inside (open_turn c d h.inside (λ q. omega (arith, z.turn, h.turn, q))) in
        let same : p ≡ plan_of n o = rw (on-it, h.step, h.turn) e in
        record { did = did ∙ ap plan_did same; after = after n c d h ∙ (ap (plan_leaves n w d) same ∙ plan-leaves n w d o) },
  )
