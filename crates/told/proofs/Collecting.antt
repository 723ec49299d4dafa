-- A fact P of the turns of a list's uncut calls (`uncut-each`), where lists keep R and C: shown of each turn in a world that runs, with R, and
-- with a store left where the turn moves; and of the turns of workers that the image has not.
use Prim.Native.Nat.{ℕ, ◌<◌, ◌≤◌}
use mathlib.Core.Path.{◌≡◌, refl}
use mathlib.Core.Bool.{Bool, true, false, not, ◌||◌}
use mathlib.Core.List.{List, [], ◌∷◌}
use lib.Dec.{ltb}
use borrow.Author.Tests.{ltb-true}
use native.Mathlib.Omega.{arith}
use Rattle.base.proofs.Bools.{and_left, and_right}
use Rattle.image.specs.Image.{Image}
use Rattle.claims.specs.Calls.{Traced, Call, submits, turns, runs, recovers}
use Rattle.claims.specs.Calls.{Move, whole, cut, lent, move, recovering, legal, callable, machine}
use Rattle.claims.proofs.Worlds.{Running}
use Rattle.claims.proofs.Settling.{spare-turn}
use Rattle.claims.proofs.Played.{plenty, spare-lent, recovers-only, whole-good, cut-good}
use Rattle.told.specs.Moments.{Moment, moment, Each, in_rounds, in_call}
use Rattle.told.specs.Reports.{in_uncut}
use Rattle.told.proofs.Keeping.{next_turn, Fed, Sorted, Keeps, Both, both-turned, Kept, good, move-whole, move-cut}
use Rattle.told.proofs.Moments.{each_append, rounds-each as run-each}

module _
    (mark n D : ℕ) (cells : List ℕ) (R C : Traced → Type 0) (A : Move → Image → Type 0) (K : Keeps mark n D cells R C A) (P : Moment → Type 0)
    (below : (w : Traced) (d : ℕ) → Running mark n D cells w → d < D → Fed w (next_turn n w d) → R w → P (moment w d))
    (above : (w : Traced) (d : ℕ) → Running mark n D cells w → ltb d D ≡ false → P (moment w d)) where
  abbrev B : Traced → Type 0
  B = Both mark n D cells R C A K

  both-each : (w : Traced) (d : ℕ) → d < D → B w → P (moment w d)
  both-each w d l b =
      let t = spare-turn mark n D cells w d b.spare l in
      below w d b.spare.running l (λ m. let f = t.falls m in omega arith) b.kept

  -- ---- runs and calls

  rounds-each : (r : ℕ) (w : Traced) → B w → Each P (in_rounds mark n r D w)
  rounds-each = run-each mark n D B P (both-turned mark n D cells R C A K) both-each

  turn-each : (w : Traced) (d : ℕ) → B w → P (moment w d)
  turn-each w d b = by (ltb d D) refl
    where
      by : (t : Bool) → ltb d D ≡ t → P (moment w d)
      by true h = both-each w d (ltb-true d D h) b
      by false h = above w d b.spare.running h

  call-each : (c : Call) (w : Traced) → B w → Each P (in_call mark n c w)
  unfolding in_call
  call-each (submits d k args ws) w b = tt
  call-each (turns d) w b = (turn-each w d b, tt)
  call-each (runs t) w b = let r = b.spare.running.reached in rw (r.header, r.many) (rounds-each t w b)
  call-each recovers w b = tt

  -- ---- lists; where a recovery is owing the call is one, and makes no turn

  whole_each : (b : Bool) (c : Call) (w : Traced) → (not b || recovering c) ≡ true → Kept mark n D cells R C A K b w
      → Each P (in_call mark n c (lent mark n (plenty mark n D cells) w))
  unfolding in_call
  whole_each false c w h (r, x) =
      let k = plenty mark n D cells in
      call-each c (lent mark n k w)
      (record { spare = spare-lent mark n D cells w k r (omega arith); kept = K.lend k w x })
  whole_each true c w h g = rw (recovers-only mark n D cells true c h refl) tt

  pub uncut-each :
      (b : Bool) (xs : List Move) (w : Traced) → 8 ≤ n → n ≤ 64 → machine xs ≡ true → legal b xs ≡ true → Sorted mark n A xs w
      → Kept mark n D cells R C A K b w → Each P (in_uncut mark n xs w)
  unfolding in_uncut legal machine
  uncut-each b [] w wide narrow h l s k = tt
  uncut-each b (whole c ∷ xs) w wide narrow h l (a, s) k =
      let p = and_left (callable c) (machine xs) h in
      let ps = and_right (callable c) (machine xs) h in
      let q = and_left (not b || recovering c) (legal false xs) l in
      let qs = and_right (not b || recovering c) (legal false xs) l in
      each_append P (in_call mark n c (lent mark n (plenty mark n D cells) w)) (in_uncut mark n xs (move mark n (whole c) w)) (whole_each b c w q k)
      (uncut-each false xs (move mark n (whole c) w) wide narrow ps qs s
      (whole-good mark n D cells b c w wide narrow p q (good mark n D cells R C A K b w k), move-whole mark n D cells R C A K b c w p q a k))
  uncut-each b (cut j c ∷ xs) w wide narrow h l (a, s) k =
      let p = and_left (callable c) (machine xs) h in
      let ps = and_right (callable c) (machine xs) h in
      let q = and_left (not b || recovering c) (legal true xs) l in
      let qs = and_right (not b || recovering c) (legal true xs) l in
      uncut-each true xs (move mark n (cut j c) w) wide narrow ps qs s
      (cut-good mark n D cells b j c w wide p q (good mark n D cells R C A K b w k), move-cut mark n D cells R C A K b j c w p q a k)
