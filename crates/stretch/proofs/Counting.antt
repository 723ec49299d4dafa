-- Several turns counted at once: what stores, a jump and a release that passes add to the tally of turns so far (`with_turns`).
use Prim.Native.Nat.{ℕ, ◌+◌, ◌-◌, ◌≤◌}
use mathlib.Core.Path.{◌≡◌, subst}
use native.Mathlib.Omega.{arith}
use Rattle.image.specs.Image.{Image}
use Rattle.tally.specs.declared.Tally.{Tally}
use Rattle.tally.specs.declared.Passes.{Passes}
use Rattle.tally.specs.Tally.{with_jump, with_already_free, with_others}
use Rattle.tally.specs.Inner.Passes.{no_passes, passed, with_passed_jump, with_passed_free, with_passed_others, with_turns}
use Rattle.stretch.specs.Inner.Single.{Single, single, Turns}
use Rattle.stretch.specs.Inner.Whole.{Made}
use Rattle.stretch.proofs.Running.{with_stores}

-- turns whose tally is said otherwise
pub turns-counted : {n d k : ℕ} {a : Single} {v : Image} {rest s t h : ℕ} {y z : Tally} → y ≡ z → Turns n d k a (single v rest s t h y)
    → Turns n d k a (single v rest s t h z)
turns-counted {n} {d} {k} {a} {v} {rest} {s} {t} {h} e u = subst (λ (x : Tally). Turns n d k a (single v rest s t h x)) e u

module _ (j : ℕ) (p : Passes) (y : Tally) (l : passed p ≤ j) where
  pub add-stores : (k : ℕ) → with_stores k (with_turns j p y) ≡ with_turns (j + k) p y
  add-stores k =
      let turns : y.turns + j + k ≡ y.turns + (j + k) = omega arith in
      let stores : y.stores + (j - passed p) + k ≡ y.stores + (j + k - passed p) = omega (arith, l) in
      rw (turns, stores)

  pub add-jump : with_jump (with_turns j p y) ≡ with_turns (j + 1) (with_passed_jump p) y
  add-jump =
      let turns : y.turns + j + 1 ≡ y.turns + (j + 1) = omega arith in
      let stores : y.stores + (j - passed p) ≡ y.stores + (j + 1 - passed (with_passed_jump p)) = omega (arith, l) in
      rw (turns, stores)

  pub add_free : (k : ℕ) → with_already_free (with_stores k (with_turns j p y)) ≡ with_turns (j + (k + 1)) (with_passed_free p) y
  add_free k =
      let turns : y.turns + j + k + 1 ≡ y.turns + (j + (k + 1)) = omega arith in
      let stores : y.stores + (j - passed p) + k ≡ y.stores + (j + (k + 1) - passed (with_passed_free p)) = omega (arith, l) in
      let free : y.free + p.free + 1 ≡ y.free + (p.free + 1) = omega arith in
      rw (turns, stores, free)

  pub add-others : (k : ℕ) → with_others (with_stores k (with_turns j p y)) ≡ with_turns (j + (k + 1)) (with_passed_others p) y
  add-others k =
      let turns : y.turns + j + k + 1 ≡ y.turns + (j + (k + 1)) = omega arith in
      let stores : y.stores + (j - passed p) + k ≡ y.stores + (j + (k + 1) - passed (with_passed_others p)) = omega (arith, l) in
      let others : y.others + p.others + 1 ≡ y.others + (p.others + 1) = omega arith in
      rw (turns, stores, others)

-- no turn yet
pub no-turns : (y : Tally) → with_turns 0 no_passes y ≡ y
no-turns y =
    let turns : y.turns + 0 ≡ y.turns = omega arith in
    let stores : y.stores + 0 ≡ y.stores = omega arith in
    let free : y.free + 0 ≡ y.free = omega arith in
    let others : y.others + 0 ≡ y.others = omega arith in
    rw (turns, stores, free, others)

-- turns made, by what they add to the tally
module _ {n d s h : ℕ} {p : Passes} {m : Image} {left : ℕ} {v : Image} {rest i t g : ℕ} where
  pub made-stores : (k : ℕ) → ((y : Tally) → Turns n d k (single m left s 0 h y) (single v rest i t g (with_stores k y))) → 1 ≤ k → k ≤ 6
      → Made n d s h p m left v rest (record { turns = k; step = i; turn = t; passes = p; held = g })
  made-stores k u a b =
      record { turns = λ j y q. turns-counted (add-stores j p y q k) (u (with_turns j p y)); some = a; most = b; few = omega arith }

  pub made-jump : ((y : Tally) → Turns n d 1 (single m left s 0 h y) (single v rest i t g (with_jump y)))
      → Made n d s h p m left v rest (record { turns = 1; step = i; turn = t; passes = with_passed_jump p; held = g })
  made-jump u =
      record {
        turns = λ j y q. turns-counted (add-jump j p y q) (u (with_turns j p y));
        some = omega arith;
        most = omega arith;
        few = omega arith;
      }

  pub made-free : ((y : Tally) → Turns n d 6 (single m left s 0 h y) (single v rest i t g (with_already_free (with_stores 5 y))))
      → Made n d s h p m left v rest (record { turns = 6; step = i; turn = t; passes = with_passed_free p; held = g })
  made-free u =
      record {
        turns = λ j y q. turns-counted (add_free j p y q 5) (u (with_turns j p y));
        some = omega arith;
        most = omega arith;
        few = omega arith;
      }

  pub made-others : ((y : Tally) → Turns n d 6 (single m left s 0 h y) (single v rest i t g (with_others (with_stores 5 y))))
      → Made n d s h p m left v rest (record { turns = 6; step = i; turn = t; passes = with_passed_others p; held = g })
  made-others u =
      record {
        turns = λ j y q. turns-counted (add-others j p y q 5) (u (with_turns j p y));
        some = omega arith;
        most = omega arith;
        few = omega arith;
      }
