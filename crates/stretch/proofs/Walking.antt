-- Whole instructions one after another: what the loop over them keeps (`Walking`), from its start on (`walk-starts`), with one instruction more (`walk-again`),
-- and what the next may ask of the image (`walk-counted`).
use Prim.Native.Nat.{ℕ, ◌+◌, ◌-◌, ◌<◌, ◌≤◌}
use mathlib.Core.Path.{◌≡◌, refl, sym, ap, ◌∙◌}
use mathlib.Core.Logic.{◌≢◌}
use native.Mathlib.Omega.{arith}
use Rattle.image.specs.Image.{Image, workers}
use Rattle.image.proofs.Header.{Sized, sized_inside}
use Rattle.tally.specs.declared.Tally.{Tally}
use Rattle.tally.specs.declared.Passes.{Passes}
use Rattle.tally.specs.Tally.{none as nothing}
use Rattle.tally.specs.Inner.Passes.{no_passes, passed, with_turns}
use Rattle.stretch.specs.declared.Walk.{Walk}
use Rattle.stretch.specs.Inner.Single.{single, Turns, none}
use Rattle.stretch.specs.Inner.Whole.{Counted, Made}
use Rattle.stretch.proofs.Sequence.{turns-append, turns-sized, turns-count}
use Rattle.stretch.proofs.Counting.{turns-counted, no-turns}

-- of a section of k steps, from step s and image m₀ on, with so many rounds: where the worker stands, the turns that passed, and the rounds left
pub record Walking (n d s k rounds h : ℕ) (m₀ : Image) (left₀ : ℕ) (m : Image) (left step turn g : ℕ) (p : Passes) (rest : ℕ) : Type 0 where
  pub some : rest ≤ rounds
  pub size : Sized n (workers m₀) m
  pub few : passed p ≤ rounds - rest
  pub next : turn ≡ 0 → step < k
  pub made : (y : Tally) → Turns n d (rounds - rest) (single m₀ left₀ s 0 h y) (single m left step turn g (with_turns (rounds - rest) p y))

module _ (n d s k rounds h : ℕ) (m₀ : Image) (left₀ : ℕ) (c : Counted n d k m₀) where
  pub walk-starts : s < k → Walking n d s k rounds h m₀ left₀ m₀ left₀ s 0 h no_passes rounds
  walk-starts l =
      let e : rounds - rounds ≡ 0 = omega arith in
      record {
        some = omega arith;
        size = record { size = c.inside.whole; has = refl };
        few = omega arith;
        next = λ q. l;
        made = λ y. rw e (turns-counted (sym (no-turns y)) (none _));
      }

  module _ {m : Image} {left step turn g : ℕ} {p : Passes} {rest : ℕ} (w : Walking n d s k rounds h m₀ left₀ m left step turn g p rest) where
    pub walk-counted : turn ≡ 0 → Counted n d k m
    walk-counted e =
        let i = c.inside in
        let size : Sized n (workers m₀) m₀ = record { size = i.whole; has = refl } in
        let stays = turns-count (workers m₀) n d i.below (w.made nothing) size (λ q. omega (arith, e, q)) in
        record {
          inside = sized_inside n (workers m₀) m d i.few w.size i.most i.below;
          count = stays ∙ c.count;
          least = c.least;
          most = c.most;
        }

    pub walk-again : turn ≡ 0 → {v : Image} {left₁ : ℕ} {r : Walk} → Made n d step g p m left v left₁ r → r.turns ≤ rest → (r.turn ≡ 0 → r.step < k)
        → Walking n d s k rounds h m₀ left₀ v left₁ r.step r.turn r.held r.passes (rest - r.turns)
    walk-again e {v} {left₁} {r} u l b =
        let q : rounds - rest + r.turns ≡ rounds - (rest - r.turns) = omega (arith, l, w.some) in
        record {
          some = omega (arith, w.some);
          size = turns-sized n d (workers m₀) (u.turns (rounds - rest) nothing w.few) w.size;
          few = omega (arith, u.few, w.few, w.some, l);
          next = b;
          made = λ y. rw (← q) (turns-append n d (rw e at (w.made y)) (u.turns (rounds - rest) y w.few));
        }
