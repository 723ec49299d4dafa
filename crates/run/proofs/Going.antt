-- What the turns of a worker alone leave: whole instructions (`went-walk`), a turn as it is with whole instructions behind it (`went_then`), or nothing, where
-- its next turn is refused (`went-refused`).
use Prim.Native.Nat.{ℕ, ◌+◌}
use mathlib.Core.Path.{◌≡◌, refl, sym, ◌∙◌}
use mathlib.Core.Bool.{false}
use mathlib.Core.Logic.{◌≢◌}
use native.Mathlib.Omega.{arith}
use Rattle.image.specs.Image.{Image, workers, at}
use Rattle.image.specs.Inner.Inside.{Inside}
use Rattle.image.proofs.Header.{Sized, sized_inside}
use Rattle.tally.specs.declared.Tally.{Tally}
use Rattle.tally.specs.Inner.Passes.{with_turns}
use Rattle.plan.specs.Turn.{ready}
use Rattle.stretch.specs.declared.Stretch.{Stretch}
use Rattle.stretch.specs.declared.Walk.{Walk}
use Rattle.stretch.specs.Inner.Single.{Single, single, Turns, none}
use Rattle.stretch.specs.Inner.Stretch.{Stretched}
use Rattle.stretch.proofs.Sequence.{turns-append, turns-sized}
use Rattle.run.specs.Inner.Alone.{went_on, WentAlone}

module _ (n d : ℕ) where
  pub turns-inside : {k : ℕ} {a b : Single} → Turns n d k a b → Inside n a.image d → Inside n b.image d
  turns-inside {a = a} {b = b} t i =
      let z : Sized n (workers a.image) a.image = record { size = i.whole; has = refl } in
      sized_inside n (workers a.image) b.image d i.few (turns-sized n d (workers a.image) t z) i.most i.below

  module _ {m v : Image} {left rest s t h : ℕ} {y : Tally} where
    pub went-walk : (x : Walk)
        → ((z : Tally) → Turns n d x.turns (single m left s t h z) (single v rest x.step x.turn x.held (with_turns x.turns x.passes z)))
        → x.turns ≢ 0 → WentAlone n d s t h y m left v rest (went_on (record { turns = 0; step = s; turn = t; held = h; tally = y }) x)
    went-walk x t o =
        let q : 0 + x.turns ≡ x.turns = omega arith in
        record { made = rw q (t y); refused = λ z. absurd (o (sym q ∙ z)); stays = λ z. absurd (o (sym q ∙ z)) }

    -- the image was w before, with as many stores left
    pub went_then : {w u : Image} {some more : ℕ} (r : Stretch) (x : Walk) → w ≡ m → some ≡ left → Stretched n d s t h y w some u more r
        → ((z : Tally) → Turns n d x.turns (single u more r.step r.turn r.held z)
        (single v rest x.step x.turn x.held (with_turns x.turns x.passes z)))
        → WentAlone n d s t h y m left v rest (went_on r x)
    went_then r x p q a t =
        record {
          made = rw (← p, ← q) (turns-append n d a.made (t r.tally));
          refused = λ z. absurd (omega (arith, a.some, z));
          stays = λ z. absurd (omega (arith, a.some, z));
        }

    pub went-refused : ready n (at n m) d s t ≡ false → v ≡ m → rest ≡ left
        → WentAlone n d s t h y m left v rest (record { turns = 0; step = s; turn = t; held = h; tally = y })
    went-refused e p q = record { made = rw (p, q) (none (single m left s t h y)); refused = λ z. e; stays = λ z. (p, q, refl, refl) }
