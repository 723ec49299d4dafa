-- Laws of a step of the shell: what the core took and used follows from what its definition gives, and by what it wants the step is served.
use Rattle.std.proofs.Common.{◌≡◌, ℕ, ◌+◌, ◌-◌, ◌≤◌, Bool, List, [], length, drop, sym, ap, ◌∙◌, arith, append-nil, length-drop, length-take-le, drop-drop}
use Rattle.std.specs.declared.option.Option.{Option}
use Rattle.std.proofs.KnownBytes.{Consumes-nil}
use Rattle.std.proofs.lemmas.List.{drop-take}
use mathlib.Core.Path.{subst⁻¹}
use Rattle.pieces.specs.Pieces.{Point, Progress}
use Rattle.day.specs.declared.Stretch.{Stretch}
use Rattle.day.specs.declared.Want.{Want}
use Rattle.day.specs.Core.{Advanced}
use Rattle.day.specs.Wants.{want_of}
use Rattle.stream.specs.declared.Stream.{Stream}
use Rattle.stream.specs.Carried.{Came}
use Rattle.stream.specs.Shell.{unread, Refilled, stretch_of, passed, Served, Stepped}

-- as many bytes are not taken as there are between the two ends
pub unread-long : (b : List ℕ) (s : Stream) → s.from ≤ s.to → s.to ≤ length b → length (unread b s) ≡ s.to - s.from
unread-long b s rising held = length-take-le (s.to - s.from) (drop s.from b) (omega (arith, length-drop s.from b))

-- where more of them are taken, the rest are not
pub unread-passed : (b : List ℕ) (s : Stream) (h : Stretch) (over : Bool) → s.from + h.taken ≤ s.to
    → unread b (passed s h over) ≡ drop h.taken (unread b s)
unread-passed b s h over inside =
    let e : s.to - s.from ≡ h.taken + (s.to - (s.from + h.taken)) = omega arith in
    sym (rw (e, drop-take, drop-drop))

-- that the output could not be written stays so behind the reading
pub refilled-over : (b c : List ℕ) (s : Stream) (h : Stretch) (over : Bool) (r : Stream)
    → Refilled b c (passed s h over) r → Refilled b c (passed s h r.over) r
refilled-over b c s h over r e =
    subst⁻¹ (λ (x : Bool). Refilled b c (passed s h x) r) (ap (λ (x : Stream). x.over) e.stream) e

module _ (m k b o u : List ℕ) (s : Stream) (h : Stretch) (a : Progress) (rising : s.from ≤ s.to) (held : s.to ≤ length b)
    (core : Advanced m k (unread b s) o u s.day h a) where
  pub taken-inside : s.from + h.taken ≤ s.to
  taken-inside = omega (arith, core.taken, unread-long b s rising held)

  pub left-behind : (over : Bool) → unread b (passed s h over) ≡ a.point.input
  left-behind over = unread-passed b s h over taken-inside ∙ ap (λ (q : Point). q.input) core.point

  -- bytes came behind them, or none
  pub came-behind : (p q : Option (List ℕ)) (w : List ℕ) (over : Bool) → Came p q (unread b (passed s h over)) w → Came p q a.point.input w
  came-behind p q w over e = record { bytes = e.bytes; read = e.read; behind = rw (left-behind over) at e.behind }

  pub none-came : (p : Option (List ℕ)) (over : Bool) → Came p p a.point.input (unread b (passed s h over))
  none-came p over = record { bytes = []; read = Consumes-nil p; behind = left-behind over ∙ sym (append-nil a.point.input) }

  private-stretch : (r : Stream) → r.day ≡ h.day → stretch_of s r a ≡ h
  private-stretch r e =
      let p : s.to - s.from - length a.point.input ≡ h.taken = omega (
        arith,
        ap (λ (q : Point). length q.input) core.point,
        length-drop h.taken (unread b s),
        unread-long b s rising held,
        core.taken,
      ) in
      let q : length a.out ≡ h.used = omega (arith, core.out.used) in
      rw (p, q, e)

  -- the step by what the core wants
  pub steps : (w : Want) (c : List ℕ) (r : Stream) → length u ≡ length o → want_of s.more (length u - h.used) h.day.played.job ≡ w → r.day ≡ h.day
      → Served w b c (passed s h r.over) r → Stepped m k b c o u s r a
  steps w c r same want e f =
      let x = private-stretch r e in
      let q : length a.out ≡ h.used = omega (arith, core.out.used) in
      let v : want_of s.more (length o - length a.out) r.day.played.job ≡ w = rw (q, ← same, e) want in
      record {
        core = subst⁻¹ (λ (y : Stretch). Advanced m k (unread b s) o u s.day y a) x core;
        served = subst⁻¹ (λ (z : Want). Served z b c (passed s (stretch_of s r a) r.over) r) v
            (subst⁻¹ (λ (y : Stretch). Served w b c (passed s y r.over) r) x f);
      }
