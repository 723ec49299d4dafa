-- `image::header_ok` meets its contract. An image of fewer than eight words fails (`Header`); else the tests stand joined as the definition has
-- them, and the last one is what words 2 to 7 are, which the code joins by `|`.
use mathlib.Core.Path.{◌≡◌, sym, ◌∙◌}
use mathlib.Core.Bool.{◌&&◌}
use lib.Dec.{leb, eqb}
use lib.ListN.{length, get_or}
use native.Mathlib.Omega.{arith}
use Rattle.base.proofs.Bools.{within}
use Rattle.image.specs.Image.{workers, record_at, length_of}
use Rattle.image.proofs.Apart.{length-ge}
use Rattle.image.proofs.Header.{header-false, header-by, zeros-joined}
use Rattle.image.proofs.header_ok.Goals.{then-n-record_at, else-n-record_at, then-contains, else-contains}
use Rattle.image.proofs.header_ok.Goals as goal

pub returns-then-n-lt8 : goal.returns-then-n-lt8
returns-then-n-lt8 c =
    let A = c.args in
    sym (header-false A.e.mark A.e.own A.image.now (λ h. omega (arith, length-ge A.e.own (workers A.image.now))))

pub returns-then-image-e : goal.returns-then-image-e
unfolding workers length_of
returns-then-image-e c =
    let A = c.args in
    let m = A.image.now in
    let one : c.contains.result ≡ (leb 1 (get_or m 1 0) && leb (get_or m 1 0) 8) =
    (rw (c.new.ensures.start, c.new.ensures.end, c.new.ensures.exhausted) at c.contains.ensures.value) ∙ within 1 8 (get_or m 1 0) in
    let two : c.if-contains.value ≡ (c.contains.result && eqb (length m) (record_at A.e.own (get_or m 1 0))) =
    elim c.if-contains.branch [
      | then-contains w ↦ rw (w.if-contains.true, ← w.record_at.ensures) w.value-is
      | else-contains w ↦ rw w.if-contains.false (w.value-is ∙ w.if-contains.false)
    ] in
    let three : c.if-n-record_at.value ≡ (c.if-contains.value && eqb (get_or m 0 0) A.e.mark) =
    elim c.if-n-record_at.branch [
      | then-n-record_at w ↦ rw w.if-n-record_at.true w.value-is
      | else-n-record_at w ↦ rw w.if-n-record_at.false (w.value-is ∙ w.if-n-record_at.false)
    ] in
    let all = header-by A.e.mark A.e.own m _ (three ∙ rw (two, one)) in
    sym (all ∙ rw c.if-image-e.true (zeros-joined m 5))

pub returns-else-image-e : goal.returns-else-image-e
unfolding workers length_of
returns-else-image-e c =
    let A = c.args in
    let m = A.image.now in
    let one : c.contains.result ≡ (leb 1 (get_or m 1 0) && leb (get_or m 1 0) 8) =
    (rw (c.new.ensures.start, c.new.ensures.end, c.new.ensures.exhausted) at c.contains.ensures.value) ∙ within 1 8 (get_or m 1 0) in
    let two : c.if-contains.value ≡ (c.contains.result && eqb (length m) (record_at A.e.own (get_or m 1 0))) =
    elim c.if-contains.branch [
      | then-contains w ↦ rw (w.if-contains.true, ← w.record_at.ensures) w.value-is
      | else-contains w ↦ rw w.if-contains.false (w.value-is ∙ w.if-contains.false)
    ] in
    let three : c.if-n-record_at.value ≡ (c.if-contains.value && eqb (get_or m 0 0) A.e.mark) =
    elim c.if-n-record_at.branch [
      | then-n-record_at w ↦ rw w.if-n-record_at.true w.value-is
      | else-n-record_at w ↦ rw w.if-n-record_at.false (w.value-is ∙ w.if-n-record_at.false)
    ] in
    let all = header-by A.e.mark A.e.own m _ (three ∙ rw (two, one)) in
    sym (all ∙ rw c.if-image-e.false)
