-- Where a board may change over: behind a list whose last call is not cut, with all workers idle, the image is at rest, its cells those of the
-- reference machine (proofs of `claims`), its finished numbers those that its records tell, and the working record as a list starts with it, since
-- lists keep it neat and its mask right. So whatever holds of images at rest holds anew (`counts-anew`).
use Prim.Native.Nat.{ℕ, ◌≤◌}
use mathlib.Core.Path.{◌∙◌}
use Rattle.mask.proofs.Sets.{no-members}
use Rattle.image.specs.Image.{workers, cells_of}
use Rattle.claims.specs.Claims.{FormattedRests, after}
use Rattle.claims.proofs.Durable.{formatted-rests, idle-settled}
use Rattle.told.specs.Once.{ToldAlways}
use Rattle.told.specs.Changing.{ChangesOver, CountsAnew}
use Rattle.told.proofs.FromRest.{kept-uncut}
use Rattle.told.proofs.Held.{held-agrees}
use Rattle.told.proofs.Neat.{NeatIn, neat-keeps, start-neat, neat-idle}
use Rattle.told.proofs.Once.{admitted-list, told-always}

module _ (mark n : ℕ) (wide : 8 ≤ n) (narrow : n ≤ 64) where
  pub changes-over : ChangesOver mark n
  unfolding ChangesOver ToldAlways
  changes-over m rest xs h l uncut idles =
      let D = workers m in
      let cells = cells_of m in
      let w = after mark n m xs in
      let k =
      kept-uncut mark n wide narrow m rest (NeatIn mark n D cells) (λ v. Unit {0}) (neat-keeps mark n D cells wide) (start-neat D) xs h l uncut
      in
      let s = idle-settled mark n m w k.0 idles (admitted-list mark n wide narrow m rest xs h l) in
      let a = held-agrees mark n wide narrow m rest xs h l uncut in
      record {
        settled = s;
        as_many = k.0.reached.many;
        finished = λ d dl. (told-always mark n wide narrow m rest xs h l d dl).at_rest (s.rests.empty d (rw k.0.reached.many dl)).1;
        record-idle = neat-idle D w.world.cursors k.0.full k.1 idles
            (no-members _ a.small (λ b q. a.bits b q ∙ (rw (s.rests.free b q))));
      }

  pub counts-anew : CountsAnew mark n
  unfolding CountsAnew ChangesOver FormattedRests
  counts-anew P each = (
    λ D some few. each _ (formatted-rests mark n D some few),
    λ m rest xs h l uncut idles. each _ (changes-over m rest xs h l uncut idles).settled.rests,
  )
