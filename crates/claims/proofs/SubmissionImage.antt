-- A submission on an image: each store is at a place of the image, so a cut submission leaves a prefix of its stores, which a
-- recovery accepts (`submission-cut`).
use Prim.Native.Nat.{ℕ, ◌<◌, ◌≤◌}
use mathlib.Core.Path.{◌≡◌, fun_ext}
use mathlib.Core.Bool.{true}
use mathlib.Core.List.{List}
use lib.ListN.{length, take}
use Rattle.std.specs.Prelude.{Ok}
use Rattle.image.specs.declared.Field.TheVariants.{Count, Pc, Finished}
use Rattle.image.specs.Place.{field}
use Rattle.image.specs.Inner.Same.{upd_all}
use Rattle.image.specs.Image.{Image, at, workers, header_ok, put_all}
use Rattle.image.proofs.Header.{header-sized}
use Rattle.image.proofs.Lists.{at_all}
use Rattle.section.specs.Check.{code_of, check}
use Rattle.section.proofs.Facts.{check-parts}
use Rattle.intake.specs.Submit.{submission}
use Rattle.intake.proofs.Submission.{submission-valid}
use Rattle.claims.proofs.Invariant.{Crashed}
use Rattle.claims.proofs.Submission.{submission-prefix}

module _ (mark n : ℕ) (m : Image) (h : header_ok mark n m ≡ true) (d k : ℕ) (args ws : List ℕ) (l : d < workers m) (wide : 8 ≤ n) (eight : length args ≡ 8)
    (c : check n (length ws) (code_of ws) ≡ Ok tt) where
  pub submission-at : (left : ℕ) → at n (put_all n left m (submission n d k args ws)) ≡ upd_all (at n m) (take left (submission n d k args ws))
  submission-at left =
      let few = (check-parts n (length ws) (code_of ws) c).1 in
      fun_ext (at_all n (workers m) left m (submission n d k args ws) (header-sized mark n m h) (submission-valid n d k args ws eight (workers m) l wide few))

  -- a submission that is cut
  pub submission-cut : Crashed n (workers m) (at n m) → at n m (field Count d) ≡ 0 → at n m (field Pc d) ≡ 0 → at n m (field Finished d) < k
      → (left : ℕ) → Crashed n (workers m) (at n (put_all n left m (submission n d k args ws)))
  submission-cut q z p f left = rw (submission-at left) (submission-prefix n d k args ws (at n m) (workers m) q z p c f left)
