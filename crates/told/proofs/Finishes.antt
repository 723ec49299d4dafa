-- What is begun is finished: the sections begun only become more (`extends-keeps`), and in the end the finished number is not below that
-- of any (`begun-finishes`).
use Prim.Native.Nat.{ℕ, ◌≤◌}
use mathlib.Core.Path.{◌≡◌, refl, sym}
use mathlib.Core.Logic.{inl}
use mathlib.Core.Bool.{Bool, true, false}
use mathlib.Core.List.{List, [], ◌∷◌, ◌++◌, append-nil, append_assoc}
use lib.Dec.{eqb}
use borrow.Author.Tests.{le-leb}
use Rattle.image.specs.declared.Field.TheVariants.{Pc}
use Rattle.image.specs.Place.{field}
use Rattle.image.specs.Image.{Image, at, workers, cells_of}
use Rattle.plan.specs.Turn.{Outcome, stored, passed, waiting, resting, refused}
use Rattle.claims.specs.Reference.{Given}
use Rattle.claims.specs.Calls.{Traced, is_pc, turn_by, ends_cut}
use Rattle.claims.specs.Claims.{after, mended}
use Rattle.told.specs.Once.{numbers_of, among, begun_by, BegunFinishes}
use Rattle.claims.proofs.Turning.{still}
use Rattle.claims.proofs.Played.{Worth, Good}
use Rattle.claims.proofs.Durable.{list-good}
use Rattle.told.proofs.Keeping.{next_turn, Fed, recovered, Keeps, Kept}
use Rattle.told.proofs.FromRest.{Any, settled-from, settled-pcs}
use Rattle.told.proofs.Once.{finished-others, tells-settled}
use Rattle.told.proofs.Telling.{begun_then, turn-begun}
use Rattle.told.proofs.Numbers.{among-front, numbers-append}

-- ---- the sections begun become more

module _ (mark n D : ℕ) (cells : List ℕ) (first : List Given) where
  -- first: the sections begun at some moment
  abbrev Longer : List Given → Type 0
  Longer begun = (more : List Given) × (begun ≡ first ++ more)

  abbrev Extends : Traced → Type 0
  Extends w = Longer w.trace.begun

  more-then : (begun : List Given) (g : Given) (a b : Bool) → Longer begun → Longer (begun_then begun g a b)
  more-then begun g false b x = x
  more-then begun g true false x = x
  more-then begun g true true (more, e) = (more ++ (g ∷ []), rw e (append_assoc first more (g ∷ [])))

  turn-extends : (w : Traced) (d : ℕ) (o : Outcome) → Fed w o → Extends w → Extends (turn_by mark n w d o)
  turn-extends w d (stored p v c) fed x =
      rw (turn-begun mark n w d p v c (fed refl))
      (more-then w.trace.begun (w.trace.last d) (is_pc p) (eqb (at n w.world.image (field Pc d)) 0) x)
  turn-extends w d (passed why c) fed x = x
  turn-extends w d (waiting b) fed x = x
  turn-extends w d resting fed x = x
  turn-extends w d (refused r) fed x = x

  still-extends : (w : Traced) (d : ℕ) (o : Outcome) → w.world.left ≡ 0 → Extends w → Extends (turn_by mark n w d o)
  still-extends w d (stored p v c) z x = rw (still mark n D cells w d p v c z).0 x
  still-extends w d (passed why c) z x = x
  still-extends w d (waiting b) z x = x
  still-extends w d resting z x = x
  still-extends w d (refused r) z x = x

  recovered-extends : (w : Traced) → Worth mark n D cells w → Extends w → Extends (recovered mark n w)
  recovered-extends w k x = x

  extends-keeps : Keeps mark n D cells Extends Extends Any
  extends-keeps =
      record {
        turn = λ w d r l fed x. turn-extends w d (next_turn n w d) fed x;
        still = still-extends;
        worth = λ w x. x;
        lend = λ k w x. x;
        lend-cut = λ k w x. x;
        submit = λ w d k args ws r h t left a x. x;
        submit-cut = λ w j d k args ws r h t a x. x;
        recover = λ w k left a x. recovered-extends w k x;
        recover-cut = λ w j k a x. recovered-extends w k x;
        cut_off = λ w x. x;
      }

-- ---- what is begun is finished

module _ (mark n : ℕ) (wide : 8 ≤ n) (narrow : n ≤ 64) where
  module _ (m : Image) (gs : List Given) where
    abbrev More : Traced → Type 0
    More = Extends mark n (workers m) (cells_of m) gs

    -- the good worlds are those that keep it
    good-kept :
        (b : Bool) (w : Traced) → Good mark n (workers m) (cells_of m) b w → More w
        → Kept mark n (workers m) (cells_of m) More More Any (extends-keeps mark n (workers m) (cells_of m) gs) b w
    good-kept false w g x = (g, x)
    good-kept true w g x = (g, x)

  pub begun-finishes : BegunFinishes mark n
  unfolding BegunFinishes
  begun-finishes m rest xs h l ys y k d j dl a =
      let D = workers m in
      let w = after mark n m xs in
      let gs = w.trace.begun in
      let g = list-good mark n wide narrow m rest xs h l in
      let v = after mark n m (mended mark n xs ++ ys) in
      let kept = good-kept m gs (ends_cut false xs) w g ([], sym (append-nil gs)) in
      let ext = (settled-from mark n wide narrow m rest _ _ (extends-keeps mark n D (cells_of m) gs) xs kept ys y).1 in
      let t = tells-settled mark n wide narrow m rest xs h l ys y d dl in
      let more : among j (begun_by mark n v d) ≡ true =
      rw (ext.1, numbers-append d gs ext.0) (among-front j (numbers_of d gs) (numbers_of d ext.0) a)
      in
      let pc = (settled-pcs mark n wide narrow m rest xs ys h l y k d dl).1 in
      rw (le-leb j _ (finished-others n _ _ (at n v.world.image) d t j more (inl pc)))
