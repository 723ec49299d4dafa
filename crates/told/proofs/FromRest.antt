-- What lists of calls keep, from an image at rest: behind any legal list, cut or not (`kept-list`), behind one whose last call is not cut
-- (`kept-uncut`), behind a recovery where a cut ends it (`mended-from`), and behind uncut runs
-- and turns after that (`settled-from`, `kept-settled`), which leave every pc 0 (`settled-pcs`).
use Prim.Native.Nat.{ℕ, ◌*◌, ◌<◌, ◌≤◌}
use mathlib.Core.Path.{◌≡◌, refl, subst}
use mathlib.Core.Bool.{Bool, true, false, cond, not, false≢true}
use mathlib.Core.List.{List, [], ◌∷◌, ◌++◌}
use native.Mathlib.Omega.{arith}
use Rattle.base.proofs.Bools.{and_left, and_right}
use Rattle.image.specs.declared.Field.TheVariants.{Pc}
use Rattle.image.specs.Place.{field}
use Rattle.image.specs.Image.{Image, at, workers, cells_of}
use Rattle.working.specs.Cursor.{idle, cursor_at}
use Rattle.claims.specs.Calls.{Traced, recovers, Move, whole, cut, play, from, recovering, legal, ends_cut, plain, machine}
use Rattle.claims.specs.Claims.{Rested, Idle, after, mended, working, rounds_in}
use Rattle.claims.proofs.Worlds.{Running}
use Rattle.claims.proofs.Played.{Worth, running-worth}
use Rattle.claims.proofs.Resting.{rested-running, idle-rested}
use Rattle.claims.proofs.Moves.{play-append}
use Rattle.claims.proofs.Working.{working-running, working-idle}
use Rattle.claims.proofs.Cursors.{idle-all}
use Rattle.claims.proofs.Durable.{mended-running, list-good}
use Rattle.told.proofs.Keeping.{Sorted, Keeps, Kept, play-keeps, working-keeps}

-- any move
abbrev pub Any : Move → Image → Type 0
Any x m = Unit {0}

pub any-sorted : (mark n : ℕ) (xs : List Move) (w : Traced) → Sorted mark n Any xs w
any-sorted mark n [] w = tt
any-sorted mark n (x ∷ xs) w = (tt, any-sorted mark n xs _)

-- uncut, and no recovery
abbrev pub Plain : Move → Image → Type 0
Plain (whole c) m = not (recovering c) ≡ true
Plain (cut k c) m = ⊥

pub plain-sorted : (mark n : ℕ) (xs : List Move) (w : Traced) → plain xs ≡ true → Sorted mark n Plain xs w
unfolding plain
plain-sorted mark n [] w h = tt
plain-sorted mark n (whole c ∷ xs) w h = (and_left (not (recovering c)) (plain xs) h, plain-sorted mark n xs _ (and_right (not (recovering c)) (plain xs) h))
plain-sorted mark n (cut k c ∷ xs) w h = absurd (false≢true h)

module _ (mark n : ℕ) (wide : 8 ≤ n) (narrow : n ≤ 64) (m : Image) (rest : Rested mark n m) (R C : Traced → Type 0) where
  abbrev D : ℕ
  D = workers m

  abbrev cells : List ℕ
  cells = cells_of m

  -- behind a list whose moves are of a sort
  module _
      (A : Move → Image → Type 0) (K : Keeps mark n D cells R C A) (start : R (from m)) (xs : List Move) (h : machine xs ≡ true)
      (l : legal false xs ≡ true) (s : Sorted mark n A xs (from m)) where
    kept : Kept mark n D cells R C A K (ends_cut false xs) (after mark n m xs)
    kept = play-keeps mark n D cells R C A K false xs (from m) wide narrow h l s (rested-running mark n m rest, start)

    by_end : (b : Bool) → Kept mark n D cells R C A K b (after mark n m xs) → Worth mark n D cells (after mark n m xs) × C (after mark n m xs)
    by_end false k = (running-worth mark n D cells (after mark n m xs) k.0, K.worth (after mark n m xs) k.1)
    by_end true k = k

    pub kept-sorted : Worth mark n D cells (after mark n m xs) × C (after mark n m xs)
    kept-sorted = by_end (ends_cut false xs) kept

  -- behind a recovery, where a cut ends a list, and then behind uncut runs and turns
  module _ (K : Keeps mark n D cells R C Any) (xs : List Move) (k : Kept mark n D cells R C Any K (ends_cut false xs) (after mark n m xs)) where
    private-mended :
        (b : Bool) → Kept mark n D cells R C Any K b (after mark n m xs)
        → Running mark n D cells (after mark n m (cond b (xs ++ (whole recovers ∷ [])) xs)) × R (after mark n m (cond b (xs ++ (whole recovers ∷ [])) xs))
    unfolding legal machine ends_cut
    private-mended true k =
        rw (play-append mark n xs (whole recovers ∷ []) (from m))
        (play-keeps mark n D cells R C Any K true (whole recovers ∷ []) (after mark n m xs) wide narrow refl refl (tt, tt) k)
    private-mended false k = k

    mended-from : Running mark n D cells (after mark n m (mended mark n xs)) × R (after mark n m (mended mark n xs))
    mended-from = private-mended (ends_cut false xs) k

    pub settled-from :
        (ys : List Move) → working ys ≡ true
        → Running mark n D cells (after mark n m (mended mark n xs ++ ys)) × R (after mark n m (mended mark n xs ++ ys))
    settled-from ys y =
        let v = after mark n m (mended mark n xs) in
        let k = mended-from in
        rw (play-append mark n (mended mark n xs) ys (from m))
        (working-running mark n D cells ys v y k.0, working-keeps mark n D cells R C Any K ys v y k.0 k.1)

  -- behind any list
  module _ (K : Keeps mark n D cells R C Any) (start : R (from m)) (xs : List Move) (h : machine xs ≡ true) (l : legal false xs ≡ true) where
    pub kept-list : Worth mark n D cells (after mark n m xs) × C (after mark n m xs)
    kept-list = kept-sorted Any K start xs h l (any-sorted mark n xs (from m))

    pub kept-uncut : ends_cut false xs ≡ false → Running mark n D cells (after mark n m xs) × R (after mark n m xs)
    kept-uncut e =
        subst (λ (b : Bool). Kept mark n D cells R C Any K b (after mark n m xs)) e (kept Any K start xs h l (any-sorted mark n xs (from m)))

    pub kept-settled :
        (ys : List Move) → working ys ≡ true
        → Running mark n D cells (after mark n m (mended mark n xs ++ ys)) × R (after mark n m (mended mark n xs ++ ys))
    kept-settled ys y = settled-from K xs (kept Any K start xs h l (any-sorted mark n xs (from m))) ys y

-- uncut runs and turns of 384 rounds a worker leave every pc 0
pub settled-pcs :
    (mark n : ℕ) (wide : 8 ≤ n) (narrow : n ≤ 64) (m : Image) → Rested mark n m → (xs ys : List Move) → machine xs ≡ true → legal false xs ≡ true
    → working ys ≡ true → 384 * workers m ≤ rounds_in ys → (d : ℕ) → d < workers m
    → (cursor_at (after mark n m (mended mark n xs ++ ys)).world.cursors d ≡ idle)
    × (at n (after mark n m (mended mark n xs ++ ys)).world.image (field Pc d) ≡ 0)
settled-pcs mark n wide narrow m rest xs ys h l y k d dl =
    let D = workers m in
    let g = list-good mark n wide narrow m rest xs h l in
    let run = mended-running mark n m wide narrow xs (ends_cut false xs) g in
    let v = after mark n m (mended mark n xs) in
    let r = working-running mark n D (cells_of m) ys v y run in
    let none = working-idle mark n D (cells_of m) ys v y run k in
    let i : Idle mark n D (play mark n ys v).world.cursors = λ e q. idle-all D 0 (play mark n ys v).world.cursors none e (omega arith) (omega arith) in
    let rested = idle-rested mark n D (cells_of m) (play mark n ys v) r i in
    rw (play-append mark n (mended mark n xs) ys (from m)) (i d dl, (rested.empty d (rw r.reached.many dl)).1)
