-- Every path of the reference machine lies between the fewest turns and the most (`paths-between`): it is a way through its section, and so is every
-- part of it up to the end. So do the turns of every section that is over (`turns-between`).
use Prim.Native.Nat.{ℕ, suc, zero, ◌<◌, ◌≤◌}
use mathlib.Core.Path.{◌≡◌, refl, sym, ap, ◌∙◌}
use mathlib.Core.Logic.{◌⊎◌, inl, inr}
use mathlib.Core.Bool.{Bool, true, false, cond, ◌&&◌, ◌||◌, false≢true}
use mathlib.Core.List.{List, [], ◌∷◌, ◌++◌, append_assoc}
use native.Mathlib.Omega.{arith}
use lib.ListN.{length, get_or}
use lib.Dec.{ltb, eqb}
use borrow.Author.Tests.{eqb-true}
use Rattle.base.proofs.Bools.{and_left, and_right, or-either}
use Rattle.image.specs.Image.{workers, cells_of}
use Rattle.code.specs.declared.Op.{Op}
use Rattle.code.specs.declared.Op.TheVariants.{Acquire, Release, Assign, Jump, Finish, Unknown}
use Rattle.code.specs.Op.{op_of, is_finish}
use Rattle.section.specs.Check.{Code, code_of, check, passes}
use Rattle.section.specs.Valid.{Valid}
use Rattle.section.proofs.Facts.{passed-valid}
use Rattle.section.proofs.Passing.{passed_is}
use Rattle.needs.specs.Path.{turns_along}
use Rattle.needs.specs.From.{lesser, larger, needs_by}
use Rattle.needs.specs.Ways.{leads, goes_on, WaysBetween}
use Rattle.needs.proofs.Ways.{ways-between}
use Rattle.claims.specs.Reference.{Given}
use Rattle.claims.specs.Calls.{nothing, are_words}
use Rattle.claims.specs.Claims.{of_worker, admissible, after}
use Rattle.claims.proofs.Ready.{step-behind}
use Rattle.told.specs.Once.{among}
use Rattle.told.specs.Turns.{Start, first, resumed, passage_of, after_step, needed}
use Rattle.told.specs.Between.{IsWay, Between, bound_by, InBounds, PathsBetween, TurnsBetween}
use Rattle.told.proofs.FromRest.{kept-list}
use Rattle.told.proofs.Once.{admitted-list}
use Rattle.told.proofs.Strides.{is_logged}
use Rattle.told.proofs.WalkTurn.{all_map}
use Rattle.told.proofs.Pacing.{StartsOn}
use Rattle.told.proofs.Spanning.{Spanning, Moored, spanning-keeps}
use Rattle.told.proofs.PathWays.{paths-ways}
use Rattle.told.proofs.Turns.{rested-spanning}

-- ---- ways inside a section

module _ (own n : ℕ) (code : Code) (v : Valid own n code) where
  next-inside : (i k : ℕ) (x : Op) → i < n → op_of (code i) ≡ x → leads i k x ≡ true → k < n
  next-inside i k (Acquire a) l o h = rw (eqb-true k (suc i) h) (step-behind own n code v i (Acquire a) l o refl)
  next-inside i k (Release a) l o h = rw (eqb-true k (suc i) h) (step-behind own n code v i (Release a) l o refl)
  next-inside i k (Assign a e) l o h = rw (eqb-true k (suc i) h) (step-behind own n code v i (Assign a e) l o refl)
  next-inside i k (Jump a b) l o h = by (or-either (eqb k (suc i)) (eqb k b) h)
    where
      by : (eqb k (suc i) ≡ true) ⊎ (eqb k b ≡ true) → k < n
      by (inl e) = rw (eqb-true k (suc i) e) (step-behind own n code v i (Jump a b) l o refl)
      by (inr e) = rw (eqb-true k b e) (v.jumps i a b l o).1
  next-inside i k Finish l o h = absurd (false≢true h)
  next-inside i k Unknown l o h = absurd (false≢true h)

  -- from step a along a path to step i, of which q is behind
  part-way : (p : List ℕ) (a i : ℕ) (q rest : List ℕ) → a < n → goes_on code a rest ≡ true → a ∷ rest ≡ p ++ (i ∷ q) → (i < n) × (goes_on code i q ≡ true)
  unfolding goes_on
  part-way [] a i q rest l g e = let h : a ≡ i = cc in let k : rest ≡ q = cc in (rw (← h) l, rw (← h, ← k) g)
  part-way (x ∷ p) a i q [] l g e = absurd (never p e)
    where
      never : (r : List ℕ) → a ∷ [] ≡ x ∷ (r ++ (i ∷ q)) → ⊥
      never [] f = let z : ◌≡◌ {A = ℕ} 0 1 = cc in omega arith
      never (y ∷ r) f = let z : ◌≡◌ {A = ℕ} 0 1 = cc in omega arith
  part-way (x ∷ p) a i q (b ∷ rest) l g e =
      let h : b ∷ rest ≡ p ++ (i ∷ q) = cc in
      let s = leads a b (op_of (code a)) in
      part-way p b i q rest (next-inside a b (op_of (code a)) l refl (and_left s (goes_on code b rest) g)) (and_right s (goes_on code b rest) g) h

way-part : (own n : ℕ) (code : Code) → Valid own n code → (path p : List ℕ) (i : ℕ) (q : List ℕ) → IsWay code path → path ≡ p ++ (i ∷ q)
    → (i < n) × (goes_on code i q ≡ true)
way-part own n code v [] p i q w e = absurd w
way-part own n code v (a ∷ rest) p i q (z, g) e =
    let c = v.least in
    part-way own n code v p a i q rest (omega arith) g e

-- a way lies between
pub way-between : (own : ℕ) (ws path : List ℕ) → passes (check own (length ws) (code_of ws)) ≡ true → IsWay (code_of ws) path → Between ws path
unfolding WaysBetween
way-between own ws path h w =
    let n = length ws in
    let v = passed-valid own n (code_of ws) (passed_is (check own n (code_of ws)) h) in
    record {
      way = w;
      least = λ p i q e. let (l, g) = way-part own n (code_of ws) v path p i q w e in (ways-between own n (code_of ws) h i q l g).0;
      greatest = λ p i q e. let (l, g) = way-part own n (code_of ws) v path p i q w e in (ways-between own n (code_of ws) h i q l g).1;
    }

-- ---- the reference machine

module _ (mark n D d : ℕ) where
  -- each of a worker's sections passes the check
  pub admits-at :
      (gs : List Given) (k : ℕ) → admissible mark n D gs ≡ true → k < length (of_worker d gs)
      → let ws = (get_or (of_worker d gs) k nothing).code in passes (check n (length ws) (code_of ws)) ≡ true
  admits-at [] k h l = absurd (omega arith)
  admits-at (g ∷ gs) k h l = by (eqb g.worker d) k l (admits-at gs)
    where
      rest : admissible mark n D gs ≡ true
      rest = and_right
          (ltb g.worker D && eqb (length g.args) 8 && are_words g.args && are_words g.code && passes (check n (length g.code) (code_of g.code)))
          (admissible mark n D gs) h

      fits : passes (check n (length g.code) (code_of g.code)) ≡ true
      fits = and_right (ltb g.worker D && eqb (length g.args) 8 && are_words g.args && are_words g.code)
          (passes (check n (length g.code) (code_of g.code)))
          (and_left
          (ltb g.worker D && eqb (length g.args) 8 && are_words g.args && are_words g.code && passes (check n (length g.code) (code_of g.code)))
          (admissible mark n D gs) h)

      by :
          (b : Bool) (i : ℕ) → i < length (cond b (g ∷ of_worker d gs) (of_worker d gs))
          → ((m : ℕ) → admissible mark n D gs ≡ true → m < length (of_worker d gs)
          → let ws = (get_or (of_worker d gs) m nothing).code in passes (check n (length ws) (code_of ws)) ≡ true)
          → let ws = (get_or (cond b (g ∷ of_worker d gs) (of_worker d gs)) i nothing).code in passes (check n (length ws) (code_of ws)) ≡ true
      by true zero m f = fits
      by true (suc i) m f = f i rest (omega arith)
      by false i m f = f i rest m

pub paths-between : (mark n : ℕ) → PathsBetween mark n
unfolding PathsBetween
paths-between mark n D cells gs a order s f d l k h =
    let w = paths-ways n D cells gs order s f d l k h in
    way-between n (get_or (of_worker d gs) k nothing).code _ (admits-at mark n D d gs k a w.0) w.1

-- ---- a section that is over

-- the path around a step of it
around : (s : ℕ) (path : List ℕ) → among s path ≡ true → (p : List ℕ) × (path ≡ p ++ (s ∷ after_step s path))
around s [] h = absurd (false≢true h)
around s (x ∷ xs) h = by (eqb x s) refl h (around s xs)
  where
    by :
        (b : Bool) → eqb x s ≡ b → (b || among s xs) ≡ true → (among s xs ≡ true → (p : List ℕ) × (xs ≡ p ++ (s ∷ after_step s xs)))
        → (p : List ℕ) × (x ∷ xs ≡ p ++ (s ∷ cond b xs (after_step s xs)))
    by true e k f = ([], ap (λ (y : ℕ). y ∷ xs) (eqb-true x s e))
    by false e k f = let (p, q) = f k in (x ∷ p, ap (λ (l : List ℕ). x ∷ l) q)

-- behind a step that is logged comes the next
next-step : (s k : ℕ) (x : Op) → is_logged x ≡ true → leads s k x ≡ true → k ≡ suc s
next-step s k (Acquire a) l h = eqb-true k (suc s) h
next-step s k (Release a) l h = eqb-true k (suc s) h
next-step s k (Assign a e) l h = eqb-true k (suc s) h
next-step s k (Jump a b) l h = absurd (false≢true l)
next-step s k Finish l h = absurd (false≢true l)
next-step s k Unknown l h = absurd (false≢true l)

no_end : (x : Op) → is_logged x ≡ true → is_finish x ≡ true → ⊥
no_end (Acquire a) l f = false≢true f
no_end (Release a) l f = false≢true f
no_end (Assign a e) l f = false≢true f
no_end (Jump a b) l f = false≢true f
no_end Finish l f = false≢true l
no_end Unknown l f = false≢true f

behind-step : (code : Code) (s : ℕ) (q : List ℕ) → is_logged (op_of (code s)) ≡ true → goes_on code s q ≡ true → (r : List ℕ) × (q ≡ suc s ∷ r)
unfolding goes_on
behind-step code s [] l g = absurd (no_end (op_of (code s)) l g)
behind-step code s (k ∷ r) l g =
    let a = leads s k (op_of (code s)) in
    (r, ap (λ (y : ℕ). y ∷ r) (next-step s k (op_of (code s)) l (and_left a (goes_on code k r) g)))

module _ (own : ℕ) (ws : List ℕ) (passed : passes (check own (length ws) (code_of ws)) ≡ true) (path : List ℕ) (B : Between ws path) where
  bounds : (b : Start) → StartsOn (code_of ws) b path
      → (bound_by lesser ws b ≤ needed (code_of ws) b path) × (needed (code_of ws) b path ≤ bound_by larger ws b)
  bounds first c = by path refl B.way
    where
      by : (p : List ℕ) → path ≡ p → IsWay (code_of ws) p
          → (needs_by lesser (length ws) (code_of ws) 0 ≤ turns_along (code_of ws) path)
          × (turns_along (code_of ws) path ≤ needs_by larger (length ws) (code_of ws) 0)
      by [] e w = absurd w
      by (i ∷ q) e (z, g) = let f : path ≡ [] ++ (0 ∷ q) = e ∙ ap (λ (y : ℕ). y ∷ q) z in rw f (B.least [] 0 q f, B.greatest [] 0 q f)
  bounds (resumed s) (h, l) =
      let code = code_of ws in
      let v = passed-valid own (length ws) code (passed_is (check own (length ws) code) passed) in
      let (p, e) = around s path h in
      let (i, g) = way-part own (length ws) code v path p s (after_step s path) B.way e in
      let (r, f) = behind-step code s (after_step s path) l g in
      let split : path ≡ (p ++ (s ∷ [])) ++ (suc s ∷ r) = e ∙ (ap (λ (y : List ℕ). p ++ (s ∷ y)) f ∙ sym (append_assoc p (s ∷ []) (suc s ∷ r))) in
      let least = B.least (p ++ (s ∷ [])) (suc s) r split in
      let greatest = B.greatest (p ++ (s ∷ [])) (suc s) r split in
      rw f (omega arith, omega arith)

pub turns-between : (mark n : ℕ) → 8 ≤ n → n ≤ 64 → TurnsBetween mark n
unfolding TurnsBetween PathsBetween
turns-between mark n wide narrow m rest xs h l d dl =
    let D = workers m in
    let cells = cells_of m in
    let w = after mark n m xs in
    let k = kept-list mark n wide narrow m rest (Spanning mark n D cells) (Moored mark n D cells) (spanning-keeps mark n D cells wide)
    (rested-spanning mark n wide narrow m rest) xs h l in
    let good = admitted-list mark n wide narrow m rest xs h l in
    all_map _ InBounds (passage_of d w.trace.events).spans
    (λ x t.
    let (below, its, ended, turns, starts) = t in
    let B = paths-between mark n D cells w.trace.begun good w.trace.order k.0.reached.state k.0.reached.followed d dl x.which ended in
    let passed = admits-at mark n D d w.trace.begun x.which good below in
    rw turns (bounds n x.section.code (rw its at passed) _ (rw its at B) x.start starts))
    (k.1 d dl).spans
