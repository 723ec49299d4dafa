-- The paths of the reference machine are ways through the sections: from the first step, each step leads to the next as its instruction allows, to
-- the finish (`paths-ways`). By induction on the order: the queue of a worker is the sections that it has not ended, the first of them under way.
use Prim.Native.Nat.{ℕ, suc, zero, ◌<◌}
use mathlib.Core.Path.{◌≡◌, refl, sym, ap, ◌∙◌}
use mathlib.Core.Bool.{Bool, true, ◌&&◌}
use mathlib.Core.List.{List, [], ◌∷◌, ◌++◌, map, append_assoc}
use mathlib.Core.Option.{some}
use native.Mathlib.Omega.{arith}
use native.Mathlib.Decide.{ℕ_discrete}
use lib.ListN.{length, get_or}
use borrow.Author.Tests.{eq-eqb, ne_eqb}
use Rattle.base.proofs.Bools.{and_left, and_right, and_both}
use Rattle.code.specs.Op.{op_of, is_finish}
use Rattle.section.specs.Check.{Code, code_of}
use Rattle.needs.specs.Ways.{leads, goes_on}
use Rattle.claims.specs.Reference.{Job, State, advance, follow, Given, start, initial}
use Rattle.claims.specs.Calls.{nothing}
use Rattle.claims.specs.Claims.{of_worker}
use Rattle.claims.proofs.Machine.{advance-length, initial-length}
use Rattle.claims.proofs.Feeding.{initial-at}
use Rattle.told.specs.Paths.{Paths, paths, gone, entered, walk, paths_of}
use Rattle.told.specs.Between.{IsWay}
use Rattle.told.proofs.Walking.{walk_none, walk-entry, followed-first, some-queue}
use Rattle.told.proofs.WalkTurn.{further-on, further-end}
use Rattle.told.proofs.Trodden.{Entry, on, off, advance-aside, advance-own}

-- ---- ways so far

-- these steps lead on from step i, and then to step k
unfoldable leads_to : Code → ℕ → List ℕ → ℕ → Bool
leads_to code i [] k = leads i k (op_of (code i))
leads_to code i (x ∷ u) k = leads i x (op_of (code i)) && leads_to code x u k

leads-more :
    (code : Code) (i : ℕ) (u : List ℕ) (k m : ℕ) → leads_to code i u k ≡ true → leads k m (op_of (code k)) ≡ true → leads_to code i (u ++ (k ∷ [])) m ≡ true
unfolding leads_to
leads-more code i [] k m h l = and_both _ _ h l
leads-more code i (x ∷ u) k m h l =
    let a = leads i x (op_of (code i)) in
    and_both a _ (and_left a (leads_to code x u k) h) (leads-more code x u k m (and_right a (leads_to code x u k) h) l)

leads-end : (code : Code) (i : ℕ) (u : List ℕ) (k : ℕ) → leads_to code i u k ≡ true → is_finish (op_of (code k)) ≡ true → goes_on code i (u ++ (k ∷ [])) ≡ true
unfolding leads_to goes_on
leads-end code i [] k h f = and_both _ _ h f
leads-end code i (x ∷ u) k h f =
    let a = leads i x (op_of (code i)) in
    and_both a _ (and_left a (leads_to code x u k) h) (leads-end code x u k (and_right a (leads_to code x u k) h) f)

leads_one : (code : Code) (i k : ℕ) → leads i k (op_of (code i)) ≡ true → leads_to code i [] k ≡ true
unfolding leads_to
leads_one code i k h = h

ends-one : (code : Code) (i : ℕ) → is_finish (op_of (code i)) ≡ true → goes_on code i [] ≡ true
unfolding goes_on
ends-one code i h = h

-- a path so far leads to step k
abbrev Onway : Code → List ℕ → ℕ → Type 0
Onway code [] k = k ≡ 0
Onway code (i ∷ u) k = (i ≡ 0) × (leads_to code i u k ≡ true)

onway-more : (code : Code) (u : List ℕ) (k m : ℕ) → Onway code u k → leads k m (op_of (code k)) ≡ true → Onway code (u ++ (k ∷ [])) m
onway-more code [] k m h l = (h, leads_one code k m l)
onway-more code (i ∷ u) k m (z, h) l = (z, leads-more code i u k m h l)

onway-end : (code : Code) (u : List ℕ) (k : ℕ) → Onway code u k → is_finish (op_of (code k)) ≡ true → IsWay code (u ++ (k ∷ []))
onway-end code [] k h f = (h, ends-one code k f)
onway-end code (i ∷ u) k (z, h) f = (z, leads-end code i u k h f)

-- ---- sections ended, and their paths

abbrev Trodden : List Given → List (List ℕ) → Type 0
Trodden [] [] = Unit {0}
Trodden [] (u ∷ us) = ⊥
Trodden (g ∷ gs) [] = ⊥
Trodden (g ∷ gs) (u ∷ us) = IsWay (code_of g.code) u × Trodden gs us

trodden-more :
    (gs : List Given) (us : List (List ℕ)) (g : Given) (u : List ℕ) → Trodden gs us → IsWay (code_of g.code) u
    → Trodden (gs ++ (g ∷ [])) (us ++ (u ∷ []))
trodden-more [] [] g u h k = (k, tt)
trodden-more [] (v ∷ us) g u h k = absurd h
trodden-more (f ∷ gs) [] g u h k = absurd h
trodden-more (f ∷ gs) (v ∷ us) g u (w, h) k = (w, trodden-more gs us g u h k)

trodden-at : (gs hs : List Given) (us : List (List ℕ)) (k : ℕ) → Trodden gs us → k < length us
    → (k < length (gs ++ hs)) × IsWay (code_of (get_or (gs ++ hs) k nothing).code) (get_or us k [])
trodden-at [] hs [] k h l = absurd (omega arith)
trodden-at [] hs (u ∷ us) k h l = absurd h
trodden-at (g ∷ gs) hs [] k h l = absurd h
trodden-at (g ∷ gs) hs (u ∷ us) zero (w, h) l = (omega arith, w)
trodden-at (g ∷ gs) hs (u ∷ us) (suc k) (w, h) l = let x = trodden-at gs hs us k h (omega arith) in (omega (arith, x.0), x.1)

-- ---- a worker's queue, its paths, and its sections

module _ (n : ℕ) where
  -- the sections that are left, the first of them under way with this path so far
  abbrev Here : List Given → List Job → List ℕ → Type 0
  Here [] q u = (q ≡ []) × (u ≡ [])
  Here (g ∷ gs) q u = (j : Job) × (q ≡ j ∷ map (start n) gs) × (j.code ≡ g.code) × Onway (code_of g.code) u j.next

  record Trod (mine : List Given) (q : List Job) (p : Paths) : Type 0 where
    done : List Given
    rest : List Given
    split : mine ≡ done ++ rest
    ways : Trodden done p.ended
    here : Here rest q p.under

  here-next : (gs : List Given) → Here gs (map (start n) gs) []
  here-next [] = (refl, refl)
  here-next (g ∷ gs) = (start n g, refl, refl, refl)

  -- its own entry
  own-entry :
      (mine : List Given) (j : Job) (js q : List Job) (p : Paths) → Entry j js q → Trod mine (j ∷ js) p → Trod mine q (gone p (j ∷ js))
  own-entry mine j js q p w x = by x.rest x.split x.here q w
    where
      by : (rest : List Given) → mine ≡ x.done ++ rest → Here rest (j ∷ js) p.under → (r : List Job) → Entry j js r → Trod mine r (gone p (j ∷ js))
      by [] s (h, u) r v = absurd (let z : ◌≡◌ {A = ℕ} 0 1 = cc in omega arith)
      by (g ∷ gs) s (k, e, c, o) _ (on m cm l f) =
          let a : j ≡ k = cc in
          let b : js ≡ map (start n) gs = cc in
          let code : j.code ≡ g.code = rw a c in
          let way : leads j.next m.next (op_of (code_of g.code j.next)) ≡ true = rw (← code) l in
          rw (further-on p j.next (op_of (get_or j.code j.next 0)) f)
          (record {
            done = x.done;
            rest = g ∷ gs;
            split = s;
            ways = x.ways;
            here = (m, ap (λ (y : List Job). m ∷ y) b, cm ∙ code, onway-more (code_of g.code) p.under j.next m.next (rw a o) way);
          })
      by (g ∷ gs) s (k, e, c, o) _ (off f) =
          let a : j ≡ k = cc in
          let b : js ≡ map (start n) gs = cc in
          let code : j.code ≡ g.code = rw a c in
          let end : is_finish (op_of (code_of g.code j.next)) ≡ true = rw (← code) f in
          rw (further-end p j.next (op_of (get_or j.code j.next 0)) f)
          (record {
            done = x.done ++ (g ∷ []);
            rest = gs;
            split = s ∙ sym (append_assoc x.done (g ∷ []) gs);
            ways = trodden-more x.done p.ended g (p.under ++ (j.next ∷ [])) x.ways (onway-end (code_of g.code) p.under j.next (rw a o) end);
            here = rw b (here-next gs);
          })

  entry-trod :
      (d : ℕ) (mine : List Given) (p : Paths) (s t : State) (e : ℕ) → d < length s.queues → advance s e ≡ some t → Trod mine (get_or s.queues d []) p
      → Trod mine (get_or t.queues d []) (entered d p s e)
  entry-trod d mine p s t e l a x = by (ℕ_discrete e d)
    where
      own : (q : List Job) → get_or s.queues d [] ≡ q → advance s d ≡ some t → Trod mine (get_or t.queues d []) (gone p q)
      own [] k b = absurd (some-queue s t d b k)
      own (j ∷ js) k b = own-entry mine j js (get_or t.queues d []) p (advance-own s t d l b j js k) (rw k at x)

      by : Dec (e ≡ d) → Trod mine (get_or t.queues d []) (entered d p s e)
      by (yes i) = rw (eq-eqb e d i) (own (get_or s.queues d []) refl (rw i at a))
      by (no i) = rw (ne_eqb e d i, advance-aside s e d (λ q. i (sym q)) t a) x

  walk-trod :
      (d : ℕ) (mine : List Given) (p : Paths) (s t : State) (xs : List ℕ) → d < length s.queues → follow s xs ≡ some t → Trod mine (get_or s.queues d []) p
      → (q : List Job) × Trod mine q (walk d p s xs)
  walk-trod d mine p s t [] l f x = rw (walk_none d p s) (get_or s.queues d [], x)
  walk-trod d mine p s t (e ∷ es) l f x =
      let (u, a, g) = followed-first s t e es f in
      rw (walk-entry d p s u e es a)
      (walk-trod d mine (entered d p s e) u t es (rw (advance-length s u e a) l) g (entry-trod d mine p s u e l a x))

-- from the initial state
pub paths-ways :
    (n D : ℕ) (cells : List ℕ) (gs : List Given) (order : List ℕ) (s : State) → follow (initial n D cells gs) order ≡ some s → (d : ℕ) → d < D → (k : ℕ)
    → k < length (paths_of d (initial n D cells gs) order).ended
    → (k < length (of_worker d gs)) × IsWay (code_of (get_or (of_worker d gs) k nothing).code) (get_or (paths_of d (initial n D cells gs) order).ended k [])
paths-ways n D cells gs order s f d l k h =
    let mine = of_worker d gs in
    let first : Trod n mine (get_or (initial n D cells gs).queues d []) (paths [] []) =
    record { done = []; rest = mine; split = refl; ways = tt; here = rw (initial-at n D cells gs d l) (here-next n mine) } in
    let x = (walk-trod n d mine (paths [] []) (initial n D cells gs) s order (rw (initial-length n D cells gs) l) f first).1 in
    rw x.split (trodden-at x.done x.rest (paths_of d (initial n D cells gs) order).ended k x.ways h)
