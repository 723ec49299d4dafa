-- The machine fed a list of sections depends, for each worker, on that worker's sections alone: how the sections of several
-- workers stand among each other in the list does not matter. By induction on the list, each queue is that worker's sections.
use Prim.Native.Nat.{ℕ, ◌<◌}
use mathlib.Core.Path.{◌≡◌, refl, ap, sym, ◌∙◌}
use mathlib.Core.Logic.{◌≢◌}
use mathlib.Core.List.{List, [], ◌∷◌, ◌++◌, map, append-nil, append_assoc}
use mathlib.Core.Bool.{Bool, true, false, cond}
use native.Mathlib.Decide.{ℕ_discrete}
use lib.ListN.{length, get_or, replicate, length-replicate, get_or-replicate}
use lib.Seq.{get_or-set_same, get_or-set_other, ext_get_or}
use lib.Dec.{eqb}
use borrow.Author.Tests.{ne_eqb, eq-eqb}
use Rattle.claims.specs.Reference.{Job, State, state, Given, start, enqueue, feed, initial}
use Rattle.claims.specs.Claims.{of_worker}
use Rattle.claims.proofs.Machine.{enqueue-length, initial-length}

-- ---- the sections of one worker

pub of-append : (d : ℕ) (gs hs : List Given) → of_worker d (gs ++ hs) ≡ of_worker d gs ++ of_worker d hs
of-append d [] hs = refl
of-append d (g ∷ gs) hs = by (eqb g.worker d) (of-append d gs hs)
  where
    by : (b : Bool) → of_worker d (gs ++ hs) ≡ of_worker d gs ++ of_worker d hs
        → cond b (g ∷ of_worker d (gs ++ hs)) (of_worker d (gs ++ hs)) ≡ cond b (g ∷ of_worker d gs) (of_worker d gs) ++ of_worker d hs
    by true e = ap (λ (l : List Given). g ∷ l) e
    by false e = e

-- with one more section, its own worker's and any other's
pub of-snoc-same : (d : ℕ) (gs : List Given) (g : Given) → g.worker ≡ d → of_worker d (gs ++ (g ∷ [])) ≡ of_worker d gs ++ (g ∷ [])
of-snoc-same d gs g e = of-append d gs (g ∷ []) ∙ rw (eq-eqb g.worker d e)

pub of-snoc-other : (d : ℕ) (gs : List Given) (g : Given) → g.worker ≢ d → of_worker d (gs ++ (g ∷ [])) ≡ of_worker d gs
of-snoc-other d gs g e = of-append d gs (g ∷ []) ∙ rw (ne_eqb g.worker d e) (append-nil (of_worker d gs))

-- ---- the queues

feed-cells : (n : ℕ) (s : State) (gs : List Given) → (feed n s gs).cells ≡ s.cells
unfolding feed
feed-cells n s [] = refl
feed-cells n s (g ∷ gs) = feed-cells n (enqueue n s g) gs

-- worker d's queue with one section more
enqueue-at :
    (n : ℕ) (s : State) (g : Given) (d : ℕ) → d < length s.queues
    → (more : List Job) → get_or (enqueue n s g).queues d [] ++ more ≡ get_or s.queues d [] ++ cond (eqb g.worker d) (start n g ∷ more) more
enqueue-at n s g d l more = by (ℕ_discrete d g.worker)
  where
    by : Dec (d ≡ g.worker) → get_or (enqueue n s g).queues d [] ++ more ≡ get_or s.queues d [] ++ cond (eqb g.worker d) (start n g ∷ more) more
    by (yes e) =
        let k : g.worker < length s.queues = rw (← e) l in
        rw (eq-eqb g.worker d (sym e), e, get_or-set_same s.queues g.worker (get_or s.queues g.worker [] ++ (start n g ∷ [])) [] k)
        (append_assoc (get_or s.queues g.worker []) (start n g ∷ []) more)
    by (no e) =
        rw (ne_eqb g.worker d (λ i. e (sym i)), get_or-set_other s.queues g.worker d (get_or s.queues g.worker [] ++ (start n g ∷ [])) [] e)

map-cond : (n d : ℕ) (g : Given) (gs : List Given)
    → map (start n) (of_worker d (g ∷ gs)) ≡ cond (eqb g.worker d) (start n g ∷ map (start n) (of_worker d gs)) (map (start n) (of_worker d gs))
map-cond n d g gs = by (eqb g.worker d)
  where
    by : (b : Bool)
        → map (start n) (cond b (g ∷ of_worker d gs) (of_worker d gs)) ≡ cond b (start n g ∷ map (start n) (of_worker d gs)) (map (start n) (of_worker d gs))
    by true = refl
    by false = refl

feed-at : (n : ℕ) (s : State) (gs : List Given) (d : ℕ) → d < length s.queues
    → get_or (feed n s gs).queues d [] ≡ get_or s.queues d [] ++ map (start n) (of_worker d gs)
unfolding feed
feed-at n s [] d l = sym (append-nil (get_or s.queues d []))
feed-at n s (g ∷ gs) d l =
    let k : d < length (enqueue n s g).queues = rw (enqueue-length n s g) l in
    feed-at n (enqueue n s g) gs d k
    ∙ (enqueue-at n s g d l (map (start n) (of_worker d gs)) ∙ ap (λ (q : List Job). get_or s.queues d [] ++ q) (sym (map-cond n d g gs)))

pub initial-cells : (n D : ℕ) (cells : List ℕ) (gs : List Given) → (initial n D cells gs).cells ≡ cells
unfolding initial
initial-cells n D cells gs = feed-cells n (state cells (replicate D [])) gs

-- a worker's queue is its sections, as they were submitted
pub initial-at : (n D : ℕ) (cells : List ℕ) (gs : List Given) (d : ℕ) → d < D → get_or (initial n D cells gs).queues d [] ≡ map (start n) (of_worker d gs)
unfolding initial
initial-at n D cells gs d l =
    let k : d < length (state cells (replicate D [])).queues = rw (length-replicate {A = List Job} D []) l in
    feed-at n (state cells (replicate D [])) gs d k ∙ rw (get_or-replicate {A = List Job} D d [] [] l)

-- the same sections for each worker: the same machine
pub initial-same :
    (n D : ℕ) (cells : List ℕ) (gs hs : List Given) → ((d : ℕ) → d < D → of_worker d gs ≡ of_worker d hs) → initial n D cells gs ≡ initial n D cells hs
initial-same n D cells gs hs same =
    let queues : (initial n D cells gs).queues ≡ (initial n D cells hs).queues =
    ext_get_or [] (initial n D cells gs).queues (initial n D cells hs).queues (initial-length n D cells gs ∙ sym (initial-length n D cells hs))
    (λ d l.
    let k : d < D = rw (initial-length n D cells gs) at l in
    initial-at n D cells gs d k ∙ (ap (map (start n)) (same d k) ∙ sym (initial-at n D cells hs d k)))
    in
    let at_first : initial n D cells gs ≡ state cells (initial n D cells gs).queues = ap (λ (c : List ℕ). state c (initial n D cells gs).queues)
    (initial-cells n D cells gs) in
    let at_last : initial n D cells hs ≡ state cells (initial n D cells hs).queues = ap (λ (c : List ℕ). state c (initial n D cells hs).queues)
    (initial-cells n D cells hs) in
    at_first ∙ (ap (state cells) queues ∙ sym at_last)
