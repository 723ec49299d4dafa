-- Demand 2, second half: every order that the reference machine follows to its end is had. From an image at rest, level with
-- the machine's start, each entry of the order has a block of calls that leaves the world level with the machine's next state;
-- so the cells are the machine's after every block, and the workers stand where it says (`Meets`). In the end no section is
-- left, so that all workers are idle and the sections taken are those given, under the numbers that waited for them.
use Prim.Native.Nat.{ℕ, suc, zero, ◌+◌, ◌^◌, ◌<◌, ◌≤◌}
use mathlib.Core.Path.{◌≡◌, refl, ap, subst, ◌∙◌, sym}
use mathlib.Core.Logic.{inl, inr}
use mathlib.Core.Bool.{true, false≢true}
use mathlib.Core.Option.{Option, some, none}
use mathlib.Core.List.{List, [], ◌∷◌, ◌++◌, map, append-nil}
use lib.ListN.{length, get_or, take}
use lib.Seq.{ext_get_or}
use native.Mathlib.Omega.{arith}
use Rattle.base.proofs.Bools.{and_left, and_right, and_both}
use Rattle.image.specs.declared.Field.TheVariants.{Finished}
use Rattle.image.specs.Place.{field}
use Rattle.image.specs.Image.{Image, at, workers, cells_of}
use Rattle.image.proofs.Header.{header-sized}
use Rattle.image.proofs.Cells.{cells-length, cells_at}
use Rattle.working.specs.Cursor.{idle, cursor_at}
use Rattle.claims.specs.Reference.{Job, State, Given, start, advance, follow, none_left, initial}
use Rattle.claims.specs.Calls.{Traced, Move, play, from, callable, of_move, machine}
use Rattle.claims.specs.Claims.{EveryOrderHad, concat, of_worker, numbered, calls_of, cursor_of, Rested, Had, admissible}
use Rattle.told.proofs.OrderLevel.{Stand, Even, AllBegun, even-stands}
use Rattle.told.proofs.OrderBlock.{idle-begun}
use Rattle.told.proofs.OrderSubmit.{Able}
use Rattle.told.proofs.OrderStep.{some_same, none-some}
use Rattle.told.proofs.OrderEntry.{EntryHad, entry}
use Rattle.told.proofs.OrderFeed.{rested-even, admitted-able, numbered-able}
use Rattle.claims.proofs.Cursors.{idle-at}
use Rattle.claims.proofs.Moves.{play-append}
use Rattle.claims.proofs.Machine.{follow-first}

-- ---- one list after the other

pub machine-append : (xs ys : List Move) → machine xs ≡ true → machine ys ≡ true → machine (xs ++ ys) ≡ true
unfolding machine
machine-append [] ys p q = q
machine-append (x ∷ xs) ys p q =
    and_both (callable (of_move x)) (machine (xs ++ ys)) (and_left (callable (of_move x)) (machine xs) p)
    (machine-append xs ys (and_right (callable (of_move x)) (machine xs) p) q)

play-nil : (mark n : ℕ) (w : Traced) → play mark n [] w ≡ w
unfolding play
play-nil mark n w = refl

machine-nil : machine [] ≡ true
unfolding machine
machine-nil = refl

follow-nil : (s t : State) → follow s [] ≡ some t → s ≡ t
unfolding follow
follow-nil s t e = some_same e

follow-stuck : (s t : State) (d : ℕ) (ds : List ℕ) → advance s d ≡ none → follow s (d ∷ ds) ≡ some t → ⊥
unfolding follow
follow-stuck s t d ds e h = none-some (rw e at h)

-- a world level with a state has its cells
even-cells : (mark n D : ℕ) (w : Traced) (s : State) (gs : ℕ → List Given) → Even mark n D w s gs → cells_of w.world.image ≡ s.cells
even-cells mark n D w s gs E =
    let z = header-sized mark n w.world.image E.header in
    let c = cells-length n (workers w.world.image) w.world.image z in
    ext_get_or 0 (cells_of w.world.image) s.cells (c ∙ sym E.level.size)
    (λ x h. let l : x < 512 = omega arith in cells_at n w.world.image x l ∙ sym (E.level.cells x l))

-- what is claimed of a world and of the machine's state, between the blocks
record Meets (D : ℕ) (w : Traced) (s : State) : Type 0 where
  cells : cells_of w.world.image ≡ s.cells
  cursors : (d : ℕ) → d < D → cursor_at w.world.cursors d ≡ cursor_of (get_or s.queues d [])

even-meets : (mark n D : ℕ) (w : Traced) (s t : State) (gs : ℕ → List Given) → Even mark n D w s gs → AllBegun w → s ≡ t → Meets D w t
even-meets mark n D w s t gs E begun e =
    subst (Meets D w) e (record { cells = even-cells mark n D w s gs E; cursors = even-stands mark n D w s gs E begun })

-- ---- the blocks of an order

module _ (mark n D : ℕ) (least : 8 ≤ n) (most : n ≤ 64) (final : State) where
  record Blocks (w : Traced) (s : State) (gs : ℕ → List Given) (order : List ℕ) : Type 0 where
    blocks : List (List Move)
    one_each : length blocks ≡ length order
    by-worker : (i : ℕ) → i < length order → calls_of (get_or order i 0) (get_or blocks i []) ≡ true
    words : machine (concat blocks) ≡ true
    follows : (i : ℕ) → i ≤ length order → (t : State) → follow s (take i order) ≡ some t → Meets D (play mark n (concat (take i blocks)) w) t
    rests : ℕ → List Given
    even : Even mark n D (play mark n (concat blocks) w) final rests
    kept : (e : ℕ) → of_worker e (play mark n (concat blocks) w).trace.taken ++ rests e ≡ of_worker e w.trace.taken ++ gs e

  abbrev Has : List ℕ → Type 0
  Has order =
      (w : Traced) (s : State) (gs : ℕ → List Given) → Even mark n D w s gs → AllBegun w → ((e : ℕ) → e < D → Able n e (gs e)) → follow s order ≡ some final
      → Blocks w s gs order

  no_blocks : Has []
  no_blocks w s gs E begun able f =
      record {
        blocks = [];
        one_each = refl;
        by-worker = λ i l. absurd (omega arith);
        words = machine-nil;
        follows = here;
        rests = gs;
        even = rw (play-nil mark n w) (subst (λ (t : State). Even mark n D w t gs) (follow-nil s final f) E);
        kept = λ e. rw (play-nil mark n w);
      }
    where
      here : (i : ℕ) → i ≤ 0 → (t : State) → follow s (take i []) ≡ some t → Meets D (play mark n (concat (take i [])) w) t
      here zero l t h = rw (play-nil mark n w) (even-meets mark n D w s t gs E begun (follow-nil s t h))
      here (suc i) l t h = absurd (omega arith)

  -- a block, and those of the order behind its entry
  one_block :
      (d : ℕ) (ds : List ℕ) (w : Traced) (s t : State) (gs : ℕ → List Given) → Even mark n D w s gs → AllBegun w → advance s d ≡ some t
      → (en : EntryHad mark n D w d t gs)
      → Blocks (play mark n en.moves w) t en.rests ds → Blocks w s gs (d ∷ ds)
  one_block d ds w s t gs E begun a en B =
      let p = play-append mark n en.moves (concat B.blocks) w in
      record {
        blocks = en.moves ∷ B.blocks;
        one_each = ap suc B.one_each;
        by-worker = calls;
        words = machine-append en.moves (concat B.blocks) en.words B.words;
        follows = meets;
        rests = B.rests;
        even = rw p B.even;
        kept = λ e. rw p (B.kept e ∙ en.kept e);
      }
    where
      calls : (i : ℕ) → i < suc (length ds) → calls_of (get_or (d ∷ ds) i 0) (get_or (en.moves ∷ B.blocks) i []) ≡ true
      calls zero l = en.by-worker
      calls (suc i) l = B.by-worker i (omega arith)

      meets :
          (i : ℕ) → i ≤ suc (length ds) → (r : State) → follow s (take i (d ∷ ds)) ≡ some r
          → Meets D (play mark n (concat (take i (en.moves ∷ B.blocks))) w) r
      meets zero l r h = rw (play-nil mark n w) (even-meets mark n D w s r gs E begun (follow-nil s r h))
      meets (suc i) l r h =
          rw (play-append mark n en.moves (concat (take i B.blocks)) w)
          (B.follows i (omega arith) r (sym (follow-first s t d (take i ds) a) ∙ h))

  more-blocks : (d : ℕ) (ds : List ℕ) → Has ds → Has (d ∷ ds)
  more-blocks d ds more w s gs E begun able f = by (advance s d) refl
    where
      by : (o : Option State) → advance s d ≡ o → Blocks w s gs (d ∷ ds)
      by none a = absurd (follow-stuck s final d ds a f)
      by (some t) a =
          let en = entry mark n D w s t gs E able least most d a in
          one_block d ds w s t gs E begun a en
          (more (play mark n en.moves w) t en.rests en.even (en.begun begun) en.able (sym (follow-first s t d ds a) ∙ f))

  all_blocks : (order : List ℕ) → Has order
  all_blocks [] = no_blocks
  all_blocks (d ∷ ds) = more-blocks d ds (all_blocks ds)

-- ---- the end

none_left_lem : (qs : List (List Job)) → none_left qs ≡ true → (d : ℕ) → get_or qs d [] ≡ []
unfolding none_left
none_left_lem [] e d = refl
none_left_lem ([] ∷ qs) e zero = refl
none_left_lem ([] ∷ qs) e (suc d) = none_left_lem qs e d
none_left_lem ((j ∷ js) ∷ qs) e d = absurd (false≢true e)

no-map : (n : ℕ) (gs : List Given) → [] ≡ map (start n) gs → gs ≡ []
no-map n [] e = refl
no-map n (g ∷ gs) e = cc

-- a worker with an empty queue is idle, and no section of it waits
rest-idle : (mark n D : ℕ) (w : Traced) (s : State) (gs : ℕ → List Given) → Even mark n D w s gs → none_left s.queues ≡ true → (d : ℕ) → d < D
    → (cursor_at w.world.cursors d ≡ idle) × (gs d ≡ [])
rest-idle mark n D w s gs E e d l = by (E.level.stands d l)
  where
    by : Stand n (at n w.world.image) d (cursor_at w.world.cursors d) (get_or s.queues d []) (gs d)
        → (cursor_at w.world.cursors d ≡ idle) × (gs d ≡ [])
    by (inl i) = (i.cursor, no-map n (gs d) (sym (none_left_lem s.queues e d) ∙ i.queue))
    by (inr x) =
        let p : [] ≡ x.first ∷ map (start n) (gs d) = sym (none_left_lem s.queues e d) ∙ x.queue in
        let z : ◌≡◌ {A = ℕ} 0 1 = cc in
        absurd (omega arith)

-- what `EveryOrderHad` says
pub orders-had :
    (mark n : ℕ) → 8 ≤ n → n ≤ 64
    → (m : Image) → Rested mark n m → (gs : List Given) → admissible mark n (workers m) gs ≡ true
    → ((d : ℕ) → d < workers m → at n m (field Finished d) + length (of_worker d gs) < 2 ^ 64)
    → (order : List ℕ) (final : State) → follow (initial n (workers m) (cells_of m) gs) order ≡ some final → none_left final.queues ≡ true
    → Had mark n m gs order
orders-had mark n least most m rested gs admitted room order final followed ended =
    let D = workers m in
    let s = initial n D (cells_of m) gs in
    let waits : ℕ → List Given = λ d. numbered (at n m (field Finished d)) (of_worker d gs) in
    let able : (e : ℕ) → e < D → Able n e (waits e) =
    λ e l. numbered-able n e (at n m (field Finished e)) (of_worker e gs) (admitted-able mark n D e gs admitted)
    in
    let B = all_blocks mark n D least most final order (from m) s waits (rested-even mark n m gs rested room) (λ e. idle-begun _ (idle-at e)) able followed in
    let end = rest-idle mark n D (play mark n (concat B.blocks) (from m)) final B.rests B.even ended in
    record {
      blocks = B.blocks;
      one_each = B.one_each;
      by-worker = B.by-worker;
      words = B.words;
      follows = λ i l t h. (B.follows i l t h).cells;
      stands = λ i l t h. (B.follows i l t h).cursors;
      entered = λ d l. sym (append-nil (of_worker d (play mark n (concat B.blocks) (from m)).trace.taken)) ∙ (rw (end d l).1 at (B.kept d));
      rests = λ d l. (end d l).0;
    }

-- demand 2, second half
pub every-order-had : (mark n : ℕ) → 8 ≤ n → n ≤ 64 → EveryOrderHad mark n
unfolding EveryOrderHad
every-order-had mark n least most = orders-had mark n least most
