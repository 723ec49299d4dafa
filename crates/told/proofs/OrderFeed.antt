-- The start of an order: an image at rest is level with the reference machine fed some sections, all of them waiting
-- (`rested-even`), since the machine has in each worker's queue those of that worker and holds nothing; they bear the numbers
-- behind the worker's finished one, of which the machine reads none. Sections that the check admits can be submitted
-- (`admitted-able`), also under other numbers (`numbered-able`), by induction on the list.
use Prim.Native.Nat.{ℕ, suc, ◌+◌, ◌^◌, ◌<◌}
use mathlib.Core.Path.{◌≡◌, refl, ap, ◌∙◌, sym}
use mathlib.Core.Logic.{inl}
use mathlib.Core.Bool.{Bool, true, false, cond, ◌&&◌, true≢false, and-eq-true_iff}
use mathlib.Core.List.{List, [], ◌∷◌, map}
use lib.ListN.{length, get_or, get_or-eq_default}
use lib.Dec.{eqb, ltb}
use borrow.Author.Tests.{eqb-true}
use native.Mathlib.Omega.{arith}
use native.Mathlib.Decide.{dec_lt}
use Rattle.mask.specs.Mask.{has}
use Rattle.mask.proofs.Laws.{has-none}
use Rattle.image.specs.declared.Field.TheVariants.{Finished}
use Rattle.image.specs.Place.{field}
use Rattle.image.specs.Image.{Image, at, workers, cells_of}
use Rattle.image.proofs.Header.{header-sized}
use Rattle.image.proofs.Cells.{cells-length, cells_at}
use Rattle.section.specs.Check.{code_of, check, passes}
use Rattle.section.proofs.Passing.{passed_is}
use Rattle.claims.specs.Reference.{Job, Given, given, start, initial}
use Rattle.claims.specs.Calls.{from, are_words}
use Rattle.claims.specs.Claims.{of_worker, numbered, Rested, admissible}
use Rattle.told.proofs.OrderLevel.{held_of, helds_of, Even}
use Rattle.told.proofs.OrderBlock.{waiting-held}
use Rattle.told.proofs.OrderSubmit.{Able}
use Rattle.claims.proofs.Cursors.{idle-at, full-idle}
use Rattle.claims.proofs.Feeding.{initial-cells, initial-at}
use Rattle.claims.proofs.Machine.{initial-length}

-- ---- before the order

-- nothing is held
initial-held : (n D : ℕ) (cells : List ℕ) (gs : List Given) (d : ℕ) → helds_of (initial n D cells gs).queues d ≡ 0
initial-held n D cells gs d = by (dec_lt d D)
  where
    by : Dec (d < D) → helds_of (initial n D cells gs).queues d ≡ 0
    by (yes l) = ap held_of (initial-at n D cells gs d l) ∙ waiting-held n (of_worker d gs)
    by (no l) = let m = initial-length n D cells gs in ap held_of (get_or-eq_default (initial n D cells gs).queues [] (omega arith))

-- ---- sections that are admitted

private-six : (a b c d e f : Bool) → (a && b && c && d && e && f) ≡ true → (b ≡ true) × (c ≡ true) × (d ≡ true) × (e ≡ true) × (f ≡ true)
private-six a b c d e f h =
    let p = (and-eq-true_iff (a && b && c && d && e) f).0 h in
    let q = (and-eq-true_iff (a && b && c && d) e).0 p.0 in
    let r = (and-eq-true_iff (a && b && c) d).0 q.0 in
    let s = (and-eq-true_iff (a && b) c).0 r.0 in
    let t = (and-eq-true_iff a b).0 s.0 in
    (t.1, s.1, r.1, q.1, p.1)

pub admitted-able : (mark n D d : ℕ) (gs : List Given) → admissible mark n D gs ≡ true → Able n d (of_worker d gs)
admitted-able mark n D d [] h = tt
admitted-able mark n D d (g ∷ gs) h = by (admitted-able mark n D d gs) (eqb g.worker d) refl
  where
    tests : (eqb (length g.args) 8 ≡ true) × (are_words g.args ≡ true) × (are_words g.code ≡ true) ×
        (passes (check n (length g.code) (code_of g.code)) ≡ true) × (admissible mark n D gs ≡ true)
    tests =
        private-six (ltb g.worker D) (eqb (length g.args) 8) (are_words g.args) (are_words g.code)
        (passes (check n (length g.code) (code_of g.code))) (admissible mark n D gs) h

    by : (admissible mark n D gs ≡ true → Able n d (of_worker d gs)) → (b : Bool) → eqb g.worker d ≡ b → Able n d (cond b (g ∷ of_worker d gs) (of_worker d gs))
    by more true e =
        let t = tests in (
          record {
            by = eqb-true g.worker d e;
            eight = eqb-true (length g.args) 8 t.0;
            arg-words = t.1;
            code-words = t.2;
            passed = passed_is
                (check n (length g.code) (code_of g.code)) t.3;
          },
          more t.4,
        )
    by more false e = more tests.4

-- ---- sections under the numbers that follow k: the machine starts them alike, and they can be submitted as before

numbered-starts : (n k : ℕ) (gs : List Given) → map (start n) (numbered k gs) ≡ map (start n) gs
numbered-starts n k [] = refl
numbered-starts n k (g ∷ gs) = ap (λ (js : List Job). start n g ∷ js) (numbered-starts n (k + 1) gs)

numbered-length : (k : ℕ) (gs : List Given) → length (numbered k gs) ≡ length gs
numbered-length k [] = refl
numbered-length k (g ∷ gs) = ap suc (numbered-length (k + 1) gs)

numbered-twice : (k : ℕ) (gs : List Given) → numbered k (numbered k gs) ≡ numbered k gs
numbered-twice k [] = refl
numbered-twice k (g ∷ gs) = ap (λ (hs : List Given). given g.worker (k + 1) g.args g.code ∷ hs) (numbered-twice (k + 1) gs)

pub numbered-able : (n d k : ℕ) (gs : List Given) → Able n d gs → Able n d (numbered k gs)
numbered-able n d k [] a = tt
numbered-able n d k (g ∷ gs) a =
    let f = a.0 in
    (record { by = f.by; eight = f.eight; arg-words = f.arg-words; code-words = f.code-words; passed = f.passed }, numbered-able n d (k + 1) gs a.1)

-- ---- all idle

pub rested-even :
    (mark n : ℕ) (m : Image) (gs : List Given) → Rested mark n m → ((d : ℕ) → d < workers m → at n m (field Finished d) + length (of_worker d gs) < 2 ^ 64)
    → Even mark n (workers m) (from m) (initial n (workers m) (cells_of m) gs) (λ (d : ℕ). numbered (at n m (field Finished d)) (of_worker d gs))
rested-even mark n m gs r room =
    let s = initial n (workers m) (cells_of m) gs in
    let z = header-sized mark n m r.header in
    record {
      header = r.header;
      many = refl;
      full = full-idle;
      level = record {
        stands = λ d l. inl (record {
          cursor = idle-at d;
          queue = initial-at n (workers m) (cells_of m) gs d l ∙ sym (numbered-starts n (at n m (field Finished d)) (of_worker d gs));
          count = (r.empty d l).0;
          pc = (r.empty d l).1;
          intent = (r.empty d l).2;
          owned = (r.empty d l).3;
          numbers = sym (numbered-twice (at n m (field Finished d)) (of_worker d gs));
          room = rw (numbered-length (at n m (field Finished d)) (of_worker d gs)) (room d l);
        });
        owning = record {
          locked = λ b d l p h. absurd (true≢false (sym h ∙ (ap (λ (x : ℕ). has x b) (initial-held n (workers m) (cells_of m) gs d) ∙ has-none b)));
          owner = λ b d l h. absurd (let f = r.free b l in omega arith);
        };
        size = ap length (initial-cells n (workers m) (cells_of m) gs) ∙ cells-length n (workers m) m z;
        cells = λ x l. ap (λ (c : List ℕ). get_or c x 0) (initial-cells n (workers m) (cells_of m) gs) ∙ cells_at n m x l;
        many = initial-length n (workers m) (cells_of m) gs;
      };
    }
