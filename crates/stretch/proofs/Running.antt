-- A worker within an instruction: its turns are ready and are that instruction's, and stay so through every store that is at no count and no instruction
-- word (`running-store`). So one turn after another is a turn of the instruction (`makes`).
use Prim.Native.Nat.{ℕ, suc, ◌+◌, ◌<◌}
use mathlib.Core.Path.{◌≡◌, refl, ap, subst, ◌∙◌}
use mathlib.Core.Bool.{true}
use native.Mathlib.Omega.{arith}
use lib.ListN.{length}
use borrow.Author.Tests.{lt-ltb}
use Rattle.image.specs.declared.Field.{Field}
use Rattle.image.specs.Place.{Place, field, step}
use Rattle.image.specs.Image.{Image, index_of, at, put, workers}
use Rattle.image.specs.Inner.Inside.{Inside}
use Rattle.image.proofs.Header.{Sized, sized_inside}
use Rattle.image.proofs.Stores.{sized-store, inside-lt}
use Rattle.code.specs.declared.Op.{Op}
use Rattle.code.specs.declared.Op.TheVariants.{Acquire, Release}
use Rattle.code.specs.Op.{op_of}
use Rattle.code.specs.Inner.Fits.{fits}
use Rattle.code.proofs.Ranges.{op_turns, turns-op}
use Rattle.tally.specs.declared.Tally.{Tally}
use Rattle.working.specs.Cursor.{on}
use Rattle.worklog.specs.Log.{code_in}
use Rattle.plan.specs.Turn.{Outcome, op_turn, ready, turn_at}
use Rattle.plan.proofs.Planned.{ready-says, ready-turn}
use Rattle.plan.proofs.Quiet.{Spares, at_other, quiet-ready}
use Rattle.stretch.specs.Inner.Single.{Single, single, after, Turns, none, then}
use Rattle.stretch.specs.Inner.Whole.{Fetched}

-- so many turns that stored a word each, counted at once
abbrev pub with_stores : ℕ → Tally → Tally
with_stores k t = record { turns = t.turns + k; waits = t.waits; stores = t.stores + k; free = t.free; others = t.others }

-- worker d of D at step s, with instruction x there; n: own words in a record
pub record Running (D n d s : ℕ) (x : Op) (m : Image) : Type 0 where
  pub size : Sized n D m
  pub turns : (t : ℕ) → t < op_turns x → ready n (at n m) d s t ≡ true
  pub op : op_of (code_in n (at n m) d s) ≡ x

pub running : (n d s : ℕ) (m : Image) (x : Op) → Fetched n d s m x → Running (workers m) n d s x m
running n d s m x f =
    record {
      size = record { size = f.inside.whole; has = refl };
      turns = λ t h. ready-turn n (at n m) d s 0 t f.ready (rw (turns-op (code_in n (at n m) d s) x f.op) h);
      op = f.op;
    }

-- what its instruction and its step are
pub fetched_fits : (n d s : ℕ) (m : Image) (x : Op) → Fetched n d s m x → fits n x
fetched_fits n d s m x f = rw f.op at (ready-says n (at n m) d s 0 f.ready).form

pub fetched_acquire : (n d s a : ℕ) (m : Image) → Fetched n d s m (Acquire a) → a < 64
fetched_acquire n d s a m f = fetched_fits n d s m (Acquire a) f

pub fetched_release : (n d s a : ℕ) (m : Image) → Fetched n d s m (Release a) → a < 64
fetched_release n d s a m f = fetched_fits n d s m (Release a) f

pub fetched_step : (n d s : ℕ) (m : Image) (x : Op) → Fetched n d s m x → s < 64
fetched_step n d s m x f = (ready-says n (at n m) d s 0 f.ready).step

module _ (D n d s : ℕ) (x : Op) (m : Image) (r : Running D n d s x m) where
  pub running-store : (left : ℕ) (p : Place) (v : ℕ) → Spares D n p → Running D n d s x (put left m (index_of n p) v)
  running-store left p v q =
      record {
        size = sized-store n D left m p v r.size;
        turns = λ t h. quiet-ready D n left m r.size p v d s t q ∙ r.turns t h;
        op = ap op_of (at_other D n left m r.size p (step d s) v q.there (q.steps d s)) ∙ r.op;
      }

  turn_is : (t : ℕ) → t < op_turns x → turn_at n (at n m) d (on s t) ≡ op_turn n (at n m) d s t x
  unfolding turn_at
  turn_is t h = rw (r.turns t h, r.op)

  pub makes : (k t : ℕ) {b : Single} (left h : ℕ) (y : Tally) (o : Outcome) → t < op_turns x → op_turn n (at n m) d s t x ≡ o
      → Turns n d k (after n (single m left s t h y) o) b → Turns n d (suc k) (single m left s t h y) b
  makes k t {b} left h y o l e more = then k (single m left s t h y) b (r.turns t l) (rw (turn_is t l, e) more)

-- ---- the image keeps its size

pub inside_store : (n d : ℕ) (m : Image) (left : ℕ) (p : Place) (v : ℕ) → Inside n m d → Inside n (put left m (index_of n p) v) d
inside_store n d m left p v w =
    let z = sized-store n (workers m) left m p v (record { size = w.whole; has = refl }) in
    sized_inside n (workers m) (put left m (index_of n p) v) d w.few z w.most w.below

-- a record's field is a word of the image
pub field_lt : (n d : ℕ) (m : Image) (f : Field) {i : ℕ} → Inside n m d → i ≡ index_of n (field f d) → i < length m
field_lt n d m f w e = inside-lt n m d (field f d) w (lt-ltb d (workers m) w.below) e

pub stores-more : (j k : ℕ) (y : Tally) → with_stores k (with_stores j y) ≡ with_stores (j + k) y
stores-more j k y =
    let turns : y.turns + j + k ≡ y.turns + (j + k) = omega arith in
    let stores : y.stores + j + k ≡ y.stores + (j + k) = omega arith in
    rw (turns, stores)

-- the turns are over, and the tally is said otherwise
pub counts : (n d : ℕ) (m : Image) (left s t h : ℕ) {y z : Tally} → y ≡ z → Turns n d 0 (single m left s t h y) (single m left s t h z)
counts n d m left s t h {y} e = subst (λ (u : Tally). Turns n d 0 (single m left s t h y) (single m left s t h u)) e (none _)
