-- The two ends of a list of calls: an image at rest, with all workers idle, is a world that runs and stands for the reference
-- machine fed nothing; and a world that runs with all workers idle is at rest, its cells those that the machine has reached.
use Prim.Native.Nat.{ℕ, suc, zero, ◌<◌}
use mathlib.Core.Path.{◌≡◌, refl, ap, subst, ◌∙◌, sym}
use mathlib.Core.Bool.{true≢false}
use mathlib.Core.List.{List, []}
use mathlib.Core.Option.{some}
use lib.ListN.{replicate, get_or-replicate, length-replicate}
use lib.Seq.{ext_get_or}
use native.Mathlib.Omega.{arith}
use Rattle.mask.specs.Mask.{has}
use Rattle.mask.proofs.Laws.{has-none}
use Rattle.image.specs.declared.Field.TheVariants.{Pc}
use Rattle.image.specs.Place.{Place, cell, lock, field, Memory}
use Rattle.image.specs.Image.{Image, at, workers, cells_of}
use Rattle.image.proofs.Header.{header-sized}
use Rattle.image.proofs.Cells.{cells-length, cells_at}
use Rattle.working.specs.Cursor.{Cursor, cursor_at, all_idle}
use Rattle.claims.specs.Reference.{Given, state, initial, feed}
use Rattle.claims.specs.Calls.{Traced, from}
use Rattle.claims.specs.Claims.{Gives, Rested, Idle}
use Rattle.claims.proofs.Virtual.{virtual, virtual-none, misses}
use Rattle.claims.proofs.Entries.{entry-none}
use Rattle.claims.proofs.Machine.{follow-none, none_left-all}
use Rattle.claims.proofs.Invariant.{Phase, resting, Live, Mirrors}
use Rattle.claims.proofs.Submitting.{Resting, idle-rests}
use Rattle.claims.proofs.Worlds.{Running, running-sized}
use Rattle.claims.proofs.Cursors.{idle-at, full-idle}

-- where nothing is under way, what stands is what will
virtual-rested : (n D : ℕ) (rd : Memory) (q : Place) → ((d : ℕ) → d < D → rd (field Pc d) ≡ 0) → virtual n rd D q ≡ rd q
virtual-rested n D rd q h =
    virtual-none n rd D q (λ d l. subst (λ (e : Rattle.claims.proofs.Virtual.Entry). misses e q) (sym (entry-none n rd d (h d l))) tt)

module _ (mark n : ℕ) (m : Image) (r : Rested mark n m) where
  rested-live : (given : ℕ → Given) → Live n (workers m) (at n m) (cursor_at all_idle) (λ d. 0) (λ d. 0) given
  rested-live given =
      record {
        phase = λ d l. let e = r.empty d l in subst (λ (c : Cursor). Phase n (at n m) d (given d) c 0 0) (sym (idle-at d))
            (resting e.0 e.1 e.2 e.3);
        locked = λ b d l k h. absurd (true≢false (sym h ∙ has-none b));
        owner = λ b d l h. let z = r.free b l in absurd (omega arith);
      }

  -- an image at rest stands for the machine fed nothing
  rested-mirrors : Mirrors n (workers m) (at n m) (state (cells_of m) (replicate (workers m) []))
  rested-mirrors =
      record {
        size = cells-length n (workers m) m (header-sized mark n m r.header);
        cells = λ x l. cells_at n m x l ∙ sym (virtual-rested n (workers m) (at n m) (cell x) (λ d k. (r.empty d k).1));
        workers = length-replicate (workers m) [];
        none = λ d l z. get_or-replicate (workers m) d [] [] l;
        some = λ d l z. absurd (z (r.empty d l).1);
      }

  pub rested-running : Running mark n (workers m) (cells_of m) (from m)
  unfolding initial feed
  rested-running =
      record {
        reached =
            record {
              header = r.header;
              many = refl;
              state = state (cells_of m) (replicate (workers m) []);
              followed = follow-none _;
              mirrors = rested-mirrors;
            };
        full = full-idle;
        locks = λ d. 0;
        live = rested-live _;
      }

module _ (mark n D : ℕ) (cells : List ℕ) (w : Traced) (r : Running mark n D cells w) (i : Idle mark n D w.world.cursors) where
  rests-at : (d : ℕ) (l : d < D) → Resting (at n w.world.image) d (r.locks d) (w.trace.jumps d)
  rests-at d l =
      idle-rests n (at n w.world.image) d (w.trace.last d) (cursor_at w.world.cursors d) (r.locks d) (w.trace.jumps d) (r.live.phase d l) (i d l)

  -- a lock that is not free has an owner, and an idle worker has none
  free-at : (b : ℕ) → b < 64 → at n w.world.image (lock b) ≡ 0
  free-at b l = by (at n w.world.image (lock b)) refl
    where
      by : (x : ℕ) → at n w.world.image (lock b) ≡ x → at n w.world.image (lock b) ≡ 0
      by zero e = e
      by (suc d) e =
          let o = r.live.owner b d l (e ∙ omega arith) in
          let z = (rests-at d o.0).locks in
          absurd (true≢false (sym o.1 ∙ (ap (λ (h : ℕ). has h b) z ∙ has-none b)))

  pub idle-rested : Rested mark n w.world.image
  idle-rested =
      record {
        header = r.reached.header;
        free = free-at;
        empty = λ d l. let s = rests-at d (subst (λ (e : ℕ). d < e) r.reached.many l) in (s.count, s.pc, s.intent, s.owned);
      }

  -- and the cells are the reference machine's
  pub idle-gives : Gives n D cells w.trace.begun w.trace.order (cells_of w.world.image)
  idle-gives =
      let M = r.reached.mirrors in
      record {
        final = r.reached.state;
        followed = r.reached.followed;
        ended = none_left-all r.reached.state.queues (λ d l. let k : d < D = omega (arith, M.workers) in M.none d k (rests-at d k).pc);
        same = ext_get_or 0 _ _ (M.size ∙ sym (cells-length n D w.world.image (running-sized mark n D cells w r.reached)))
            (λ x l. let k : x < 512 = omega (arith, M.size) in M.cells x k ∙
            (virtual-rested n D (at n w.world.image) (cell x) (λ d q. (rests-at d q).pc) ∙ sym (cells_at n w.world.image x k)));
      }
