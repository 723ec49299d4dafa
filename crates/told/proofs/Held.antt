-- The mask in the working record has just the locks whose owner words are not 0, and no more than a word has room for (`Agrees`): lists keep it.
-- A store in an owner word changes the bit with it, no other store of a turn touches either, a submission leaves both, and a recovery builds the
-- mask from what the workers are owed, which is what its stores make of the owner words. So both agree after any list
-- whose last call is not cut (`held-agrees`), and the ones are the number of those (`locks-counted`).
use Prim.Native.Nat.{ℕ, ◌+◌, ◌^◌, ◌<◌, ◌≤◌}
use mathlib.Core.Path.{◌≡◌, refl, sym, ◌∙◌}
use mathlib.Core.Logic.{◌⊎◌, inl, inr}
use mathlib.Core.Bool.{Bool, true, false, cond, not}
use mathlib.Core.List.{List}
use lib.ListN.{length}
use lib.Seq.{take_all}
use lib.Dec.{eqb}
use borrow.Author.Tests.{eq-eqb, ne_eqb}
use native.Mathlib.Omega.{arith}
use native.Mathlib.Decide.{ℕ_discrete}
use Rattle.std.specs.Prelude.{Ok}
use Rattle.mask.specs.Mask.{has, with, without, union}
use Rattle.mask.proofs.Laws.{has-none, has-with, has-without, has-with-other, has-without-other}
use Rattle.mask.proofs.Members.{union-has, union-lacks, union-small}
use Rattle.mask.proofs.Ones.{ones-such}
use Rattle.mask.proofs.Sets.{with-small, without-small}
use Rattle.image.specs.Place.{Place, cell, lock, field, own, step, Memory}
use Rattle.image.specs.Inner.Same.{upd}
use Rattle.image.specs.Image.{Image, at, workers, cells_of}
use Rattle.image.proofs.Header.{header-workers}
use Rattle.working.specs.Cursor.{cursor_at, set_at, all_idle}
use Rattle.plan.specs.Turn.{Outcome, stored, passed, waiting, resting, refused}
use Rattle.turn.specs.Call.{held_by, leaves}
use Rattle.turn.proofs.Holding.{Numbered, Within, within-turn}
use Rattle.working.specs.World.{World}
use Rattle.owed.specs.Owed.{owed}
use Rattle.soundness.proofs.Owing.{owed_small}
use Rattle.repair.specs.Plan.{plan}
use Rattle.resuming.specs.Resumed.{resumed_all}
use Rattle.claims.specs.Calls.{Traced, turn_by, ends_cut}
use Rattle.claims.specs.Claims.{Rested, Always, after}
use Rattle.claims.proofs.Worlds.{Running}
use Rattle.claims.proofs.Covers.{Parts, crashed-parts}
use Rattle.claims.proofs.Recovered.{after as recovered_to, after-lock, after_free, someone}
use Rattle.claims.proofs.RecoveryImage.{recovery-at, plan-length}
use Rattle.claims.proofs.Called.{TakenAs, accepts, crash}
use Rattle.claims.proofs.Moves.{args-full}
use Rattle.claims.proofs.Played.{Worth, plenty}
use Rattle.told.specs.Held.{has_owner, Masked, LocksCounted}
use Rattle.told.proofs.Keeping.{next_turn, Fed, Keeps, submitted, recovered}
use Rattle.told.proofs.Behind.{turn_memory, turned-memory, submitted-aside}
use Rattle.told.proofs.FromRest.{Any, kept-uncut}

-- a mask has just the locks with an owner in a memory, and is a word
pub record Agrees (rd : Memory) (h : ℕ) : Type 0 where
  pub bits : (b : ℕ) → b < 64 → has h b ≡ not (eqb (rd (lock b)) 0)
  pub small : h < 2 ^ 64

-- ---- a turn

-- the mask, by the turn's outcome
abbrev turn_held : ℕ → Outcome → ℕ
turn_held h (stored p v c) = held_by p v h
turn_held h (passed why c) = h
turn_held h (waiting b) = h
turn_held h resting = h
turn_held h (refused r) = h

held-left : (n : ℕ) (w : World) (d : ℕ) (o : Outcome) → (leaves n w d o).cursors.held ≡ turn_held w.cursors.held o
unfolding set_at
held-left n w d (stored p v c) = refl
held-left n w d (passed why c) = refl
held-left n w d (waiting b) = refl
held-left n w d resting = refl
held-left n w d (refused r) = refl

module _ (rd : Memory) (h : ℕ) (x : Agrees rd h) where
  -- a store of v in lock b's owner word, by whether v is 0
  lock-bits :
      (b v : ℕ) (t : Bool) → eqb v 0 ≡ t → (c : ℕ) → c < 64
      → has (cond t (without h b) (with h b)) c ≡ not (eqb (cond (eqb c b) v (rd (lock c))) 0)
  lock-bits b v t e c l = by t e (ℕ_discrete c b)
    where
      by : (t : Bool) → eqb v 0 ≡ t → Dec (c ≡ b) → has (cond t (without h b) (with h b)) c ≡ not (eqb (cond (eqb c b) v (rd (lock c))) 0)
      by true e (yes q) = rw (q, eq-eqb b b refl, e) (has-without h b)
      by false e (yes q) = rw (q, eq-eqb b b refl, e) (has-with h b)
      by true e (no q) = rw (ne_eqb c b q) (has-without-other h b c (λ i. q (sym i)) ∙ x.bits c l)
      by false e (no q) = rw (ne_eqb c b q) (has-with-other h b c (λ i. q (sym i)) ∙ x.bits c l)

  lock-small : (b : ℕ) (t : Bool) → b < 64 → cond t (without h b) (with h b) < 2 ^ 64
  lock-small b true l = without-small h b x.small
  lock-small b false l = with-small h b x.small l

  store-agrees : (p : Place) (v : ℕ) → Numbered p → Agrees (upd rd p v) (held_by p v h)
  store-agrees (cell y) v l = record { bits = x.bits; small = x.small }
  store-agrees (lock b) v l = record { bits = lock-bits b v (eqb v 0) refl; small = lock-small b (eqb v 0) l }
  store-agrees (field f d) v l = record { bits = x.bits; small = x.small }
  store-agrees (own d i) v l = record { bits = x.bits; small = x.small }
  store-agrees (step d i) v l = record { bits = x.bits; small = x.small }

  turn-agrees : (o : Outcome) → Within o → Agrees (turn_memory rd o) (turn_held h o)
  turn-agrees (stored p v c) l = store-agrees p v l
  turn-agrees (passed why c) l = x
  turn-agrees (waiting b) l = x
  turn-agrees resting l = x
  turn-agrees (refused r) l = x

-- ---- a recovery

module _ (n : ℕ) (rd : Memory) (D : ℕ) (p : Parts n D rd) where
  -- behind all stores of its plan
  recovered-agrees : Agrees (recovered_to n rd D) (union (owed n rd) D)
  recovered-agrees =
      record {
        bits = λ b l. by b l (someone n rd D b D);
        small = union-small (owed n rd) D (λ d l. owed_small n rd d (p.section d l) (p.pc d l));
      }
    where
      by : (b : ℕ) → b < 64 → ((e : ℕ) × (e < D) × (has (owed n rd e) b ≡ true)) ⊎ ((e : ℕ) → e < D → has (owed n rd e) b ≡ false)
          → has (union (owed n rd) D) b ≡ not (eqb (recovered_to n rd D (lock b)) 0)
      by b l (inl (e, m, h)) =
          let f = after-lock n rd D p b e l m h in
          union-has (owed n rd) D e b m h ∙ (rw (f, ne_eqb (e + 1) 0 (λ z. omega arith)))
      by b l (inr h) = union-lacks (owed n rd) D b h ∙ (rw (after_free n rd D p b l h))

-- ---- lists

module _ (mark n D : ℕ) (cells : List ℕ) where
  abbrev pub Agreeing : Traced → Type 0
  Agreeing w = Agrees (at n w.world.image) w.world.cursors.held

  turned :
      (w : Traced) (d : ℕ) → Running mark n D cells w → d < D → Fed w (next_turn n w d)
      → Agreeing w → Agreeing (turn_by mark n w d (next_turn n w d))
  turned w d r l fed x =
      let rd = at n w.world.image in
      let o = next_turn n w d in
      rw (turned-memory mark n D cells w d r l fed, held-left n w.world d o)
      (turn-agrees rd w.world.cursors.held x o (within-turn n rd d (cursor_at w.world.cursors d)))

  submitted-agrees :
      (w : Traced) (d k : ℕ) (args ws : List ℕ) → 8 ≤ n → length args ≡ 8 → Running mark n D cells w → TakenAs mark n w.world d k ws
      → Agreeing w → Agreeing (submitted mark n w d k args ws (Ok tt))
  unfolding set_at
  submitted-agrees w d k args ws wide eight r t x =
      let same = submitted-aside mark n D cells w d k args ws wide eight r t in
      record { bits = λ b l. rw (same (lock b) refl) (x.bits b l); small = x.small }

  recovered-whole : (w : Traced) → Worth mark n D cells w → plenty mark n D cells ≤ w.world.left → Agreeing (recovered mark n w)
  unfolding resumed_all
  recovered-whole w k left =
      let m = w.world.image in
      let few = (header-workers mark n m k.reached.header).1 in
      let short = plan-length n (at n m) (workers m) few in
      rw (
        accepts mark n D cells m _ _ k,
        recovery-at mark n m k.reached.header w.world.left,
        take_all w.world.left (plan n (at n m) (workers m)) (omega arith),
      )
      (recovered-agrees n (at n m) (workers m) (crashed-parts n (workers m) (at n m) (crash mark n D cells m _ _ k)))

  agreeing-keeps : 8 ≤ n → Keeps mark n D cells Agreeing (λ (w : Traced). Unit {0}) Any
  agreeing-keeps wide =
      record {
        turn = turned;
        still = λ w d o z c. tt;
        worth = λ w x. tt;
        lend = λ k w x. x;
        lend-cut = λ k w c. tt;
        submit = λ w d k args ws r h t left a x. submitted-agrees w d k args ws wide (args-full d k args ws h) r t x;
        submit-cut = λ w j d k args ws r h t a x. tt;
        recover = λ w k left a c. recovered-whole w k left;
        recover-cut = λ w j k a c. tt;
        cut_off = λ w c. tt;
      }

-- at rest no lock is held
rested-agrees : (mark n : ℕ) (m : Image) → Rested mark n m → Agrees (at n m) all_idle.held
unfolding all_idle
rested-agrees mark n m rest = record { bits = λ b l. has-none b ∙ (rw (rest.free b l)); small = omega arith }

masked : (mark n : ℕ) (w : World) → Agrees (at n w.image) w.cursors.held → Masked mark n w
masked mark n w x = record { bits = x.bits; number = ones-such w.cursors.held (has_owner mark n w.image) x.small x.bits }

module _ (mark n : ℕ) (wide : 8 ≤ n) (narrow : n ≤ 64) where
  pub held-agrees : Always mark n (λ m xs. ends_cut false xs ≡ false → Agreeing mark n (workers m) (cells_of m) (after mark n m xs))
  held-agrees m rest xs h l uncut =
      let D = workers m in
      let cells = cells_of m in
      (kept-uncut mark n wide narrow m rest (Agreeing mark n D cells) (λ w. Unit {0}) (agreeing-keeps mark n D cells wide) (rested-agrees mark n m rest) xs h l
      uncut).1

  pub locks-counted : LocksCounted mark n
  unfolding LocksCounted
  locks-counted m rest xs h l uncut = masked mark n _ (held-agrees m rest xs h l uncut)
