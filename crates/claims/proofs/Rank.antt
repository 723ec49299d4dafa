-- How far a worker is from the end of its section, counted in turns: its rank. Every turn that stores or moves makes it smaller,
-- since a turn leads to a later turn of the same step, to a later step, or to the end; and no store of a turn but the last one
-- of a finish touches what the rank is counted from: the number of steps, and the instructions.
use Prim.Native.Nat.{ℕ, suc, zero, ◌+◌, ◌*◌, ◌-◌, ◌<◌, ◌≤◌}
use mathlib.Core.Path.{◌≡◌, refl, subst, ◌∙◌}
use mathlib.Core.Bool.{Bool, true, false, cond, ◌&&◌}
use lib.Dec.{leb, ltb, eqb}
use borrow.Author.Tests.{ltb-true, eqb-true}
use native.Mathlib.Omega.{arith}
use Rattle.base.proofs.Bools.{and_left, and_right}
use Rattle.mask.specs.Mask.{without}
use Rattle.image.specs.declared.Field.TheVariants.{Count, Pc, Addr0, Val0, Addr1, Val1, Intent, Owned, Finished}
use Rattle.image.specs.Place.{Place, cell, lock, field, own, step, Memory}
use Rattle.image.specs.Inner.Same.{same, upd}
use Rattle.code.specs.declared.Op.{Op}
use Rattle.code.specs.declared.Op.TheVariants.{Acquire, Release, Assign, Jump, Finish, Unknown}
use Rattle.code.specs.Table.{turns_of}
use Rattle.code.specs.Op.{op_of, eval}
use Rattle.section.specs.Check.{Code}
use Rattle.code.specs.Form.{in_range, in_place, well_formed}
use Rattle.code.proofs.Ranges.{turns-most}
use Rattle.section.proofs.Steps.{place-jump}
use Rattle.working.specs.declared.Refusal.TheVariants.{Cursor as CursorRefused}
use Rattle.working.specs.Cursor.{Cursor, idle, on}
use Rattle.worklog.specs.Log.{operand, code_in, word_in, second, spare_addr, spare_val}
use Rattle.plan.specs.Turn.{Outcome, stored, passed, waiting, resting, refused, logged}
use Rattle.plan.specs.Turn.{acquire_turn, unlock_turn, release_turn, finish_turn, op_turn, ready, turn_at}
use Rattle.worklog.specs.declared.Passing.TheVariants.{Jump as PassedJump}
use Rattle.plan.proofs.Outcomes.{unlock-either}

-- ---- the turns of steps

-- the turns of the k steps from s on
unfoldable pub turns_from : Code → ℕ → ℕ → ℕ
turns_from code s zero = 0
turns_from code s (suc k) = turns_of (code s) + turns_from code (s + 1) k

pub turns_from-most : (code : Code) (s k : ℕ) → turns_from code s k ≤ 6 * k
unfolding turns_from
turns_from-most code s zero = omega arith
turns_from-most code s (suc k) = omega (arith, turns-most (code s), turns_from-most code (s + 1) k)

pub turns_from-cong : (code code' : Code) (s k : ℕ) → ((i : ℕ) → code i ≡ code' i) → turns_from code s k ≡ turns_from code' s k
unfolding turns_from
turns_from-cong code code' s zero e = refl
turns_from-cong code code' s (suc k) e = rw (e s, turns_from-cong code code' (s + 1) k e)

-- what is left after j of the steps
pub turns_from-split : (code : Code) (s j k : ℕ) → turns_from code s (j + k) ≡ turns_from code s j + turns_from code (s + j) k
unfolding turns_from
turns_from-split code s zero k = let e : s + 0 ≡ s = omega arith in let f : 0 + k ≡ k = omega arith in rw (e, f) (omega arith)
turns_from-split code s (suc j) k =
    let e : suc j + k ≡ suc (j + k) = omega arith in
    let f : s + suc j ≡ s + 1 + j = omega arith in
    rw (e, f) (omega (arith, turns_from-split code (s + 1) j k))

-- a later step has less before it, by the turns between
pub turns_from-later :
    (code : Code) (s b count : ℕ) → s ≤ b → b ≤ count → turns_from code s (count - s) ≡ turns_from code s (b - s) + turns_from code b (count - b)
turns_from-later code s b count l m =
    let e : count - s ≡ (b - s) + (count - b) = omega arith in
    let f : s + (b - s) ≡ b = omega arith in
    rw e (turns_from-split code s (b - s) (count - b) ∙ rw f)

-- some steps take at least the first one's turns
pub turns_from-first : (code : Code) (s k : ℕ) → 0 < k → turns_of (code s) ≤ turns_from code s k
unfolding turns_from
turns_from-first code s zero l = absurd (omega arith)
turns_from-first code s (suc k) l = omega arith

-- ---- ranks

-- the turns from turn t of step s to the end of a section
unfoldable pub rank_in : Code → ℕ → Cursor → ℕ
rank_in code count idle = 0
rank_in code count (on s t) = turns_from code s (count - s) - t

-- the turns that worker d at a cursor has before it
unfoldable pub rank : ℕ → Memory → ℕ → Cursor → ℕ
rank n rd d c = rank_in (code_in n rd d) (rd (field Count d)) c

pub rank-idle : (n : ℕ) (rd : Memory) (d : ℕ) → rank n rd d idle ≡ 0
unfolding rank rank_in
rank-idle n rd d = refl

pub rank_most : (n : ℕ) (rd : Memory) (d : ℕ) (c : Cursor) → rd (field Count d) ≤ 64 → rank n rd d c ≤ 384
unfolding rank rank_in
rank_most n rd d idle l = omega arith
rank_most n rd d (on s t) l = omega (arith, turns_from-most (code_in n rd d) s (rd (field Count d) - s))

-- ---- cursors that are nearer to the end

-- past turn t of step s, of so many steps
pub data Later (s t count : ℕ) : Cursor → Type 0 where
  over : Later s t count idle
  within : (u : ℕ) → t < u → Later s t count (on s u)
  beyond : (b u : ℕ) → s < b → b ≤ count → Later s t count (on b u)

-- turn t of step s is one of the section's
pub record AtTurn (n : ℕ) (rd : Memory) (d s t : ℕ) : Type 0 where
  pub below : s < rd (field Count d)
  pub turn : t < turns_of (code_in n rd d s)

pub later-falls : (n : ℕ) (rd : Memory) (d s t : ℕ) (c : Cursor) → AtTurn n rd d s t → Later s t (rd (field Count d)) c → rank n rd d c < rank n rd d (on s t)
unfolding rank rank_in
later-falls n rd d s t c I over = omega (arith, turns_from-first (code_in n rd d) s (rd (field Count d) - s) (omega arith), I)
later-falls n rd d s t c I (within u l) = omega (arith, turns_from-first (code_in n rd d) s (rd (field Count d) - s) (omega arith), I)
later-falls n rd d s t c I (beyond b u l m) =
    omega (
      arith,
      turns_from-first (code_in n rd d) s (b - s) (omega arith),
      turns_from-later (code_in n rd d) s b (rd (field Count d)) (omega arith) m,
      I,
    )

-- ---- stores that a rank does not see

-- place p is neither worker e's number of steps nor one of its instructions
pub record Unranked (e : ℕ) (p : Place) : Type 0 where
  pub count : same (field Count e) p ≡ false
  pub steps : (i : ℕ) → same (step e i) p ≡ false

pub rank-unranked : (n : ℕ) (rd : Memory) (e : ℕ) (p : Place) (v : ℕ) (c : Cursor) → Unranked e p → rank n (upd rd p v) e c ≡ rank n rd e c
unfolding rank rank_in
rank-unranked n rd e p v idle U = refl
rank-unranked n rd e p v (on s t) U =
    rw (U.count, turns_from-cong (code_in n (upd rd p v) e) (code_in n rd e) s (rd (field Count e) - s) (λ i. rw (U.steps i)))

unranked-operand : (d e x : ℕ) → Unranked e (operand d x)
unfolding operand
unranked-operand d e x = by (ltb x 512)
  where
    by : (b : Bool) → Unranked e (cond b (cell x) (own d (x - 512)))
    by true = record { count = refl; steps = λ i. refl }
    by false = record { count = refl; steps = λ i. refl }

unranked-addr : (n : ℕ) (rd : Memory) (d e : ℕ) → Unranked e (field (spare_addr n rd d) d)
unfolding spare_addr
unranked-addr n rd d e = by (second n rd d)
  where
    by : (b : Bool) → Unranked e (field (cond b Addr0 Addr1) d)
    by true = record { count = refl; steps = λ i. refl }
    by false = record { count = refl; steps = λ i. refl }

unranked-val : (n : ℕ) (rd : Memory) (d e : ℕ) → Unranked e (field (spare_val n rd d) d)
unfolding spare_val
unranked-val n rd d e = by (second n rd d)
  where
    by : (b : Bool) → Unranked e (field (cond b Val0 Val1) d)
    by true = record { count = refl; steps = λ i. refl }
    by false = record { count = refl; steps = λ i. refl }

unranked-pc : (d e : ℕ) → Unranked e (field Pc d)
unranked-pc d e = record { count = refl; steps = λ i. refl }

unranked-intent : (d e : ℕ) → Unranked e (field Intent d)
unranked-intent d e = record { count = refl; steps = λ i. refl }

unranked-owned : (d e : ℕ) → Unranked e (field Owned d)
unranked-owned d e = record { count = refl; steps = λ i. refl }

unranked-finished : (d e : ℕ) → Unranked e (field Finished d)
unranked-finished d e = record { count = refl; steps = λ i. refl }

unranked-lock : (a e : ℕ) → Unranked e (lock a)
unranked-lock a e = record { count = refl; steps = λ i. refl }

-- ---- turns

-- worker d's rank after a turn with this outcome is below k; nothing is said of a turn that does not move
abbrev pub Falls : ℕ → Memory → ℕ → ℕ → Outcome → Type 0
Falls n rd d k (stored p v c) = rank n (upd rd p v) d c < k
Falls n rd d k (passed why c) = rank n rd d c < k
Falls n rd d k (waiting b) = Unit {0}
Falls n rd d k resting = Unit {0}
Falls n rd d k (refused r) = Unit {0}

module _ (n : ℕ) (rd : Memory) (d s t : ℕ) (I : AtTurn n rd d s t) where
  abbrev Sinks : Outcome → Type 0
  Sinks o = Falls n rd d (rank n rd d (on s t)) o

  -- a store that the rank does not see, to a later cursor
  stored_falls : (p : Place) (v : ℕ) (c : Cursor) → Unranked d p → Later s t (rd (field Count d)) c → Sinks (stored p v c)
  stored_falls p v c U l = rw (rank-unranked n rd d p v c U) (later-falls n rd d s t c I l)

  next-step : Later s t (rd (field Count d)) (on (s + 1) 0)
  next-step = beyond (s + 1) 0 (omega arith) (omega arith)

  next-turn : Later s t (rd (field Count d)) (on s (t + 1))
  next-turn = within (t + 1) (omega arith)

  logged-falls : (p : Place) (v : ℕ) (c : Cursor) → Unranked d p → Later s t (rd (field Count d)) c → (j : ℕ) → Sinks (logged n rd d s t p v c j)
  logged-falls p v c U l zero = stored_falls _ _ _ (unranked-addr n rd d d) next-turn
  logged-falls p v c U l (suc zero) = stored_falls _ _ _ (unranked-val n rd d d) next-turn
  logged-falls p v c U l (suc (suc zero)) = stored_falls _ _ _ (unranked-pc d d) next-turn
  logged-falls p v c U l (suc (suc (suc j))) = stored_falls _ _ _ U l

  assign-falls : (a v : ℕ) → Sinks (logged n rd d s t (operand d a) v (on (s + 1) 0) t)
  assign-falls a v = logged-falls (operand d a) v (on (s + 1) 0) (unranked-operand d d a) next-step t

  release-falls : (a : ℕ) → Sinks (release_turn n rd d a s t)
  release-falls a = by (ltb t 4) refl (eqb t 4) refl
    where
      by : (b : Bool) → ltb t 4 ≡ b → (c : Bool) → eqb t 4 ≡ c →
          Sinks (cond b (logged n rd d s t (field Owned d) (without (rd (field Owned d)) a) (on s 4) t)
          (cond c (unlock_turn n rd d a s) (stored (field Intent d) (without (rd (field Intent d)) a) (on (s + 1) 0))))
      by true e c f = logged-falls (field Owned d) _ (on s 4) (unranked-owned d d) (within 4 (ltb-true t 4 e)) t
      by false e true f =
          let l : Later s t (rd (field Count d)) (on s 5) = within 5 (omega (arith, eqb-true t 4 f)) in
          unlock-either n rd d a s Sinks (stored_falls _ _ _ (unranked-lock a d) l) (λ why. later-falls n rd d s t (on s 5) I l)
      by false e false f = stored_falls _ _ _ (unranked-intent d d) next-step

  jump-falls : (a b : ℕ) → in_place (rd (field Count d)) s (Jump a b) ≡ true
      → Sinks (passed PassedJump (cond (eqb (word_in n rd d a) 0) (on b 0) (on (s + 1) 0)))
  jump-falls a b i = by (eqb (word_in n rd d a) 0)
    where
      by : (z : Bool) → Sinks (passed PassedJump (cond z (on b 0) (on (s + 1) 0)))
      by true = let l = place-jump (rd (field Count d)) s a b i in later-falls n rd d s t (on b 0) I (beyond b 0 l.0 (omega arith))
      by false = later-falls n rd d s t (on (s + 1) 0) I next-step

-- where the turn itself tells the instruction's part
acquire-falls : (n : ℕ) (rd : Memory) (d s t a : ℕ) → AtTurn n rd d s t → Falls n rd d (rank n rd d (on s t)) (acquire_turn n rd d a s t)
acquire-falls n rd d s zero a I = stored_falls n rd d s 0 I _ _ _ (unranked-intent d d) (within 1 (omega arith))
acquire-falls n rd d s (suc zero) a I = by (eqb (rd (lock a)) 0)
  where
    by : (b : Bool) → Falls n rd d (rank n rd d (on s 1)) (cond b (stored (lock a) (d + 1) (on s 2)) (waiting a))
    by true = stored_falls n rd d s 1 I _ _ _ (unranked-lock a d) (within 2 (omega arith))
    by false = tt
acquire-falls n rd d s (suc (suc j)) a I =
    logged-falls n rd d s (suc (suc j)) I (field Owned d) _ (on (s + 1) 0) (unranked-owned d d) (next-step n rd d s (suc (suc j)) I) j

finish-falls : (n : ℕ) (rd : Memory) (d s t : ℕ) → AtTurn n rd d s t → Falls n rd d (rank n rd d (on s t)) (finish_turn n rd d s t)
finish-falls n rd d s zero I = stored_falls n rd d s 0 I _ _ _ (unranked-finished d d) (within 1 (omega arith))
finish-falls n rd d s (suc zero) I = stored_falls n rd d s 1 I _ _ _ (unranked-pc d d) (within 2 (omega arith))
finish-falls n rd d s (suc (suc t)) I =
    let l = later-falls n rd d s (suc (suc t)) idle I over in rw (rank-idle n (upd rd (field Count d) 0) d) (rw (rank-idle n rd d) at l)

op-falls : (n : ℕ) (rd : Memory) (d s t : ℕ) (x : Op) → AtTurn n rd d s t → in_place (rd (field Count d)) s x ≡ true
    → Falls n rd d (rank n rd d (on s t)) (op_turn n rd d s t x)
op-falls n rd d s t (Acquire a) I i = acquire-falls n rd d s t a I
op-falls n rd d s t (Release a) I i = release-falls n rd d s t I a
op-falls n rd d s t (Assign a e) I i = assign-falls n rd d s t I a (eval (word_in n rd d) e)
op-falls n rd d s t (Jump a b) I i = jump-falls n rd d s t I a b i
op-falls n rd d s t Finish I i = finish-falls n rd d s t I
op-falls n rd d s t Unknown I i = tt

-- ---- a turn at any cursor

pub ready-inside : (n : ℕ) (rd : Memory) (d s t : ℕ) → ready n rd d s t ≡ true → AtTurn n rd d s t
unfolding ready
ready-inside n rd d s t r =
    let k = rd (field Count d) in
    let w = code_in n rd d s in
    record {
      below =
          ltb-true s k (and_right (leb 3 k && leb k 64) (ltb s k)
          (and_left (leb 3 k && leb k 64 && ltb s k) (well_formed n k s w)
          (and_left (leb 3 k && leb k 64 && ltb s k && well_formed n k s w) (ltb t (turns_of w)) r)));
      turn = ltb-true t (turns_of w) (and_right (leb 3 k && leb k 64 && ltb s k && well_formed n k s w) (ltb t (turns_of w)) r);
    }

pub ready-placed : (n : ℕ) (rd : Memory) (d s t : ℕ) → ready n rd d s t ≡ true → in_place (rd (field Count d)) s (op_of (code_in n rd d s)) ≡ true
unfolding ready well_formed
ready-placed n rd d s t r =
    let k = rd (field Count d) in
    let w = code_in n rd d s in
    and_right (in_range n w) (in_place k s (op_of w))
    (and_right (leb 3 k && leb k 64 && ltb s k) (well_formed n k s w)
    (and_left (leb 3 k && leb k 64 && ltb s k && well_formed n k s w) (ltb t (turns_of w)) r))

-- every turn that stores or moves makes the rank smaller
pub turn-falls : (n : ℕ) (rd : Memory) (d : ℕ) (c : Cursor) → Falls n rd d (rank n rd d c) (turn_at n rd d c)
unfolding turn_at
turn-falls n rd d idle = tt
turn-falls n rd d (on s t) = by (ready n rd d s t) refl
  where
    by : (b : Bool) → ready n rd d s t ≡ b
        → Falls n rd d (rank n rd d (on s t)) (cond b (op_turn n rd d s t (op_of (code_in n rd d s))) (refused (CursorRefused d)))
    by true e = op-falls n rd d s t (op_of (code_in n rd d s)) (ready-inside n rd d s t e) (ready-placed n rd d s t e)
    by false e = tt

-- the same of a turn whose outcome is told
pub rank_falls : (n : ℕ) (rd : Memory) (d : ℕ) (c : Cursor) (o : Outcome) → turn_at n rd d c ≡ o → Falls n rd d (rank n rd d c) o
rank_falls n rd d c o e = subst (Falls n rd d (rank n rd d c)) e (turn-falls n rd d c)
