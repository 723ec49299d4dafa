-- What a planner may be told: each section taken is begun at most once, a worker's record says which of its sections is begun or
-- finished, and a client that hands in again what is not begun has it exactly once. All of it is said of the image, and holds
-- right after a cut as well.
use Rattle.std.specs.Prelude.{ℕ, zero, suc, ◌+◌, ◌*◌, ◌<◌, ◌≤◌, ◌≡◌, ◌≢◌, ◌⊎◌}
use Rattle.std.specs.Prelude.{List, [], ◌∷◌, map, ◌++◌, Bool, true, false, ◌&&◌, ◌||◌, not, length, get_or, ltb, eqb, Ok, Err}
use Rattle.std.proofs.Math.Option.{some}
use Rattle.image.specs.declared.Field.TheVariants.{Pc, Number, Finished as FinishedField}
use Rattle.image.specs.Place.{field}
use Rattle.image.specs.Image.{Image, at, workers, cells_of}
use Rattle.code.specs.declared.Op.TheVariants.{Finish}
use Rattle.code.specs.Op.{op_of}
use Rattle.working.specs.declared.Refusal.TheVariants.{Number as NumberRefused}
use Rattle.intake.specs.Submit.{submit_answer}
use Rattle.asking.specs.declared.Standing.{Standing}
use Rattle.asking.specs.declared.Standing.TheVariants.{NotBegun, Begun, Finished}
use Rattle.asking.specs.Asking.{standing_in}
use Rattle.claims.specs.Reference.{Given, given, Job, State, initial, follow}
use Rattle.told.specs.Readings.{taken_in, begun_in}
use Rattle.claims.specs.Calls.{Traced, Call, submits, turns, runs, recovers, Move, whole, move, of_move, from, legal, plain, machine}
use Rattle.claims.specs.Claims.{of_worker, Rested, after, Always, mended, working, rounds_in}

-- ---- lists of numbers and of sections

-- the numbers of worker d's sections
abbrev pub numbers_of : ℕ → List Given → List ℕ
numbers_of d gs = map (λ g. g.number) (of_worker d gs)

-- they rise strictly, all of them above k
abbrev pub rising : ℕ → List ℕ → Bool
rising k [] = true
rising k (x ∷ xs) = ltb k x && rising x xs

-- the last of them, or k
abbrev pub last_or : ℕ → List ℕ → ℕ
last_or k [] = k
last_or k (x ∷ xs) = last_or x xs

-- so many numbers, one after the other, above k
abbrev pub up_from : ℕ → ℕ → List ℕ
up_from k zero = []
up_from k (suc j) = (k + 1) ∷ up_from (k + 1) j

abbrev pub among : ℕ → List ℕ → Bool
among k [] = false
among k (x ∷ xs) = eqb x k || among k xs

abbrev pub Among : Given → List Given → Type 0
Among g gs = (before : List Given) × (behind : List Given) × (gs ≡ before ++ (g ∷ behind))

-- the first list is the second with some left out
abbrev pub Within : List Given → List Given → Type 0
Within [] ys = Unit {0}
Within (x ∷ xs) [] = ⊥
Within (x ∷ xs) (y ∷ ys) = ((x ≡ y) × Within xs ys) ⊎ Within (x ∷ xs) ys

-- a submit to worker d is of this section, and so is every one of a list
abbrev pub OnlyCall : ℕ → Given → Call → Type 0
OnlyCall d g (submits e k args ws) = e ≡ d → given e k args ws ≡ g
OnlyCall d g (turns e) = Unit {0}
OnlyCall d g (runs r) = Unit {0}
OnlyCall d g recovers = Unit {0}

abbrev pub Only : ℕ → Given → List Move → Type 0
Only d g [] = Unit {0}
Only d g (x ∷ xs) = OnlyCall d g (of_move x) × Only d g xs

-- mark: word 0 of an image; n: own words in a record
module _ (mark n : ℕ) where
  -- of worker d in a world: its pc, the number of its section, its last finished number, and what it answers about number k
  abbrev pub pc_of : Traced → ℕ → ℕ
  pc_of w d = at n w.world.image (field Pc d)

  abbrev pub number_of : Traced → ℕ → ℕ
  number_of w d = at n w.world.image (field Number d)

  abbrev pub finished_of : Traced → ℕ → ℕ
  finished_of w d = at n w.world.image (field FinishedField d)

  abbrev pub standing : Traced → ℕ → ℕ → Standing
  standing w d k = standing_in (at n w.world.image) d k

  -- the number that worker d had finished last at the start, and the numbers it has begun
  abbrev pub started_at : Image → ℕ → ℕ
  started_at m d = at n m (field FinishedField d)

  abbrev pub begun_by : Traced → ℕ → List ℕ
  begun_by w d = numbers_of d w.trace.begun

  -- ---- once

  pub record Once (m : Image) (w : Traced) : Type 0 where
    -- the sections taken and begun are read off the events: nothing is begun but what was taken, and nothing twice
    pub submitted : w.trace.taken ≡ taken_in w.trace.events
    pub read : w.trace.begun ≡ begun_in w.trace.events
    pub within : (d : ℕ) → Within (of_worker d w.trace.begun) (of_worker d w.trace.taken)
    -- the numbers begun of one worker rise strictly, all above the finished number it started with
    pub rises : (d : ℕ) → d < workers m → rising (started_at m d) (begun_by w d) ≡ true

  -- ---- told

  pub record Told (m : Image) (w : Traced) (d : ℕ) : Type 0 where
    -- the finished number is that of the last section begun, or the one it started with
    pub at_rest : pc_of w d ≡ 0 → finished_of w d ≡ last_or (started_at m d) (begun_by w d)
    -- the record's number is that of the last section begun
    pub under-way : pc_of w d ≢ 0 → (begun_by w d ≢ []) × (number_of w d ≡ last_or (started_at m d) (begun_by w d))
    -- and where it is told to be finished, nothing of it is left to the reference machine but its finish
    pub to-finish :
        pc_of w d ≢ 0 → number_of w d ≤ finished_of w d
        → (s : State)
        × (j : Job)
        × (follow (initial n (workers m) (cells_of m) w.trace.begun) w.trace.order ≡ some s)
        × (get_or s.queues d [] ≡ j ∷ [])
        × (op_of (get_or j.code j.next 0) ≡ Finish)

  -- ---- asked

  pub record Asked (m : Image) (w : Traced) (d k : ℕ) : Type 0 where
    pub not-begun : standing w d k ≡ NotBegun → among k (begun_by w d) ≡ false
    pub begun : standing w d k ≡ Begun → among k (begun_by w d) ≡ true
    pub either : among k (begun_by w d) ≡ true → (standing w d k ≡ Begun) ⊎ (standing w d k ≡ Finished)

  -- demand 3, to a planner: after any list of calls and cuts, also right after a cut
  unfoldable pub OnceAlways : Type 0
  OnceAlways = Always mark n (λ m xs. Once m (after mark n m xs))

  unfoldable pub ToldAlways : Type 0
  ToldAlways = Always mark n (λ m xs. (d : ℕ) → d < workers m → Told m (after mark n m xs) d)

  unfoldable pub AskedAlways : Type 0
  AskedAlways = Always mark n (λ m xs. (d k : ℕ) → d < workers m → Asked m (after mark n m xs) d k)

  -- what is begun by then will be finished
  unfoldable pub BegunFinishes : Type 0
  BegunFinishes =
      Always mark n (λ m xs.
      (ys : List Move) → working ys ≡ true → 384 * workers m ≤ rounds_in ys
      → (d k : ℕ) → d < workers m → among k (begun_by (after mark n m xs) d) ≡ true → standing (after mark n m (mended mark n xs ++ ys)) d k ≡ Finished)

  -- ---- through: a section taken by an uncut submit, with no cut and no recovery behind it, is begun and finished

  unfoldable pub ThroughAlways : Type 0
  ThroughAlways =
      (m : Image) → Rested mark n m → (xs ys : List Move) (d k : ℕ) (args ws : List ℕ)
      → let all = xs ++ (whole (submits d k args ws) ∷ ys) in
      machine all ≡ true → legal false all ≡ true → plain ys ≡ true → submit_answer mark n (after mark n m xs).world d k ws ≡ Ok tt
      → (zs : List Move) → working zs ≡ true → 384 * workers m ≤ rounds_in zs
      → Among (given d k args ws) (after mark n m (all ++ zs)).trace.begun × (standing (after mark n m (all ++ zs)) d k ≡ Finished)

  -- ---- retried

  -- a submit to worker d has the number one above its finished one
  abbrev pub next_number : ℕ → Call → Traced → Bool
  next_number d (submits e k args ws) w = not (eqb e d) || eqb k (finished_of w d + 1)
  next_number d (turns e) w = true
  next_number d (runs r) w = true
  next_number d recovers w = true

  -- and so has every one of the list, at its moment
  unfoldable pub in_turn : ℕ → List Move → Traced → Bool
  in_turn d [] w = true
  in_turn d (x ∷ xs) w = next_number d (of_move x) w && in_turn d xs (move mark n x w)

  pub record Retried (m : Image) (w : Traced) (d : ℕ) : Type 0 where
    -- the numbers begun are consecutive
    pub consecutive : begun_by w d ≡ up_from (started_at m d) (length (begun_by w d))
    -- what is said to be finished is begun (and `Told` says what is left of it); what is begun and not under way is said to be finished
    pub finished : (k : ℕ) → started_at m d < k → standing w d k ≡ Finished → among k (begun_by w d) ≡ true
    pub ended : (k : ℕ) → among k (begun_by w d) ≡ true → (pc_of w d ≡ 0) ⊎ (number_of w d ≢ k) → standing w d k ≡ Finished

  unfoldable pub RetriedAlways : Type 0
  RetriedAlways = Always mark n (λ m xs. (d : ℕ) → d < workers m → in_turn d xs (from m) ≡ true → Retried m (after mark n m xs) d)

  -- the client's protocol: one section, handed in again and again under the same number, is begun once when the answer is 3
  unfoldable pub ExactlyOnce : Type 0
  ExactlyOnce =
      Always mark n (λ m xs.
      (d : ℕ) → d < workers m → (g : Given) → started_at m d < g.number → Only d g xs
      → submit_answer mark n (after mark n m xs).world d g.number g.code ≡ Err NumberRefused
      → of_worker d (after mark n m xs).trace.begun ≡ g ∷ [])
