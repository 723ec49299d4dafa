-- Changing over: where all workers are idle the image is at rest, whatever was called and cut before, and from an image at rest every claim starts,
-- as from a finished formatting. So a program that gives instructions another meaning may take the image over there. (Document 02, 5/14: what was
-- promised from formatting counts from there; a value logged before a cut is stored as logged.)
use Rattle.std.specs.Prelude.{ℕ, ◌<◌, ◌≤◌, ◌≡◌, ◌≢◌, true, false, List}
use Rattle.image.specs.Place.{Place, field, Store}
use Rattle.image.specs.Image.{Image, index_of, at, workers}
use Rattle.formatting.specs.Format.{formatted}
use Rattle.worklog.specs.Log.{active_addr, active_val}
use Rattle.working.specs.declared.Cursors.{Cursors}
use Rattle.working.specs.Cursor.{Cursor, all_idle}
use Rattle.plan.specs.Turn.{stored}
use Rattle.turn.specs.Call.{outcome}
use Rattle.recovery.specs.Recovery.{accepted, recovery}
use Rattle.claims.specs.Calls.{Traced, recovers, Move, call, lent, from, legal, ends_cut, machine}
use Rattle.claims.specs.Claims.{Rested, Idle, Settled, Always, after}
use Rattle.told.specs.Once.{last_or, pc_of, finished_of, started_at, begun_by}

-- mark: word 0 of an image; n: own words in a record
module _ (mark n : ℕ) where
  -- after any list of calls and cuts whose last call is not cut, with all workers idle
  abbrev pub WhereIdle : (Image → Traced → Type 0) → Type 0
  WhereIdle P = Always mark n (λ m xs. ends_cut false xs ≡ false → Idle mark n (workers m) (after mark n m xs).world.cursors → P m (after mark n m xs))

  -- the image is at rest, with the cells that the reference machine gives for the sections begun (`Settled`), as many workers as before, and
  -- the number of each worker's last section begun as its finished number; the working record is the one that a list starts with
  pub record ChangedOver (m : Image) (w : Traced) : Type 0 where
    pub settled : Settled mark n m w
    pub as_many : workers w.world.image ≡ workers m
    pub finished : (d : ℕ) → d < workers m → finished_of mark n w d ≡ last_or (started_at mark n m d) (begun_by mark n w d)
    pub record-idle : w.world.cursors ≡ all_idle

  unfoldable pub ChangesOver : Type 0
  ChangesOver = WhereIdle ChangedOver

  -- whatever holds of every image at rest holds of one that a finished formatting leaves, and anew where all workers are idle
  unfoldable pub CountsAnew : Type 1
  CountsAnew =
      (P : Image → Type 0) → ((m : Image) → Rested mark n m → P m)
      → ((D : ℕ) → 1 ≤ D → D ≤ 8 → P (formatted mark n D)) × WhereIdle (λ m w. P w.world.image)

  -- what is claimed of lists of calls and cuts, of those that go on from there
  abbrev pub Anew : (Image → List Move → Type 0) → Type 0
  Anew P = WhereIdle (λ m w. (ys : List Move) → machine ys ≡ true → legal false ys ≡ true → P w.world.image ys)

  -- a recovery of an image at rest is accepted, changes no word, cut or not, and leaves all workers idle
  unfoldable pub RestRecovered : Type 0
  RestRecovered =
      (m : Image) → Rested mark n m
      → ((ss : List Store) × (recovery mark n m ≡ accepted ss all_idle)) × ((k : ℕ) → (call mark n recovers (lent mark n k (from m))).world.image ≡ m)

  -- behind a recovery that is accepted, the next turn of a worker whose section is begun stores what its active log entry has: that value, at
  -- that address
  unfoldable pub LoggedStored : Type 0
  LoggedStored =
      (w : Traced) (ss : List Store) (cs : Cursors) → recovery mark n w.world.image ≡ accepted ss cs
      → (d : ℕ) → d < workers w.world.image → pc_of mark n w d ≢ 0
      → let rd = at n w.world.image in
      (p : Place)
      × (c : Cursor)
      × (outcome mark n (call mark n recovers w).world d ≡ stored p (rd (field (active_val n rd d) d)) c)
      × (index_of n p ≡ rd (field (active_addr n rd d) d))
