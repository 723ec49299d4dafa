-- What the code says of whole instructions, whose turns it makes back to back.
use Rattle.std.specs.Prelude.{ℕ, ◌+◌, ◌-◌, ◌<◌, ◌≤◌, ◌≡◌, true, Option, Some, None}
use Rattle.image.specs.declared.Field.TheVariants.{Count, Pc, Number, Finished}
use Rattle.image.specs.Place.{field}
use Rattle.image.specs.Image.{Image, index_of, at, put}
use Rattle.image.specs.Inner.Inside.{Inside}
use Rattle.code.specs.declared.Op.{Op}
use Rattle.code.specs.Op.{op_of}
use Rattle.worklog.specs.Log.{code_in}
use Rattle.tally.specs.declared.Tally.{Tally}
use Rattle.tally.specs.declared.Passes.{Passes}
use Rattle.tally.specs.Inner.Passes.{passed, with_turns}
use Rattle.plan.specs.Turn.{ready}
use Rattle.stretch.specs.declared.Walk.{Walk}
use Rattle.stretch.specs.Inner.Single.{single, Turns}

-- n: own words in a record; d: the worker
-- the image after a finish's stores: number as finished, 0 in the pc, 0 in the count
abbrev pub closed_image : ℕ → ℕ → Image → ℕ → Image
closed_image n d m left =
    put (left - 1 - 1) (put (left - 1) (put left m (index_of n (field Finished d)) (at n m (field Number d))) (index_of n (field Pc d)) 0)
    (index_of n (field Count d)) 0

-- the worker's record has instruction x at step s, and its first turn is ready
pub record Fetched (n d s : ℕ) (m : Image) (x : Op) : Type 0 where
  pub inside : Inside n m d
  pub ready : ready n (at n m) d s 0 ≡ true
  pub op : op_of (code_in n (at n m) d s) ≡ x

-- its count is k, a section's
pub record Counted (n d k : ℕ) (m : Image) : Type 0 where
  pub inside : Inside n m d
  pub count : at n m (field Count d) ≡ k
  pub least : 3 ≤ k
  pub most : k ≤ 64

-- and step s of its k has word w, which says x
pub record Here (n d s k : ℕ) (m : Image) (w : ℕ) (x : Op) : Type 0 where
  pub counted : Counted n d k m
  pub below : s < k
  pub word : code_in n (at n m) d s ≡ w
  pub op : op_of w ≡ x

-- the image was m with so many stores left, the worker at the first turn of step s, with the locks held, and p turns passed so far, and is v: turns one after
-- another have been made, at most six; j: the turns before them, y: the tally before those
pub record Made (n d s h : ℕ) (p : Passes) (m : Image) (left : ℕ) (v : Image) (rest : ℕ) (r : Walk) : Type 0 where
  pub turns :
      (j : ℕ) (y : Tally) → passed p ≤ j
      → Turns n d r.turns (single m left s 0 h (with_turns j p y)) (single v rest r.step r.turn r.held (with_turns (j + r.turns) r.passes y))
  pub some : 1 ≤ r.turns
  pub most : r.turns ≤ 6
  pub few : passed r.passes ≤ passed p + r.turns

-- the same where the first turn may not be ready: then there are none, and all is as it was; behind a whole instruction is another of the section's k
abbrev pub Tried : ℕ → ℕ → ℕ → ℕ → ℕ → Passes → Image → ℕ → Image → ℕ → Option Walk → Type 0
Tried n d s k h p m left v rest (Some r) = Made n d s h p m left v rest r × (r.turn ≡ 0 → r.step < k)
Tried n d s k h p m left v rest None = (v ≡ m) × (rest ≡ left)
