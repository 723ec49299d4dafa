-- The call: what it answers and leaves, by what the definition of recovery says of the image.
use Rattle.std.specs.Prelude.{ℕ, ◌-◌, List, [], length, Ok, Err}
use Rattle.image.specs.Place.{Store}
use Rattle.image.specs.Image.{Image, put_all}
use Rattle.working.specs.declared.Cursors.{Cursors}
use Rattle.working.specs.Cursor.{all_idle}
use Rattle.soundness.specs.Answer.{Answer}
use Rattle.recovery.specs.Recovery.{Recovered, accepted, rejected}

-- ---- answers

abbrev pub answer_of : Recovered → Answer
answer_of (accepted ss cs) = Ok tt
answer_of (rejected r) = Err r

-- ---- what it leaves: an accepted one makes its stores, while stores are left, and resumes; any other makes none, and all
-- workers are idle

abbrev pub cursors_of : Recovered → Cursors
cursors_of (accepted ss cs) = cs
cursors_of (rejected r) = all_idle

abbrev pub stores_of : Recovered → List Store
stores_of (accepted ss cs) = ss
stores_of (rejected r) = []

abbrev pub recovery_leaves : ℕ → ℕ → Image → Recovered → Image
recovery_leaves n left m (accepted ss cs) = put_all n left m ss
recovery_leaves n left m (rejected r) = m

abbrev pub recovery_left : ℕ → Recovered → ℕ
recovery_left left (accepted ss cs) = left - length ss
recovery_left left (rejected r) = left
