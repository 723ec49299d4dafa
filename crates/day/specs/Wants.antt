-- What a day needs to go on, where no piece is to be made, or the output has no room for one.
use Rattle.std.specs.Prelude.{ℕ, Bool, cond, ltb}
use Rattle.lines.specs.declared.Job.{Job}
use Rattle.lines.specs.declared.Job.TheVariants.{Turns, Rounds, Stores, Next, Stop}
use Rattle.day.specs.declared.Want.{Want}
use Rattle.day.specs.declared.Want.TheVariants.{Room, Input, Nothing}

abbrev pub input_for : Job → Want
input_for (Turns w k) = Input
input_for (Rounds d r) = Input
input_for (Stores i) = Input
input_for Next = Input
input_for Stop = Nothing

-- `more` says that more input may come, room is what is left in the output
unfoldable pub want_of : Bool → ℕ → Job → Want
want_of more room j = cond (ltb room 22) Room (cond more (input_for j) Nothing)
