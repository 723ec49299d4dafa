-- The numbers of each answer: 0, or document 01's cause, with the step that goes with it; and the turns, 0 where it is refused.
use Rattle.std.specs.Prelude.{ℕ, Ok, Err}
use Rattle.section.specs.Check.{fault_cause, fault_step}
use Rattle.needs.specs.declared.Refusal.{Refusal}
use Rattle.needs.specs.declared.Refusal.TheVariants.{Image, Worker, Record}
use Rattle.needs.specs.Path.{Along}
use Rattle.needs.specs.From.{Needed}
use Rattle.needs.specs.Left.{Left}

abbrev pub along_code : Along → ℕ
along_code (Ok t) = 0
along_code (Err f) = fault_cause f

abbrev pub along_step : Along → ℕ
along_step (Ok t) = 0
along_step (Err f) = fault_step f

abbrev pub along_turns : Along → ℕ
along_turns (Ok t) = t
along_turns (Err f) = 0

abbrev pub needed_code : Needed → ℕ
needed_code (Ok s) = 0
needed_code (Err f) = fault_cause f

abbrev pub needed_step : Needed → ℕ
needed_step (Ok s) = 0
needed_step (Err f) = fault_step f

abbrev pub needed_fewest : Needed → ℕ
needed_fewest (Ok s) = s.fewest
needed_fewest (Err f) = 0

abbrev pub needed_most : Needed → ℕ
needed_most (Ok s) = s.most
needed_most (Err f) = 0

abbrev pub refusal_cause : Refusal → ℕ
refusal_cause Image = 10
refusal_cause Worker = 1
refusal_cause Record = 12

abbrev pub left_code : Left → ℕ
left_code (Ok s) = 0
left_code (Err r) = refusal_cause r

abbrev pub left_fewest : Left → ℕ
left_fewest (Ok s) = s.fewest
left_fewest (Err r) = 0

abbrev pub left_most : Left → ℕ
left_most (Ok s) = s.most
left_most (Err r) = 0
