-- Document 01's numbers and values for refusals, and for answers that may be refusals.
use Rattle.std.specs.Prelude.{ℕ, Result, Ok, Err}
use Rattle.section.specs.Check.{fault_cause, fault_step}
use Rattle.working.specs.declared.Refusal.{Refusal}
use Rattle.working.specs.declared.Refusal.TheVariants.{Worker, Busy, Number, Section, Image, Cursor}

-- the cause
abbrev pub cause_of : Refusal → ℕ
cause_of Worker = 1
cause_of Busy = 2
cause_of Number = 3
cause_of (Section f) = fault_cause f
cause_of Image = 10
cause_of (Cursor d) = 11

-- the step or the worker that goes with it; 0 where there is none
abbrev pub value_of : Refusal → ℕ
value_of Worker = 0
value_of Busy = 0
value_of Number = 0
value_of (Section f) = fault_step f
value_of Image = 0
value_of (Cursor d) = d

-- the number of an answer: 0, or the cause of its refusal
abbrev pub code_of : {T E : Type 0} → (E → ℕ) → Result T E → ℕ
code_of cause (Ok x) = 0
code_of cause (Err e) = cause e

-- the step, worker or lock that goes with it; 0 where there is none
abbrev pub detail_of : {T E : Type 0} → (E → ℕ) → Result T E → ℕ
detail_of value (Ok x) = 0
detail_of value (Err e) = value e
