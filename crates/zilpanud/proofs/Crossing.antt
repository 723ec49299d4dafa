-- An answer crosses by working's `code` and `detail`: the number and the value that they give are those of its definition, for each answer.
use mathlib.Core.Path.{◌≡◌, refl}
use Rattle.std.specs.Prelude.{Ok, Err}
use Rattle.std.specs.Result.{result_unwrap_or}
use Rattle.section.specs.Check.{Verdict, fault_cause, fault_step, cause_of as check_cause, step_of}
use Rattle.working.specs.Refusal.{cause_of, value_of, code_of, detail_of}
use Rattle.formatting.specs.Format.{Formatted}
use Rattle.formatting.specs.Codes.{format_code}
use Rattle.intake.specs.Submit.{Submitted}
use Rattle.intake.specs.Codes.{submit_code, submit_detail}
use Rattle.soundness.specs.Answer.{Answer as Recovery}
use Rattle.soundness.specs.Codes.{cause_of as recovery_cause, value_of as recovery_value, recover_code, recover_detail}
use Rattle.needs.specs.declared.Span.{Span}
use Rattle.needs.specs.Path.{Along}
use Rattle.needs.specs.From.{Needed}
use Rattle.needs.specs.Left.{Left}
use Rattle.needs.specs.Codes.{refusal_cause, along_code, along_step, along_turns, needed_code, needed_step, needed_fewest, needed_most}
use Rattle.needs.specs.Codes.{left_code, left_fewest, left_most}

pub format_coded : (a : Formatted) → code_of cause_of a ≡ format_code a
format_coded (Ok u) = refl
format_coded (Err r) = refl

pub check_coded : (v : Verdict) → code_of fault_cause v ≡ check_cause v
check_coded (Ok u) = refl
check_coded (Err f) = refl

pub check_detailed : (v : Verdict) → detail_of fault_step v ≡ step_of v
check_detailed (Ok u) = refl
check_detailed (Err f) = refl

pub submit_coded : (a : Submitted) → code_of cause_of a ≡ submit_code a
submit_coded (Ok u) = refl
submit_coded (Err r) = refl

pub submit_detailed : (a : Submitted) → detail_of value_of a ≡ submit_detail a
submit_detailed (Ok u) = refl
submit_detailed (Err r) = refl

pub recover_coded : (a : Recovery) → code_of recovery_cause a ≡ recover_code a
recover_coded (Ok u) = refl
recover_coded (Err r) = refl

pub recover_detailed : (a : Recovery) → detail_of recovery_value a ≡ recover_detail a
recover_detailed (Ok u) = refl
recover_detailed (Err r) = refl

-- ---- the turns, and 0 where they are not told

pub along_coded : (a : Along) → code_of fault_cause a ≡ along_code a
along_coded (Ok t) = refl
along_coded (Err f) = refl

pub along_detailed : (a : Along) → detail_of fault_step a ≡ along_step a
along_detailed (Ok t) = refl
along_detailed (Err f) = refl

pub along_turned : (a : Along) → result_unwrap_or a 0 ≡ along_turns a
along_turned (Ok t) = refl
along_turned (Err f) = refl

abbrev pub no_turns : Span
no_turns = record { fewest = 0; most = 0 }

pub needed_coded : (a : Needed) → code_of fault_cause a ≡ needed_code a
needed_coded (Ok s) = refl
needed_coded (Err f) = refl

pub needed_detailed : (a : Needed) → detail_of fault_step a ≡ needed_step a
needed_detailed (Ok s) = refl
needed_detailed (Err f) = refl

pub needed_least : (a : Needed) → (result_unwrap_or a no_turns).fewest ≡ needed_fewest a
needed_least (Ok s) = refl
needed_least (Err f) = refl

pub needed_greatest : (a : Needed) → (result_unwrap_or a no_turns).most ≡ needed_most a
needed_greatest (Ok s) = refl
needed_greatest (Err f) = refl

pub left_coded : (a : Left) → code_of refusal_cause a ≡ left_code a
left_coded (Ok s) = refl
left_coded (Err r) = refl

pub left_least : (a : Left) → (result_unwrap_or a no_turns).fewest ≡ left_fewest a
left_least (Ok s) = refl
left_least (Err r) = refl

pub left_greatest : (a : Left) → (result_unwrap_or a no_turns).most ≡ left_most a
left_greatest (Ok s) = refl
left_greatest (Err r) = refl

-- ---- what crosses of each call

pub ruleset checked = (check_coded, check_detailed)

pub ruleset submitted = (submit_coded, submit_detailed)

pub ruleset recovered = (recover_coded, recover_detailed)

pub ruleset followed = (along_coded, along_detailed, along_turned)

pub ruleset needed = (needed_coded, needed_detailed, needed_least, needed_greatest)

pub ruleset left = (left_coded, left_least, left_greatest)
