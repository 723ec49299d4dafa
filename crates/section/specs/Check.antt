-- The check of a section: causes 4 to 9. A section is a number of steps n and a word for each step.
use Rattle.std.specs.Prelude.{ℕ, suc, zero, ◌+◌, Bool, true, cond, ◌&&◌, List, get_or, leb, eqb, Result, Ok, Err, is_ok}
use Rattle.code.specs.declared.Op.{Op}
use Rattle.code.specs.declared.Op.TheVariants.{Acquire, Release, Assign, Jump, Finish, Unknown}
use Rattle.section.specs.declared.Fault.{Fault}
use Rattle.section.specs.declared.Fault.TheVariants.{Length, Malformed, Unbracketed, Unordered, Unguarded, Unlevel}
use Rattle.code.specs.Op.{op_of}
use Rattle.code.specs.Form.{well_formed, held_after}
use Rattle.rules.specs.Rules.{bracketed, ordered, guarded}

-- the instruction words of a section by their step
abbrev pub Code : Type 0
Code = ℕ → ℕ

abbrev pub code_of : List ℕ → Code
code_of ws i = get_or ws i 0

-- ---- held sets

-- the held set before step i, by position: jumps are ignored
unfoldable pub held_before : Code → ℕ → ℕ
held_before code zero = 0
held_before code (suc i) = held_after (held_before code i) (op_of (code i))

-- cause 9: a jump goes to a step with the same held set
abbrev pub level : Code → ℕ → Op → Bool
level code h (Acquire a) = true
level code h (Release a) = true
level code h (Assign a e) = true
level code h (Jump a b) = eqb (held_before code b) h
level code h Finish = true
level code h Unknown = true

-- ---- the verdict

-- the section passes, or the first fault that it has
abbrev pub Verdict : Type 0
Verdict = Result Unit Fault

-- an answer, where it passes the next
abbrev pub or_else : Verdict → Verdict → Verdict
or_else (Ok u) v = v
or_else (Err f) v = Err f

-- the first refusal of k steps from step i on
unfoldable pub first_of : (ℕ → Verdict) → ℕ → ℕ → Verdict
first_of f i zero = Ok tt
first_of f i (suc k) = or_else (f i) (first_of f (i + 1) k)

-- step i against cause 5
unfoldable pub form_of : ℕ → ℕ → Code → ℕ → Verdict
form_of own n code i = cond (well_formed own n i (code i)) (Ok tt) (Err (Malformed i))

-- step i by the tests of causes 6 to 9, in this order
abbrev pub in_turn : ℕ → Bool → Bool → Bool → Bool → Verdict
in_turn i brackets order guards evenly =
    cond brackets (cond order (cond guards (cond evenly (Ok tt) (Err (Unlevel i))) (Err (Unguarded i))) (Err (Unordered i))) (Err (Unbracketed i))

-- an instruction at step i, with h held before it; evenly: the test of cause 9
abbrev pub judged : ℕ → ℕ → Op → Bool → Verdict
judged i h x evenly = in_turn i (bracketed i h x) (ordered h x) (guarded h x) evenly

unfoldable pub use_of : Code → ℕ → Verdict
use_of code i = judged i (held_before code i) (op_of (code i)) (level code (held_before code i) (op_of (code i)))

-- cause 4; then 5 over all steps; then 6 to 9 step by step
unfoldable pub check : ℕ → ℕ → Code → Verdict
check own n code = cond (leb 3 n && leb n 64) (or_else (first_of (form_of own n code) 0 n) (first_of (use_of code) 0 n)) (Err Length)

abbrev pub passes : Verdict → Bool
passes v = is_ok v

-- document 01's number for a fault, and the step that goes with it; 0 where there is none
abbrev pub fault_cause : Fault → ℕ
fault_cause Length = 4
fault_cause (Malformed i) = 5
fault_cause (Unbracketed i) = 6
fault_cause (Unordered i) = 7
fault_cause (Unguarded i) = 8
fault_cause (Unlevel i) = 9

abbrev pub fault_step : Fault → ℕ
fault_step Length = 0
fault_step (Malformed i) = i
fault_step (Unbracketed i) = i
fault_step (Unordered i) = i
fault_step (Unguarded i) = i
fault_step (Unlevel i) = i

-- and for an answer; 0 for a pass
abbrev pub cause_of : Verdict → ℕ
cause_of (Ok u) = 0
cause_of (Err f) = fault_cause f

abbrev pub step_of : Verdict → ℕ
step_of (Ok u) = 0
step_of (Err f) = fault_step f
