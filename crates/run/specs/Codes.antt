-- The number and the value of each way that a run ends: 0 where all are idle, a number of ours where the rounds are spent; for a refusal document 01's
-- cause, with the worker that goes with it. A value that is not named is 0.
use Rattle.std.specs.Prelude.{ℕ}
use Rattle.working.specs.Refusal.{cause_of, value_of}
use Rattle.run.specs.declared.End.{End}
use Rattle.run.specs.declared.End.TheVariants.{AllIdle, Spent, Halted}

-- behind those of a turn's answers (turn/specs/Codes.antt)
abbrev pub spent_no : ℕ
spent_no = 36

abbrev pub end_code : End → ℕ
end_code AllIdle = 0
end_code Spent = spent_no
end_code (Halted r) = cause_of r

abbrev pub end_detail : End → ℕ
end_detail AllIdle = 0
end_detail Spent = 0
end_detail (Halted r) = value_of r
