-- The pass by itself (document 02, 3/14): the held set before each step of any list of words. Causes 6 to 9 are not asked.
use Rattle.std.specs.Prelude.{ℕ, Bool, cond, ◌&&◌, leb, ltb, Err}
use Rattle.section.specs.declared.Fault.TheVariants.{Length}
use Rattle.section.specs.Check.{Code, Verdict, held_before, first_of, form_of, passes}

-- cause 4: a section has 3 to 64 steps
abbrev pub length_ok : ℕ → Bool
length_ok n = leb 3 n && leb n 64

-- cause 4; then 5 over all steps
unfoldable pub sets_answer : ℕ → ℕ → Code → Verdict
sets_answer own n code = cond (length_ok n) (first_of (form_of own n code) 0 n) (Err Length)

-- the held set before step j of n, and 0 from the count up
abbrev pub held_of : ℕ → Code → ℕ → ℕ
held_of n code j = cond (ltb j n) (held_before code j) 0

-- word j of those lent for the sets, after the pass; where it is refused, all are 0
unfoldable pub sets_leave : ℕ → ℕ → Code → ℕ → ℕ
sets_leave own n code j = cond (passes (sets_answer own n code)) (held_of n code j) 0
