-- What a section needs from a step on before its path is known: over both ways of each jump the fewest turns, and the most. Worked out from
-- the end, so that each step is looked at once. (Document 02, 4/14.)
use Rattle.std.specs.Prelude.{ℕ, suc, zero, ◌+◌, ◌-◌, cond, List, [], ◌∷◌, get_or, ltb, Result, Ok, Err}
use Rattle.code.specs.declared.Op.{Op}
use Rattle.code.specs.declared.Op.TheVariants.{Acquire, Release, Assign, Jump, Finish, Unknown}
use Rattle.code.specs.Table.{turns_of}
use Rattle.code.specs.Op.{op_of}
use Rattle.section.specs.declared.Fault.{Fault}
use Rattle.section.specs.declared.Fault.TheVariants.{Malformed}
use Rattle.section.specs.Check.{Code, Verdict, check}
use Rattle.needs.specs.declared.Span.{Span}

-- which of a jump's two ways counts
abbrev pub lesser : ℕ → ℕ → ℕ
lesser x y = cond (ltb x y) x y

abbrev pub larger : ℕ → ℕ → ℕ
larger x y = cond (ltb x y) y x

-- behind an instruction at step i, of what each of the steps behind it needs
abbrev pub onward : (ℕ → ℕ → ℕ) → ℕ → Op → List ℕ → ℕ
onward pick i (Acquire a) rest = get_or rest 0 0
onward pick i (Release a) rest = get_or rest 0 0
onward pick i (Assign a e) rest = get_or rest 0 0
onward pick i (Jump a b) rest = pick (get_or rest 0 0) (get_or rest (b - suc i) 0)
onward pick i Finish rest = get_or rest 0 0
onward pick i Unknown rest = get_or rest 0 0

-- what each of the last k of n steps needs, the first of them first
unfoldable pub ahead : (ℕ → ℕ → ℕ) → ℕ → Code → ℕ → List ℕ
ahead pick n code zero = []
ahead pick n code (suc k) =
    let i = n - suc k in
    let rest = ahead pick n code k in
    (turns_of (code i) + onward pick i (op_of (code i)) rest) ∷ rest

-- from step i of n on; 0 behind the last
unfoldable pub needs_by : (ℕ → ℕ → ℕ) → ℕ → Code → ℕ → ℕ
needs_by pick n code i = get_or (ahead pick n code (n - i)) 0 0

abbrev pub fewest : ℕ → Code → ℕ → ℕ
fewest n code i = needs_by lesser n code i

abbrev pub most : ℕ → Code → ℕ → ℕ
most n code i = needs_by larger n code i

abbrev pub span : ℕ → Code → ℕ → Span
span n code i = record { fewest = fewest n code i; most = most n code i }

-- the fewest turns and the most from a step on; or why the section, or the step, is refused
abbrev pub Needed : Type 0
Needed = Result Span Fault

-- by the check's answer; past the end a step is refused with cause 5
abbrev pub needs_for : ℕ → Code → ℕ → Verdict → Needed
needs_for n code i (Ok u) = cond (ltb i n) (Ok (span n code i)) (Err (Malformed i))
needs_for n code i (Err f) = Err f

-- what a question about a section and a step is answered
unfoldable pub needs_of : ℕ → ℕ → Code → ℕ → Needed
needs_of own n code i = needs_for n code i (check own n code)
