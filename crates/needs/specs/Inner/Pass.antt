-- The pass from the end of a section: where each step leads, and what is asked of the section.
use Rattle.std.specs.Prelude.{ℕ, ◌<◌, ◌≤◌, ◌≡◌, true, List, length}
use Rattle.code.specs.declared.Op.{Op}
use Rattle.code.specs.declared.Op.TheVariants.{Acquire, Release, Assign, Jump, Finish, Unknown}
use Rattle.code.specs.Op.{op_of}
use Rattle.code.specs.Form.{in_place}
use Rattle.section.specs.Check.{code_of}

-- the step that an instruction may lead to besides the next; of one that is no jump, the next
abbrev pub other_step : ℕ → Op → ℕ
other_step next (Acquire a) = next
other_step next (Release a) = next
other_step next (Assign a e) = next
other_step next (Jump a b) = b
other_step next Finish = next
other_step next Unknown = next

-- at most 64 steps, each at a position that it may have; the pass goes down to one of them, or the end
pub record Passable (words : List ℕ) (from : ℕ) : Type 0 where
  pub few : length words ≤ 64
  pub placed : (i : ℕ) → i < length words → in_place (length words) i (op_of (code_of words i)) ≡ true
  pub inside : from ≤ length words
