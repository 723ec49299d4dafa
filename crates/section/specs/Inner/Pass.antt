-- What the inner functions of the check hand to each other: the held set before each step in one array, worked out in one
-- pass, and looked up there.
use Rattle.std.specs.Prelude.{ℕ, ◌<◌, ◌≤◌, ◌≡◌, Bool, true, cond, List, length, get_or, ltb, Ok, Err}
use Rattle.section.specs.declared.Fault.TheVariants.{Length, Malformed, Unbracketed, Unordered, Unguarded, Unlevel}
use Rattle.code.specs.Op.{op_of}
use Rattle.section.specs.Check.{Code, Verdict, code_of, held_before, check}
use Rattle.section.specs.Sets.{sets_answer}
use Rattle.code.specs.Form.{lock_ok}
use Rattle.rules.specs.Inner.Looked.{lands}

-- step i can be judged: its lock and its target are such as cause 5 leaves them, and the held sets are those before each step
pub record Judgeable (ws held : List ℕ) (i : ℕ) : Type 0 where
  pub step : i < length ws
  pub room : length ws ≤ length held
  pub locked : lock_ok (op_of (code_of ws i)) ≡ true
  pub landed : lands (length ws) (op_of (code_of ws i)) ≡ true
  pub sets : (j : ℕ) → j < length ws → get_or held j 0 ≡ held_before (code_of ws) j

-- the steps that the pass has come past, by the answer to n steps: none where their number is refused, those before the first that
-- fails cause 5, else all
abbrev pub reached : ℕ → Verdict → ℕ
reached n (Ok u) = n
reached n (Err Length) = 0
reached n (Err (Malformed i)) = i
reached n (Err (Unbracketed i)) = n
reached n (Err (Unordered i)) = n
reached n (Err (Unguarded i)) = n
reached n (Err (Unlevel i)) = n

-- word j of the array once k steps are passed: the held set before a step that is, else what stood there before
abbrev pub held_to : ℕ → Code → Code → ℕ → ℕ
held_to k code before j = cond (ltb j k) (held_before code j) (before j)

-- word j of the array after the check
unfoldable pub held_left : ℕ → ℕ → Code → Code → ℕ → ℕ
held_left own n code before j = held_to (reached n (check own n code)) code before j

-- the answer of the whole check, or of its pass alone
abbrev pub answer_by : Bool → ℕ → ℕ → Code → Verdict
answer_by whole own n code = cond whole (check own n code) (sets_answer own n code)

-- a check with this answer, and the held sets as far as the pass has come by it
pub record Checked (answer : Verdict) (ws before : List ℕ) (verdict : Verdict) (held : List ℕ) : Type 0 where
  pub first : verdict ≡ answer
  pub sets : (j : ℕ) → get_or held j 0 ≡ held_to (reached (length ws) verdict) (code_of ws) (code_of before) j
