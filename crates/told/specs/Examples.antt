-- Document 01's worked rows ("Cuts of that ticket, and edges") that are to be proved, as one table: a section submitted on a
-- formatted image of one worker, cut after some of its turns or not, recovered, and run to its end.
use Rattle.std.specs.Prelude.{ℕ, suc, zero, ◌+◌, ◌*◌, ◌^◌, List, [], ◌∷◌, ◌++◌, replicate, Ok, Err}
use Rattle.image.specs.declared.Field.TheVariants.{Count}
use Rattle.image.specs.Place.{cell, field}
use Rattle.image.specs.Image.{at}
use Rattle.edition.specs.Edition.{mark, own_words}
use Rattle.working.specs.Refusal.{cause_of}
use Rattle.plan.specs.Turn.{Outcome, stored, passed, waiting, resting, refused}
use Rattle.turn.specs.Call.{outcome}
use Rattle.formatting.specs.Format.{formatted}
use Rattle.intake.specs.Submit.{Submitted, submit_answer}
use Rattle.claims.specs.Reference.{given}
use Rattle.claims.specs.Calls.{Traced, submits, turns, recovers, whole, cut, move, from}
use Rattle.told.specs.Turns.{Start, first, resumed, Span, span, passage_of}

-- kind, a, b, c
abbrev word : ℕ → ℕ → ℕ → ℕ → ℕ
word k a b c = k * 2 ^ 48 + a * 2 ^ 32 + b * 2 ^ 16 + c

abbrev acquire : ℕ → ℕ
acquire a = word 1 a 0 0

abbrev release : ℕ → ℕ
release a = word 2 a 0 0

-- word a := c
abbrev literal : ℕ → ℕ → ℕ
literal a c = word 3 a 0 c

abbrev finish : ℕ
finish = word 8 0 0 0

-- document 01's ticket
abbrev pub listing : List ℕ
listing = acquire 3 ∷ literal 24 5 ∷ release 3 ∷ finish ∷ []

-- the power is cut after so many turns, or never
pub data Cut : Type 0 where
  never : Cut
  after : ℕ → Cut

pub record Row : Type 0 where
  pub steps : List ℕ
  pub power : Cut

abbrev pub row : List ℕ → Cut → Row
row ws p = record { steps = ws; power = p }

-- what is seen. Turns are counted from the recovery where there was a cut, else from the submit
pub record Seen : Type 0 where
  -- why a turn was refused, or else the submit; 0: neither was
  pub cause : ℕ
  -- the count word of the worker's record before the first of the turns: 0 where it has no section, as when it was withdrawn
  pub count : ℕ
  -- how many turns were made before one answered idle
  pub turns : ℕ
  -- which of them passed, the first turn being 1
  pub passed : List ℕ
  -- what cell 24 then holds
  pub cell24 : ℕ

abbrev pub seen : ℕ → ℕ → ℕ → List ℕ → ℕ → Seen
seen c n t ps x = record { cause = c; count = n; turns = t; passed = ps; cell24 = x }

-- document 01's rows
abbrev pub rows : List Row
rows =
    row listing never
    ∷ row listing (after 4)
    ∷ row listing (after 5)
    ∷ row listing (after 15)
    ∷ row (acquire 3 ∷ finish ∷ []) never
    ∷ row (acquire 3 ∷ release 3 ∷ finish ∷ []) never
    ∷ row (acquire 63 ∷ release 63 ∷ finish ∷ []) never
    ∷ row (acquire 64 ∷ release 63 ∷ finish ∷ []) never
    ∷ row (acquire 3 ∷ acquire 3 ∷ release 3 ∷ finish ∷ []) never
    ∷ row (acquire 3 ∷ literal 32 5 ∷ release 3 ∷ finish ∷ []) never
    ∷ row (acquire 3 ∷ word 7 512 3 0 ∷ release 3 ∷ finish ∷ []) never
    ∷ []

-- and what it says of them
abbrev pub expected : List Seen
expected =
    seen 0 4 19 [] 5
    ∷ seen 0 0 0 [] 0
    ∷ seen 0 4 14 [] 5
    ∷ seen 0 4 6 (2 ∷ []) 5
    ∷ seen 4 0 0 [] 0
    ∷ seen 0 3 15 [] 0
    ∷ seen 0 3 15 [] 0
    ∷ seen 5 0 0 [] 0
    ∷ seen 7 0 0 [] 0
    ∷ seen 8 0 0 [] 0
    ∷ seen 9 0 0 [] 0
    ∷ []

-- ---- playing a row

abbrev turn : Traced → Traced
turn w = move mark own_words (whole (turns 0)) w

abbrev pub many : ℕ → Traced → Traced
many zero w = w
many (suc k) w = many k (turn w)

-- the power goes before the next store, and a recovery follows
abbrev pub powered : Cut → Traced → Traced
powered never w = w
powered (after k) w = move mark own_words (whole recovers) (move mark own_words (cut 0 (turns 0)) (many k w))

-- what follows a turn with this outcome, t turns having been made before it, of which those of ps passed: the end, with the cause
-- c or the turn's, or more turns
abbrev next : Outcome → ℕ → ℕ → List ℕ → (ℕ → Seen) → (ℕ → List ℕ → Seen) → Seen
next (stored q v x) c t ps end more = more (suc t) ps
next (passed why x) c t ps end more = more (suc t) (ps ++ (suc t ∷ []))
next (waiting b) c t ps end more = more (suc t) ps
next resting c t ps end more = end c
next (refused r) c t ps end more = end (cause_of r)

-- turns until one answers idle or is refused, at most k; c and n are the row's cause and count before them
abbrev ends : ℕ → ℕ → ℕ → ℕ → List ℕ → Traced → Seen
ends c n zero t ps w = seen c n t ps (at own_words w.world.image (cell 24))
ends c n (suc k) t ps w =
    next (outcome mark own_words w.world 0) c t ps (λ e. seen e n t ps (at own_words w.world.image (cell 24))) (λ u qs. ends c n k u qs (turn w))

-- the turns of a row, from the world in which they begin; no row has 40
abbrev pub watched : ℕ → Traced → Seen
watched c w = ends c (at own_words w.world.image (field Count 0)) 40 0 [] w

abbrev pub board : Traced
board = from (formatted mark own_words 1)

abbrev pub cause_in : Submitted → ℕ
cause_in (Ok u) = 0
cause_in (Err x) = cause_of x

abbrev pub seen_in : Row → Seen
seen_in r =
    watched (cause_in (submit_answer mark own_words board.world 0 1 r.steps))
    (powered r.power (move mark own_words (whole (submits 0 1 (replicate 8 0) r.steps)) board))

-- ---- the turns of document 01's ticket to its end (document 02, 4/14), as the events tell them, with the step at which it was resumed

abbrev pub spans_in : Cut → List Span
spans_in p = (passage_of 0 (many 20 (powered p (move mark own_words (whole (submits 0 1 (replicate 8 0) listing)) board))).trace.events).spans

-- uncut; withdrawn; resumed at its acquire, and at its release
abbrev pub spans : List (List Span)
spans = spans_in never ∷ spans_in (after 4) ∷ spans_in (after 5) ∷ spans_in (after 15) ∷ []

abbrev of_listing : Start → ℕ → List Span
of_listing b t = span 0 (given 0 1 (replicate 8 0) listing) b t ∷ []

abbrev pub expected_spans : List (List Span)
expected_spans = of_listing first 19 ∷ [] ∷ of_listing (resumed 0) 14 ∷ of_listing (resumed 2) 6 ∷ []
