-- Questions about a worker, which the image alone answers: the number of its last finished section; and how it stands to a section that it
-- was or is to be given, by the section's number, which is what a client asks after a cut.
use Rattle.std.specs.Prelude.{ℕ, cond, not, ◌&&◌, leb, ltb, eqb, Result, Ok, Err}
use Rattle.image.specs.declared.Field.TheVariants.{Pc, Number, Finished}
use Rattle.image.specs.Place.{field, Memory}
use Rattle.image.specs.Image.{Image, at, workers, header_ok}
use Rattle.working.specs.Refusal.{cause_of}
use Rattle.working.specs.declared.Refusal.{Refusal}
use Rattle.working.specs.declared.Refusal.TheVariants.{Worker, Image as ImageRefused}
use Rattle.asking.specs.declared.Standing.{Standing}
use Rattle.asking.specs.declared.Standing.TheVariants.{NotBegun, Begun, Finished as StandsFinished}

-- section k of worker d: finished where k is at most the last finished number; begun where the worker's section is, and has this
-- number. The order matters: a finish stores the finished number while the pc still stands.
abbrev pub standing_in : Memory → ℕ → ℕ → Standing
standing_in rd d k = cond (leb k (rd (field Finished d))) StandsFinished (cond (not (eqb (rd (field Pc d)) 0) && eqb (rd (field Number d)) k) Begun NotBegun)

-- causes 10, 1
unfoldable pub standing_of : ℕ → ℕ → Image → ℕ → ℕ → Result Standing Refusal
standing_of mark n m d k = cond (header_ok mark n m) (cond (ltb d (workers m)) (Ok (standing_in (at n m) d k)) (Err Worker)) (Err ImageRefused)

-- whether a question about worker d is answered: causes 10, 1
unfoldable pub asked_of : ℕ → ℕ → Image → ℕ → Result Unit Refusal
asked_of mark n m d = cond (header_ok mark n m) (cond (ltb d (workers m)) (Ok tt) (Err Worker)) (Err ImageRefused)

-- ---- the other questions

-- the number with which a question about worker d is refused: causes 10, 1; 0 where it is answered
unfoldable pub ask_code : ℕ → ℕ → Image → ℕ → ℕ
ask_code mark n m d = cond (header_ok mark n m) (cond (ltb d (workers m)) 0 (cause_of Worker)) (cause_of ImageRefused)

-- the number of the last section that worker d finished; 0 where the question is refused
unfoldable pub finished_of : ℕ → ℕ → Image → ℕ → ℕ
finished_of mark n m d = cond (header_ok mark n m) (cond (ltb d (workers m)) (at n m (field Finished d)) 0) 0
