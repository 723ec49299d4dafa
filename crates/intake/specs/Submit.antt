-- Submitting a section. (Document 01: hand-in.)
use Rattle.std.specs.Prelude.{ℕ, ◌+◌, ◌-◌, Bool, true, false, cond, ◌&&◌, List, [], ◌∷◌, ◌++◌, length, replicate, ltb, eqb, Result, Ok, Err}
use Rattle.image.specs.declared.Field.TheVariants.{Count, Pc, Number, Finished}
use Rattle.image.specs.Place.{Place, field, own, step, Store}
use Rattle.image.specs.Image.{at, workers, header_ok, put_all}
use Rattle.section.specs.Check.{Verdict, code_of, check}
use Rattle.working.specs.declared.Refusal.{Refusal}
use Rattle.working.specs.declared.Refusal.TheVariants.{Worker, Busy, Number as NumberRefused, Section, Image as ImageRefused}
use Rattle.working.specs.Cursor.{on, is_idle, cursor_at, placed}
use Rattle.working.specs.World.{World, world}

-- taken, or why not
abbrev pub Submitted : Type 0
Submitted = Result Unit Refusal

-- the values of a list at the places of a row
unfoldable pub assigns : (ℕ → Place) → ℕ → List ℕ → List Store
assigns f i [] = []
assigns f i (v ∷ vs) = record { place = f i; value = v } ∷ assigns f (i + 1) vs

-- the stores of a section that is taken: number, own words (the arguments, then 0), instructions, count
unfoldable pub submission : ℕ → ℕ → ℕ → List ℕ → List ℕ → List Store
submission n d k args ws =
    record { place = field Number d; value = k } ∷
    (assigns (own d) 0 (args ++ replicate (n - 8) 0) ++ (assigns (step d) 0 ws ++ (record { place = field Count d; value = length ws } ∷ [])))

abbrev pub verdict_answer : Verdict → Submitted
verdict_answer (Ok u) = Ok tt
verdict_answer (Err f) = Err (Section f)

abbrev pub is_taken : Submitted → Bool
is_taken (Ok u) = true
is_taken (Err r) = false

-- worker d has no section, by its cursor and by its record (else cause 2)
unfoldable pub free : ℕ → World → ℕ → Bool
free n w d = is_idle (cursor_at w.cursors d) && eqb (at n w.image (field Count d)) 0 && eqb (at n w.image (field Pc d)) 0

-- causes 10, 1, 2, 3, then the check's
unfoldable pub submit_answer : ℕ → ℕ → World → ℕ → ℕ → List ℕ → Submitted
submit_answer mark n w d k ws =
    cond (header_ok mark n w.image)
    (cond (ltb d (workers w.image))
    (cond (free n w d)
    (cond (ltb (at n w.image (field Finished d)) k)
    (verdict_answer (check n (length ws) (code_of ws)))
    (Err NumberRefused))
    (Err Busy))
    (Err Worker))
    (Err ImageRefused)

-- what it leaves, by its answer
abbrev pub submit_leaves : ℕ → World → ℕ → ℕ → List ℕ → List ℕ → Submitted → World
submit_leaves n w d k args ws (Ok u) =
    world (put_all n w.left w.image (submission n d k args ws)) (placed w.cursors d (on 0 0)) (w.left - length (submission n d k args ws))
submit_leaves n w d k args ws (Err r) = w
