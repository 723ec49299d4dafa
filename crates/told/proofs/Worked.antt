-- Document 01's worked rows, computed over the definitions: one statement for the whole table. The rows with a recovery go by
-- the plan written as rows of stores, which computes in one pass.
use Prim.Native.Nat.{ℕ, ◌^◌, ◌-◌}
use mathlib.Core.Path.{◌≡◌, refl, ap, ap₂, ◌∙◌}
use mathlib.Core.Bool.{true}
use mathlib.Core.List.{List, map, [], ◌∷◌, ◌++◌}
use lib.ListN.{length, get_or, replicate}
use Rattle.std.specs.Prelude.{Ok}
use Rattle.mask.specs.Mask.{has, with, without}
use Rattle.image.specs.Place.{Memory, Store}
use Rattle.image.specs.Image.{record_at, length_of, index_of, workers, at, header_ok, put, put_all}
use Rattle.code.specs.Table.{entry, highest}
use Rattle.code.specs.Op.{op_of, eval}
use Rattle.code.specs.Form.{in_range, well_formed, held_after}
use Rattle.section.specs.Check.{held_before, first_of, form_of, use_of, check}
use Rattle.working.specs.Cursor.{cursor_at, set_at, all_idle}
use Rattle.worklog.specs.Log.{operand, second, spare_addr, spare_val, active_addr, active_val, switched}
use Rattle.plan.specs.Turn.{ready, turn_at}
use Rattle.working.specs.World.{world}
use Rattle.turn.specs.Call.{outcome_at, outcome}
use Rattle.formatting.specs.Format.{formatted}
use Rattle.intake.specs.Submit.{Submitted, assigns, submission, free, submit_answer}
use Rattle.owed.specs.Owed.{covers, named_step, named_op, owed, claimants}
use Rattle.soundness.specs.Sound.{section_ok, pc_ok, sound, unsound, lock_ok, bad_lock}
use Rattle.resuming.specs.Resumed.{resumed}
use Rattle.repair.specs.Plan.{intended}
use Rattle.resuming.specs.Resumed.{resumed_all}
use Rattle.repair.specs.Plan.{rows, intend, withdraw, relocks, unlock, plan}
use Rattle.recovery.specs.Recovery.{recovery}
use Rattle.claims.specs.Calls.{Traced, traced, forgetful, submits, turns, recovers, whole, cut, call, move}
use Rattle.told.specs.Examples.{rows as table, expected, seen_in, cause_in, watched, listing, board, many, row, seen, after, spans_in, spans, expected_spans}
use Rattle.told.specs.Turns.{heed_all, passage_of}

-- What the rows compute through, in groups: to unfold one of these is to unfold all that its line names.
in_image : ℕ
unfolding has with without record_at length_of index_of workers at header_ok put put_all formatted
in_image = 0

in_section : ℕ
unfolding entry highest op_of eval in_range well_formed held_after held_before first_of form_of use_of check assigns submission free submit_answer
in_section = 0

in_turn : ℕ
unfolding cursor_at set_at all_idle operand second spare_addr spare_val active_addr active_val switched ready turn_at outcome_at outcome call move
in_turn = 0

in_recovery : ℕ
unfolding covers named_step named_op owed section_ok pc_ok sound resumed unsound claimants lock_ok bad_lock resumed_all intended
in_recovery = 0

-- the plan in one pass
abbrev plan_rows : Memory → List Store
plan_rows rd =
    rows (unlock 8 rd 1) 0 64 ++ (rows (intend 8 rd) 0 1 ++ (rows (withdraw 8 rd) 0 1 ++ rows (relocks 8 rd) 0 1))

plan-rows : (rd : Memory) → plan 8 rd 1 ≡ plan_rows rd
unfolding plan
plan-rows rd = refl

-- what an accepted recovery of one worker's image leaves, by that plan
abbrev by_plan : Traced → Traced
by_plan w =
    let rd = at 8 w.world.image in
    traced (world (put_all 8 (2 ^ 64 - 1) w.world.image (plan_rows rd)) (resumed_all 8 rd 1) (2 ^ 64 - 1 - length (plan_rows rd))) (forgetful w.trace)

recovered : (w : Traced) → workers w.world.image ≡ 1 → header_ok 1 8 w.world.image ≡ true
    → unsound 8 (at 8 w.world.image) 1 0 1 ≡ [] → bad_lock 8 (at 8 w.world.image) 1 0 64 ≡ []
    → move 1 8 (whole recovers) w ≡ by_plan w
unfolding move call recovery
recovered w one h s l = rw (h, one, s, l, plan-rows (at 8 w.world.image))

-- the worker's section after so many turns, and then the cut
abbrev cut_at : ℕ → Traced
cut_at k = move 1 8 (cut 0 (turns 0)) (many k (move 1 8 (whole (submits 0 1 (replicate 8 0) listing)) board))

after-4 : move 1 8 (whole recovers) (cut_at 4) ≡ by_plan (cut_at 4)
unfolding in_image in_section in_turn in_recovery
after-4 = recovered (cut_at 4) refl refl refl refl

after-5 : move 1 8 (whole recovers) (cut_at 5) ≡ by_plan (cut_at 5)
unfolding in_image in_section in_turn in_recovery
after-5 = recovered (cut_at 5) refl refl refl refl

after-15 : move 1 8 (whole recovers) (cut_at 15) ≡ by_plan (cut_at 15)
unfolding in_image in_section in_turn in_recovery
after-15 = recovered (cut_at 15) refl refl refl refl

-- ---- row by row

listing-taken : submit_answer 1 8 board.world 0 1 listing ≡ Ok tt
unfolding in_image in_section in_turn in_recovery
listing-taken = refl

cut-4 : seen_in (row listing (after 4)) ≡ seen 0 0 0 [] 0
unfolding in_image in_section in_turn in_recovery rows
cut-4 = ap (λ (x : Submitted). watched (cause_in x) (move 1 8 (whole recovers) (cut_at 4))) listing-taken ∙ (ap (watched 0) after-4 ∙ refl)

cut-5 : seen_in (row listing (after 5)) ≡ seen 0 4 14 [] 5
unfolding in_image in_section in_turn in_recovery rows
cut-5 = ap (λ (x : Submitted). watched (cause_in x) (move 1 8 (whole recovers) (cut_at 5))) listing-taken ∙ (ap (watched 0) after-5 ∙ refl)

cut-15 : seen_in (row listing (after 15)) ≡ seen 0 4 6 (2 ∷ []) 5
unfolding in_image in_section in_turn in_recovery rows
cut-15 = ap (λ (x : Submitted). watched (cause_in x) (move 1 8 (whole recovers) (cut_at 15))) listing-taken ∙ (ap (watched 0) after-15 ∙ refl)

pub worked-rows : map seen_in table ≡ expected
unfolding in_image in_section in_turn in_recovery
worked-rows =
    ap₂ ◌∷◌ refl
    (ap₂ ◌∷◌ cut-4
    (ap₂ ◌∷◌ cut-5
    (ap₂ ◌∷◌ cut-15
    refl)))

-- ---- turns to the end

spans-5 : spans_in (after 5) ≡ get_or expected_spans 2 []
unfolding in_image in_section in_turn in_recovery rows heed_all
spans-5 = ap (λ (w : Traced). (passage_of 0 (many 20 w).trace.events).spans) after-5 ∙ refl

spans-15 : spans_in (after 15) ≡ get_or expected_spans 3 []
unfolding in_image in_section in_turn in_recovery rows heed_all
spans-15 = ap (λ (w : Traced). (passage_of 0 (many 20 w).trace.events).spans) after-15 ∙ refl

spans-4 : spans_in (after 4) ≡ []
unfolding in_image in_section in_turn in_recovery rows heed_all
spans-4 = ap (λ (w : Traced). (passage_of 0 (many 20 w).trace.events).spans) after-4 ∙ refl

pub worked-spans : spans ≡ expected_spans
unfolding in_image in_section in_turn in_recovery heed_all
worked-spans = ap₂ ◌∷◌ refl (ap₂ ◌∷◌ spans-4 (ap₂ ◌∷◌ spans-5 (ap₂ ◌∷◌ spans-15 refl)))
