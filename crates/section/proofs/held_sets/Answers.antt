-- `section::held_sets` meets its contract: the answer is the pass's, and the words that are not to have a held set are cleared.
use Rattle.std.proofs.Common.{◌≡◌, ℕ, ◌-◌, ◌≤◌, ◌∙◌, true, false, length, replicate, sym, ap, rules, arith}
use Rattle.std.proofs.lemmas.Grind.{common_steps}
use Rattle.section.proofs.Filled.{cleared, kept_of, kept_by, kept_few, sets-cleared}
use Rattle.section.proofs.held_sets.Goals.{Joined-is_ok, then-is_ok, else-is_ok}
use Rattle.section.proofs.held_sets.Goals as goal

kept : (c : Joined-is_ok) → c.if-is_ok.kept ≡ kept_of (length c.args.words.now) c.checked-v.result
kept c =
    let n = length c.args.words.now in
    let v = c.checked-v.result in
    elim c.if-is_ok.branch [
      | then-is_ok w ↦ kept_by n v true (sym c.is_ok.ensures.value ∙ w.if-is_ok.true) w.kept-is
      | else-is_ok w ↦ kept_by n v false (sym c.is_ok.ensures.value ∙ w.if-is_ok.false) w.kept-is
    ]

few : (c : Joined-is_ok) → c.if-is_ok.kept ≤ 64
few c =
    let v = c.checked-v in
    rw (kept c) (kept_few c.args.own c.args.words.now c.args.held.now v.result v.new.held v.ensures)

pub slice_bounds-fill-count : goal.slice_bounds-fill-count
slice_bounds-fill-count c = few (goal.at.slice_bounds-fill-count c).Joined-is_ok

pub slice_bounds-fill-start : goal.slice_bounds-fill-start
slice_bounds-fill-start c = let h = few (goal.at.slice_bounds-fill-start c).Joined-is_ok in search rules

pub returns-clause-sets : goal.returns-clause-sets
returns-clause-sets c =
    let v = c.checked-v in
    let A = c.args in
    let k = c.if-is_ok.kept in
    let joined = (goal.at.returns-clause-sets c).Joined-is_ok in
    let h = few joined in
    let room : length v.new.held ≡ 64 = omega arith in
    let zeros : c.fill.new.self ≡ replicate (64 - k) 0 = c.fill.ensures.after (λ y h. h) ∙ ap (λ (m : ℕ). replicate m 0) (grind (arith, common_steps)) in
    λ j. rw zeros
    (cleared v.new.held k (64 - k) j (omega arith) ∙ rw (kept joined) (sets-cleared A.own A.words.now A.held.now v.result v.new.held v.ensures j))
