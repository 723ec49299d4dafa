-- `buffers::input::line_end` meets its contract.
use Rattle.std.proofs.Common.{rules, tests, ◌==◌, ◌∙◌}
use Rattle.std.proofs.lemmas.Iterator.{YieldsList-from_slice}
use Rattle.std.proofs.lemmas.Iterator.Search.{position_from_yields_List}
use Rattle.buffers.proofs.Lines.{line-ends}
use Rattle.buffers.proofs.input.line_end.Goals as goal

pub returns-clause-place : goal.returns-clause-place
returns-clause-place c =
    let l = c.args.l.now in
    let e = position_from_yields_List (λ b. b == 10) _ _ c.position.result c.position.ensures.ran (YieldsList-from_slice l (cc))
    (λ x b q k. search (rules, tests)) in
    c.unwrap_or.ensures ∙ (rw e (line-ends l))
