-- `section::judge::use_at` meets its contract: the held sets in the array are those before each step.
use Rattle.std.proofs.Common.{length, get_or}
use Rattle.section.specs.Check.{code_of}
use Rattle.section.proofs.Passing.{use-by, looked-up}
use Rattle.section.proofs.judge.use_at.Goals as goal

pub returns : goal.returns
returns c =
    let w = c.args.words.now in
    let held = c.args.held.now in
    let h = get_or held c.args.i 0 in
    let x = c.op_of in
    rw (
      use-by (code_of w) c.args.i h x.result (c.requires.sets c.args.i c.requires.step) x.ensures,
      ← looked-up (code_of w) held (length w) h x.result c.requires.sets (rw x.ensures c.requires.landed),
    )
    c.judged.ensures
