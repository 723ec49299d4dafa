-- `worklog::words::word` meets its contract: the word at the number's index.
use Rattle.std.proofs.Common.{rules}
use Rattle.image.specs.Image.{workers}
use Rattle.image.proofs.Stores.{inside-lt, read_at}
use Rattle.worklog.specs.Log.{operand}
use Rattle.worklog.proofs.Operands.{operand-valid}
use Rattle.worklog.proofs.words.word.Goals as goal

pub load_inside-requires : goal.load_inside-requires
load_inside-requires c =
    let A = c.args in
    inside-lt A.own A.image.now A.d (operand A.d A.x) c.requires.0
    (operand-valid A.own A.d A.x (workers A.image.now) c.requires.0.below c.requires.1) c.operand_index.ensures

pub returns : goal.returns
returns c =
    let A = c.args in
    read_at A.own A.image.now (operand A.d A.x) c.operand_index.ensures c.load_inside.ensures
    (operand-valid A.own A.d A.x (workers A.image.now) c.requires.0.below c.requires.1)
