-- `recovery::header_ok` meets its contract: an image that is right has its records' start, whatever its workers.
use native.Mathlib.Omega.{arith}
use mathlib.Core.Path.{sym}
use borrow.Author.Tests.{lt-leb}
use Rattle.image.specs.Image.{record_at, length_of}
use Rattle.image.proofs.Header.{header-false}
use Rattle.recovery.proofs.header_ok.Goals as goal

pub returns-else-record_at-words : goal.returns-else-record_at-words
unfolding record_at length_of
returns-else-record_at-words c =
    let e = c.args.e in
    let short = c.if-record_at-words.false in
    let no = header-false e.mark e.own c.args.image.now (λ h. omega (arith, h.size, c.record_at.ensures, c.words.ensures, short)) in
    rw (lt-leb c.record_at.result c.words.result short) (sym no)
