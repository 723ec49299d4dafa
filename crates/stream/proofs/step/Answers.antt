-- `stream::step` meets its contract: the core does what its definition says, and each part leaves the stream within its buffers.
use Rattle.std.proofs.Common.{length, not, sym, ap, arith}
use Rattle.pieces.specs.Pieces.{whole}
use Rattle.pieces.specs.Pieced.{point_of}
use Rattle.day.specs.declared.Want.TheVariants.{Input}
use Rattle.stream.specs.declared.Stream.{Stream}
use Rattle.stream.specs.Shell.{unread}
use Rattle.stream.proofs.Stepping.{came-behind, none-came, steps, refilled-over}
use Rattle.stream.proofs.Waiting.{waits-short}
use Rattle.stream.proofs.step.Goals as goal

pub returns-in-Room-clause-read : goal.returns-in-Room-clause-read
returns-in-Room-clause-read g c =
    let T = c.advance-r in
    let s = c.args.s in
    let b = c.args.buf.now in
    none-came _ _ b _ _ s T.result (whole s.more (length c.args.out.now) (point_of (unread b s) c.args.image.now s.day))
    c.requires.rising c.requires.held T.ensures _ (not c.flush-written.result)

pub returns-in-Input-clause-stepped : goal.returns-in-Input-clause-stepped
returns-in-Input-clause-stepped g c =
    let T = c.advance-r in
    let M = c.more in
    let s = c.args.s in
    let b = c.args.buf.now in
    let day = ap (λ (x : Stream). x.day) M.ensures.refilled.stream in
    steps _ _ b _ _ s T.result _ c.requires.rising c.requires.held T.ensures Input M.new.buf M.result T.auto.out (sym c.in-Input.ensures) day
    (refilled-over b M.new.buf s T.result _ M.result M.ensures.refilled)

pub returns-in-Input-clause-read : goal.returns-in-Input-clause-read
returns-in-Input-clause-read g c =
    let T = c.advance-r in
    let s = c.args.s in
    let b = c.args.buf.now in
    came-behind _ _ b _ _ s T.result (whole s.more (length c.args.out.now) (point_of (unread b s) c.args.image.now s.day))
    c.requires.rising c.requires.held T.ensures _ _ _ (not c.flush-written.result) c.more.ensures.read

pub returns-in-Nothing-clause-read : goal.returns-in-Nothing-clause-read
returns-in-Nothing-clause-read g c =
    let T = c.advance-r in
    let s = c.args.s in
    let b = c.args.buf.now in
    rw c.ended.ensures (none-came _ _ b _ _ s T.result (whole s.more (length c.args.out.now) (point_of (unread b s) c.args.image.now s.day))
    c.requires.rising c.requires.held T.ensures _ (not c.flush-written.result))

pub returns-in-Input-clause-ended : goal.returns-in-Input-clause-ended
returns-in-Input-clause-ended g c long =
    let T = c.advance-r in
    let s = c.args.s in
    let b = c.args.buf.now in
    let short = waits-short _ _ b _ _ s T.result (point_of (unread b s) c.args.image.now s.day) c.requires.rising c.requires.held T.ensures T.auto.out
    (sym c.in-Input.ensures) in
    λ none more. c.more.ensures.ended (omega arith) none
