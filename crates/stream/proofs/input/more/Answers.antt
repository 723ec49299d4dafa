-- `stream::input::more` meets its contract: the bytes not taken are moved down and stay first, and behind them are the reader's next ones.
use Rattle.std.proofs.Common.{◌≡◌, ◌+◌, ◌-◌, ◌++◌, take, drop, ap, ◌∙◌, arith, length-drop, zero-add}
use Rattle.std.proofs.lemmas.List.Edits.{take-paste}
use Rattle.std.proofs.Math.Seq.{take-add}
use Rattle.stream.specs.Shell.{unread}
use Rattle.stream.proofs.input.more.Goals as goal

pub returns-clause-read : goal.returns-clause-read
returns-clause-read g c =
    let s = c.args.s in
    let b = c.args.buf.now in
    let n = s.to - s.from in
    let R = c.read_on-got in
    let moved = take-paste b 0 (drop s.from b) n (omega arith) (omega (arith, length-drop s.from b)) in
    let first : take n R.new.buf ≡ unread b s = R.ensures.first ∙ ap (take n) c.copy_within.ensures.after ∙ simp zero-add (simp zero-add at moved) in
    let all : n + R.result - 0 ≡ n + R.result = omega arith in
    record {
      bytes = take R.result (drop n R.new.buf);
      read = R.ensures.read;
      behind = rw all (take-add n R.result R.new.buf ∙ ap (λ l. l ++ take R.result (drop n R.new.buf)) first);
    }
