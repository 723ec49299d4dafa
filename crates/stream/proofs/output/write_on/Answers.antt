-- `stream::output::write_on` meets its contract. The loop's invariant: so many of the bytes are written, and nothing has failed.
use Rattle.std.proofs.Common.{sym, subst, rules}
use Rattle.std.proofs.Math.Seq.{take-add}
use Rattle.std.proofs.lemmas.List.{take_rest}
use Rattle.std.specs.Io.KnownBytes.{Appends}
use Rattle.std.proofs.KnownBytes.{Appends-trans}
use Rattle.stream.proofs.output.write_on.Goals as goal

pub loop-done-preserved : goal.loop-done-preserved
loop-done-preserved g c =
    let L = c.loop-done in
    let bytes = c.args.bytes.now in
    let n = c.in-Ok.n in
    record {
      inside = search rules;
      written = subst (Appends _ _) (sym (take-add L.done n bytes))
          (Appends-trans _ _ _ _ _ L.invariant.written (rw take_rest at c.in-Ok.ensures.bytes));
      told = search rules;
    }
