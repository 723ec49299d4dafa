-- `soundness::records::record_sound` meets its contract: with no section by itself, else as the only one that is asked.
use mathlib.Core.Path.{◌∙◌}
use Rattle.image.specs.Image.{at}
use Rattle.soundness.proofs.Single.{unsound-one}
use Rattle.soundness.proofs.records.record_sound.Goals as goal

pub returns : goal.returns
returns c =
    let A = c.args in
    c.is_ok.ensures.value ∙ unsound-one A.own (at A.own A.image.now) A.d _ c.judged.ensures.answer
