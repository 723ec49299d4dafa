-- What a recovery answers: nothing more, or why it is refused.
use Rattle.std.specs.Prelude.{Result}
use Rattle.soundness.specs.declared.Refusal.{Refusal}

abbrev pub Answer : Type 0
Answer = Result Unit Refusal
