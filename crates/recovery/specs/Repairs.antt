-- The repair that a call answers with, from which its stores can be listed: by what the definition of recovery says of the image.
use Rattle.std.specs.Prelude.{ℕ}
use Rattle.image.specs.Image.{Image}
use Rattle.repair.specs.declared.Repair.{Repair}
use Rattle.repair.specs.Repair.{repair_of, no_repair}
use Rattle.recovery.specs.Recovery.{Recovered, accepted, rejected}

abbrev pub repair_by : ℕ → Image → Recovered → Repair
repair_by n m (accepted ss cs) = repair_of n m
repair_by n m (rejected r) = no_repair
