-- Causes and the other answers of a turn lie apart: a cause is below 32 (`cause-below`), and no other answer is. So a refusal is told by its number
-- (`turn-apart`).
use Prim.Native.Nat.{◌<◌}
use mathlib.Core.Path.{◌≡◌, refl}
use native.Mathlib.Omega.{arith}
use lib.Dec.{ltb}
use borrow.Author.Tests.{lt-ltb}
use Rattle.section.specs.declared.Fault.{Fault}
use Rattle.section.specs.declared.Fault.TheVariants.{Length, Malformed, Unbracketed, Unordered, Unguarded, Unlevel}
use Rattle.section.specs.Check.{fault_cause}
use Rattle.working.specs.declared.Refusal.{Refusal}
use Rattle.working.specs.declared.Refusal.TheVariants.{Worker, Busy, Number, Section, Image, Cursor}
use Rattle.working.specs.Refusal.{cause_of}
use Rattle.turn.specs.declared.Answer.{Answer}
use Rattle.turn.specs.declared.Answer.TheVariants.{Stored, Passed, Waiting, Idle, Refused}
use Rattle.turn.specs.Call.{is_refused}
use Rattle.turn.specs.Codes.{turn_code}

pub fault-below : (f : Fault) → fault_cause f < 32
fault-below Length = omega arith
fault-below (Malformed i) = omega arith
fault-below (Unbracketed i) = omega arith
fault-below (Unordered i) = omega arith
fault-below (Unguarded i) = omega arith
fault-below (Unlevel i) = omega arith

pub cause-below : (r : Refusal) → cause_of r < 32
cause-below Worker = omega arith
cause-below Busy = omega arith
cause-below Number = omega arith
cause-below (Section f) = fault-below f
cause-below Image = omega arith
cause-below (Cursor d) = omega arith

pub turn-apart : (a : Answer) → is_refused a ≡ ltb (turn_code a) 32
turn-apart (Stored i) = refl
turn-apart (Passed why) = refl
turn-apart (Waiting b) = refl
turn-apart Idle = refl
turn-apart (Refused r) = rw (lt-ltb (cause_of r) 32 (cause-below r))
