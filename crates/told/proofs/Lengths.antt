-- Cause 4 by itself: of fewer than three steps, and of three and more. (docs/landings/03.md names both; nothing here needs them any more.)
use Rattle.std.proofs.Common.{ℕ, ◌<◌, ◌≤◌, ◌≡◌, false}
use borrow.Author.Tests.{le-leb, lt-leb}
use lib.Dec.{leb}
use Rattle.section.specs.Sets.{length_ok}

pub length-short : (n : ℕ) → n < 3 → false ≡ length_ok n
length-short n h = rw (lt-leb 3 n h)

pub length-from-3 : (n : ℕ) → 3 ≤ n → leb n 64 ≡ length_ok n
length-from-3 n h = rw (le-leb 3 n h)
