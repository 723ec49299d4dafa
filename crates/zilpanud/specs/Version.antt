-- The library's version as one number: 1,000,000 × major + 1,000 × minor + patch. include/zilpanud.h and rust/zilpanud have the same.
use Rattle.std.specs.Prelude.{ℕ}

abbrev pub version : ℕ
version = 9000
