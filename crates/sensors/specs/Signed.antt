-- Two bytes, read as a sign and a size, are those that the number is written as.
use Rattle.std.specs.Prelude.{◌≡◌, ℕ, ◌+◌, ◌*◌, ◌%◌, ◌<◌, true, not, ◌==◌, unsigned_abs}
use Rattle.std.proofs.Common.{arith}
use Rattle.std.proofs.lemmas.Bool.Decides.{nat_tests}
use Rattle.frame.specs.Fields.{signed, high_byte_of}

module _ (hi lo : ℕ) (h : hi < 256) (l : lo < 256) where
  pub signed_low : unsigned_abs (signed hi lo) % 256 ≡ lo
  signed_low = grind (arith, nat_tests)

  pub signed_high : not (hi * 256 + lo == 0x8000) ≡ true → high_byte_of (signed hi lo) ≡ hi
  signed_high n = grind (arith, nat_tests)
