-- The ranges of the fields (docs/PACKETS.md).
use Rattle.std.specs.Prelude.{ℕ, Bool, ◌&&◌, ℤ, ◌==◌, nat_le, nat_lt, unsigned_abs}
use Rattle.frame.specs.Fields.{in_range}

abbrev pub climate_ok : ℕ → ℕ → ℤ → ℕ → ℕ → ℕ → ℕ → ℕ → ℕ → Bool
climate_ok subtype id temperature humidity status pressure forecast strength battery =
    in_range 1 subtype 2 && nat_lt id 65536 && nat_le (unsigned_abs temperature) 0x7FFF && nat_le humidity 100 && nat_le status 3 &&
    nat_lt pressure 65536 && nat_le forecast 4 && nat_lt strength 16 && nat_le battery 9

abbrev pub rain_ok : ℕ → ℕ → ℕ → ℕ → ℕ → ℕ → Bool
rain_ok subtype id rate total strength battery =
    in_range 1 subtype 6 && nat_lt id 65536 && nat_lt rate 65536 && nat_le total 0xFFFFFF && nat_lt strength 16 && nat_le battery 9

abbrev pub meter_ok : ℕ → ℕ → ℕ → ℕ → Bool
meter_ok subtype id counter strength = subtype == 0 && nat_lt id 65536 && nat_le counter 0x0FFFFFFF && nat_lt strength 16
