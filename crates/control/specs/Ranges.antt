-- The ranges of the fields (docs/PACKETS.md).
use Rattle.std.specs.Prelude.{ℕ, ◌/◌, ◌%◌, Bool, ◌&&◌, ◌||◌, List, length, ◌==◌, nat_le, nat_lt}
use Rattle.frame.specs.Fields.{in_range}

abbrev pub transmitter_ok : ℕ → ℕ → Bool
transmitter_ok subtype message = nat_le subtype 1 && nat_lt message 256

abbrev pub interface_ok : ℕ → ℕ → List ℕ → Bool
interface_ok subtype command messages = (subtype == 0 || subtype == 0xFF) && nat_lt command 256 && length messages == 9

-- the frequencies that a mode can have
abbrev pub tunable : ℕ → Bool
tunable frequency = in_range 0x50 frequency 0x53 || in_range 0x55 frequency 0x5B

-- bit 6 of a byte is 0
abbrev pub no_bit6 : ℕ → Bool
no_bit6 x = x / 64 % 2 == 0

abbrev pub mode_ok : ℕ → ℕ → ℕ → ℕ → Bool
mode_ok frequency msg3 msg4 msg5 = tunable frequency && nat_lt msg3 256 && no_bit6 msg3 && nat_lt msg4 256 && nat_lt msg5 256
