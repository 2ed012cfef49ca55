-- The ranges of the fields (docs/PACKETS.md).
use Rattle.std.specs.Prelude.{ℕ, Bool, cond, ◌&&◌, ◌||◌, ◌==◌, nat_le, nat_lt}
use Rattle.frame.specs.Fields.{in_range}

-- blinds: the limits by subtype
abbrev pub id_max : ℕ → ℕ
id_max subtype = cond (nat_le subtype 1) 0xFFFF 0xFFFFFF

abbrev pub unit_min : ℕ → ℕ
unit_min subtype = cond (nat_le subtype 1) 0x01 0x00

abbrev pub unit_max : ℕ → ℕ
unit_max subtype = cond (nat_le subtype 1) 0x10 (cond (nat_le subtype 5) 0x01 0x0F)

abbrev pub command_max : ℕ → ℕ
command_max subtype = cond (nat_le subtype 1) 4 (cond (subtype == 4) 7 (cond (subtype == 5) 2 3))

abbrev pub blinds_ok : ℕ → ℕ → ℕ → ℕ → ℕ → ℕ → Bool
blinds_ok subtype id unit command strength battery =
    nat_le subtype 7 && in_range 1 id (id_max subtype) && in_range (unit_min subtype) unit (unit_max subtype) &&
    nat_le command (command_max subtype) && nat_lt strength 16 && nat_le battery 9

-- what a security contact can tell
abbrev pub known : ℕ → Bool
known status = nat_le status 0x0D || in_range 0x10 status 0x17 || in_range 0x80 status 0x85

abbrev pub security_ok : ℕ → ℕ → ℕ → ℕ → ℕ → Bool
security_ok subtype id status strength battery = nat_le subtype 9 && nat_lt id 16777216 && known status && nat_lt strength 16 && nat_le battery 9
