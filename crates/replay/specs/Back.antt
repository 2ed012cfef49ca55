-- Which bytes are a house record, and what is read of them (docs/HOUSE.md).
use Rattle.std.specs.Prelude.{◌≡◌, ℕ, ◌+◌, ◌-◌, Bool, false, cond, ◌&&◌, List, ◌∷◌, ◌++◌, length, drop, ℤ, pos, negsuc, Some, None, Option, Ok, Err, Result, ◌==◌, nat_le, nat_lt}
use Rattle.frame.specs.Fields.{at8, at16, at24, at32}
use Rattle.frame.specs.declared.packet.Packet.{Packet}
use Rattle.refusal.specs.Output.{Put}
use Rattle.refusal.specs.declared.refusals.Refusal.{Refusal}
use Rattle.refusal.specs.declared.refusals.Refusal.TheVariants.{NoHouseRecord}
use Rattle.control.specs.Ranges.{interface_ok, transmitter_ok}
use Rattle.actors.specs.Ranges.{blinds_ok, security_ok}
use Rattle.sensors.specs.Ranges.{climate_ok, rain_ok, meter_ok}
use Rattle.record.specs.Frames.{frame_of}
use Rattle.record.specs.declared.records.Record.{Record}
use Rattle.house.specs.House.{two, house_of}

-- the number whose two's complement of 16 bits is n; negsuc m is -(m + 1)
abbrev pub uncomplement : ℕ → ℤ
uncomplement n = cond (nat_lt n 0x8000) (pos n) (negsuc (0xFFFF - n))

-- how a frame has it: the sign is the top bit, the size the other 15; 0x8000 is no temperature either way
abbrev pub sign_and_size : ℕ → ℕ
sign_and_size n = cond (nat_le n 0x8000) n (0x8000 + (0x10000 - n))

-- the fields behind type, subtype and sequence number are those that a record of this subtype has; the battery stands before
-- the signal strength here, and after it in the ranges
abbrev pub interface_lawful : ℕ → List ℕ → Bool
interface_lawful s ys = length ys == 10 && interface_ok s (at8 ys 0) (drop 1 ys)

abbrev pub transmitter_lawful : ℕ → List ℕ → Bool
transmitter_lawful s ys = length ys == 1 && transmitter_ok s (at8 ys 0)

abbrev pub blinds_lawful : ℕ → List ℕ → Bool
blinds_lawful s ys = length ys == 8 && blinds_ok s (at32 ys 0) (at8 ys 4) (at8 ys 5) (at8 ys 7) (at8 ys 6)

abbrev pub security_lawful : ℕ → List ℕ → Bool
security_lawful s ys = length ys == 7 && security_ok s (at32 ys 0) (at8 ys 4) (at8 ys 6) (at8 ys 5)

abbrev pub climate_lawful : ℕ → List ℕ → Bool
climate_lawful s ys =
    (length ys == 13) &&
    climate_ok s (at32 ys 0) (uncomplement (at16 ys 4)) (at8 ys 6) (at8 ys 7) (at16 ys 8) (at8 ys 10) (at8 ys 12) (at8 ys 11)

abbrev pub rain_lawful : ℕ → List ℕ → Bool
rain_lawful s ys = length ys == 11 && rain_ok s (at32 ys 0) (at16 ys 4) (at24 ys 6) (at8 ys 10) (at8 ys 9)

abbrev pub meter_lawful : ℕ → List ℕ → Bool
meter_lawful s ys = length ys == 9 && meter_ok s (at32 ys 0) (at32 ys 4) (at8 ys 8)

-- the map of a type, where a kind has this type
abbrev pub map_by : ℕ → Option ℕ
map_by number =
    cond (number == 0x01) (Some 0x2001)
    (cond (number == 0x02) (Some 0x0009)
    (cond (number == 0x19) (Some 0x180F)
    (cond (number == 0x20) (Some 0x180B)
    (cond (number == 0x54) (Some 0x1873)
    (cond (number == 0x55) (Some 0x1883)
    (cond (number == 0x71) (Some 0x1403) None))))))

-- the type has a map, and it is this one
abbrev pub is_map : Option ℕ → ℕ → Bool
is_map (Some m) map = map == m
is_map None map = false

-- these fields with a map, type, subtype and sequence number
abbrev pub headed : ℕ → ℕ → ℕ → ℕ → List ℕ → List ℕ
headed map number s seq ys = two map ++ (number ∷ s ∷ seq ∷ ys)

-- by the type, which fields are lawful
abbrev pub lawful_by : ℕ → ℕ → List ℕ → Bool
lawful_by number s ys =
    cond (number == 0x01) (interface_lawful s ys)
    (cond (number == 0x02) (transmitter_lawful s ys)
    (cond (number == 0x19) (blinds_lawful s ys)
    (cond (number == 0x20) (security_lawful s ys)
    (cond (number == 0x54) (climate_lawful s ys)
    (cond (number == 0x55) (rain_lawful s ys)
    (cond (number == 0x71) (meter_lawful s ys) false))))))

-- map, type, subtype and sequence number are there, the map is that of the type, and the fields behind them are lawful
abbrev pub lawful : List ℕ → Bool
lawful xs = nat_le 5 (length xs) && is_map (map_by (at8 xs 2)) (at16 xs 0) && lawful_by (at8 xs 2) (at8 xs 3) (drop 5 xs)

-- the house record of these very bytes, where they are lawful
abbrev pub given : Bool → List ℕ → Result (List ℕ) Refusal
given ok xs = cond ok (Ok xs) (Err NoHouseRecord)

abbrev pub house_verdict : List ℕ → Result (List ℕ) Refusal
house_verdict xs = given (lawful xs) xs

-- a reading of a kind's own fields, with the record as its subtype and these fields
module _ {R : Type 0} where
  abbrev pub as_fields : (R → ℕ) → (R → List ℕ) → Result R Refusal → Result (List ℕ) Refusal
  as_fields sub_of own (Ok r) = Ok (sub_of r ∷ own r)
  as_fields sub_of own (Err e) = Err e

-- a reading, with the packet as its house record
abbrev pub housed : Result (Packet Record) Refusal → Result (List ℕ) Refusal
housed (Ok p) = Ok (house_of p)
housed (Err e) = Err e

-- the frame of the packet whose house record this is was to be put at the front of a buffer: where it is no packet's, that
-- is told, whatever the buffer is, and the buffer holds what it held (by the laws, a lawful one is just one packet's)
pub record Reframed (house before : List ℕ) (told : Result ℕ Refusal) (after : List ℕ) : Type 0 where
  pub refused : lawful house ≡ false → (told ≡ Err NoHouseRecord) × (after ≡ before)
  pub framed : (p : Packet Record) → house ≡ house_of p → Put (frame_of p) before told after
