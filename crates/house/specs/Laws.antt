-- What holds of every house record (docs/HOUSE.md).
use Rattle.std.specs.Prelude.{◌≡◌, ℕ, ◌+◌, ◌≤◌, Bool, true, ◌&&◌, List, [], ◌∷◌, length, nat_le, nat_lt}
use Rattle.frame.specs.declared.packet.Packet.{Packet}
use Rattle.record.specs.declared.records.Record.{Record}
use Rattle.house.specs.House.{Field, fields, house_of}

-- each bit is above the one before it, the first at least n, and all are below 16
abbrev pub ascending : ℕ → List Field → Bool
ascending n [] = true
ascending n (f ∷ fs) = nat_le n f.bit && nat_lt f.bit 16 && ascending (f.bit + 1) fs

abbrev pub FieldsStandInOrder : Type 0
FieldsStandInOrder = (p : Packet Record) → ascending 0 (fields p) ≡ true

abbrev pub NoHouseRecordIsLongerThan : ℕ → Type 0
NoHouseRecordIsLongerThan n = (p : Packet Record) → length (house_of p) ≤ n
