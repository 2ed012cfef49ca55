-- What holds of every house record that is read back (docs/HOUSE.md).
use Rattle.std.specs.Prelude.{◌≡◌, ℕ, true, List, Ok, Result}
use Rattle.frame.specs.Fields.{Bytes}
use Rattle.frame.specs.declared.packet.Packet.{Packet}
use Rattle.refusal.specs.Output.{Put}
use Rattle.refusal.specs.declared.refusals.Refusal.{Refusal}
use Rattle.record.specs.Frames.{verdict_of, told}
use Rattle.record.specs.declared.records.Record.{Record}
use Rattle.house.specs.House.{house_of}
use Rattle.replay.specs.Back.{lawful, Reframed}

-- packets and lawful house records are one to one
abbrev pub EachPacketsHouseRecordIsLawful : Type 0
EachPacketsHouseRecordIsLawful = (p : Packet Record) → lawful (house_of p) ≡ true

abbrev pub NoTwoPacketsHaveOneHouseRecord : Type 0
NoTwoPacketsHaveOneHouseRecord = (p q : Packet Record) → house_of p ≡ house_of q → p ≡ q

abbrev pub EachLawfulHouseRecordIsAPackets : Type 0
EachLawfulHouseRecordIsAPackets = (xs : List ℕ) → Bytes xs → lawful xs ≡ true → (p : Packet Record) × (house_of p ≡ xs)

-- a frame f that is read as a packet, the packet's house record, and the frame that is put for it: that is f again
abbrev pub AFrameComesBack : Type 0
AFrameComesBack = (xs f : List ℕ) (p : Packet Record) → verdict_of xs ≡ Ok f → verdict_of xs ≡ told (Ok p) → (before after : List ℕ) (size : Result ℕ Refusal) → Reframed (house_of p) before size after → Put f before size after
