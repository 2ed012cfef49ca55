-- Worked examples, each over the definitions that the contracts cite (docs/PACKETS.md, docs/FAULTS.md, docs/LISTER.md).
use Rattle.std.specs.Prelude.{◌≡◌, ℕ, List, [], ◌∷◌, ◌++◌, pos, Ok, Err, codes, refl}
use Rattle.frame.specs.Faults.{cause_of, offset_of}
use Rattle.frame.specs.Frames.{packet, written, judged}
use Rattle.frame.specs.declared.faults.Fault.TheVariants.{NoPayload, Cut, UnknownType}
use Rattle.frame.specs.declared.packet.Packet.{Packet}
use Rattle.control.specs.Mode.{mode}
use Rattle.record.specs.Frames.{frame_of, verdict_of}
use Rattle.record.specs.declared.records.Record.{Record}
use Rattle.record.specs.declared.records.Record.TheVariants.{Blinds, Security, Climate, Rain, Meter}
use Rattle.house.specs.House.{house_of}
use Rattle.tape.specs.declared.signals.Signal.TheVariants.{Byte, Pause}
use Rattle.tape.specs.Reading.{Reads}
use Rattle.listing.specs.Lines.{newline}
use Rattle.listing.specs.Laws.{Lists}

-- the bytes are the frame of the packet, and are accepted as it
pub record Is (p : Packet Record) (f : List ℕ) : Type 0 where
  pub writes : frame_of p ≡ f
  pub accepts : verdict_of f ≡ Ok f

-- blinds: stop, signal strength 8
abbrev pub stop : Packet Record
stop = packet 0x06 (Blinds record { subtype = 4; id = 0x00A21B; unit = 1; command = 2; strength = 8; battery = 0; ok = refl })

-- a contact: normal, battery 9
abbrev pub normal : Packet Record
normal = packet 0x4D (Security record { subtype = 0; id = 0xD3DC54; status = 0; strength = 8; battery = 9; ok = refl })

-- 20.1 degrees, 39 percent, 999 hPa
abbrev pub climate : Packet Record
climate = packet 0x0E (Climate record { subtype = 2; id = 0xE900; temperature = pos 201; humidity = 39; humidity_status = 2; pressure = 999; forecast = 4; strength = 3; battery = 9; ok = refl })

-- a rain total of 19,772 tenths
abbrev pub rain : Packet Record
rain = packet 0x17 (Rain record { subtype = 2; id = 0xB600; rate = 0; total = 19772; strength = 6; battery = 9; ok = refl })

-- a meter at 9,069,671 pulses
abbrev pub meter : Packet Record
meter = packet 0x37 (Meter record { subtype = 0; id = 0x08F8; counter = 9069671; strength = 7; ok = refl })

abbrev pub set_mode : List ℕ
set_mode = 0x0D ∷ 0x00 ∷ 0x00 ∷ 0x00 ∷ 0x03 ∷ 0x53 ∷ 0x00 ∷ 0x80 ∷ 0x08 ∷ 0x27 ∷ 0x00 ∷ 0x00 ∷ 0x00 ∷ 0x00 ∷ []

-- a transmitter's message, a pause, and a frame with no payload
abbrev pub example : List ℕ
example = 0x00 ∷ 0x04 ∷ 0x00 ∷ 0x02 ∷ 0x00 ∷ 0x01 ∷ 0x00 ∷ 0x01 ∷ 0x00 ∷ 0x00 ∷ 0x01 ∷ 0x00 ∷ 0x00 ∷ 0x02 ∷ 0x00 ∷ 0xAA ∷ 0x00 ∷ 0xBB ∷ []

pub record Known : Type 0 where
  pub blinds_is : Is stop (0x09 ∷ 0x19 ∷ 0x04 ∷ 0x06 ∷ 0x00 ∷ 0xA2 ∷ 0x1B ∷ 0x01 ∷ 0x02 ∷ 0x80 ∷ [])
  pub security_is : Is normal (0x08 ∷ 0x20 ∷ 0x00 ∷ 0x4D ∷ 0xD3 ∷ 0xDC ∷ 0x54 ∷ 0x00 ∷ 0x89 ∷ [])
  pub climate_is : Is climate (0x0D ∷ 0x54 ∷ 0x02 ∷ 0x0E ∷ 0xE9 ∷ 0x00 ∷ 0x00 ∷ 0xC9 ∷ 0x27 ∷ 0x02 ∷ 0x03 ∷ 0xE7 ∷ 0x04 ∷ 0x39 ∷ [])
  pub climate_house : house_of climate ≡ 0x18 ∷ 0x73 ∷ 0x54 ∷ 0x02 ∷ 0x0E ∷ 0x00 ∷ 0x00 ∷ 0xE9 ∷ 0x00 ∷ 0x00 ∷ 0xC9 ∷ 0x27 ∷ 0x02 ∷ 0x03 ∷ 0xE7 ∷ 0x04 ∷ 0x09 ∷ 0x03 ∷ []
  pub rain_is : Is rain (0x0B ∷ 0x55 ∷ 0x02 ∷ 0x17 ∷ 0xB6 ∷ 0x00 ∷ 0x00 ∷ 0x00 ∷ 0x00 ∷ 0x4D ∷ 0x3C ∷ 0x69 ∷ [])
  pub meter_is : Is meter (0x0A ∷ 0x71 ∷ 0x00 ∷ 0x37 ∷ 0x08 ∷ 0xF8 ∷ 0x00 ∷ 0x8A ∷ 0x64 ∷ 0x67 ∷ 0x70 ∷ [])
  -- Set Mode is written and passes its own kind's check; received, its type is unknown
  pub mode_writes : written mode (packet 0 record { frequency = 0x53; msg3 = 0x80; msg4 = 0x08; msg5 = 0x27; ok = refl }) ≡ set_mode
  pub mode_passes : judged mode set_mode ≡ Ok set_mode
  pub mode_unread : verdict_of set_mode ≡ Err UnknownType
  -- 03 AA BB CC has no payload
  pub no_payload : verdict_of (0x03 ∷ 0xAA ∷ 0xBB ∷ 0xCC ∷ []) ≡ Err NoPayload
  pub no_payload_cause : (cause_of NoPayload ≡ 1) × (offset_of NoPayload ≡ 0)
  -- 09 19 and a pause is cut, with two bytes held
  pub cut : Reads 0 (Byte 0x09 ∷ Byte 0x19 ∷ Pause ∷ []) (record { place = 0; verdict = Err (Cut 2) } ∷ []) 2 []
  pub cut_cause : (cause_of (Cut 2) ≡ 2) × (offset_of (Cut 2) ≡ 2)
  -- the listing of the example
  pub listing : Lists example (codes "0 R 000902010100" ++ (newline ++ (codes "5 F 1 0" ++ (newline ++ (codes "E 9 0" ++ newline)))))
