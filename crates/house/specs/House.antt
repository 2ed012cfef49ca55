-- The house record of a packet: a map of the fields that it has, and these fields (docs/HOUSE.md).
use Rattle.std.specs.Prelude.{ℕ, suc, ◌+◌, ◌-◌, ◌/◌, ◌%◌, ◌^◌, List, [], ◌∷◌, ◌++◌, ℤ, pos, negsuc}
use Rattle.frame.specs.declared.packet.Packet.{Packet}
use Rattle.control.specs.declared.records.InterfaceMessage.{InterfaceMessage}
use Rattle.control.specs.declared.records.TransmitterMessage.{TransmitterMessage}
use Rattle.actors.specs.declared.records.Blinds.{Blinds as BlindsRecord}
use Rattle.actors.specs.declared.records.Security.{Security as SecurityRecord}
use Rattle.sensors.specs.declared.records.Climate.{Climate as ClimateRecord}
use Rattle.sensors.specs.declared.records.Rain.{Rain as RainRecord}
use Rattle.sensors.specs.declared.records.Meter.{Meter as MeterRecord}
use Rattle.record.specs.declared.records.Record.{Record}
use Rattle.record.specs.declared.records.Record.TheVariants.{Interface, Transmitter, Blinds, Security, Climate, Rain, Meter}

-- a field: the number of its bit in the map, and its bytes
pub record Field : Type 0 where
  pub bit : ℕ
  pub bytes : List ℕ

abbrev field : ℕ → List ℕ → Field
field n xs = record { bit = n; bytes = xs }

-- a number in two, three or four bytes, the high byte first
abbrev pub two : ℕ → List ℕ
two n = n / 256 % 256 ∷ n % 256 ∷ []

abbrev pub three : ℕ → List ℕ
three n = n / 65536 % 256 ∷ n / 256 % 256 ∷ n % 256 ∷ []

abbrev pub four : ℕ → List ℕ
four n = n / 16777216 % 256 ∷ n / 65536 % 256 ∷ n / 256 % 256 ∷ n % 256 ∷ []

-- the two's complement of 16 bits; negsuc n is -(n + 1)
abbrev pub complement : ℤ → ℕ
complement (pos n) = n
complement (negsuc n) = 65536 - suc n

-- type, subtype and sequence number
abbrev heading : ℕ → ℕ → ℕ → Field
heading number subtype seq = field 0 (number ∷ subtype ∷ seq ∷ [])

abbrev ident : ℕ → Field
ident id = field 1 (four id)

abbrev unit : ℕ → Field
unit n = field 2 (n ∷ [])

-- a command, a status or a message
abbrev told : ℕ → Field
told n = field 3 (n ∷ [])

abbrev temperature : ℤ → Field
temperature tenths = field 4 (two (complement tenths))

abbrev humidity : ℕ → ℕ → Field
humidity percent status = field 5 (percent ∷ status ∷ [])

abbrev pressure : ℕ → ℕ → Field
pressure hpa forecast = field 6 (two hpa ++ (forecast ∷ []))

abbrev rainfall : ℕ → ℕ → Field
rainfall rate total = field 7 (two rate ++ three total)

abbrev counter : ℕ → Field
counter pulses = field 10 (four pulses)

abbrev battery : ℕ → Field
battery level = field 11 (level ∷ [])

abbrev strength : ℕ → Field
strength level = field 12 (level ∷ [])

-- the ten data bytes of type 0x01
abbrev ten : ℕ → List ℕ → Field
ten command messages = field 13 (command ∷ messages)

-- the fields of each kind, from bit 0 up, with the sequence number first
abbrev pub interface_fields : ℕ → InterfaceMessage → List Field
interface_fields seq r = heading 0x01 r.subtype seq ∷ ten r.command r.messages ∷ []

abbrev pub transmitter_fields : ℕ → TransmitterMessage → List Field
transmitter_fields seq r = heading 0x02 r.subtype seq ∷ told r.message ∷ []

abbrev pub blinds_fields : ℕ → BlindsRecord → List Field
blinds_fields seq r =
    heading 0x19 r.subtype seq ∷ ident r.id ∷ unit r.unit ∷ told r.command ∷
    battery r.battery ∷ strength r.strength ∷ []

abbrev pub security_fields : ℕ → SecurityRecord → List Field
security_fields seq r =
    heading 0x20 r.subtype seq ∷ ident r.id ∷ told r.status ∷
    battery r.battery ∷ strength r.strength ∷ []

abbrev pub climate_fields : ℕ → ClimateRecord → List Field
climate_fields seq r =
    heading 0x54 r.subtype seq ∷ ident r.id ∷
    temperature r.temperature ∷ humidity r.humidity r.humidity_status ∷ pressure r.pressure r.forecast ∷
    battery r.battery ∷ strength r.strength ∷ []

abbrev pub rain_fields : ℕ → RainRecord → List Field
rain_fields seq r =
    heading 0x55 r.subtype seq ∷ ident r.id ∷ rainfall r.rate r.total ∷
    battery r.battery ∷ strength r.strength ∷ []

abbrev pub meter_fields : ℕ → MeterRecord → List Field
meter_fields seq r = heading 0x71 r.subtype seq ∷ ident r.id ∷ counter r.counter ∷ strength r.strength ∷ []

abbrev fields_by : ℕ → Record → List Field
fields_by seq (Interface r) = interface_fields seq r
fields_by seq (Transmitter r) = transmitter_fields seq r
fields_by seq (Blinds r) = blinds_fields seq r
fields_by seq (Security r) = security_fields seq r
fields_by seq (Climate r) = climate_fields seq r
fields_by seq (Rain r) = rain_fields seq r
fields_by seq (Meter r) = meter_fields seq r

abbrev pub fields : Packet Record → List Field
fields p = fields_by p.seq p.«record»

-- the map: a bit for each field
abbrev pub map_of : List Field → ℕ
map_of [] = 0
map_of (f ∷ fs) = 2 ^ f.bit + map_of fs

abbrev pub contents : List Field → List ℕ
contents [] = []
contents (f ∷ fs) = f.bytes ++ contents fs

-- the bytes of the fields behind the first
abbrev pub behind : List Field → List ℕ
behind [] = []
behind (f ∷ fs) = contents fs

-- the map in two bytes, and the fields without gaps
abbrev pub laid : List Field → List ℕ
laid fs = two (map_of fs) ++ contents fs

-- the house record of a packet
abbrev pub house_of : Packet Record → List ℕ
house_of p = laid (fields p)
