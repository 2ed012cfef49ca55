-- Type 0x54, temperature, humidity and pressure (docs/PACKETS.md).
use Rattle.std.specs.Prelude.{ℕ, ◌+◌, ◌*◌, ◌/◌, ◌%◌, not, List, [], ◌∷◌, ◌==◌, nat_le, unsigned_abs}
use Rattle.frame.specs.Faults.{Verdict, passed, unless}
use Rattle.frame.specs.Fields.{at8, at16, in_range, high_byte_of}
use Rattle.frame.specs.Model.{Model}
use Rattle.frame.specs.declared.faults.Fault.TheVariants.{UnknownSubtype, OutOfRange}
use Rattle.sensors.specs.declared.records.Climate.{Climate}

abbrev pub bytes : Climate → List ℕ
bytes r =
    r.id / 256 ∷ r.id % 256 ∷
    high_byte_of r.temperature ∷ unsigned_abs r.temperature % 256 ∷
    r.humidity ∷ r.humidity_status ∷
    r.pressure / 256 ∷ r.pressure % 256 ∷
    r.forecast ∷
    (r.strength * 16 + r.battery) ∷ []

-- the temperature 80 00 would be a second zero
abbrev pub verdict : ℕ → List ℕ → Verdict
verdict s xs =
    unless (in_range 1 s 2) UnknownSubtype
    (unless (not (at16 xs 2 == 0x8000)) (OutOfRange 6)
    (unless (nat_le (at8 xs 4) 100) (OutOfRange 8)
    (unless (nat_le (at8 xs 5) 3) (OutOfRange 9)
    (unless (nat_le (at8 xs 8) 4) (OutOfRange 12)
    (unless (nat_le (at8 xs 9 % 16) 9) (OutOfRange 13) passed)))))

abbrev pub climate : Model Climate
climate = record { number = 0x54; size = 10; sub_of = λ r. r.subtype; bytes = bytes; verdict = verdict }
