-- Type 0x71, meters that count pulses (docs/PACKETS.md).
use Rattle.std.specs.Prelude.{ℕ, ◌*◌, ◌/◌, ◌%◌, List, [], ◌∷◌, ◌==◌, nat_le}
use Rattle.frame.specs.Faults.{Verdict, passed, unless}
use Rattle.frame.specs.Fields.{at8, at32}
use Rattle.frame.specs.Model.{Model}
use Rattle.frame.specs.declared.faults.Fault.TheVariants.{UnknownSubtype, OutOfRange}
use Rattle.sensors.specs.declared.records.Meter.{Meter}

abbrev pub bytes : Meter → List ℕ
bytes r =
    r.id / 256 ∷ r.id % 256 ∷
    r.counter / 16777216 ∷ r.counter / 65536 % 256 ∷ r.counter / 256 % 256 ∷ r.counter % 256 ∷
    r.strength * 16 ∷ []

abbrev pub verdict : ℕ → List ℕ → Verdict
verdict s xs =
    unless (s == 0) UnknownSubtype
    (unless (nat_le (at32 xs 2) 0x0FFFFFFF) (OutOfRange 6)
    (unless (at8 xs 6 % 16 == 0) (OutOfRange 10) passed))

abbrev pub meter : Model Meter
meter = record { number = 0x71; size = 7; sub_of = λ r. r.subtype; bytes = bytes; verdict = verdict }
