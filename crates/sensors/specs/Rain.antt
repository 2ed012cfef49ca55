-- Type 0x55, rain gauges (docs/PACKETS.md).
use Rattle.std.specs.Prelude.{ℕ, ◌+◌, ◌*◌, ◌/◌, ◌%◌, List, [], ◌∷◌, nat_le}
use Rattle.frame.specs.Faults.{Verdict, passed, unless}
use Rattle.frame.specs.Fields.{at8, in_range}
use Rattle.frame.specs.Model.{Model}
use Rattle.frame.specs.declared.faults.Fault.TheVariants.{UnknownSubtype, OutOfRange}
use Rattle.sensors.specs.declared.records.Rain.{Rain}

abbrev pub bytes : Rain → List ℕ
bytes r =
    r.id / 256 ∷ r.id % 256 ∷
    r.rate / 256 ∷ r.rate % 256 ∷
    r.total / 65536 ∷ r.total / 256 % 256 ∷ r.total % 256 ∷
    (r.strength * 16 + r.battery) ∷ []

abbrev pub verdict : ℕ → List ℕ → Verdict
verdict s xs =
    unless (in_range 1 s 6) UnknownSubtype
    (unless (nat_le (at8 xs 7 % 16) 9) (OutOfRange 11) passed)

abbrev pub rain : Model Rain
rain = record { number = 0x55; size = 8; sub_of = λ r. r.subtype; bytes = bytes; verdict = verdict }
