-- Type 0x19, blinds (docs/PACKETS.md).
use Rattle.std.specs.Prelude.{ℕ, ◌+◌, ◌*◌, ◌/◌, ◌%◌, List, [], ◌∷◌, nat_le}
use Rattle.frame.specs.Faults.{Verdict, passed, unless}
use Rattle.frame.specs.Fields.{at8, at24, in_range}
use Rattle.frame.specs.Model.{Model}
use Rattle.frame.specs.declared.faults.Fault.TheVariants.{UnknownSubtype, OutOfRange}
use Rattle.actors.specs.Ranges.{id_max, unit_min, unit_max, command_max}
use Rattle.actors.specs.declared.records.Blinds.{Blinds}

abbrev pub bytes : Blinds → List ℕ
bytes r =
    r.id / 65536 ∷ r.id / 256 % 256 ∷ r.id % 256 ∷
    r.unit ∷ r.command ∷ (r.strength * 16 + r.battery) ∷ []

abbrev pub verdict : ℕ → List ℕ → Verdict
verdict s xs =
    unless (nat_le s 7) UnknownSubtype
    (unless (in_range 1 (at24 xs 0) (id_max s)) (OutOfRange 4)
    (unless (in_range (unit_min s) (at8 xs 3) (unit_max s)) (OutOfRange 7)
    (unless (nat_le (at8 xs 4) (command_max s)) (OutOfRange 8)
    (unless (nat_le (at8 xs 5 % 16) 9) (OutOfRange 9) passed))))

abbrev pub blinds : Model Blinds
blinds = record { number = 0x19; size = 6; sub_of = λ r. r.subtype; bytes = bytes; verdict = verdict }
