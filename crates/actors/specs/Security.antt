-- Type 0x20, security contacts and the like (docs/PACKETS.md).
use Rattle.std.specs.Prelude.{ℕ, ◌+◌, ◌*◌, ◌/◌, ◌%◌, List, [], ◌∷◌, nat_le}
use Rattle.frame.specs.Faults.{Verdict, passed, unless}
use Rattle.frame.specs.Fields.{at8}
use Rattle.frame.specs.Model.{Model}
use Rattle.frame.specs.declared.faults.Fault.TheVariants.{UnknownSubtype, OutOfRange}
use Rattle.actors.specs.Ranges.{known}
use Rattle.actors.specs.declared.records.Security.{Security}

abbrev pub bytes : Security → List ℕ
bytes r =
    r.id / 65536 ∷ r.id / 256 % 256 ∷ r.id % 256 ∷
    r.status ∷ (r.strength * 16 + r.battery) ∷ []

abbrev pub verdict : ℕ → List ℕ → Verdict
verdict s xs =
    unless (nat_le s 9) UnknownSubtype
    (unless (known (at8 xs 3)) (OutOfRange 7)
    (unless (nat_le (at8 xs 4 % 16) 9) (OutOfRange 8) passed))

abbrev pub security : Model Security
security = record { number = 0x20; size = 5; sub_of = λ r. r.subtype; bytes = bytes; verdict = verdict }
