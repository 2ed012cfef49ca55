-- Type 0x02, the transmitter's messages (docs/PACKETS.md).
use Rattle.std.specs.Prelude.{ℕ, List, [], ◌∷◌, nat_le}
use Rattle.frame.specs.Faults.{Verdict, passed, unless}
use Rattle.frame.specs.Model.{Model}
use Rattle.frame.specs.declared.faults.Fault.TheVariants.{UnknownSubtype}
use Rattle.control.specs.declared.records.TransmitterMessage.{TransmitterMessage}

abbrev pub bytes : TransmitterMessage → List ℕ
bytes r = r.message ∷ []

abbrev pub verdict : ℕ → List ℕ → Verdict
verdict s xs = unless (nat_le s 1) UnknownSubtype passed

abbrev pub transmitter : Model TransmitterMessage
transmitter = record { number = 0x02; size = 1; sub_of = λ r. r.subtype; bytes = bytes; verdict = verdict }
