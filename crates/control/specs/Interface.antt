-- Type 0x01, the interface's messages (docs/PACKETS.md).
use Rattle.std.specs.Prelude.{ℕ, ◌||◌, List, ◌∷◌, ◌==◌}
use Rattle.frame.specs.Faults.{Verdict, passed, unless}
use Rattle.frame.specs.Model.{Model}
use Rattle.frame.specs.declared.faults.Fault.TheVariants.{UnknownSubtype}
use Rattle.control.specs.declared.records.InterfaceMessage.{InterfaceMessage}

abbrev pub bytes : InterfaceMessage → List ℕ
bytes r = r.command ∷ r.messages

abbrev pub verdict : ℕ → List ℕ → Verdict
verdict s xs = unless (s == 0 || s == 0xFF) UnknownSubtype passed

abbrev pub interface : Model InterfaceMessage
interface = record { number = 0x01; size = 10; sub_of = λ r. r.subtype; bytes = bytes; verdict = verdict }
