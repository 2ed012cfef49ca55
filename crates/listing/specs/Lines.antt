-- The lines of a listing, as bytes (docs/LISTER.md).
use Rattle.std.specs.Prelude.{ℕ, List, [], ◌∷◌, ◌++◌, Ok, Err, codes, decimal, Result}
use Rattle.frame.specs.Faults.{cause_of, offset_of}
use Rattle.frame.specs.declared.faults.Fault.{Fault}
use Rattle.frame.specs.declared.packet.Packet.{Packet}
use Rattle.record.specs.declared.records.Record.{Record}
use Rattle.house.specs.House.{house_of}
use Rattle.tape.specs.declared.signals.Entry.{Entry}
use Rattle.listing.specs.Text.{hex}

abbrev pub newline : List ℕ
newline = 10 ∷ []

abbrev pub record_part : Packet Record → List ℕ
record_part p = codes " R " ++ hex (house_of p)

abbrev pub fault_part : Fault → List ℕ
fault_part f = codes " F " ++ (decimal (cause_of f) ++ (codes " " ++ decimal (offset_of f)))

abbrev pub verdict_part : Result (Packet Record) Fault → List ℕ
verdict_part (Ok p) = record_part p
verdict_part (Err f) = fault_part f

-- the line of an entry: its place, and its record or fault
abbrev pub line_of : Entry → List ℕ
line_of e = decimal e.place ++ (verdict_part e.verdict ++ newline)

abbrev pub lines : List Entry → List ℕ
lines [] = []
lines (e ∷ es) = line_of e ++ lines es

-- the last line: how many signals, and how many bytes of the frame begun
abbrev pub closing_of : ℕ → ℕ → List ℕ
closing_of signals begun = codes "E " ++ (decimal signals ++ (codes " " ++ (decimal begun ++ newline)))
