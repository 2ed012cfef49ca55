-- Type 0x00, the mode that the interface is set to (docs/PACKETS.md).
use Rattle.std.specs.Prelude.{ℕ, List, [], ◌∷◌, ◌==◌}
use Rattle.frame.specs.Faults.{Verdict, passed, unless}
use Rattle.frame.specs.Fields.{at8}
use Rattle.frame.specs.Model.{Model}
use Rattle.frame.specs.declared.faults.Fault.TheVariants.{UnknownSubtype, OutOfRange}
use Rattle.control.specs.Ranges.{tunable, no_bit6}
use Rattle.control.specs.declared.records.SetMode.{SetMode}

abbrev pub bytes : SetMode → List ℕ
bytes r = 3 ∷ r.frequency ∷ 0 ∷ r.msg3 ∷ r.msg4 ∷ r.msg5 ∷ 0 ∷ 0 ∷ 0 ∷ 0 ∷ []

abbrev pub verdict : ℕ → List ℕ → Verdict
verdict s xs =
    unless (s == 0) UnknownSubtype
    (unless (at8 xs 0 == 3) (OutOfRange 4)
    (unless (tunable (at8 xs 1)) (OutOfRange 5)
    (unless (at8 xs 2 == 0) (OutOfRange 6)
    (unless (no_bit6 (at8 xs 3)) (OutOfRange 7)
    (unless (at8 xs 6 == 0) (OutOfRange 10)
    (unless (at8 xs 7 == 0) (OutOfRange 11)
    (unless (at8 xs 8 == 0) (OutOfRange 12)
    (unless (at8 xs 9 == 0) (OutOfRange 13) passed))))))))

abbrev pub mode : Model SetMode
mode = record { number = 0x00; size = 10; sub_of = λ r. 0; bytes = bytes; verdict = verdict }
