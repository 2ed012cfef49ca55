-- The cause and the offset of each fault, and a check's verdict (docs/FAULTS.md).
use Rattle.std.specs.Prelude.{ℕ, Bool, true, false, Ok, Err, Result}
use Rattle.frame.specs.declared.faults.Fault.{Fault}
use Rattle.frame.specs.declared.faults.Fault.TheVariants.{NoPayload, Cut, UnknownType, WrongLength, UnknownSubtype, OutOfRange}

abbrev pub cause_of : Fault → ℕ
cause_of NoPayload = 1
cause_of (Cut n) = 2
cause_of UnknownType = 3
cause_of WrongLength = 4
cause_of UnknownSubtype = 5
cause_of (OutOfRange i) = 6

abbrev pub offset_of : Fault → ℕ
offset_of NoPayload = 0
offset_of (Cut n) = n
offset_of UnknownType = 1
offset_of WrongLength = 0
offset_of UnknownSubtype = 2
offset_of (OutOfRange i) = i

abbrev pub Verdict : Type 0
Verdict = Result (Unit {0}) Fault

abbrev pub passed : Verdict
passed = Ok tt

module _ {X : Type 0} where
  -- the test has to hold, else the fault is the answer; then the rest decides
  abbrev pub unless : Bool → Fault → Result X Fault → Result X Fault
  unless true f rest = rest
  unless false f rest = Err f

  -- x, where the verdict is that it passes
  abbrev pub after : Verdict → X → Result X Fault
  after (Ok u) x = Ok x
  after (Err f) x = Err f
