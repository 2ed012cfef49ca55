-- The number of each refusal (docs/REFUSALS.md).
use Rattle.std.specs.Prelude.{ℕ}
use Rattle.refusal.specs.declared.refusals.Refusal.{Refusal}
use Rattle.refusal.specs.declared.refusals.Refusal.TheVariants.{NoSuchCommand, OutputTooShort, NoHouseRecord}

abbrev pub number_of : Refusal → ℕ
number_of NoSuchCommand = 11
number_of OutputTooShort = 16
number_of NoHouseRecord = 17
